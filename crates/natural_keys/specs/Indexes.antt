-- Indexes of a tag and key cells: which are equal, and which stands first.
use Rattle.std.specs.Prelude.{pos, Bool, false, ◌&&◌, [], List}
use Rattle.std.specs.Ordering.{int_cmp, int_eq, ordering_then}
use Rattle.std.specs.Cmp.Lexicographic.{pointwise, slice_cmp}
use Rattle.std.specs.declared.cmp.Ordering.{Ordering}
use Rattle.nq_model.specs.Cells.{cell_cmp, cell_eq}
use Rattle.nq_model.specs.NamedRows.{cell_under}
use Rattle.nq_model.specs.declared.table.Cell.{Cell}
use Rattle.nq_model.specs.declared.table.Cell.TheVariants as cell
use Rattle.nq_model.specs.declared.table.ColumnType.{ColumnType}
use Rattle.nq_model.specs.declared.table.ColumnType.TheVariants as column
use Rattle.nq_ir.specs.Meanings.{Env, row_of}
use Rattle.natural_keys.specs.declared.index.KeyIndex.{KeyIndex}
use Rattle.natural_keys.specs.declared.layout.KeyColumn.{KeyColumn}
use Rattle.natural_keys.specs.declared.layout.Layout.{Layout}
use Rattle.natural_keys.specs.Layouts.{in_layout}

-- whether the tags and all cells are equal
abbrev pub index_eq : KeyIndex → KeyIndex → Bool
index_eq i j = int_eq i.tag j.tag && pointwise cell_eq i.cells j.cells

-- indexes by tag, and then by their cells
abbrev pub index_cmp : KeyIndex → KeyIndex → Ordering
index_cmp i j = ordering_then (int_cmp i.tag j.tag) (slice_cmp cell_cmp i.cells j.cells)

-- 0, FALSE or the empty text
abbrev pub zero_cell : ColumnType → Cell
zero_cell column.Int = cell.Int (pos 0)
zero_cell column.Bool = cell.Bool false
zero_cell column.Text = cell.Text []

-- the cell of a key column where the generators stand at these rows
abbrev pub key_cell : Env → KeyColumn → Cell
key_cell e k = cell_under k.name (row_of k.generator e)

-- the cells of an index, where the generators with these key columns stand at these rows
abbrev pub index_cells : Layout → List KeyColumn → Env → List Cell
index_cells l ks e = in_layout (key_cell e) zero_cell l ks
