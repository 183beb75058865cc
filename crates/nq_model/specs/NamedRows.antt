-- Rows under the names of their columns, in tables under names. Both the meaning of forms and the answers that SQL
-- allows look cells up in them.
use Rattle.std.specs.Prelude.{ℕ, List, [], ◌∷◌, map, zip, cond, false}
use Rattle.std.specs.Str.{bytes_eq}
use Rattle.nq_model.specs.Databases.{FilledTable}
use Rattle.nq_model.specs.Tables.{names_of}
use Rattle.nq_model.specs.declared.table.Cell.{Cell}
use Rattle.nq_model.specs.declared.table.Cell.TheVariants as cell

-- the name of a table, a column or a field
abbrev pub Label : Type 0
Label = List ℕ

-- a row: the name of each column with its cell
abbrev pub Row : Type 0
Row = List (Label × Cell)

-- what stands in the place of a cell that is not there, which nothing that is typed asks for
abbrev pub no_cell : Cell
no_cell = cell.Bool false

-- the cell of a row under a column, the first of that name
abbrev pub cell_under : Label → Row → Cell
cell_under name [] = no_cell
cell_under name (c ∷ cs) = cond (bytes_eq name c.0) c.1 (cell_under name cs)

-- rows under these names
abbrev pub named : List Label → List (List Cell) → List Row
named names rows = map (λ row. zip names row) rows

-- tables by name, each with its rows in order
abbrev pub NamedTables : Type 0
NamedTables = List (Label × List Row)

-- the rows of the first table of that name; a table that is not there has none
abbrev pub rows_named : Label → NamedTables → List Row
rows_named name [] = []
rows_named name (t ∷ ts) = cond (bytes_eq name t.0) t.1 (rows_named name ts)

-- a filled table as its name and its rows under the names of its columns
abbrev pub named_table : FilledTable → Label × List Row
named_table table = (table.name, named (names_of table.columns) table.rows)
