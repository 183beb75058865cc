-- The rows of the natural SELECTs of comprehensions: the index of the bag around, and the element.
use Rattle.std.proofs.Common.{pos, List, [], ◌∷◌, ◌++◌, map, flat_map}
use Rattle.nq_model.specs.declared.table.Cell.{Cell}
use Rattle.nq_model.specs.declared.table.Cell.TheVariants as cell
use Rattle.nq_model.specs.declared.table.TableShape.{TableShape}
use Rattle.nq_ir.specs.Meanings.{Env, Tables, kept, value}
use Rattle.nq_ir.specs.Spots.{StrandTree, both}
use Rattle.nq_ir.specs.Trees.{ShapeTree, Shapes, plain_shape, rec_shape, index_shape, no_shape, with_shape}
use Rattle.natural_keys.specs.declared.layout.Layout.{Layout}
use Rattle.natural_keys.specs.Layouts.{key_columns, scope_key}
use Rattle.natural_keys.specs.Indexes.{index_cells}

-- the cells of a shape where the generators stand at these rows, with these for an inner bag
abbrev mutual
  pub shape_cells : Tables → List Cell → ShapeTree → Env → List Cell
  shape_cells ts index (plain_shape b) e = value ts b e ∷ []
  shape_cells ts index (rec_shape fs) e = shapes_cells ts index fs e
  shape_cells ts index index_shape e = index

  pub shapes_cells : Tables → List Cell → Shapes → Env → List Cell
  shapes_cells ts index no_shape e = []
  shapes_cells ts index (with_shape l s fs) e = shape_cells ts index s e
      ++ shapes_cells ts index fs e

-- the tag of a comprehension and its key cells
abbrev pub inner_cells : List TableShape → Layout → StrandTree → Env → List Cell
inner_cells S inner d e = cell.Int (pos d.tag) ∷ index_cells inner (scope_key S d) e

-- the row of a comprehension at a choice: the index of the bag around, and the element
abbrev pub natural_row : List TableShape → Tables → Layout → Layout → StrandTree → Env → List Cell
natural_row S ts outer inner d e =
    cell.Int (pos d.parent) ∷ (index_cells outer (key_columns S d.outer_gens) e
    ++ shape_cells ts (inner_cells S inner d e) d.shape e)

-- the choices that all conditions in scope keep
abbrev pub scope_choices : Tables → StrandTree → List Env
scope_choices ts d = kept ts (d.outer_gens ++ d.gens) (both d.outer_conds d.conds) []

-- the rows of comprehensions
abbrev pub natural_rows : List TableShape → Tables → Layout → Layout → List StrandTree
    → List (List Cell)
natural_rows S ts outer inner ds = flat_map (λ d. map (natural_row S ts outer inner d)
    (scope_choices ts d)) ds
