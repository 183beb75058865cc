-- The traced meaning of a normal form over tables that have the column of numbers.
use Rattle.std.specs.Prelude.{ℤ, List, [], ◌++◌, map}
use Rattle.nq_model.specs.NamedRows.{Row, cell_under}
use Rattle.nq_model.specs.Operators.{int_of}
use Rattle.nq_model.specs.Values.{Nested, base, rec, Fields, bag_of}
use Rattle.nq_ir.specs.declared.base.Gen.{Gen}
use Rattle.nq_ir.specs.Meanings.{Tables, Env, row_of, value, kept}
use Rattle.nq_ir.specs.Trees.{BodyTree, plain_body, rec_body, bag_body, Bodies, no_body, with_body, Comps, no_comp, comp, FormTree}
use Rattle.traced_meaning.specs.NumberedTables.{number_column}
use Rattle.traced_meaning.specs.TracedValues.{RowName, element_of, rows_value}

-- the number in a row
abbrev pub number_in : Row → ℤ
number_in row = int_of (cell_under number_column row)

-- the names of the rows at which these generators stand, the first outermost
abbrev pub names : List Gen → Env → List RowName
names gens env = map (λ g. (g.table, number_in (row_of g.number env))) gens

-- The meaning of a body and of comprehensions where the generators around stand at these rows: each
-- element has the names of the rows of the comprehension's own generators.
abbrev mutual
  pub traced_body : Tables → BodyTree → Env → Nested
  traced_body ts (plain_body b) env = base (value ts b env)
  traced_body ts (rec_body fs) env = rec (traced_bodies ts fs env)
  traced_body ts (bag_body element cs) env = bag_of (traced_comps ts cs env)

  pub traced_bodies : Tables → Bodies → Env → Fields
  traced_bodies ts no_body env = Fields.none
  traced_bodies ts (with_body l b fs) env =
      Fields.field l (traced_body ts b env) (traced_bodies ts fs env)

  pub traced_comps : Tables → Comps → Env → List Nested
  traced_comps ts no_comp env = []
  traced_comps ts (comp tag gens conds b cs) env =
      map (λ e. element_of (traced_body ts b e) (rows_value (names gens e)))
      (kept ts gens conds env)
      ++ traced_comps ts cs env

-- the traced meaning of a normal form: a bag
abbrev pub traced_meaning : Tables → FormTree → Nested
traced_meaning ts form = bag_of (traced_comps ts form.comps [])
