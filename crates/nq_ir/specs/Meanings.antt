-- What a normal form means over tables.
--
-- A choice of rows is made by their places in the tables, so equal rows count twice.
use Rattle.std.specs.Prelude.{◌≡◌, ℕ, List, [], ◌∷◌, ◌++◌, map, filter, flat_map, Bool, true, cond, ◌&&◌, nat_eq}
use Rattle.nq_model.specs.Databases.{FilledTable}
use Rattle.nq_model.specs.Meaning.{is_none}
use Rattle.nq_model.specs.Operators.{is_true, unary_value, binary_value}
use Rattle.nq_model.specs.NamedRows.{Label, Row, cell_under, named_table, rows_named}
use Rattle.nq_model.specs.Totals.{total_of}
use Rattle.nq_model.specs.Values.{Nested, base, rec, Fields, bag_of}
use Rattle.nq_model.specs.declared.table.Cell.{Cell}
use Rattle.nq_model.specs.declared.table.Cell.TheVariants as cell
use Rattle.nq_ir.specs.declared.base.Gen.{Gen}
use Rattle.nq_ir.specs.Trees.{BaseTree, literal, column, unary, binary, choose, empty, total, Conds, no_cond, and_cond, Tests, no_test, test, BodyTree, plain_body, rec_body, bag_body, Bodies, no_body, with_body, Comps, no_comp, comp, FormTree}

-- the rows of each table, in row order
abbrev pub Tables : Type 0
Tables = Label → List Row

-- P holds of the elements of two lists pair by pair, and these are as many
abbrev pub EachBoth : {A B : Type 0} → (A → B → Type 0) → List A → List B → Type 0
EachBoth P [] ys = ys ≡ []
EachBoth P (x ∷ xs) [] = ⊥
EachBoth P (x ∷ xs) (y ∷ ys) = P x y × EachBoth P xs ys

-- the row at which each generator in scope stands, by its number
abbrev pub Env : Type 0
Env = List (ℕ × Row)

-- the rows of these tables; a table that is not there has none
abbrev pub rows_in : List FilledTable → Tables
rows_in tables name = rows_named name (map named_table tables)

-- the row of a generator
abbrev pub row_of : ℕ → Env → Row
row_of g [] = []
row_of g (b ∷ bs) = cond (nat_eq g b.0) b.1 (row_of g bs)

-- all choices of one row for each generator, the first outermost
abbrev pub choices : Tables → List Gen → List Env
choices ts [] = [] ∷ []
choices ts (g ∷ gs) = flat_map (λ r. map (λ rs. (g.number, r) ∷ rs) (choices ts gs)) (ts g.table)

-- The value of a base term where the generators stand at these rows. An emptiness test is true where none
-- of its comprehensions has a choice that keeps its conditions, which see the rows around too.
abbrev mutual
  pub value : Tables → BaseTree → Env → Cell
  value ts (literal c) env = c
  value ts (column g l) env = cell_under l (row_of g env)
  value ts (unary op b) env = unary_value op (value ts b env)
  value ts (binary op a b) env = binary_value op (value ts a env) (value ts b env)
  value ts (choose x a b) env = cond (is_true (value ts x env)) (value ts a env) (value ts b env)
  value ts (empty xs) env = cell.Bool (no_kept ts xs env)
  value ts (total g gens conds b) env = total_of g (map (λ rs. value ts b (rs ++ env)) (filter (λ rs. all_true ts conds (rs ++ env)) (choices ts gens)))

  pub all_true : Tables → Conds → Env → Bool
  all_true ts no_cond env = true
  all_true ts (and_cond b bs) env = is_true (value ts b env) && all_true ts bs env

  pub no_kept : Tables → Tests → Env → Bool
  no_kept ts no_test env = true
  no_kept ts (test gens conds xs) env =
      is_none (filter (λ rs. all_true ts conds (rs ++ env)) (choices ts gens)) && no_kept ts xs env

-- the choices that keep the conditions, each with the rows around before it
abbrev pub kept : Tables → List Gen → Conds → Env → List Env
kept ts gens conds env = filter (λ e. all_true ts conds e) (map (λ rs. env ++ rs) (choices ts gens))

-- The meaning of a body and of comprehensions where the generators around stand at these rows: each
-- comprehension gives its body at each choice that it keeps.
abbrev mutual
  pub body_meaning : Tables → BodyTree → Env → Nested
  body_meaning ts (plain_body b) env = base (value ts b env)
  body_meaning ts (rec_body fs) env = rec (bodies_meaning ts fs env)
  body_meaning ts (bag_body element cs) env = bag_of (comps_meaning ts cs env)

  pub bodies_meaning : Tables → Bodies → Env → Fields
  bodies_meaning ts no_body env = Fields.none
  bodies_meaning ts (with_body l b fs) env = Fields.field l (body_meaning ts b env) (bodies_meaning ts fs env)

  pub comps_meaning : Tables → Comps → Env → List Nested
  comps_meaning ts no_comp env = []
  comps_meaning ts (comp tag gens conds b cs) env =
      map (λ e. body_meaning ts b e) (kept ts gens conds env) ++ comps_meaning ts cs env

-- the meaning of a normal form: a bag
abbrev pub form_meaning : Tables → FormTree → Nested
form_meaning ts form = bag_of (comps_meaning ts form.comps [])
