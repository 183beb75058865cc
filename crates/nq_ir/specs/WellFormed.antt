-- Well-formed normal forms over a schema.
use Rattle.std.specs.Prelude.{◌≡◌, ℕ, ◌<◌, ◌≤◌, ◌^◌, List, [], ◌∷◌, ◌++◌, map, cond, nat_eq, true, bytes_eq, Option, Some, None, IsSome}
use Rattle.std.specs.List.{AllByRecursion as Each}
use Rattle.nq_model.specs.Cells.{column_type_of}
use Rattle.nq_model.specs.Operators.{unary_type, binary_type}
use Rattle.nq_model.specs.Orders.{AreDistinct}
use Rattle.nq_model.specs.Proper.{IsNumeral, IsOrdered}
use Rattle.nq_model.specs.Typing.{shape_named}
use Rattle.nq_model.specs.Tables.{Columns, names_of}
use Rattle.nq_model.specs.Types.{TypeTree, int, bool, text, rec, bag, fun, FieldTypes, none, field, is_plain}
use Rattle.nq_model.specs.declared.table.Cell.{Cell}
use Rattle.nq_model.specs.declared.table.Cell.TheVariants as cell
use Rattle.nq_model.specs.declared.table.ColumnType.{ColumnType}
use Rattle.nq_model.specs.declared.table.ColumnType.TheVariants as column_type
use Rattle.nq_model.specs.declared.table.TableShape.{TableShape}
use Rattle.nq_ir.specs.declared.base.Gen.{Gen}
use Rattle.nq_ir.specs.Trees.{BaseTree, literal, column, unary, binary, choose, empty, total, Conds, no_cond, and_cond, Tests, no_test, test, BodyTree, plain_body, rec_body, bag_body, Bodies, no_body, with_body, Comps, no_comp, comp, FormTree}
use Rattle.nq_model.specs.NamedRows.{Label}

abbrev pub columns_or_none : Option TableShape → Columns
columns_or_none None = []
columns_or_none (Some shape) = shape.columns

-- the columns of the table of that name; a table that is not there has none
abbrev pub table_columns : List TableShape → Label → Columns
table_columns shapes name = columns_or_none (shape_named name shapes)

-- the names of its columns, in the order of the schema
abbrev pub column_names : List TableShape → Label → List Label
column_names shapes name = names_of (table_columns shapes name)

-- a constant that a query can spell: its integers are from 0 to 2^63 - 1
abbrev pub IsLiteral : Cell → Type 0
IsLiteral (cell.Int n) = IsNumeral n
IsLiteral (cell.Bool b) = Unit {0}
IsLiteral (cell.Text t) = Unit {0}

-- the type of the column of that name
abbrev pub column_type_in : Label → Columns → Option ColumnType
column_type_in l [] = None
column_type_in l (c ∷ cs) = cond (bytes_eq l c.0) (Some c.1) (column_type_in l cs)

-- the columns of the table of a generator in scope
abbrev pub gen_columns : List TableShape → List Gen → ℕ → Columns
gen_columns S [] g = []
gen_columns S (h ∷ scope) g = cond (nat_eq g h.number) (table_columns S h.table) (gen_columns S scope g)

-- the tables of these generators are in the schema
abbrev pub AreTables : List TableShape → List Gen → Type 0
AreTables S gens = Each (λ g. IsSome (shape_named g.table S)) gens

-- A base term has a type where the generators in scope are these: a column names one of them and a column of its
-- table, and the rest goes by the types of the operators. Conditions are bool.
abbrev mutual
  pub BaseHas : List TableShape → List Gen → BaseTree → ColumnType → Type 0
  BaseHas S scope (literal c) T = (column_type_of c ≡ T) × IsLiteral c
  BaseHas S scope (column g l) T = column_type_in l (gen_columns S scope g) ≡ Some T
  BaseHas S scope (unary op b) T = (U : ColumnType) × BaseHas S scope b U × (unary_type op U ≡ Some T)
  BaseHas S scope (binary op a b) T =
      (U : ColumnType) × (V : ColumnType) × BaseHas S scope a U × BaseHas S scope b V × (binary_type op U V ≡ Some T)
  BaseHas S scope (choose x a b) T = BaseHas S scope x column_type.Bool × BaseHas S scope a T × BaseHas S scope b T
  BaseHas S scope (empty xs) T = (T ≡ column_type.Bool) × TestsHave S scope xs
  BaseHas S scope (total g gens conds b) T =
      (T ≡ column_type.Int) × AreTables S gens × CondsHave S (gens ++ scope) conds × BaseHas S (gens ++ scope) b column_type.Int

  pub CondsHave : List TableShape → List Gen → Conds → Type 0
  CondsHave S scope no_cond = Unit {0}
  CondsHave S scope (and_cond b bs) = BaseHas S scope b column_type.Bool × CondsHave S scope bs

  pub TestsHave : List TableShape → List Gen → Tests → Type 0
  TestsHave S scope no_test = Unit {0}
  TestsHave S scope (test gens conds xs) = AreTables S gens × CondsHave S (gens ++ scope) conds × TestsHave S scope xs

-- A body has an element type: equal labels in a record, and each inner bag carries its own element type.
abbrev mutual
  pub BodyHas : List TableShape → List Gen → BodyTree → TypeTree → Type 0
  BodyHas S scope (plain_body b) int = BaseHas S scope b column_type.Int
  BodyHas S scope (plain_body b) bool = BaseHas S scope b column_type.Bool
  BodyHas S scope (plain_body b) text = BaseHas S scope b column_type.Text
  BodyHas S scope (plain_body b) (rec gs) = ⊥
  BodyHas S scope (plain_body b) (bag a) = ⊥
  BodyHas S scope (plain_body b) (fun a c) = ⊥
  BodyHas S scope (rec_body fs) int = ⊥
  BodyHas S scope (rec_body fs) bool = ⊥
  BodyHas S scope (rec_body fs) text = ⊥
  BodyHas S scope (rec_body fs) (rec gs) = BodiesHave S scope fs gs
  BodyHas S scope (rec_body fs) (bag a) = ⊥
  BodyHas S scope (rec_body fs) (fun a c) = ⊥
  BodyHas S scope (bag_body e cs) int = ⊥
  BodyHas S scope (bag_body e cs) bool = ⊥
  BodyHas S scope (bag_body e cs) text = ⊥
  BodyHas S scope (bag_body e cs) (rec gs) = ⊥
  BodyHas S scope (bag_body e cs) (bag a) = (e ≡ a) × CompsHave S scope cs a
  BodyHas S scope (bag_body e cs) (fun a c) = ⊥

  pub BodiesHave : List TableShape → List Gen → Bodies → FieldTypes → Type 0
  BodiesHave S scope no_body none = Unit {0}
  BodiesHave S scope no_body (field k a gs) = ⊥
  BodiesHave S scope (with_body l b fs) none = ⊥
  BodiesHave S scope (with_body l b fs) (field k a gs) = (l ≡ k) × BodyHas S scope b a × BodiesHave S scope fs gs

  pub CompsHave : List TableShape → List Gen → Comps → TypeTree → Type 0
  CompsHave S scope no_comp a = Unit {0}
  CompsHave S scope (comp t gens conds b cs) a =
      AreTables S gens × CondsHave S (scope ++ gens) conds × BodyHas S (scope ++ gens) b a × CompsHave S scope cs a

-- the tags of comprehensions and of those inside, in pre-order
abbrev mutual
  pub comps_tags : Comps → List ℕ
  comps_tags no_comp = []
  comps_tags (comp t gens conds b cs) = t ∷ (body_tags b ++ comps_tags cs)

  pub body_tags : BodyTree → List ℕ
  body_tags (plain_body b) = []
  body_tags (rec_body fs) = bodies_tags fs
  body_tags (bag_body e cs) = comps_tags cs

  pub bodies_tags : Bodies → List ℕ
  bodies_tags no_body = []
  bodies_tags (with_body l b fs) = body_tags b ++ bodies_tags fs

abbrev pub numbers : List Gen → List ℕ
numbers gens = map (λ g. g.number) gens

-- the numbers of all generators inside, those of tests, counts and sums too, in the order of the printed text
abbrev mutual
  pub base_numbers : BaseTree → List ℕ
  base_numbers (literal c) = []
  base_numbers (column g l) = []
  base_numbers (unary op b) = base_numbers b
  base_numbers (binary op a b) = base_numbers a ++ base_numbers b
  base_numbers (choose x a b) = base_numbers x ++ (base_numbers a ++ base_numbers b)
  base_numbers (empty xs) = tests_numbers xs
  base_numbers (total g gens conds b) = numbers gens ++ (conds_numbers conds ++ base_numbers b)

  pub conds_numbers : Conds → List ℕ
  conds_numbers no_cond = []
  conds_numbers (and_cond b bs) = base_numbers b ++ conds_numbers bs

  pub tests_numbers : Tests → List ℕ
  tests_numbers no_test = []
  tests_numbers (test gens conds xs) = numbers gens ++ (conds_numbers conds ++ tests_numbers xs)

abbrev mutual
  pub body_numbers : BodyTree → List ℕ
  body_numbers (plain_body b) = base_numbers b
  body_numbers (rec_body fs) = bodies_numbers fs
  body_numbers (bag_body e cs) = comps_numbers cs

  pub bodies_numbers : Bodies → List ℕ
  bodies_numbers no_body = []
  bodies_numbers (with_body l b fs) = body_numbers b ++ bodies_numbers fs

  pub comps_numbers : Comps → List ℕ
  comps_numbers no_comp = []
  comps_numbers (comp t gens conds b cs) =
      numbers gens ++ (conds_numbers conds ++ (body_numbers b ++ comps_numbers cs))

-- a tag or a generator number: from 1 to 2^63 - 1
abbrev pub IsNumber : ℕ → Type 0
IsNumber n = (1 ≤ n) × (n < 2 ^ 63)

-- A form is well formed over a schema: its element type is plain and its labels rise, and so do those of its
-- bodies, which have that type; its tags differ, and so do its generator numbers.
pub record IsWellFormed (S : List TableShape) (form : FormTree) : Type 0 where
  pub element_plain : is_plain form.element ≡ true
  pub labels_rise : IsOrdered form.element
  pub typed : CompsHave S [] form.comps form.element
  pub tags_differ : AreDistinct (comps_tags form.comps)
  pub tags_fit : Each IsNumber (comps_tags form.comps)
  pub numbers_differ : AreDistinct (comps_numbers form.comps)
  pub numbers_fit : Each IsNumber (comps_numbers form.comps)
