-- The normal form of a plain term, with tags and generator numbers.
--
-- Tags count the comprehensions from 1 in pre-order: a comprehension, then those in its body, fields in label order,
-- then the next of the union; those of tests, counts and sums have none. Generators are numbered from 1 in the order of
-- the printed text, those of tests, counts and sums too: the generators of a comprehension, its conditions, its body,
-- then the next.
use Rattle.std.specs.Prelude.{ℕ, suc, ◌+◌, List, [], ◌∷◌, length, get_or}
use Rattle.nq_model.specs.Terms.{TermTree}
use Rattle.nq_model.specs.Types.{TypeTree, int, bool, text, rec, bag, fun, FieldTypes, none, field}
use Rattle.nq_model.specs.declared.table.TableShape.{TableShape}
use Rattle.nq_ir.specs.declared.base.Gen.{Gen}
use Rattle.nq_model.specs.NamedRows.{Label}
use Rattle.nq_ir.specs.RawForms.{RawBase, raw_literal, raw_column, raw_unary, raw_binary, raw_choose, raw_empty, raw_total, RawConds, no_raw, and_raw, RawTests, no_raw_test, raw_test, RawBody, raw_plain, raw_rec, raw_bag, RawFields, no_raw_field, raw_field, RawComps, no_raw_comp, raw_comp, raw_comps_in, raw_form}
use Rattle.nq_ir.specs.Trees.{BaseTree, literal, column, unary, binary, total, Conds, no_cond, and_cond, Tests, no_test, test, BodyTree, plain_body, rec_body, bag_body, Bodies, no_body, with_body, Comps, no_comp, comp, FormTree}

-- how many generators stand in a part
abbrev mutual
  pub gens_in_base : RawBase → ℕ
  gens_in_base (raw_literal x) = 0
  gens_in_base (raw_column i l) = 0
  gens_in_base (raw_unary o b) = gens_in_base b
  gens_in_base (raw_binary o a b) = gens_in_base a + gens_in_base b
  gens_in_base (raw_choose x a b) = gens_in_base x + (gens_in_base a + gens_in_base b)
  gens_in_base (raw_empty xs) = gens_in_tests xs
  gens_in_base (raw_total g gs bs b) = length gs + (gens_in_conds bs + gens_in_base b)

  pub gens_in_conds : RawConds → ℕ
  gens_in_conds no_raw = 0
  gens_in_conds (and_raw b bs) = gens_in_base b + gens_in_conds bs

  pub gens_in_tests : RawTests → ℕ
  gens_in_tests no_raw_test = 0
  gens_in_tests (raw_test gs bs xs) = length gs + (gens_in_conds bs + gens_in_tests xs)

abbrev mutual
  pub gens_in_body : RawBody → ℕ
  gens_in_body (raw_plain b) = gens_in_base b
  gens_in_body (raw_rec fs) = gens_in_fields fs
  gens_in_body (raw_bag cs) = gens_in_comps cs

  pub gens_in_fields : RawFields → ℕ
  gens_in_fields no_raw_field = 0
  gens_in_fields (raw_field l b fs) = gens_in_body b + gens_in_fields fs

  pub gens_in_comps : RawComps → ℕ
  gens_in_comps no_raw_comp = 0
  gens_in_comps (raw_comp gs bs b cs) = length gs + (gens_in_conds bs + (gens_in_body b + gens_in_comps cs))

-- how many comprehensions have a tag
abbrev mutual
  pub tags_in_body : RawBody → ℕ
  tags_in_body (raw_plain b) = 0
  tags_in_body (raw_rec fs) = tags_in_fields fs
  tags_in_body (raw_bag cs) = tags_in_comps cs

  pub tags_in_fields : RawFields → ℕ
  tags_in_fields no_raw_field = 0
  tags_in_fields (raw_field l b fs) = tags_in_body b + tags_in_fields fs

  pub tags_in_comps : RawComps → ℕ
  tags_in_comps no_raw_comp = 0
  tags_in_comps (raw_comp gs bs b cs) = suc (tags_in_body b + tags_in_comps cs)

-- generators numbered from n on
abbrev pub number_gens : ℕ → List Label → List Gen
number_gens n [] = []
number_gens n (t ∷ gs) = record { number = n; table = t } ∷ number_gens (suc n) gs

-- the numbers in scope, the innermost first, after these generators
abbrev pub deal : ℕ → List Label → List ℕ → List ℕ
deal n [] sc = sc
deal n (t ∷ gs) sc = deal (suc n) gs (n ∷ sc)

-- n is the next number; sc are the numbers in scope, the innermost first
abbrev mutual
  pub number_base : ℕ → List ℕ → RawBase → BaseTree
  number_base n sc (raw_literal x) = literal x
  number_base n sc (raw_column i l) = column (get_or sc i 0) l
  number_base n sc (raw_unary o b) = unary o (number_base n sc b)
  number_base n sc (raw_binary o a b) = binary o (number_base n sc a) (number_base (n + gens_in_base a) sc b)
  number_base n sc (raw_choose x a b) =
      BaseTree.choose (number_base n sc x) (number_base (n + gens_in_base x) sc a) (number_base (n + gens_in_base x + gens_in_base a) sc b)
  number_base n sc (raw_empty xs) = BaseTree.empty (number_tests n sc xs)
  number_base n sc (raw_total g gs bs b) =
      total g (number_gens n gs) (number_conds (n + length gs) (deal n gs sc) bs) (number_base (n + length gs + gens_in_conds bs) (deal n gs sc) b)

  pub number_conds : ℕ → List ℕ → RawConds → Conds
  number_conds n sc no_raw = no_cond
  number_conds n sc (and_raw b bs) = and_cond (number_base n sc b) (number_conds (n + gens_in_base b) sc bs)

  pub number_tests : ℕ → List ℕ → RawTests → Tests
  number_tests n sc no_raw_test = no_test
  number_tests n sc (raw_test gs bs xs) =
      test (number_gens n gs) (number_conds (n + length gs) (deal n gs sc) bs) (number_tests (n + length gs + gens_in_conds bs) sc xs)

-- the element type of a bag, and the types of a record's fields
abbrev pub element_type : TypeTree → TypeTree
element_type int = int
element_type bool = bool
element_type text = text
element_type (rec fs) = rec fs
element_type (bag a) = a
element_type (fun a b) = fun a b

abbrev pub field_types : TypeTree → FieldTypes
field_types int = none
field_types bool = none
field_types text = none
field_types (rec fs) = fs
field_types (bag a) = none
field_types (fun a b) = none

abbrev pub first_type : FieldTypes → TypeTree
first_type none = int
first_type (field l a fs) = a

abbrev pub rest_types : FieldTypes → FieldTypes
rest_types none = none
rest_types (field l a fs) = fs

-- t is the next tag, n the next number, sc are the numbers in scope; each bag takes its element type from the type of the whole
abbrev mutual
  pub number_body : ℕ → ℕ → List ℕ → TypeTree → RawBody → BodyTree
  number_body t n sc a (raw_plain b) = plain_body (number_base n sc b)
  number_body t n sc a (raw_rec fs) = rec_body (number_fields t n sc (field_types a) fs)
  number_body t n sc a (raw_bag cs) = bag_body (element_type a) (number_comps t n sc (element_type a) cs)

  pub number_fields : ℕ → ℕ → List ℕ → FieldTypes → RawFields → Bodies
  number_fields t n sc gs no_raw_field = no_body
  number_fields t n sc gs (raw_field l b fs) =
      with_body l (number_body t n sc (first_type gs) b) (number_fields (t + tags_in_body b) (n + gens_in_body b) sc (rest_types gs) fs)

  pub number_comps : ℕ → ℕ → List ℕ → TypeTree → RawComps → Comps
  number_comps t n sc a no_raw_comp = no_comp
  number_comps t n sc a (raw_comp gs bs b cs) =
      comp t (number_gens n gs) (number_conds (n + length gs) (deal n gs sc) bs) (number_body (suc t) (n + length gs + gens_in_conds bs) (deal n gs sc) a b) (number_comps (suc t + tags_in_body b) (n + length gs + gens_in_conds bs + gens_in_body b) sc a cs)

-- the normal form of a closed plain term over a schema, whose type is a bag with this element type
abbrev pub normal_form : List TableShape → TypeTree → TermTree → FormTree
normal_form S a m = record { element = a; comps = number_comps 1 1 [] a (raw_comps_in (raw_form S m [])) }
