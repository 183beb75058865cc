-- Normal forms whose elements say which rows made them.
--
-- Each element becomes a record of the tag of its comprehension, the numbers of the rows at which
-- the comprehension's own generators stand, in order, and the element. At one path all elements
-- have as many numbers as a comprehension there has generators at the most, filled up with 0.
-- Labels stand in byte order, `r10` before `r2`.
use Rattle.std.specs.Prelude.{ℕ, suc, zero, pos, List, [], ◌∷◌, codes, decimal, ◌++◌, Option, Some}
use Rattle.std.specs.Prelude.{None}
use Rattle.nq_model.specs.NamedRows.{Label}
use Rattle.nq_model.specs.Orders.{by_label}
use Rattle.nq_model.specs.Types.{TypeTree, int, bool, text, rec, bag, fun, FieldTypes, none, field}
use Rattle.nq_model.specs.Types.{field_types_of}
use Rattle.nq_model.specs.declared.table.Cell.TheVariants as cell
use Rattle.nq_ir.specs.declared.base.Gen.{Gen}
use Rattle.nq_ir.specs.Trees.{literal, column, BodyTree, plain_body, rec_body, bag_body, Bodies}
use Rattle.nq_ir.specs.Trees.{no_body, with_body, bodies_of, Comps, no_comp, comp, CompPart}
use Rattle.nq_ir.specs.Trees.{FormTree}
use Rattle.traced_meaning.specs.NumberedTables.{number_column}
use Rattle.lineage.specs.Places.{inside, under, width, own_bodies, most_gens}

-- the labels of the tag, of the number of the k-th row, from 1, and of the element
abbrev pub tag_label : Label
tag_label = codes "at"

abbrev pub row_label : ℕ → Label
row_label k = codes "r" ++ decimal k

abbrev pub whole_label : Label
whole_label = codes "value"

-- the numbers of rows from the k-th on, under their labels, and what stands behind them
abbrev pub row_fields : {A : Type 0} → ℕ → List A → List (Label × A) → List (Label × A)
row_fields k [] last = last
row_fields k (r ∷ rs) last = (row_label k, r) ∷ row_fields (suc k) rs last

-- the fields of an element with this tag, these numbers and this value
abbrev pub element_fields : {A : Type 0} → A → List A → A → List (Label × A)
element_fields tag numbers value =
    by_label ((tag_label, tag) ∷ row_fields 1 numbers ((whole_label, value) ∷ []))

-- as many ints
abbrev pub ints : ℕ → List TypeTree
ints zero = []
ints (suc n) = int ∷ ints n

-- the type of elements with so many numbers
abbrev pub with_numbers : ℕ → TypeTree → TypeTree
with_numbers n a = rec (field_types_of (element_fields int (ints n) a))

-- The type in which each bag's elements are such, where these are the bodies that stand here.
abbrev mutual
  pub type_traced : List BodyTree → TypeTree → TypeTree
  type_traced here int = int
  type_traced here bool = bool
  type_traced here text = text
  type_traced here (rec fs) = rec (types_traced here fs)
  type_traced here (bag a) = bag (with_numbers (width here) (type_traced (inside here) a))
  type_traced here (fun a b) = fun a b

  pub types_traced : List BodyTree → FieldTypes → FieldTypes
  types_traced here none = none
  types_traced here (field l a fs) =
      field l (type_traced (under l here) a) (types_traced here fs)

abbrev pub int_body : ℕ → BodyTree
int_body n = plain_body (literal (cell.Int (pos n)))

-- the number of the row of a generator, and 0 where there is none
abbrev pub number_body : Option Gen → BodyTree
number_body None = int_body 0
number_body (Some g) = plain_body (column g.number number_column)

-- so many numbers: those of the rows of these generators, and then 0
abbrev pub number_bodies : ℕ → List Gen → List BodyTree
number_bodies zero gens = []
number_bodies (suc n) [] = number_body None ∷ number_bodies n []
number_bodies (suc n) (g ∷ gens) = number_body (Some g) ∷ number_bodies n gens

-- the body of a comprehension with this tag and these generators
abbrev pub whole_body : ℕ → ℕ → List Gen → BodyTree → BodyTree
whole_body n t gens b =
    rec_body (bodies_of (element_fields (int_body t) (number_bodies n gens) b))

-- The same for a body, where these are all bodies that stand at its place, and for comprehensions,
-- of which none at their path has more than n generators, with all bodies there.
abbrev mutual
  pub body_traced : List BodyTree → BodyTree → BodyTree
  body_traced here (plain_body b) = plain_body b
  body_traced here (rec_body fs) = rec_body (bodies_traced here fs)
  body_traced here (bag_body e cs) =
      bag_body (with_numbers (width here) (type_traced (inside here) e))
      (comps_traced (width here) (inside here) cs)

  pub bodies_traced : List BodyTree → Bodies → Bodies
  bodies_traced here no_body = no_body
  bodies_traced here (with_body l b fs) =
      with_body l (body_traced (under l here) b) (bodies_traced here fs)

  pub comps_traced : ℕ → List BodyTree → Comps → Comps
  comps_traced n here no_comp = no_comp
  comps_traced n here (comp t gens conds b cs) =
      comp t gens conds (whole_body n t gens (body_traced here b)) (comps_traced n here cs)

-- the same for one comprehension
abbrev pub part_traced : ℕ → List BodyTree → CompPart → CompPart
part_traced n here c = record {
  tag = c.tag;
  gens = c.gens;
  conds = c.conds;
  body = whole_body n c.tag c.gens (body_traced here c.body);
}

-- the form with such elements at every depth
abbrev pub form_traced : FormTree → FormTree
form_traced form = record {
  element = with_numbers (most_gens form.comps) (type_traced (own_bodies form.comps) form.element);
  comps = comps_traced (most_gens form.comps) (own_bodies form.comps) form.comps;
}
