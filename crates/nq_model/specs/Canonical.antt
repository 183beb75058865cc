-- The canonical order, form and text of values.
use Rattle.std.specs.Prelude.{ℕ, true, false, cond, nat_eq, List, [], ◌∷◌, ◌++◌, codes}
use Rattle.std.specs.declared.cmp.Ordering.{Ordering}
use Rattle.std.specs.declared.cmp.Ordering.TheVariants.{Less, Equal, Greater}
use Rattle.std.specs.Ordering.{ordering_then}
use Rattle.std.specs.Cmp.Lexicographic.{slice_cmp}
use Rattle.std.specs.Fmt.{signed_decimal}
use Rattle.nq_model.specs.Orders.{label_cmp, put_by}
use Rattle.nq_model.specs.Cells.{cell_cmp}
use Rattle.nq_model.specs.Values.{Nested, base, rec, bag, Fields, none, field, Elements, end, more, labels, elements_of}
use Rattle.nq_model.specs.declared.table.Cell.{Cell}
use Rattle.nq_model.specs.declared.table.Cell.TheVariants as cell

-- Base values before records, and records before bags. Records are compared by their lists of labels
-- and then by the first field that differs, in label order; bags by the first element that differs, a
-- prefix before the longer. Bags are compared as they stand.
abbrev mutual
  pub value_cmp : Nested → Nested → Ordering
  value_cmp (base c) (base d) = cell_cmp c d
  value_cmp (base c) (rec gs) = Less
  value_cmp (base c) (bag ws) = Less
  value_cmp (rec fs) (base d) = Greater
  value_cmp (rec fs) (rec gs) = ordering_then (slice_cmp label_cmp (labels fs) (labels gs)) (fields_cmp fs gs)
  value_cmp (rec fs) (bag ws) = Less
  value_cmp (bag vs) (base d) = Greater
  value_cmp (bag vs) (rec gs) = Greater
  value_cmp (bag vs) (bag ws) = elements_cmp vs ws

  pub fields_cmp : Fields → Fields → Ordering
  fields_cmp none none = Equal
  fields_cmp none (field m w gs) = Less
  fields_cmp (field l v fs) none = Greater
  fields_cmp (field l v fs) (field m w gs) = ordering_then (value_cmp v w) (fields_cmp fs gs)

  pub elements_cmp : Elements → Elements → Ordering
  elements_cmp end end = Equal
  elements_cmp end (more w ws) = Less
  elements_cmp (more v vs) end = Greater
  elements_cmp (more v vs) (more w ws) = ordering_then (value_cmp v w) (elements_cmp vs ws)

-- the value with each bag in order, at every depth
abbrev mutual
  pub canonical : Nested → Nested
  canonical (base c) = base c
  canonical (rec fs) = rec (canonical_fields fs)
  canonical (bag vs) = bag (elements_of (canonical_elements vs))

  pub canonical_fields : Fields → Fields
  canonical_fields none = none
  canonical_fields (field l v fs) = field l (canonical v) (canonical_fields fs)

  pub canonical_elements : Elements → List Nested
  canonical_elements end = []
  canonical_elements (more v vs) = put_by value_cmp (canonical v) (canonical_elements vs)

-- the bytes of a text with each single quote doubled
abbrev pub doubled_quotes : List ℕ → List ℕ
doubled_quotes [] = []
doubled_quotes (b ∷ bs) = cond (nat_eq b 39) (39 ∷ 39 ∷ doubled_quotes bs) (b ∷ doubled_quotes bs)

abbrev pub cell_text : Cell → List ℕ
cell_text (cell.Int n) = signed_decimal n
cell_text (cell.Bool true) = codes "true"
cell_text (cell.Bool false) = codes "false"
cell_text (cell.Text t) = codes "'" ++ (doubled_quotes t ++ codes "'")

-- `(a = V, b = W)` and `()`, `{V, W}` and `{}`, and the texts of base values
abbrev mutual
  pub written : Nested → List ℕ
  written (base c) = cell_text c
  written (rec fs) = codes "(" ++ (written_fields fs ++ codes ")")
  written (bag vs) = codes "{" ++ (written_elements vs ++ codes "}")

  pub written_fields : Fields → List ℕ
  written_fields none = []
  written_fields (field l v none) = l ++ (codes " = " ++ written v)
  written_fields (field l v (field m w fs)) = l ++ (codes " = " ++ (written v ++ (codes ", " ++ written_fields (field m w fs))))

  pub written_elements : Elements → List ℕ
  written_elements end = []
  written_elements (more v end) = written v
  written_elements (more v (more w vs)) = written v ++ (codes ", " ++ written_elements (more w vs))

-- the text of the canonical form, and a newline
abbrev pub canonical_text : Nested → List ℕ
canonical_text v = written (canonical v) ++ codes "\n"
