-- Values that are sorted at every depth.
use Rattle.std.specs.Prelude.{⊤}
use Rattle.std.specs.List.Sorted.{IsSorted}
use Rattle.nq_model.specs.Values.{Nested, base, rec, bag, Fields, none, field, Elements, end, more, elements}
use Rattle.nq_model.specs.Canonical.{value_cmp}

-- each bag in the value stands in canonical order
abbrev mutual
  pub IsSortedDeep : Nested → Type 0
  IsSortedDeep (base c) = ⊤
  IsSortedDeep (rec fs) = FieldsAreSorted fs
  IsSortedDeep (bag vs) = IsSorted value_cmp (elements vs) × ElementsAreSorted vs

  pub FieldsAreSorted : Fields → Type 0
  FieldsAreSorted none = ⊤
  FieldsAreSorted (field l v fs) = IsSortedDeep v × FieldsAreSorted fs

  pub ElementsAreSorted : Elements → Type 0
  ElementsAreSorted end = ⊤
  ElementsAreSorted (more v vs) = IsSortedDeep v × ElementsAreSorted vs
