-- A stable sort of fields by their labels.
use Rattle.std.proofs.Common.{◌≡◌, List}
use Rattle.std.specs.Cmp.{IsStrictWeakOrder, IsTotalOrder}
use Rattle.std.proofs.lemmas.List.Sorted.{ranks_by}
use Rattle.std.specs.List.Sorted.{IsSortedBy, IsStableBy}
use Rattle.std.specs.Ordering.{is_lt}
use Rattle.std.specs.declared.cmp.Ordering.{Ordering}
use Rattle.nq_model.proofs.Canonical.{label_order}
use Rattle.nq_model.proofs.StableSorts.{stable_sort}
use Rattle.nq_model.specs.NamedRows.{Label}
use Rattle.nq_model.specs.Orders.{label_cmp, by_label}

module _ {A : Type 0} where
  abbrev pub field_cmp : (Label × A) → (Label × A) → Ordering
  field_cmp f g = label_cmp f.0 g.0

  fields_total : IsTotalOrder field_cmp
  fields_total = record {
    antisymm = λ f g. label_order.total.antisymm f.0 g.0;
    trans = λ f g h p q. label_order.total.trans f.0 g.0 h.0 p q;
    congr = λ f g h p. label_order.total.congr f.0 g.0 h.0 p;
  }

  -- what it gives
  pub labels_sorted : (xs ys : List (Label × A)) → IsStableBy (λ f g. is_lt (field_cmp f g)) xs ys
      → IsSortedBy (λ f g. is_lt (field_cmp f g)) ys → ys ≡ by_label xs
  labels_sorted xs ys stable up = stable_sort field_cmp fields_total xs ys stable up

  pub label_rank : IsStrictWeakOrder (λ (f g : Label × A). is_lt (field_cmp f g))
  label_rank = ranks_by label_order.total (λ (f : Label × A). f.0)
