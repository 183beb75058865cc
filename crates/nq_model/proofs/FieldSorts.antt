-- Fields in label order.
use Rattle.std.proofs.Common.{◌≡◌, ℕ, List, map, refl, ap, sym, ◌∙◌}
use Rattle.std.specs.declared.cmp.Ordering.{Ordering}
use Rattle.std.specs.Ordering.{is_lt}
use Rattle.std.specs.Cmp.{IsTotalOrder}
use Rattle.std.specs.List.Sorted.{IsSortedBy, IsStableBy}
use Rattle.nq_model.specs.Orders.{label_cmp, by_label}
use Rattle.nq_model.specs.Types.{type_tree, fields_view}
use Rattle.nq_model.proofs.Canonical.{label_order}
use Rattle.nq_model.proofs.Orders.{sorted_mapped}
use Rattle.nq_model.specs.declared.ty.Ty.{Ty}
use Rattle.nq_model.proofs.StableSorts.{stable_sort}

-- fields are compared by their labels
abbrev pub field_cmp : (List ℕ × Ty) → (List ℕ × Ty) → Ordering
field_cmp f g = label_cmp f.0 g.0

fields_total : IsTotalOrder field_cmp
fields_total = record {
  antisymm = λ f g. label_order.total.antisymm f.0 g.0;
  trans = λ f g h p q. label_order.total.trans f.0 g.0 h.0 p q;
  congr = λ f g h p. label_order.total.congr f.0 g.0 h.0 p;
}

-- what a stable sort by labels gives
pub labels_sorted : (xs ys : List (List ℕ × Ty)) → IsStableBy (λ f g. is_lt (field_cmp f g)) xs ys → IsSortedBy (λ f g. is_lt (field_cmp f g)) ys → fields_view ys ≡ by_label (fields_view xs)
labels_sorted xs ys stable up =
    ap (map (λ (f : List ℕ × Ty). (f.0, type_tree f.1))) (stable_sort field_cmp fields_total xs ys stable up)
    ∙ sym (sorted_mapped (λ (f : List ℕ × Ty). (f.0, type_tree f.1)) field_cmp (λ f g. label_cmp f.0 g.0) (λ f g. refl) xs)
