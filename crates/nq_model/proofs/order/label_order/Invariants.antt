use Rattle.std.proofs.Common.{◌≡◌, ◌≤◌, ◌<◌, ◌-◌, map, length, All}
use Rattle.std.specs.List.{range_with_len}
use Rattle.nq_model.specs.Orders.{sorted_by, place_cmp}
use Rattle.nq_model.proofs.order.label_order.Given as goal

abbrev pub invariant-loop-place : goal.invariant-loop-place
invariant-loop-place g l = record {
  within : l.place ≤ length l.fields;
  order : l.order.items ≡ sorted_by (place_cmp (map (λ field. field.0) l.fields)) (range_with_len l.place (length l.fields - l.place));
  below : All (λ place. place < length l.fields) l.order.items;
}

abbrev pub decreases-loop-place : goal.decreases-loop-place
decreases-loop-place g l = l.place
