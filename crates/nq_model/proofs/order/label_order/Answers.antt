use Rattle.std.proofs.Common.{◌<◌, ◌-◌, map, length, arith}
use Rattle.nq_model.specs.Orders.{place_cmp}
use Rattle.nq_model.proofs.Orders.{places_more, All-inserted}
use Rattle.nq_model.proofs.order.label_order.Goals as goal

pub loop-place-preserved : goal.loop-place-preserved
loop-place-preserved g c =
    let cmp = place_cmp (map (λ field. field.0) c.args.fields.now) in
    let put = rw c.as_slice.ensures.value at c.position_of-at.ensures.put in
    record {
      within = omega arith;
      order = places_more cmp c.loop-place.place (length c.args.fields.now) c.position_of-at.result c.loop-place.order.items _ c.loop-place-test.true c.loop-place.invariant.within c.in_ok-insert.ensures.items put c.loop-place.invariant.order;
      below = All-inserted (λ place. place < length c.args.fields.now) c.loop-place.order.items _ c.position_of-at.result (c.loop-place.place - 1) c.in_ok-insert.ensures.items (omega arith) c.loop-place.invariant.below;
    }
