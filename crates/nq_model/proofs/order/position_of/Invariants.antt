use Rattle.std.proofs.Common.{◌≡◌, ◌++◌, take, drop, map}
use Rattle.nq_model.specs.Orders.{put_by, place_cmp}
use Rattle.nq_model.proofs.order.position_of.Given as goal

abbrev pub invariant-loop-at : goal.invariant-loop-at
invariant-loop-at g l =
    take l.at l.places ++ put_by (place_cmp (map (λ field. field.0) l.fields)) l.place (drop l.at l.places)
    ≡ put_by (place_cmp (map (λ field. field.0) l.fields)) l.place l.places
