use Rattle.std.proofs.Common.{◌≡◌, take}
use Rattle.row_order.specs.Runs.{places_of}
use Rattle.row_order.proofs.ranks.unranked.Given as goal

abbrev pub invariant-loop-place : goal.invariant-loop-place
invariant-loop-place l = places_of l.ranks.items ≡ take l.place-index l.places
