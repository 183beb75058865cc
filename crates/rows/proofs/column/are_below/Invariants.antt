use Rattle.std.proofs.Common.{◌<◌, All, take}
use Rattle.rows.proofs.column.are_below.Given as goal

abbrev pub invariant-loop-place : goal.invariant-loop-place
invariant-loop-place l = All (λ place. place < l.end) (take l.place-index l.places)
