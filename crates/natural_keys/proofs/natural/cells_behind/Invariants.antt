use Rattle.std.proofs.Common.{◌≡◌, ◌+◌, drop, take, slice_index_or, []}
use Rattle.natural_keys.proofs.natural.cells_behind.Given as goal

abbrev pub invariant-loop-at : goal.invariant-loop-at
invariant-loop-at l = l.cells ≡ take l.at (drop (l.place + 1) (slice_index_or l.rows l.row []))
