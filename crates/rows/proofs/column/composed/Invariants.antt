use Rattle.std.proofs.Common.{◌≡◌, ◌++◌, map, take, drop, slice_index_or}
use Rattle.rows.proofs.column.composed.Given as goal

abbrev pub invariant-loop-index : goal.invariant-loop-index
invariant-loop-index l = l.at.items
    ≡ map (λ place. slice_index_or l.places place 0) (take l.index l.initial.at.items)
    ++ drop l.index l.initial.at.items
