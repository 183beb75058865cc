use Rattle.std.proofs.Common.{◌≡◌, map, take}
use Rattle.let_insert.proofs.lets.parents_of.Given as goal

abbrev pub invariant-loop-around : goal.invariant-loop-around
invariant-loop-around l = l.parents.items ≡ map (λ a. a.parent) (take l.around-index l.lets)
