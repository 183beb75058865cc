use Rattle.std.proofs.Common.{◌≡◌, map, take}
use Rattle.let_insert.proofs.order.lent.Given as goal

abbrev pub invariant-loop-strand : goal.invariant-loop-strand
invariant-loop-strand l = map (λ d. d.now) l.refs.items ≡ take l.strand-index l.strands
