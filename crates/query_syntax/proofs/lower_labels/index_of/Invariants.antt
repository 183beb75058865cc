use Rattle.std.proofs.Common.{◌≡◌, ◌<◌, reverse, take, IfSome}
use Rattle.query_syntax.specs.Lowering.{index_of}
use Rattle.query_syntax.proofs.lower_labels.index_of.Given as goal

abbrev pub invariant-loop-binder : goal.invariant-loop-binder
invariant-loop-binder l = record {
  so_far : l.found ≡ index_of l.name (reverse (take l.binder-index l.scope));
  small : IfSome l.found (λ k. k < l.binder-index);
}
