use Rattle.std.proofs.Common.{◌≡◌, ◌++◌}
use Rattle.natural_index.proofs.exprs.append.Given as goal

abbrev pub invariant-loop-expr : goal.invariant-loop-expr
invariant-loop-expr l = l.all ≡ l.initial.all ++ l.yielded
