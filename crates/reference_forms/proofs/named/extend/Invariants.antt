use Rattle.std.proofs.Common.{◌≡◌, ◌++◌, take}
use Rattle.reference_forms.proofs.named.extend.Given as goal

abbrev pub invariant-loop-standing : goal.invariant-loop-standing
invariant-loop-standing l = l.env ≡ l.initial.env ++ take l.standing-index l.more
