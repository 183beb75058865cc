use Rattle.std.proofs.Common.{◌≡◌, take}
use Rattle.reference_forms.proofs.named.copy_row.Given as goal

abbrev pub invariant-loop-named : goal.invariant-loop-named
invariant-loop-named l = l.copy ≡ take l.named-index l.row
