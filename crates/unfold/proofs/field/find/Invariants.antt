use Rattle.std.proofs.Common.{◌≡◌, drop}
use Rattle.nq_model.specs.Terms.{placed_fields}
use Rattle.nq_model.specs.Unfolding.{picked}
use Rattle.unfold.proofs.field.find.Given as goal

abbrev pub invariant-loop-i : goal.invariant-loop-i
invariant-loop-i l =
    picked l.label (placed_fields (drop l.i l.fields)) ≡ picked l.label (placed_fields l.fields)
