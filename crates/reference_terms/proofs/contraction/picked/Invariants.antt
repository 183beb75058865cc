use Rattle.std.proofs.Common.{◌≡◌, drop}
use Rattle.nq_model.specs.Terms.{placed_fields}
use Rattle.nq_model.specs.Unfolding.{picked}
use Rattle.reference_terms.proofs.contraction.picked.Given as goal

abbrev pub invariant-loop-field : goal.invariant-loop-field
invariant-loop-field l = picked l.label (placed_fields (drop l.field-index l.fields)) ≡ picked l.label (placed_fields l.fields)
