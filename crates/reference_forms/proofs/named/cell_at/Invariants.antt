use Rattle.std.proofs.Common.{◌≡◌, drop}
use Rattle.nq_ir.specs.Meanings.{row_of}
use Rattle.reference_forms.proofs.named.cell_at.Given as goal

abbrev pub invariant-loop-standing : goal.invariant-loop-standing
invariant-loop-standing l = row_of l.generator (drop l.standing-index l.env) ≡ row_of l.generator l.env
