use Rattle.nq_ir.proofs.TypedStrands.{strands_typed}
use Rattle.nq_ir.proofs.normal_laws.strand_laws.Goals as goal

pub returns : goal.returns
returns c = record { typed = strands_typed }
