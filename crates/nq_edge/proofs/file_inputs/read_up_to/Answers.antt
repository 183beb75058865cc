use Rattle.std.proofs.Common.{◌++◌, take, arith}
use Rattle.std.proofs.KnownBytes.{Consumes-trans}
use Rattle.std.proofs.lemmas.Grind.{common_steps}
use Rattle.nq_edge.proofs.file_inputs.read_up_to.Goals as goal

pub returns-in_err-extend_from_slice-clause-takes : goal.returns-in_err-extend_from_slice-clause-takes
returns-in_err-extend_from_slice-clause-takes g c =
    (c.reads.bytes ++ take c.in-Ok.count c.read.new.buf, grind (arith, common_steps), Consumes-trans _ _ _ _ _ c.reads.invariant.1 c.in-Ok.ensures.bytes.0)
