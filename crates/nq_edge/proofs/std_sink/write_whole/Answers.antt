use Rattle.std.proofs.Common.{arith}
use Rattle.std.proofs.lemmas.Grind.{common_steps}
use Rattle.nq_edge.proofs.Streams.{writes_more}
use Rattle.nq_edge.proofs.std_sink.write_whole.Goals as goal

pub writes-preserved : goal.writes-preserved
writes-preserved g c =
    writes_more _ _ _ _ _ _ c.in-Ok.count c.writes.invariant c.in-Ok.ensures.bytes (grind (arith, common_steps))
