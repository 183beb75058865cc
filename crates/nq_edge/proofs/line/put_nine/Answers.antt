use Rattle.nq_edge.proofs.Lines.{put_then}
use Rattle.nq_edge.proofs.line.put_nine.Goals as goal

pub returns-in-Ok : goal.returns-in-Ok
returns-in-Ok g c = put_then _ _ _ _ _ _ _ _ c.in-Ok.ensures.appends c.in-Ok.ensures.counts c.put_eight.ensures
