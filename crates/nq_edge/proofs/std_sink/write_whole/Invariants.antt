use Rattle.std.proofs.Common.{length}
use Rattle.nq_edge.specs.Streams.{WritesBefore}
use Rattle.nq_edge.proofs.std_sink.write_whole.Given as goal

abbrev pub invariant-writes : goal.invariant-writes
invariant-writes g l = WritesBefore (g.W.Write.contents l.initial.to) (g.W.Write.contents l.to) l.bytes l.rest

abbrev pub decreases-writes : goal.decreases-writes
decreases-writes g l = length l.rest
