use Rattle.std.proofs.Common.{◌+◌, ◌-◌, ◌≤◌, length}
use Rattle.std.specs.Io.KnownBytes.{Consumes}
use Rattle.nq_edge.proofs.file_inputs.read_up_to.Given as goal

abbrev pub invariant-reads : goal.invariant-reads
invariant-reads g l = (length l.bytes ≤ l.limit + 1) × Consumes (g.F.Read.remaining l.initial.source) (g.F.Read.remaining l.source) l.bytes

abbrev pub decreases-reads : goal.decreases-reads
decreases-reads g l = l.limit + 1 - length l.bytes
