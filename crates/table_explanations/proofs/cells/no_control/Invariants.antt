use Rattle.std.proofs.Common.{◌≡◌, drop}
use Rattle.table_explanations.specs.Lines.{no_control}
use Rattle.table_explanations.proofs.cells.no_control.Given as goal

abbrev pub invariant-loop-byte : goal.invariant-loop-byte
invariant-loop-byte l = no_control (drop l.byte-index l.bytes) ≡ no_control l.bytes
