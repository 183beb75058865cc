use Rattle.std.proofs.Common.{◌≡◌, take, count_by}
use Rattle.diagnostics.specs.Lines.{is_feed}
use Rattle.diagnostics.proofs.lines.feeds.Given as goal

abbrev pub invariant-loop-byte : goal.invariant-loop-byte
invariant-loop-byte l = l.count ≡ count_by is_feed (take l.byte-index l.bytes)
