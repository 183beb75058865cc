use Rattle.std.proofs.Common.{◌≡◌, ◌≤◌, take}
use Rattle.std.specs.List.{suffix_len}
use Rattle.diagnostics.specs.Lines.{is_no_feed}
use Rattle.diagnostics.proofs.lines.behind_feed.Given as goal

abbrev pub invariant-loop-byte : goal.invariant-loop-byte
invariant-loop-byte l = (l.count ≡ suffix_len is_no_feed (take l.byte-index l.bytes))
    × (l.count ≤ l.byte-index)
