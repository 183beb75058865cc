use Rattle.std.proofs.Common.{◌≡◌, [], take, slice_index_or}
use Rattle.rows.proofs.rows.Rows.row.Given as goal

abbrev pub invariant-loop-column : goal.invariant-loop-column
invariant-loop-column l = l.copy ≡ take l.column (slice_index_or l.self l.row [])
