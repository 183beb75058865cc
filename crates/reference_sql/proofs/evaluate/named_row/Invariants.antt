use Rattle.std.proofs.Common.{◌≡◌, ◌++◌, drop, zip}
use Rattle.reference_sql.proofs.evaluate.named_row.Given as goal

abbrev pub invariant-loop-i : goal.invariant-loop-i
invariant-loop-i l = l.fields ++ zip (drop l.i l.names) (drop l.i l.row) ≡ zip l.names l.row
