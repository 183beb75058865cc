use Rattle.std.proofs.Common.{◌≡◌, take}
use Rattle.nq_model.specs.NamedRows.{named}
use Rattle.reference_sql.proofs.evaluate.named_rows.Given as goal

abbrev pub invariant-loop-row : goal.invariant-loop-row
invariant-loop-row l = l.listed ≡ named l.names (take l.row-index l.rows)
