use Rattle.std.proofs.Common.{◌≡◌, map, take}
use Rattle.nq_model.specs.Tables.{names_of, row_record}
use Rattle.nq_model.specs.Values.{nested}
use Rattle.reference_terms.proofs.tables.table_value.Given as goal

abbrev pub invariant-loop-row : goal.invariant-loop-row
invariant-loop-row l = map nested l.records ≡ map (row_record (names_of l.columns)) (take l.row l.rows)
