use Rattle.std.proofs.Common.{◌≡◌, map, take}
use Rattle.nq_model.specs.Types.{fields_view}
use Rattle.nq_model.specs.Tables.{base_type}
use Rattle.nq_types.proofs.tables.table_type.Given as goal

abbrev pub invariant-loop-column : goal.invariant-loop-column
invariant-loop-column l = fields_view l.fields ≡ map (λ column. (column.0, base_type column.1)) (take l.column-index l.columns)
