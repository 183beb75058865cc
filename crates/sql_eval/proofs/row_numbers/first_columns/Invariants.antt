use Rattle.std.proofs.Common.{◌≡◌}
use Rattle.nq_model.specs.Numberings.{count_from}
use Rattle.sql_eval.proofs.row_numbers.first_columns.Given as goal

abbrev pub invariant-loop-column : goal.invariant-loop-column
invariant-loop-column l = l.columns.items ≡ count_from 0 l.column
