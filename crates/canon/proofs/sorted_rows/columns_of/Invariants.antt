use Rattle.std.proofs.Common.{◌≡◌}
use Rattle.nq_model.specs.Numberings.{count_from}
use Rattle.canon.proofs.sorted_rows.columns_of.Given as goal

abbrev pub invariant-loop-column : goal.invariant-loop-column
invariant-loop-column l = l.columns.items ≡ count_from 0 l.column
