use Rattle.std.proofs.Common.{◌≡◌}
use Rattle.nq_model.specs.Numberings.{count_from}
use Rattle.sql_eval.proofs.row_numbers.first_places.Given as goal

abbrev pub invariant-loop-place : goal.invariant-loop-place
invariant-loop-place l = l.places.items ≡ count_from 0 l.place
