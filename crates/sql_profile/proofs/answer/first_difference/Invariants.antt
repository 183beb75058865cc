use Rattle.std.proofs.Common.{◌≡◌, [], map, take, slice_index_or}
use Rattle.nq_model.specs.Cells.{column_type_of}
use Rattle.sql_profile.proofs.answer.first_difference.Given as goal

abbrev pub invariant-loop-place : goal.invariant-loop-place
invariant-loop-place l = take l.place (map column_type_of (slice_index_or l.rows l.row [])) ≡ take l.place l.columns
