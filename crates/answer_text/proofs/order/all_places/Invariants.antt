use Rattle.std.proofs.Common.{◌≡◌}
use Rattle.nq_model.specs.Numberings.{count_from}
use Rattle.answer_text.proofs.order.all_places.Given as goal

abbrev pub invariant-loop-place : goal.invariant-loop-place
invariant-loop-place l = l.places.items ≡ count_from 0 l.place
