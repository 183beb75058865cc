use Rattle.sql_eval.proofs.Ranking.{counted_on}
use Rattle.sql_eval.proofs.row_numbers.first_places.Goals as goal

pub loop-place-preserved : goal.loop-place-preserved
loop-place-preserved c =
    counted_on c.loop-place.places.items c.push.new.self.items c.loop-place.place
    c.loop-place.invariant c.in_ok-push.ensures.items
