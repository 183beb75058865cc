use Rattle.sql_eval.proofs.Ranking.{counted_on}
use Rattle.sql_eval.proofs.row_numbers.first_columns.Goals as goal

pub loop-column-preserved : goal.loop-column-preserved
loop-column-preserved c =
    counted_on c.loop-column.columns.items c.push.new.self.items c.loop-column.column
    c.loop-column.invariant c.in_ok-push.ensures.items
