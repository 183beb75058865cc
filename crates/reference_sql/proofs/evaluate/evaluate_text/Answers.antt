use Rattle.std.proofs.Common.{rules}
use Rattle.reference_sql.proofs.Evaluating.{begins, goes_on, ends}
use Rattle.reference_sql.proofs.evaluate.evaluate_text.Goals as goal

pub loop-with-init : goal.loop-with-init
loop-with-init c = begins c.args.held.now c.args.text.now c.in_ok-tables.tables (search rules)

pub loop-with-preserved : goal.loop-with-preserved
loop-with-preserved c =
    goes_on c.args.held.now c.args.text.now c.loop-with.tables c.in_ok-tables-2.tables c.loop-with.with-index c.with-item.result c.in_ok-list.list c.in_ok-rows.rows
    (search rules) (search rules) c.loop-with.invariant (search rules) (search rules) (search rules)

pub returns : goal.returns
returns c = ends c.args.held.now c.args.text.now c.loop-with.tables c.loop-with.with-index c.in_ok-rows-2.rows (search rules) c.loop-with.invariant (search rules)
