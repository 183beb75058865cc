use Rattle.std.proofs.Common.{◌∙◌, sym}
use Rattle.row_order.proofs.Ranking.{past_end}
use Rattle.row_order.proofs.heads.head_behind.Goals as goal

pub returns-then-i-text : goal.returns-then-i-text
returns-then-i-text c = sym (past_end c.args.floor c.args.last c.args.prefix.now c.args.text.now c.loop-i.i c.loop-i-test.true c.if-i-text.true) ∙ c.loop-i.invariant.rest
