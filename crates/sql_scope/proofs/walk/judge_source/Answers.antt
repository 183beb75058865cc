use Rattle.std.proofs.Common.{◌∙◌, sym}
use Rattle.sql_scope.proofs.Turns.{source_judged}
use Rattle.sql_scope.proofs.walk.judge_source.Goals as goal

pub returns-then-is_some-clause-err : goal.returns-then-is_some-clause-err
returns-then-is_some-clause-err c =
    source_judged c.args.tables.now c.args.earlier.now c.args.source.now c.in-Some.columns.now c.get.result _ c.in-Some.ensures c.get.ensures (sym c.is_some.ensures ∙ c.if-is_some.true)

pub returns-clause-ok : goal.returns-clause-ok
returns-clause-ok c =
    source_judged c.args.tables.now c.args.earlier.now c.args.source.now c.in-Some.columns.now c.get.result _ c.in-Some.ensures c.get.ensures (sym c.is_some.ensures ∙ c.if-is_some.false)
