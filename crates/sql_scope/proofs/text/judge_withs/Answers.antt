use Rattle.std.proofs.Common.{◌∙◌, map, sym}
use Rattle.sql_profile.specs.Scope.{judge_withs}
use Rattle.sql_profile.specs.Trees.{placed_with}
use Rattle.sql_scope.specs.Steps.{Faults}
use Rattle.sql_scope.proofs.Turns.{handed_on, nothing_found, withs_faulty, withs_go_on, withs_twice}
use Rattle.sql_scope.proofs.text.judge_withs.Goals as goal

pub returns-then-is_some-clause-err : goal.returns-then-is_some-clause-err
returns-then-is_some-clause-err c =
    withs_twice (λ columns. columns.now) c.find.result c.loop-with.tables c.args.withs.now c.loop-with.with-index c.with-item.result _ c.loop-with-test.true c.with-item.is c.loop-with.invariant c.find.ensures (sym c.is_some.ensures ∙ c.if-is_some.true)

pub returns-in_err-columns-clause-err : goal.returns-in_err-columns-clause-err
returns-in_err-columns-clause-err c =
    handed_on c.from_residual.result c.in_err-columns.field-0.0 (Faults (judge_withs c.args.tables (map placed_with c.args.withs.now))) c.from_residual.ensures.1
    (withs_faulty (λ columns. columns.now) c.find.result c.loop-with.tables c.args.withs.now c.loop-with.with-index c.with-item.result _ c.in_err-columns.field-0.0 c.loop-with-test.true c.with-item.is c.loop-with.invariant c.find.ensures
    (sym c.is_some.ensures ∙ c.if-is_some.false) c.in_err-columns.ensures)

pub with-requires : goal.with-requires
with-requires c = nothing_found c.find.result _ c.find.ensures (sym c.is_some.ensures ∙ c.if-is_some.false)

pub loop-with-preserved : goal.loop-with-preserved
loop-with-preserved c =
    withs_go_on (λ columns. columns.now) c.find.result c.loop-with.tables c.in_ok-tables.tables c.args.withs.now c.loop-with.with-index c.with-item.result _ c.in_ok-columns.columns c.loop-with-test.true c.with-item.is c.loop-with.invariant
    c.find.ensures (sym c.is_some.ensures ∙ c.if-is_some.false) c.in_ok-columns.ensures c.in_ok-tables.ensures
