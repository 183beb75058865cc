use Rattle.sql_scope.specs.Steps.{Faults, bounds}
use Rattle.sql_profile.specs.Scope.{judge_sources}
use Rattle.std.proofs.Common.{[]}
use Rattle.sql_scope.proofs.Turns.{handed_on, sources_faulty, sources_go_on}
use Rattle.sql_scope.proofs.walk.judge_sources.Goals as goal

pub returns-in_err-columns-clause-err : goal.returns-in_err-columns-clause-err
returns-in_err-columns-clause-err c =
    handed_on c.from_residual-in_err-columns.result c.in_err-columns.field-0.0 (Faults (judge_sources c.args.tables.now [] c.args.sources.now)) c.from_residual-in_err-columns.ensures.1
    (sources_faulty c.args.tables.now (bounds c.loop-source.own) c.args.sources.now c.loop-source.source-index c.source-item.result c.in_err-columns.field-0.0 c.loop-source-test.true c.source-item.is c.loop-source.invariant
    c.in_err-columns.ensures.err)

pub loop-source-preserved : goal.loop-source-preserved
loop-source-preserved c =
    sources_go_on c.args.tables.now c.loop-source.own c.in_ok-own-2.own c.in_ok-columns.columns c.args.sources.now c.loop-source.source-index c.source-item.result _ c.loop-source-test.true c.source-item.is c.loop-source.invariant
    c.in_ok-columns.ensures.ok c.in_ok-own-2.ensures
