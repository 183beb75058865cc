use Rattle.std.proofs.Common.{◌∙◌, sym}
use Rattle.sql_profile.specs.Trees.{placed_query}
use Rattle.sql_scope.proofs.FoundOperands.{told}
use Rattle.sql_scope.proofs.FoundTurns.{with_again, with_stops, withs_go_on}
use Rattle.sql_scope.proofs.Turns.{among_looked}
use Rattle.sql_scope.proofs.found.find_withs.Goals as goal

pub returns-then-is_some : goal.returns-then-is_some
returns-then-is_some c =
    c.nothing.ensures ∙ with_again c.loop-with.tables (placed_query c.args.text.now.main)
    c.as_slice-with-items.result.now c.loop-with.with-index c.with-item.result _
    c.loop-with-test.true c.with-item.is c.loop-with.invariant
    (among_looked c.with-item.result.name c.loop-with.tables c.find.result _ c.find.ensures
    (sym c.is_some.ensures ∙ c.if-is_some.true))

pub returns-in-Err-Broken : goal.returns-in-Err-Broken
returns-in-Err-Broken c =
    told c.find_whole.result _ _ c.find_whole.ensures
    (with_stops c.loop-with.tables (placed_query c.args.text.now.main)
    c.as_slice-with-items.result.now c.loop-with.with-index c.with-item.result _
    c.loop-with-test.true c.with-item.is c.loop-with.invariant c.in-Err-Broken.field-0-0
    c.in-Err-Broken.field-0-1
    (among_looked c.with-item.result.name c.loop-with.tables c.find.result _ c.find.ensures
    (sym c.is_some.ensures ∙ c.if-is_some.false))
    (rw c.in-Err-Broken.field-0-is at c.in-Err-Broken.ensures))

pub loop-with-preserved : goal.loop-with-preserved
loop-with-preserved c =
    withs_go_on c.loop-with.tables (placed_query c.args.text.now.main)
    c.as_slice-with-items.result.now c.loop-with.with-index c.with-item.result _
    c.loop-with-test.true c.with-item.is c.loop-with.invariant c.in-Ok.columns
    c.in_ok-tables.tables
    (among_looked c.with-item.result.name c.loop-with.tables c.find.result _ c.find.ensures
    (sym c.is_some.ensures ∙ c.if-is_some.false)) c.in-Ok.ensures c.in_ok-tables.ensures
