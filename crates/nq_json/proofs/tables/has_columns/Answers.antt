use Rattle.std.proofs.Common.{sym, ap, not, ◌∙◌}
use Rattle.serde_json.specs.View.{members_view}
use Rattle.nq_json.proofs.CellFacts.{column_found, column_lacking, found_is}
use Rattle.nq_json.proofs.tables.has_columns.Goals as goal

pub returns-then-is_none : goal.returns-then-is_none
returns-then-is_none c =
    let found = rw c.as_str.ensures.value at c.member_under.ensures in
    sym (c.loop-column.invariant ∙ column_lacking c.args.columns.now c.loop-column.column-index c.column-item.result c.loop-column-test.true c.column-item.is (members_view c.args.members.now.entries)
    (found_is c.member_under.result _ found ∙ c.is_none.ensures ∙ ap not c.if-is_none.true))

pub loop-column-preserved : goal.loop-column-preserved
loop-column-preserved c =
    let found = rw c.as_str.ensures.value at c.member_under.ensures in
    c.loop-column.invariant ∙ column_found c.args.columns.now c.loop-column.column-index c.column-item.result c.loop-column-test.true c.column-item.is (members_view c.args.members.now.entries)
    (found_is c.member_under.result _ found ∙ c.is_none.ensures ∙ ap not c.if-is_none.false)
