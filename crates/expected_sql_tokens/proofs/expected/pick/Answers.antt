use Rattle.std.proofs.Common.{map, refl}
use Rattle.std.specs.Prelude.{get_or}
use Rattle.sql_reader.specs.Symbols.{token_view}
use Rattle.expected_sql_tokens.specs.declared.kinds.SqlTokenKind.TheVariants as kinds
use Rattle.expected_sql_tokens.proofs.Picking.{picks_turn}
use Rattle.expected_sql_tokens.proofs.expected.pick.Goals as goal

pub loop-kind-preserved : goal.loop-kind-preserved
loop-kind-preserved c =
    let table = c.args.table.now in
    let n = c.loop-kind.kind-index in
    picks_turn c.args.depth (map token_view c.args.before.now) c.in_ok-goes.goes table
    c.loop-kind.kinds c.push_if.new.kinds n (get_or table n kinds.With) kinds.With
    c.loop-kind-test.true refl c.loop-kind.invariant c.in_ok-goes.ensures c.in_ok-push_if.ensures
