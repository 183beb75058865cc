use Rattle.std.proofs.Common.{◌≡◌, [], drop}
use Rattle.sql_profile.specs.Scope.{judge_keys, judge_query}
use Rattle.sql_profile.specs.Trees.{placed_query}
use Rattle.sql_scope.specs.Steps.{aliases_in, placed_keys}
use Rattle.sql_scope.proofs.Chains.{links_left}
use Rattle.sql_scope.proofs.Walks.{items_left, selects_left}
use Rattle.sql_scope.proofs.walk.+judge.Given as goal

abbrev pub invariant-judge_query-loop-select : goal.invariant-judge_query-loop-select
invariant-judge_query-loop-select l =
    selects_left l.tables (aliases_in l.scope) l.first (drop l.select-index l.select-items) ≡ judge_query l.tables (aliases_in l.scope) (placed_query l.query)

abbrev pub invariant-judge_items-loop-item : goal.invariant-judge_items-loop-item
invariant-judge_items-loop-item l =
    items_left l.tables (aliases_in l.scope) l.columns (drop l.item-index l.items) ≡ items_left l.tables (aliases_in l.scope) [] l.items

abbrev pub invariant-judge_keys-loop-key : goal.invariant-judge_keys-loop-key
invariant-judge_keys-loop-key l =
    judge_keys l.tables (aliases_in l.scope) (placed_keys (drop l.key-index l.keys)) ≡ judge_keys l.tables (aliases_in l.scope) (placed_keys l.keys)

abbrev pub invariant-judge_links-loop-link : goal.invariant-judge_links-loop-link
invariant-judge_links-loop-link l =
    links_left l.tables (aliases_in l.scope) l.op l.given (drop l.link-index l.links) ≡ links_left l.tables (aliases_in l.scope) l.op l.initial.given l.links
