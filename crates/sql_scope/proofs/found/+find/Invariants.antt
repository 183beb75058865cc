use Rattle.std.proofs.Common.{◌≡◌, [], drop, map}
use Rattle.sql_profile.specs.Trees.{placed_link}
use Rattle.sql_scope.specs.Found.{items_found, keys_found}
use Rattle.sql_scope.specs.Parts.{further_found, links_found}
use Rattle.sql_scope.specs.Steps.{aliases_in, placed_items, placed_keys}
use Rattle.sql_scope.proofs.FoundTurns.{items_left}
use Rattle.sql_scope.proofs.found.+find.Given as goal

abbrev pub invariant-find_links-loop-link : goal.invariant-find_links-loop-link
invariant-find_links-loop-link l =
    links_found l.tables (aliases_in l.scope) l.op l.initial.given (map placed_link l.links)
    ≡ links_found l.tables (aliases_in l.scope) l.op l.given
    (map placed_link (drop l.link-index l.links))

abbrev pub invariant-find_others-loop-select : goal.invariant-find_others-loop-select
invariant-find_others-loop-select l =
    further_found l.tables (aliases_in l.scope) l.first l.others
    ≡ further_found l.tables (aliases_in l.scope) l.first (drop l.select-index l.others)

abbrev pub invariant-find_items-loop-item : goal.invariant-find_items-loop-item
invariant-find_items-loop-item l =
    items_found l.tables (aliases_in l.scope) [] (placed_items l.items)
    ≡ items_left l.tables (aliases_in l.scope) l.columns (drop l.item-index l.items)

abbrev pub invariant-find_keys-loop-key : goal.invariant-find_keys-loop-key
invariant-find_keys-loop-key l =
    keys_found l.tables (aliases_in l.scope) (placed_keys l.keys)
    ≡ keys_found l.tables (aliases_in l.scope) (placed_keys (drop l.key-index l.keys))
