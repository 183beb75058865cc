use Rattle.std.proofs.Common.{ℕ, List, ◌∷◌, rules}
use Rattle.std.proofs.lemmas.Fn.{always_returns_same}
use Rattle.std.proofs.lemmas.List.Sorted.{IsPermutation-map, ranks_by}
use Rattle.nq_model.specs.declared.table.Cell.{Cell}
use Rattle.rows.specs.Places.{row_at}
use Rattle.row_order.specs.declared.ranks.Ranked.{Ranked}
use Rattle.row_order.specs.Keys.{key_of}
use Rattle.row_order.proofs.Refining.{keys_total}
use Rattle.row_order.proofs.runs.sort_by_cells.Goals as goal

pub returns-clause-permutation : goal.returns-clause-permutation
returns-clause-permutation c =
    let place : Ranked → ℕ = λ ranked. ranked.place in
    IsPermutation-map place c.args.ranks.now c.sort_unstable_by.new.self c.sort_unstable_by.ensures.permutation

pub returns-clause-sorted : goal.returns-clause-sorted
returns-clause-sorted c =
    let key : Ranked → List Cell = λ ranked. key_of (c.args.column ∷ c.args.later.now) (row_at c.args.rows.now ranked.place) in
    c.sort_unstable_by.ensures.sorted _ (ranks_by keys_total key) (always_returns_same _ _ _ (λ a r f h. (search rules, search rules)))
