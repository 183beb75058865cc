use Rattle.std.proofs.Common.{ℕ, rules}
use Rattle.std.proofs.lemmas.Fn.{always_returns_same}
use Rattle.std.proofs.lemmas.List.Sorted.{ranks_by, IsPermutation-trans}
use Rattle.nq_model.specs.Values.{Nested}
use Rattle.nq_model.proofs.Canonical.{value_order}
use Rattle.rows.specs.Places.{row_at}
use Rattle.answer_text.specs.Parts.{value_in}
use Rattle.answer_text.proofs.order.sort_run.Goals as goal

pub returns-clause-permutation : goal.returns-clause-permutation
returns-clause-permutation c
    = IsPermutation-trans _ _ _ c.in_ok-sort_by_cells.ensures c.sort_unstable_by.ensures.permutation

pub returns-clause-sorted : goal.returns-clause-sorted
returns-clause-sorted c =
    let key : ℕ → Nested = λ place. value_in c.args.element.now (row_at c.args.rows.now place) in
    c.sort_unstable_by.ensures.sorted _ (ranks_by value_order.total key)
    (always_returns_same _ _ _ (λ a r f h. (search rules, search rules)))
