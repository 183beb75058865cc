use Rattle.std.proofs.Common.{rules}
use Rattle.std.proofs.lemmas.List.Sorted.{ranks_by, answers_always}
use Rattle.nq_model.specs.Values.{nested}
use Rattle.nq_model.specs.Canonical.{value_cmp}
use Rattle.nq_model.proofs.Canonical.{value_order}
use Rattle.canon.proofs.Sorting.{sorted_by_key}
use Rattle.canon.proofs.sort.put_in_order.Goals as goal

pub returns : goal.returns
returns c =
    sorted_by_key value_cmp nested value_order _ _ c.sort_unstable_by.ensures.permutation
    (c.sort_unstable_by.ensures.sorted _ (ranks_by value_order.total nested)
    (answers_always _ _ _ (λ f a r g h. search rules)))
