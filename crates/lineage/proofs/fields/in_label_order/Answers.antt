use Rattle.std.proofs.Common.{rules, ◌∙◌}
use Rattle.std.proofs.lemmas.List.Sorted.{answers_always}
use Rattle.lineage.proofs.Sorts.{labels_sorted, label_rank}
use Rattle.lineage.proofs.fields.in_label_order.Goals as goal

pub returns : goal.returns
returns g c =
    c.from_vec.ensures ∙ labels_sorted c.args.fields.items c.sort_by.new.self.items
    (c.in_ok-sort_by.ensures.stable _ label_rank (answers_always _ _ _ (λ f a r h k. search rules)))
    (c.in_ok-sort_by.ensures.sorted _ label_rank (answers_always _ _ _ (λ f a r h k. search rules)))
