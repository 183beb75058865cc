use Rattle.std.proofs.Common.{rules}
use Rattle.std.proofs.lemmas.List.Sorted.{ranks_by, answers_always}
use Rattle.nq_model.proofs.Canonical.{label_order}
use Rattle.nq_model.specs.NamedRows.{Label}
use Rattle.normalise.specs.declared.raw.MovedBody.{MovedBody}
use Rattle.normalise.proofs.FieldFacts.{labels_sorted}
use Rattle.normalise.proofs.fields.in_label_order.Goals as goal

pub returns : goal.returns
returns c =
    let rank = ranks_by label_order.total (λ (f : Label × MovedBody). f.0) in
    rw (c.from_vec.ensures, ← c.into_vec-sorted.ensures) (labels_sorted c.into_vec-sorted.result.items c.sort_by.new.self.items
    (c.in_ok-sort_by.ensures.stable _ rank (answers_always _ _ _ (λ f a r g h. search rules)))
    (c.in_ok-sort_by.ensures.sorted _ rank (answers_always _ _ _ (λ f a r g h. search rules))))
