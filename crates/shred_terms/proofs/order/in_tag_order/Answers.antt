use Rattle.std.proofs.Common.{rules}
use Rattle.std.proofs.lemmas.Cmp.{nat_cmp_total}
use Rattle.std.proofs.lemmas.List.Sorted.{ranks_by, answers_always}
use Rattle.nq_ir.specs.declared.shredded.Strand.{Strand}
use Rattle.shred_terms.proofs.Sorts.{tags_sorted}
use Rattle.shred_terms.proofs.order.in_tag_order.Goals as goal

pub returns : goal.returns
returns c =
    let rank = ranks_by nat_cmp_total (λ (d : Strand). d.tag) in
    rw (c.from_vec.ensures, ← c.into_vec-sorted.ensures) (tags_sorted c.into_vec-sorted.result.items c.sort_by.new.self.items
    (c.in_ok-sort_by.ensures.stable _ rank (answers_always _ _ _ (λ f a r g h. search rules)))
    (c.in_ok-sort_by.ensures.sorted _ rank (answers_always _ _ _ (λ f a r g h. search rules))))
