use Rattle.std.proofs.Common.{rules, Bor, ap, sym, ◌∙◌, map}
use Rattle.std.proofs.lemmas.Cmp.{nat_cmp_total}
use Rattle.std.proofs.lemmas.List.Sorted.{ranks_by, answers_always}
use Rattle.nq_ir.proofs.Nested.{map_of_map}
use Rattle.nq_ir.specs.Lets.{by_parent}
use Rattle.nq_ir.specs.Spots.{strand_tree}
use Rattle.nq_ir.specs.declared.shredded.Strand.{Strand}
use Rattle.let_insert.proofs.Sorts.{parents_sorted}
use Rattle.let_insert.proofs.order.in_parent_order.Goals as goal

pub returns : goal.returns
returns c =
    let rank = ranks_by nat_cmp_total (λ (d : Bor Strand). d.now.parent) in
    parents_sorted (λ (d : Bor Strand). d.now) c.in_ok-sorted.sorted.items c.sort_by.new.self.items
    (c.in_ok-sort_by.ensures.stable _ rank (answers_always _ _ _ (λ f a r g h. search rules)))
    (c.in_ok-sort_by.ensures.sorted _ rank (answers_always _ _ _ (λ f a r g h. search rules)))
    ∙ ap by_parent (sym (map_of_map strand_tree (λ (d : Bor Strand). d.now) c.in_ok-sorted.sorted.items) ∙ ap (map strand_tree) c.in_ok-sorted.ensures)
