-- Strands sorted by their tags, and by their parents.
use Rattle.std.proofs.Common.{◌≡◌, List, map, refl, ap, sym, ◌∙◌}
use Rattle.std.specs.Ordering.{is_lt, nat_cmp}
use Rattle.std.specs.Cmp.{IsTotalOrder}
use Rattle.std.specs.List.Sorted.{IsSortedBy, IsStableBy}
use Rattle.std.proofs.lemmas.Cmp.{nat_cmp_total}
use Rattle.nq_ir.specs.Spots.{StrandTree, by_tag, strand_tree}
use Rattle.nq_ir.specs.declared.shredded.Strand.{Strand}
use Rattle.nq_model.proofs.Orders.{sorted_mapped}
use Rattle.nq_model.proofs.StableSorts.{stable_sort}

tags_total : IsTotalOrder (λ (d e : Strand). nat_cmp d.tag e.tag)
tags_total = record {
  antisymm = λ d e. nat_cmp_total.antisymm d.tag e.tag;
  trans = λ d e f p q. nat_cmp_total.trans d.tag e.tag f.tag p q;
  congr = λ d e f p. nat_cmp_total.congr d.tag e.tag f.tag p;
}

-- what a stable sort by tags gives
pub tags_sorted : (xs ys : List Strand) → IsStableBy (λ (d e : Strand). is_lt (nat_cmp d.tag e.tag)) xs ys → IsSortedBy (λ (d e : Strand). is_lt (nat_cmp d.tag e.tag)) ys → map strand_tree ys ≡ by_tag (map strand_tree xs)
tags_sorted xs ys stable up =
    ap (map strand_tree) (stable_sort (λ (d e : Strand). nat_cmp d.tag e.tag) tags_total xs ys stable up)
    ∙ sym (sorted_mapped strand_tree (λ (d e : Strand). nat_cmp d.tag e.tag) (λ (d e : StrandTree). nat_cmp d.tag e.tag) (λ d e. refl) xs)
