-- Strands sorted by their parents.
use Rattle.std.proofs.Common.{◌≡◌, List, map, refl, ap, sym, ◌∙◌}
use Rattle.std.specs.Ordering.{is_lt, nat_cmp}
use Rattle.std.specs.Cmp.{IsTotalOrder}
use Rattle.std.specs.List.Sorted.{IsSortedBy, IsStableBy}
use Rattle.std.proofs.lemmas.Cmp.{nat_cmp_total}
use Rattle.nq_ir.specs.Lets.{by_parent}
use Rattle.nq_ir.specs.Spots.{StrandTree, strand_tree}
use Rattle.nq_ir.specs.declared.shredded.Strand.{Strand}
use Rattle.nq_model.proofs.Orders.{sorted_mapped}
use Rattle.nq_model.proofs.StableSorts.{stable_sort}

module _ {R : Type 0} (strand : R → Strand) where
  parents_total : IsTotalOrder (λ d e. nat_cmp (strand d).parent (strand e).parent)
  parents_total = record {
    antisymm = λ d e. nat_cmp_total.antisymm (strand d).parent (strand e).parent;
    trans = λ d e f p q. nat_cmp_total.trans (strand d).parent (strand e).parent (strand f).parent p q;
    congr = λ d e f p. nat_cmp_total.congr (strand d).parent (strand e).parent (strand f).parent p;
  }

  -- what a stable sort by parents gives
  pub parents_sorted : (xs ys : List R) → IsStableBy (λ d e. is_lt (nat_cmp (strand d).parent (strand e).parent)) xs ys → IsSortedBy (λ d e. is_lt (nat_cmp (strand d).parent (strand e).parent)) ys → map (λ d. strand_tree (strand d)) ys ≡ by_parent (map (λ d. strand_tree (strand d)) xs)
  parents_sorted xs ys stable up =
      ap (map (λ d. strand_tree (strand d))) (stable_sort (λ d e. nat_cmp (strand d).parent (strand e).parent) parents_total xs ys stable up)
      ∙ sym (sorted_mapped (λ d. strand_tree (strand d)) (λ d e. nat_cmp (strand d).parent (strand e).parent) (λ (d e : StrandTree). nat_cmp d.parent e.parent) (λ d e. refl) xs)
