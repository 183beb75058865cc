-- Indexes are equal where they tie, and their order is total: laws that their type states.
use Rattle.std.proofs.Common.{◌≡◌, refl, Some}
use Rattle.std.specs.Ordering.{int_cmp, int_eq, is_eq}
use Rattle.std.specs.Cmp.{IsEquivalence, IsPartialOrder, IsTotalOrder, both_tied, partial_order_from_agreeing_total}
use Rattle.std.specs.Cmp.Lexicographic.{pointwise, slice_cmp, lists_equiv, lists_ties, lists_total}
use Rattle.std.proofs.lemmas.Cmp.{on_equiv, and_equiv, int_eq_equiv, on_total, then_total, int_cmp_total}
use Rattle.nq_model.specs.Cells.{cell_cmp, cell_eq}
use Rattle.nq_model.specs.CellLaws.{cell_equivalence, cell_total, cells_equal}
use Rattle.natural_keys.specs.declared.index.KeyIndex.{KeyIndex}
use Rattle.natural_keys.specs.Indexes.{index_cmp, index_eq}

pub index_equivalence : IsEquivalence index_eq
index_equivalence = and_equiv (on_equiv (λ i. i.tag) int_eq_equiv)
    (on_equiv (λ i. i.cells) (lists_equiv cell_equivalence))

pub index_total : IsTotalOrder index_cmp
index_total = then_total (on_total (λ i. i.tag) int_cmp_total)
    (on_total (λ i. i.cells) (lists_total cell_total))

pub indexes_equal : (i j : KeyIndex) → index_eq i j ≡ is_eq (index_cmp i j)
indexes_equal i j = both_tied (int_eq i.tag j.tag) (pointwise cell_eq i.cells j.cells)
    (int_cmp i.tag j.tag) (slice_cmp cell_cmp i.cells j.cells) refl
    (lists_ties cell_cmp cells_equal i.cells j.cells)

pub index_partial_order : IsPartialOrder index_eq (λ i j. Some (index_cmp i j))
index_partial_order =
    partial_order_from_agreeing_total index_cmp index_total (λ i j. refl) indexes_equal
