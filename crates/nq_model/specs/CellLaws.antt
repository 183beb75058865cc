-- Cells are equal where they tie, and their order is total. The laws of a lent cell's `Eq`, `Ord` and `Hash` cite these.
use Rattle.std.proofs.Common.{◌≡◌, refl, sym, ap, ◌∙◌, subst, Bool, true, false, Some}
use Rattle.std.proofs.lemmas.Slice.Eq.{bytes_eq-Decides}
use Rattle.std.specs.declared.cmp.Ordering.TheVariants.{Less, Equal}
use Rattle.std.specs.Ordering.{is_eq, eq_by_cmp, ordering_reverse, bool_cmp}
use Rattle.std.specs.Cmp.{Equal-is, IsTotalOrder, IsEquivalence, IsPartialOrder, int_ranked, int_cmp_total, bool_cmp_total, eq_by_cmp_equiv, partial_order_from_agreeing_total}
use Rattle.std.specs.Cmp.Lexicographic.{nat_list_cmp_total, texts_ties}
use Rattle.nq_model.specs.Cells.{bool_eq, cell_eq, cell_cmp}
use Rattle.nq_model.specs.CellRefs.{cell_fed}
use Rattle.nq_model.specs.declared.table.Cell.{Cell}
use Rattle.nq_model.specs.declared.table.Cell.TheVariants.{Int, Bool as Truth, Text}

truths_tie : (a b : Bool) → bool_cmp a b ≡ Equal → a ≡ b
truths_tie true true e = refl
truths_tie true false e = absurd (cc)
truths_tie false true e = absurd (cc)
truths_tie false false e = refl

cells_turned : (c d : Cell) → cell_cmp c d ≡ ordering_reverse (cell_cmp d c)
cells_turned (Int a) (Int b) = int_cmp_total.antisymm a b
cells_turned (Truth a) (Truth b) = bool_cmp_total.antisymm a b
cells_turned (Text s) (Text t) = nat_list_cmp_total.antisymm s t
cells_turned c d = refl

cells_chain : (c d e : Cell) → cell_cmp c d ≡ Less → cell_cmp d e ≡ Less → cell_cmp c e ≡ Less
cells_chain (Int a) (Int b) (Int c) p q = int_cmp_total.trans a b c p q
cells_chain (Truth a) (Truth b) (Truth c) p q = bool_cmp_total.trans a b c p q
cells_chain (Text s) (Text t) (Text u) p q = nat_list_cmp_total.trans s t u p q
cells_chain (Int a) (Int b) (Truth c) p q = cc
cells_chain (Int a) (Int b) (Text c) p q = cc
cells_chain (Int a) (Truth b) (Int c) p q = cc
cells_chain (Int a) (Truth b) (Truth c) p q = cc
cells_chain (Int a) (Truth b) (Text c) p q = cc
cells_chain (Int a) (Text b) (Int c) p q = cc
cells_chain (Int a) (Text b) (Truth c) p q = cc
cells_chain (Int a) (Text b) (Text c) p q = cc
cells_chain (Truth a) (Int b) (Int c) p q = cc
cells_chain (Truth a) (Int b) (Truth c) p q = cc
cells_chain (Truth a) (Int b) (Text c) p q = cc
cells_chain (Truth a) (Truth b) (Int c) p q = cc
cells_chain (Truth a) (Truth b) (Text c) p q = cc
cells_chain (Truth a) (Text b) (Int c) p q = cc
cells_chain (Truth a) (Text b) (Truth c) p q = cc
cells_chain (Truth a) (Text b) (Text c) p q = cc
cells_chain (Text a) (Int b) (Int c) p q = cc
cells_chain (Text a) (Int b) (Truth c) p q = cc
cells_chain (Text a) (Int b) (Text c) p q = cc
cells_chain (Text a) (Truth b) (Int c) p q = cc
cells_chain (Text a) (Truth b) (Truth c) p q = cc
cells_chain (Text a) (Truth b) (Text c) p q = cc
cells_chain (Text a) (Text b) (Int c) p q = cc
cells_chain (Text a) (Text b) (Truth c) p q = cc

-- cells tie only where they are one
pub cells_tie : (c d : Cell) → cell_cmp c d ≡ Equal → c ≡ d
cells_tie (Int a) (Int b) e = ap Int (int_ranked a b Equal (sym e))
cells_tie (Truth a) (Truth b) e = ap Truth (truths_tie a b e)
cells_tie (Text s) (Text t) e = ap Text ((bytes_eq-Decides s t).0 (texts_ties s t ∙ ap is_eq e))
cells_tie c d e = absurd (cc)

pub cell_total : IsTotalOrder cell_cmp
cell_total = record { antisymm = cells_turned; trans = cells_chain; congr = λ x y z e. ap (λ w. cell_cmp w z) (cells_tie x y e) }

truths_equal : (a b : Bool) → bool_eq a b ≡ eq_by_cmp bool_cmp a b
truths_equal true true = refl
truths_equal true false = refl
truths_equal false true = refl
truths_equal false false = refl

pub cells_equal : (c d : Cell) → cell_eq c d ≡ eq_by_cmp cell_cmp c d
cells_equal (Int a) (Int b) = refl
cells_equal (Truth a) (Truth b) = truths_equal a b
cells_equal (Text s) (Text t) = texts_ties s t
cells_equal (Int a) (Truth b) = refl
cells_equal (Int a) (Text b) = refl
cells_equal (Truth a) (Int b) = refl
cells_equal (Truth a) (Text b) = refl
cells_equal (Text a) (Int b) = refl
cells_equal (Text a) (Truth b) = refl

pub cell_equivalence : IsEquivalence cell_eq
cell_equivalence = subst IsEquivalence (λ i x y. sym (cells_equal x y) i) (eq_by_cmp_equiv cell_total)

pub cell_partial_order : IsPartialOrder cell_eq (λ c d. Some (cell_cmp c d))
cell_partial_order = partial_order_from_agreeing_total cell_cmp cell_total (λ c d. refl) cells_equal

pub fed_alike : (c d : Cell) → cell_eq c d ≡ true → cell_fed c ≡ cell_fed d
fed_alike c d h = ap cell_fed (cells_tie c d ((Equal-is (cell_cmp c d)).0 (sym (cells_equal c d) ∙ h)))
