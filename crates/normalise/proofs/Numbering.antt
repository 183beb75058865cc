-- What the numbering of the code's base terms gives.
use Rattle.std.proofs.Common.{◌≡◌, ℕ, zero, suc, ◌+◌, ◌-◌, ◌<◌, ◌≤◌, List, [], ◌∷◌, map, refl, sym, ap, ap₂, ◌∙◌, length, get_or, arith, Bor}
use Rattle.nq_model.specs.NamedRows.{Label}
use Rattle.nq_model.specs.Totals.{Total}
use Rattle.nq_model.specs.declared.term.Binary.{Binary}
use Rattle.nq_ir.specs.NormalForms.{gens_in_base, gens_in_conds, gens_in_tests, number_gens, deal, number_base, number_conds, number_tests}
use Rattle.nq_ir.specs.RawForms.{RawBase, raw_binary, raw_total}
use Rattle.nq_ir.specs.Trees.{BaseTree, TestPart as NumberedPart, chain as numbered_chain, and_cond, test, base_tree, test_part as numbered_part, conds_of as numbered_conds, tests_of as numbered_tests}
use Rattle.nq_ir.specs.declared.base.Base.{Base}
use Rattle.nq_ir.specs.declared.base.Gen.{Gen}
use Rattle.nq_ir.specs.declared.base.Test.{roll-Test}
use Rattle.nq_ir.proofs.Forms.{test_is as numbered_is}
use Rattle.normalise.specs.Raw.{TestPart, chain, conds_of, tests_of, moved_base, raw_base, raw_conds, test_part}
use Rattle.normalise.specs.Numbers.{dealt, without, numbers, numbers_layer, bases_numbered, gens_in_bases, gens_in_test, test_numbered, tests_numbered, gens_in_parts}
use Rattle.normalise.specs.declared.raw.RawTest.{RawTest as CodeTest, out-RawTest}
use Rattle.normalise.specs.declared.numbers.Numbers.{Numbers, Numbers-F, fold-roll-Numbers}
use Rattle.normalise.specs.declared.numbers.Numbers.TheVariants.{Dealt, Without, rolls-Dealt, rolls-Without}
use Rattle.normalise.specs.declared.raw.MovedBase.{MovedBase}
use Rattle.normalise.proofs.Moves.{gens_moved, moved_numbered}
use Rattle.normalise.proofs.Views.{moved_is, test_is}

pub numbers_dealt : (first count : ℕ) (outer : Bor Numbers) → numbers (Dealt first count outer) ≡ dealt first count (numbers outer.now)
numbers_dealt first count outer =
    ap numbers (sym (rolls-Dealt first count outer)) ∙ fold-roll-Numbers (List ℕ) numbers_layer (Numbers-F.Dealt first count outer)

pub numbers_without : (from count : ℕ) (outer : Bor Numbers) → numbers (Without from count outer) ≡ without count from (numbers outer.now)
numbers_without from count outer =
    ap numbers (sym (rolls-Without from count outer)) ∙ fold-roll-Numbers (List ℕ) numbers_layer (Numbers-F.Without from count outer)

-- a base term that is moved, numbered
pub moved_made : (m : MovedBase) (n : ℕ) (sc : List ℕ) → number_base n (without m.more m.from sc) (raw_base m.base.value) ≡ number_base n sc (moved_base m)
moved_made m n sc = sym (ap (number_base n sc) (moved_is m) ∙ moved_numbered (raw_base m.base.value) n m.more m.from sc)

pub moved_has : (m : MovedBase) → gens_in_base (raw_base m.base.value) ≡ gens_in_base (moved_base m)
moved_has m = sym (ap gens_in_base (moved_is m) ∙ gens_moved (raw_base m.base.value) m.more m.from)

pub deal_dealt : (n : ℕ) (gs : List Label) (sc : List ℕ) → deal n gs sc ≡ dealt n (length gs) sc
deal_dealt n [] sc = refl
deal_dealt n (t ∷ gs) sc = deal_dealt (suc n) gs (n ∷ sc)

past_dealt : (k n i : ℕ) (sc : List ℕ) → get_or (dealt n k sc) (k + i) 0 ≡ get_or sc i 0
past_dealt zero n i sc = let e : 0 + i ≡ i = omega arith in ap (λ z. get_or sc z 0) e
past_dealt (suc k) n i sc =
    let e : suc k + i ≡ k + suc i = omega arith in
    ap (λ z. get_or (dealt (suc n) k (n ∷ sc)) z 0) e ∙ past_dealt k (suc n) (suc i) (n ∷ sc)

within_dealt : (k n i j : ℕ) (sc : List ℕ) → i + (j + 1) ≡ k → get_or (dealt n k sc) i 0 ≡ n + j
within_dealt zero n i j sc e = absurd (omega arith)
within_dealt (suc k) n i zero sc e =
    let f : i ≡ k + 0 = omega arith in
    let g : n ≡ n + 0 = omega arith in
    ap (λ z. get_or (dealt (suc n) k (n ∷ sc)) z 0) f ∙ past_dealt k (suc n) 0 (n ∷ sc) ∙ g
within_dealt (suc k) n i (suc j) sc e =
    let f : i + (j + 1) ≡ k = omega arith in
    let g : suc n + j ≡ n + suc j = omega arith in
    within_dealt k (suc n) i j (n ∷ sc) f ∙ g

pub found_inside : (k n i m : ℕ) (sc : List ℕ) → i < k → m ≡ n + (k - 1 - i) → m ≡ get_or (dealt n k sc) i 0
found_inside k n i m sc h e = e ∙ sym (within_dealt k n i (k - 1 - i) sc (omega arith))

pub found_outside : (k n i : ℕ) (sc : List ℕ) → k ≤ i → get_or sc (i - k) 0 ≡ get_or (dealt n k sc) i 0
found_outside k n i sc h =
    let e : k + (i - k) ≡ i = omega arith in
    sym (past_dealt k n (i - k) sc) ∙ ap (λ z. get_or (dealt n k sc) z 0) e

pub conds_are : (n : ℕ) (sc : List ℕ) (bs : List RawBase) → number_conds n sc (conds_of bs) ≡ numbered_conds (bases_numbered n sc bs)
conds_are n sc [] = refl
conds_are n sc (b ∷ bs) = ap (and_cond (number_base n sc b)) (conds_are (n + gens_in_base b) sc bs)

pub conds_have : (bs : List RawBase) → gens_in_conds (conds_of bs) ≡ gens_in_bases bs
conds_have [] = refl
conds_have (b ∷ bs) = ap (λ z. gens_in_base b + z) (conds_have bs)

-- a chain, numbered: its parts are numbered one after the other
pub chain_made : (op : Binary) (a : RawBase) (bs : List RawBase) (n : ℕ) (sc : List ℕ) → numbered_chain op (number_base n sc a) (bases_numbered (n + gens_in_base a) sc bs) ≡ number_base n sc (chain op a bs)
chain_made op a [] n sc = refl
chain_made op a (b ∷ bs) n sc =
    let e : n + gens_in_base a + gens_in_base b ≡ n + (gens_in_base a + gens_in_base b) = omega arith in
    ap (λ k. numbered_chain op (BaseTree.binary op (number_base n sc a) (number_base (n + gens_in_base a) sc b)) (bases_numbered k sc bs)) e ∙ chain_made op (raw_binary op a b) bs n sc

pub chain_has : (op : Binary) (a : RawBase) (bs : List RawBase) → gens_in_base a + gens_in_bases bs ≡ gens_in_base (chain op a bs)
chain_has op a [] = omega arith
chain_has op a (b ∷ bs) =
    let e : gens_in_base a + (gens_in_base b + gens_in_bases bs) ≡ gens_in_base a + gens_in_base b + gens_in_bases bs = omega arith in
    e ∙ chain_has op (raw_binary op a b) bs

pub tests_are : (n : ℕ) (sc : List ℕ) (ts : List TestPart) → number_tests n sc (tests_of ts) ≡ numbered_tests (tests_numbered n sc ts)
tests_are n sc [] = refl
tests_are n sc (t ∷ ts) =
    let e : n + length t.tables + gens_in_conds t.conds ≡ n + (length t.tables + gens_in_conds t.conds) = omega arith in
    ap (test (number_gens n t.tables) (number_conds (n + length t.tables) (deal n t.tables sc) t.conds)) (ap (λ z. number_tests z sc (tests_of ts)) e ∙ tests_are (n + gens_in_test t) sc ts)

pub tests_have : (ts : List TestPart) → gens_in_tests (tests_of ts) ≡ gens_in_parts ts
tests_have [] = refl
tests_have (t ∷ ts) = let h = tests_have ts in omega arith

-- a comprehension of a test, numbered
pub test_made : (n count m : ℕ) (sc : List ℕ) (x : CodeTest) (gens : List Gen) (conds : List Base) → count ≡ length (out-RawTest x).tables → m ≡ n + count → gens ≡ number_gens n (out-RawTest x).tables → map base_tree conds ≡ bases_numbered m (dealt n count sc) (map moved_base (out-RawTest x).conds) → numbered_part (roll-Test (record { gens = gens; conds = conds })) ≡ test_numbered n sc (test_part x)
test_made n count m sc x gens conds a b g h =
    numbered_is (roll-Test (record { gens = gens; conds = conds }))
    ∙ ap₂ (λ (y : List Gen) z. record { gens = y; conds = z }) g
    (ap numbered_conds h ∙ sym (conds_are m (dealt n count sc) (map moved_base (out-RawTest x).conds))
    ∙ ap (λ z. number_conds z (dealt n count sc) (raw_conds (out-RawTest x).conds)) (b ∙ ap (λ z. n + z) a)
    ∙ ap (λ z. number_conds (n + length (out-RawTest x).tables) z (raw_conds (out-RawTest x).conds)) (ap (λ z. dealt n z sc) a ∙ sym (deal_dealt n (out-RawTest x).tables sc)))
    ∙ ap (test_numbered n sc) (sym (test_is x))

-- a total over a comprehension, numbered
pub total_made : (g : Total) (n count m : ℕ) (sc : List ℕ) (p : TestPart) (t : NumberedPart) (y : BaseTree) (b : RawBase) → count ≡ length p.tables → t ≡ test_numbered n sc p → m ≡ n + gens_in_test p → y ≡ number_base m (dealt n count sc) b → BaseTree.total g t.gens t.conds y ≡ number_base n sc (raw_total g p.tables p.conds b)
total_made g n count m sc p t y b a h e v =
    let start : m ≡ n + length p.tables + gens_in_conds p.conds = omega arith in
    let scope : dealt n count sc ≡ deal n p.tables sc = ap (λ z. dealt n z sc) a ∙ sym (deal_dealt n p.tables sc) in
    ap (λ (z : NumberedPart). BaseTree.total g z.gens z.conds y) h
    ∙ ap (BaseTree.total g (number_gens n p.tables) (number_conds (n + length p.tables) (deal n p.tables sc) p.conds)) (v ∙ ap₂ (λ k (z : List ℕ). number_base k z b) start scope)

pub test_has : (n count m after : ℕ) (x : CodeTest) → count ≡ length (out-RawTest x).tables → m ≡ n + count → after ≡ m + gens_in_bases (map moved_base (out-RawTest x).conds) → after ≡ n + gens_in_test (test_part x)
test_has n count m after x a b e =
    let k : gens_in_conds (raw_conds (out-RawTest x).conds) ≡ gens_in_bases (map moved_base (out-RawTest x).conds) = conds_have (map moved_base (out-RawTest x).conds) in
    let f : after ≡ n + (length (out-RawTest x).tables + gens_in_conds (raw_conds (out-RawTest x).conds)) = omega arith in
    f ∙ ap (λ z. n + gens_in_test z) (sym (test_is x))
