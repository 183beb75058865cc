-- Base terms under more generators: moved twice is moved once, and numbered as if the numbers of the others were alone
-- in scope.
use Rattle.std.proofs.Common.{◌≡◌, ℕ, zero, suc, ◌+◌, ◌≤◌, List, [], ◌∷◌, drop, map, refl, sym, ap, ap₂, ◌∙◌, length, get_or, arith}
use Rattle.nq_model.specs.NamedRows.{Label}
use Rattle.nq_ir.specs.NormalForms.{gens_in_base, gens_in_conds, gens_in_tests, number_gens, deal, number_base, number_conds, number_tests}
use Rattle.nq_ir.specs.RawForms.{RawBase, raw_literal, raw_column, raw_unary, raw_binary, raw_choose, raw_empty, raw_total, RawConds, no_raw, and_raw, RawTests, no_raw_test, raw_test, up_index, up_base, up_bases, up_tests}
use Rattle.nq_ir.specs.Trees.{BaseTree, column, unary, binary, total, and_cond, test}
use Rattle.normalise.specs.Numbers.{without}
use Rattle.normalise.specs.Raw.{moved_base, raw_base}
use Rattle.normalise.specs.declared.raw.MovedBase.{MovedBase}
use Rattle.normalise.proofs.Lists.{index_outer}
use Rattle.normalise.proofs.Views.{moved_is}

index_joined : (n c m d i : ℕ) → d ≤ c → c ≤ d + m → up_index n c (up_index m d i) ≡ up_index (n + m) d i
index_joined n c m zero i h k = sym (index_outer n c (m + i) ((n + m) + i) (omega arith) (omega arith))
index_joined n zero m (suc d) i h k = absurd (omega arith)
index_joined n (suc c) m (suc d) zero h k = refl
index_joined n (suc c) m (suc d) (suc i) h k = ap suc (index_joined n c m d i (omega arith) (omega arith))

-- generators that come beside or among those of an earlier move
mutual
  pub base_joined : (b : RawBase) (n c m d : ℕ) → d ≤ c → c ≤ d + m → up_base n c (up_base m d b) ≡ up_base (n + m) d b
  base_joined (raw_literal x) n c m d h k = refl
  base_joined (raw_column i l) n c m d h k = ap (λ z. raw_column z l) (index_joined n c m d i h k)
  base_joined (raw_unary o b) n c m d h k = ap (raw_unary o) (base_joined b n c m d h k)
  base_joined (raw_binary o a b) n c m d h k = ap₂ (raw_binary o) (base_joined a n c m d h k) (base_joined b n c m d h k)
  base_joined (raw_choose x a b) n c m d h k =
      ap (λ z. raw_choose z (up_base n c (up_base m d a)) (up_base n c (up_base m d b))) (base_joined x n c m d h k) ∙ ap₂ (raw_choose (up_base (n + m) d x)) (base_joined a n c m d h k) (base_joined b n c m d h k)
  base_joined (raw_empty xs) n c m d h k = ap raw_empty (tests_joined xs n c m d h k)
  base_joined (raw_total g gs bs b) n c m d h k =
      let p : length gs + d ≤ length gs + c = omega arith in
      let q : length gs + c ≤ (length gs + d) + m = omega arith in
      ap₂ (raw_total g gs) (bases_joined bs n (length gs + c) m (length gs + d) p q) (base_joined b n (length gs + c) m (length gs + d) p q)

  pub bases_joined : (bs : RawConds) (n c m d : ℕ) → d ≤ c → c ≤ d + m → up_bases n c (up_bases m d bs) ≡ up_bases (n + m) d bs
  bases_joined no_raw n c m d h k = refl
  bases_joined (and_raw b bs) n c m d h k = ap₂ and_raw (base_joined b n c m d h k) (bases_joined bs n c m d h k)

  tests_joined : (xs : RawTests) (n c m d : ℕ) → d ≤ c → c ≤ d + m → up_tests n c (up_tests m d xs) ≡ up_tests (n + m) d xs
  tests_joined no_raw_test n c m d h k = refl
  tests_joined (raw_test gs bs xs) n c m d h k =
      ap₂ (raw_test gs) (bases_joined bs n (length gs + c) m (length gs + d) (omega arith) (omega arith)) (tests_joined xs n c m d h k)

index_same : (c i : ℕ) → up_index 0 c i ≡ i
index_same zero i = omega arith
index_same (suc c) zero = refl
index_same (suc c) (suc i) = ap suc (index_same c i)

mutual
  pub base_same : (b : RawBase) (c : ℕ) → up_base 0 c b ≡ b
  base_same (raw_literal x) c = refl
  base_same (raw_column i l) c = ap (λ k. raw_column k l) (index_same c i)
  base_same (raw_unary o b) c = ap (raw_unary o) (base_same b c)
  base_same (raw_binary o a b) c = ap₂ (raw_binary o) (base_same a c) (base_same b c)
  base_same (raw_choose x a b) c =
      ap (λ z. raw_choose z (up_base 0 c a) (up_base 0 c b)) (base_same x c) ∙ ap₂ (raw_choose x) (base_same a c) (base_same b c)
  base_same (raw_empty xs) c = ap raw_empty (tests_same xs c)
  base_same (raw_total g gs bs b) c = ap₂ (raw_total g gs) (bases_same bs (length gs + c)) (base_same b (length gs + c))

  pub bases_same : (bs : RawConds) (c : ℕ) → up_bases 0 c bs ≡ bs
  bases_same no_raw c = refl
  bases_same (and_raw b bs) c = ap₂ and_raw (base_same b c) (bases_same bs c)

  tests_same : (xs : RawTests) (c : ℕ) → up_tests 0 c xs ≡ xs
  tests_same no_raw_test c = refl
  tests_same (raw_test gs bs xs) c = ap₂ (raw_test gs) (bases_same bs (length gs + c)) (tests_same xs c)

pub all_same : (bs : List RawBase) → map (up_base 0 0) bs ≡ bs
all_same [] = refl
all_same (b ∷ bs) = ap₂ (λ (y : RawBase) (z : List RawBase). y ∷ z) (base_same b 0) (all_same bs)

-- what has not been moved
pub base_unmoved : (m : MovedBase) → m.more ≡ 0 → moved_base m ≡ raw_base m.base.value
base_unmoved m e =
    moved_is m ∙ ap (λ k. up_base k m.from (raw_base m.base.value)) e ∙ base_same (raw_base m.base.value) m.from

-- what is moved on, beside or among those of the earlier move
pub base_moved_on : (m : MovedBase) (n c : ℕ) → m.from ≤ c → c ≤ m.from + m.more → up_base (n + m.more) m.from (raw_base m.base.value) ≡ up_base n c (moved_base m)
base_moved_on m n c h k = sym (ap (up_base n c) (moved_is m) ∙ base_joined (raw_base m.base.value) n c m.more m.from h k)

pub without_none : (c : ℕ) (sc : List ℕ) → without 0 c sc ≡ sc
without_none zero sc = refl
without_none (suc c) [] = refl
without_none (suc c) (n ∷ sc) = ap (λ (z : List ℕ). n ∷ z) (without_none c sc)

found_dropped : (k i : ℕ) (sc : List ℕ) → get_or sc (k + i) 0 ≡ get_or (drop k sc) i 0
found_dropped zero i sc = let e : 0 + i ≡ i = omega arith in ap (λ z. get_or sc z 0) e
found_dropped (suc k) i [] = refl
found_dropped (suc k) i (n ∷ sc) =
    let e : suc k + i ≡ suc (k + i) = omega arith in
    ap (λ z. get_or (n ∷ sc) z 0) e ∙ found_dropped k i sc

pub found_without : (k c i : ℕ) (sc : List ℕ) → get_or sc (up_index k c i) 0 ≡ get_or (without k c sc) i 0
found_without k zero i sc = found_dropped k i sc
found_without k (suc c) i [] = refl
found_without k (suc c) zero (n ∷ sc) = refl
found_without k (suc c) (suc i) (n ∷ sc) = found_without k c i sc

pub deal_without : (n : ℕ) (gs : List Label) (k c : ℕ) (sc : List ℕ) → deal n gs (without k c sc) ≡ without k (length gs + c) (deal n gs sc)
deal_without n [] k c sc = let e : c ≡ 0 + c = omega arith in ap (λ z. without k z sc) e
deal_without n (t ∷ gs) k c sc =
    let e : length gs + suc c ≡ suc (length gs) + c = omega arith in
    deal_without (suc n) gs k (suc c) (n ∷ sc) ∙ ap (λ z. without k z (deal (suc n) gs (n ∷ sc))) e

mutual
  pub gens_moved : (b : RawBase) (k c : ℕ) → gens_in_base (up_base k c b) ≡ gens_in_base b
  gens_moved (raw_literal x) k c = refl
  gens_moved (raw_column i l) k c = refl
  gens_moved (raw_unary o b) k c = gens_moved b k c
  gens_moved (raw_binary o a b) k c = ap₂ (λ y z. y + z) (gens_moved a k c) (gens_moved b k c)
  gens_moved (raw_choose x a b) k c = ap₂ (λ y z. y + z) (gens_moved x k c) (ap₂ (λ y z. y + z) (gens_moved a k c) (gens_moved b k c))
  gens_moved (raw_empty xs) k c = gens_in_moved_tests xs k c
  gens_moved (raw_total g gs bs b) k c = ap₂ (λ y z. length gs + (y + z)) (gens_in_moved bs k (length gs + c)) (gens_moved b k (length gs + c))

  pub gens_in_moved : (bs : RawConds) (k c : ℕ) → gens_in_conds (up_bases k c bs) ≡ gens_in_conds bs
  gens_in_moved no_raw k c = refl
  gens_in_moved (and_raw b bs) k c = ap₂ (λ y z. y + z) (gens_moved b k c) (gens_in_moved bs k c)

  gens_in_moved_tests : (xs : RawTests) (k c : ℕ) → gens_in_tests (up_tests k c xs) ≡ gens_in_tests xs
  gens_in_moved_tests no_raw_test k c = refl
  gens_in_moved_tests (raw_test gs bs xs) k c =
      ap₂ (λ y z. length gs + (y + z)) (gens_in_moved bs k (length gs + c)) (gens_in_moved_tests xs k c)

mutual
  pub moved_numbered : (b : RawBase) (n k c : ℕ) (sc : List ℕ) → number_base n sc (up_base k c b) ≡ number_base n (without k c sc) b
  moved_numbered (raw_literal x) n k c sc = refl
  moved_numbered (raw_column i l) n k c sc = ap (λ z. column z l) (found_without k c i sc)
  moved_numbered (raw_unary o b) n k c sc = ap (unary o) (moved_numbered b n k c sc)
  moved_numbered (raw_binary o a b) n k c sc =
      ap₂ (binary o) (moved_numbered a n k c sc) (ap (λ g. number_base (n + g) sc (up_base k c b)) (gens_moved a k c) ∙ moved_numbered b (n + gens_in_base a) k c sc)
  moved_numbered (raw_choose x a b) n k c sc =
      ap (λ z. BaseTree.choose z (number_base (n + gens_in_base (up_base k c x)) sc (up_base k c a)) (number_base (n + gens_in_base (up_base k c x) + gens_in_base (up_base k c a)) sc (up_base k c b))) (moved_numbered x n k c sc)
      ∙ ap₂ (BaseTree.choose (number_base n (without k c sc) x))
      (ap (λ g. number_base (n + g) sc (up_base k c a)) (gens_moved x k c) ∙ moved_numbered a (n + gens_in_base x) k c sc)
      (ap₂ (λ g h. number_base (n + g + h) sc (up_base k c b)) (gens_moved x k c) (gens_moved a k c) ∙ moved_numbered b (n + gens_in_base x + gens_in_base a) k c sc)
  moved_numbered (raw_empty xs) n k c sc = ap BaseTree.empty (moved_tests_numbered xs n k c sc)
  moved_numbered (raw_total g gs bs b) n k c sc =
      let inner = length gs + c in
      let own = deal n gs sc in
      let under : deal n gs (without k c sc) ≡ without k inner own = deal_without n gs k c sc in
      ap₂ (total g (number_gens n gs))
      (moved_conds_numbered bs (n + length gs) k inner own ∙ ap (λ (z : List ℕ). number_conds (n + length gs) z bs) (sym under))
      (ap (λ z. number_base (n + length gs + z) own (up_base k inner b)) (gens_in_moved bs k inner)
      ∙ moved_numbered b (n + length gs + gens_in_conds bs) k inner own
      ∙ ap (λ (z : List ℕ). number_base (n + length gs + gens_in_conds bs) z b) (sym under))

  pub moved_conds_numbered : (bs : RawConds) (n k c : ℕ) (sc : List ℕ) → number_conds n sc (up_bases k c bs) ≡ number_conds n (without k c sc) bs
  moved_conds_numbered no_raw n k c sc = refl
  moved_conds_numbered (and_raw b bs) n k c sc =
      ap₂ and_cond (moved_numbered b n k c sc) (ap (λ g. number_conds (n + g) sc (up_bases k c bs)) (gens_moved b k c) ∙ moved_conds_numbered bs (n + gens_in_base b) k c sc)

  moved_tests_numbered : (xs : RawTests) (n k c : ℕ) (sc : List ℕ) → number_tests n sc (up_tests k c xs) ≡ number_tests n (without k c sc) xs
  moved_tests_numbered no_raw_test n k c sc = refl
  moved_tests_numbered (raw_test gs bs xs) n k c sc =
      ap₂ (test (number_gens n gs))
      (moved_conds_numbered bs (n + length gs) k (length gs + c) (deal n gs sc) ∙ ap (λ (z : List ℕ). number_conds (n + length gs) z bs) (sym (deal_without n gs k c sc)))
      (ap (λ g. number_tests (n + length gs + g) sc (up_tests k c xs)) (gens_in_moved bs k (length gs + c)) ∙ moved_tests_numbered xs (n + length gs + gens_in_conds bs) k c sc)
