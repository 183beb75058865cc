-- Answers without a fault are those in which each row stands in a given bag and no bag is given twice.
use Rattle.std.proofs.Common.{◌≡◌, ℕ, zero, suc, ◌+◌, ◌<◌, ◌≤◌, List, [], ◌∷◌, refl, sym, ap, ◌∙◌, subst, Bool, true, false, cond, get_or, length, take, Option, None, Some, option_map, arith, ⊎_elim, eq-or-lt_of_le, true≢false}
use Rattle.std.specs.List.{position_from}
use Rattle.std.specs.Option.{option_or, is_some}
use Rattle.nq_model.specs.declared.table.Cell.{Cell}
use Rattle.nq_model.specs.Types.{TypeTree}
use Rattle.nq_ir.specs.Parts.{slots, element_types}
use Rattle.stitcher.specs.FlatNumbers.{flat_numbers}
use Rattle.stitcher.specs.Linked.{Home, homes, home_of, row_at, giver, LinkFault, dangling, twice, first_from, is_given, outer_fault, inner_fault, row_fault, answer_fault, fault_by, tag_column, link_fault, IsLinked, IsGiven, HasLinks}
use Rattle.stitcher.specs.Schemes.{Scheme, AnswerRows, element_of}

-- the first thing that is found
module _ {A : Type 0} (find : ℕ → Option A) where
  pub none_from : (k n : ℕ) → ((j : ℕ) → k ≤ j → j < k + n → find j ≡ None) → first_from find k n ≡ None
  none_from k zero h = refl
  none_from k (suc n) h =
      ap (λ (o : Option A). option_or o (first_from find (suc k) n)) (h k (omega arith) (omega arith)) ∙ none_from (suc k) n (λ j a b. h j (omega (arith, a)) (omega (arith, b)))

  pub from_none : (k n : ℕ) → first_from find k n ≡ None → (j : ℕ) → k ≤ j → j < k + n → find j ≡ None
  from_none k zero e j a b = absurd (omega (arith, a, b))
  from_none k (suc n) e j a b = go (find k) refl e (λ f more. from_none (suc k) n f j more (omega (arith, b)))
    where
      go : (o : Option A) → find k ≡ o → option_or o (first_from find (suc k) n) ≡ None → (first_from find (suc k) n ≡ None → suc k ≤ j → find j ≡ None) → find j ≡ None
      go None is f rest = ⊎_elim (λ same. subst (λ i. find i ≡ None) same is) (rest f) (eq-or-lt_of_le a)
      go (Some x) is f rest = absurd (cc)

  pub found_from : (k n m : ℕ) (x : A) → k ≤ m → m < k + n → ((j : ℕ) → k ≤ j → j < m → find j ≡ None) → find m ≡ Some x → first_from find k n ≡ Some x
  found_from k zero m x a b before e = absurd (omega (arith, a, b))
  found_from k (suc n) m x a b before e =
      ⊎_elim
      (λ same. ap (λ (o : Option A). option_or o (first_from find (suc k) n)) (ap find same ∙ e))
      (λ more.
      ap (λ (o : Option A). option_or o (first_from find (suc k) n)) (before k (omega arith) more)
      ∙ found_from (suc k) n m x more (omega (arith, b)) (λ j c d. before j (omega (arith, c)) d) e)
      (eq-or-lt_of_le a)

-- a test that passes for one of the first rows
module _ {X : Type 0} (t : X → Bool) (d : X) where
  pub some_position : (m : ℕ) (xs : List X) (k : ℕ) → k < length xs → t (get_or xs k d) ≡ true → is_some (position_from t m xs) ≡ true
  some_position m [] k b e = absurd (omega (arith, b))
  some_position m (x ∷ xs) k b e = go (t x) refl k b e (λ j c f. some_position (m + 1) xs j c f)
    where
      go : (u : Bool) → t x ≡ u → (k : ℕ) → k < suc (length xs) → t (get_or (x ∷ xs) k d) ≡ true
          → ((j : ℕ) → j < length xs → t (get_or xs j d) ≡ true → is_some (position_from t (m + 1) xs) ≡ true) → is_some (cond u (Some m) (position_from t (m + 1) xs)) ≡ true
      go true is k b e rest = refl
      go false is zero b e rest = absurd (true≢false (sym e ∙ is))
      go false is (suc k) b e rest = rest k (omega (arith, b)) e

  pub position_some : (m : ℕ) (xs : List X) → is_some (position_from t m xs) ≡ true → (k : ℕ) × (k < length xs) × (t (get_or xs k d) ≡ true)
  position_some m [] e = absurd (true≢false (sym e))
  position_some m (x ∷ xs) e = go (t x) refl e (position_some (m + 1) xs)
    where
      go : (u : Bool) → t x ≡ u → is_some (cond u (Some m) (position_from t (m + 1) xs)) ≡ true
          → (is_some (position_from t (m + 1) xs) ≡ true → (k : ℕ) × (k < length xs) × (t (get_or xs k d) ≡ true)) → (k : ℕ) × (k < suc (length xs)) × (t (get_or (x ∷ xs) k d) ≡ true)
      go true is f rest = (0, omega arith, is)
      go false is f rest = let r = rest f in (suc r.0, omega (arith, r.1), r.2)

  pub none_position : (m k : ℕ) (xs : List X) → k ≤ length xs → ((j : ℕ) → j < k → t (get_or xs j d) ≡ false) → position_from t m (take k xs) ≡ None
  none_position m zero xs b h = refl
  none_position m (suc k) [] b h = absurd (omega (arith, b))
  none_position m (suc k) (x ∷ xs) b h =
      ap (λ u. cond u (Some m) (position_from t (m + 1) (take k xs))) (h 0 (omega arith)) ∙ none_position (m + 1) k xs (omega (arith, b)) (λ j c. h (suc j) (omega (arith, c)))

  pub position_none : (m k : ℕ) (xs : List X) → k ≤ length xs → position_from t m (take k xs) ≡ None → (j : ℕ) → j < k → t (get_or xs j d) ≡ false
  position_none m zero xs b e j c = absurd (omega (arith, c))
  position_none m (suc k) [] b e j c = absurd (omega (arith, b))
  position_none m (suc k) (x ∷ xs) b e j c = go (t x) refl e j c (λ f i a. position_none (m + 1) k xs (omega (arith, b)) f i a)
    where
      go : (u : Bool) → t x ≡ u → cond u (Some m) (position_from t (m + 1) (take k xs)) ≡ None → (j : ℕ) → j < suc k
          → (position_from t (m + 1) (take k xs) ≡ None → (i : ℕ) → i < k → t (get_or xs i d) ≡ false) → t (get_or (x ∷ xs) j d) ≡ false
      go true is f j c rest = absurd (cc)
      go false is f zero c rest = is
      go false is f (suc j) c rest = rest f j (omega (arith, c))

no_map : {A B : Type 0} (f : A → B) (o : Option A) → option_map f o ≡ None → o ≡ None
no_map f None e = refl
no_map f (Some x) e = absurd (cc)

unless_true : {A : Type 0} (b : Bool) (x : A) → cond b None (Some x) ≡ None → b ≡ true
unless_true true x e = refl
unless_true false x e = absurd (cc)

module _ {I : Type 0} (S : Scheme I) (all : List Home) (column : ℕ → ℕ → ℕ) (ans : List AnswerRows) where
  given_true : (q : ℕ) (i : I) → IsGiven S all ans q i → is_given S all column ans q i ≡ true
  given_true zero i h = h
  given_true (suc q) i h =
      let home = home_of all (suc q) in
      some_position (λ (r : List Cell). S.is (S.inner home.0 home.1 r) i) [] 1 (get_or ans home.0 []) h.0 h.1 h.2

  true_given : (q : ℕ) (i : I) → is_given S all column ans q i ≡ true → IsGiven S all ans q i
  true_given zero i e = e
  true_given (suc q) i e =
      let home = home_of all (suc q) in
      position_some (λ (r : List Cell). S.is (S.inner home.0 home.1 r) i) [] 1 (get_or ans home.0 []) e

  -- a row without fault
  pub row_without : (q k : ℕ) → outer_fault S all column ans q k ≡ None → ((s : ℕ) → s < slots (element_of S.elements q) → inner_fault S all column ans q k s ≡ None) → row_fault S all column ans q k ≡ None
  row_without q k outer inner =
      ap (λ (o : Option LinkFault). option_or o (first_from (inner_fault S all column ans q k) 0 (slots (element_of S.elements q)))) outer
      ∙ none_from (inner_fault S all column ans q k) 0 (slots (element_of S.elements q)) (λ s a b. inner s (omega (arith, b)))

  without_row : (q k : ℕ) → row_fault S all column ans q k ≡ None → (outer_fault S all column ans q k ≡ None) × ((s : ℕ) → s < slots (element_of S.elements q) → inner_fault S all column ans q k s ≡ None)
  without_row q k e = go (outer_fault S all column ans q k) refl e
    where
      n : ℕ
      n = slots (element_of S.elements q)

      go : (o : Option LinkFault) → outer_fault S all column ans q k ≡ o → option_or o (first_from (inner_fault S all column ans q k) 0 (slots (element_of S.elements q))) ≡ None → (outer_fault S all column ans q k ≡ None) × ((s : ℕ) → s < slots (element_of S.elements q) → inner_fault S all column ans q k s ≡ None)
      go None is f = (is, λ s b. from_none (inner_fault S all column ans q k) 0 (slots (element_of S.elements q)) f s (omega arith) (omega (arith, b)))
      go (Some x) is f = absurd (cc)

  -- answers with links have no fault
  pub linked_if : HasLinks S all ans → fault_by S all column ans ≡ None
  linked_if h =
      none_from (answer_fault S all column ans) 0 (length S.elements) (λ q a b.
      none_from (row_fault S all column ans q) 0 (length (get_or ans q [])) (λ k c d.
      row_without q k
      (ap (λ u. cond u None (Some (dangling (suc q) (suc k)))) (given_true q (S.outer q (row_at ans q k)) (h.given q k (omega (arith, b)) (omega (arith, d)))))
      (λ s l. ap (option_map (twice (suc q) (suc k) (column q s))) (none_position (λ (r : List Cell). S.is (S.inner q s r) (S.inner q s (row_at ans q k))) [] 1 k (get_or ans q []) (omega (arith, d)) (λ j e. h.once q s j k (omega (arith, b), l) e (omega (arith, d)))))))

  -- and those without a fault have links
  pub if_linked : fault_by S all column ans ≡ None → HasLinks S all ans
  if_linked e =
      let row : (q k : ℕ) → q < length S.elements → k < length (get_or ans q []) → row_fault S all column ans q k ≡ None = λ q k b d. from_none (row_fault S all column ans q) 0 (length (get_or ans q [])) (from_none (answer_fault S all column ans) 0 (length S.elements) e q (omega arith) (omega (arith, b))) k (omega arith) (omega (arith, d)) in
      record {
        given = λ q k b d. true_given q (S.outer q (row_at ans q k)) (unless_true (is_given S all column ans q (S.outer q (row_at ans q k))) (dangling (suc q) (suc k)) (without_row q k (row q k b d)).0);
        once = λ q s j k l c d.
            position_none (λ (r : List Cell). S.is (S.inner q s r) (S.inner q s (row_at ans q k))) [] 1 k (get_or ans q []) (omega (arith, d))
            (no_map (twice (suc q) (suc k) (column q s)) (giver S q s (take k (get_or ans q [])) (S.inner q s (row_at ans q k))) ((without_row q k (row q k l.0 d)).1 s l.1)) j c;
      }

-- the same of the answers of a type
pub links_linked : (type : TypeTree) (ans : List AnswerRows) → HasLinks (flat_numbers (element_types type)) (homes type) ans → IsLinked type ans
unfolding link_fault
links_linked type ans h = linked_if (flat_numbers (element_types type)) (homes type) (tag_column (element_types type)) ans h

pub linked_links : (type : TypeTree) (ans : List AnswerRows) → IsLinked type ans → HasLinks (flat_numbers (element_types type)) (homes type) ans
unfolding link_fault
linked_links type ans e = if_linked (flat_numbers (element_types type)) (homes type) (tag_column (element_types type)) ans e
