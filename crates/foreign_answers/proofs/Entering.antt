-- One index more that a row gives, and answers that are judged row by row.
use Rattle.std.proofs.Common.{◌≡◌, ℕ, zero, suc, ◌+◌, ◌<◌, ◌≤◌, List, [], ◌∷◌, ◌++◌, refl, sym, ap, ◌∙◌, subst, Bool, true, false, cond, get_or, length, take, Option, None, Some, nat_eq, nat_lt, ◌&&◌, arith, inl, inr, ⊎_elim, ◌⊎◌, eq-or-lt_of_le, ltb-true, ltb-false, length-append}
use Rattle.std.proofs.Math.Seq.{take-suc}
use Rattle.std.proofs.lemmas.Bool.Decides.{Decides-eqb}
use Rattle.std.specs.BTreeMap.{BTreeMap}
use Rattle.std.specs.Cmp.{IsEquivalence}
use Rattle.std.specs.List.{position_from}
use Rattle.std.specs.Option.{option_or}
use Rattle.nq_model.specs.declared.table.Cell.{Cell}
use Rattle.nq_ir.specs.Parts.{slots}
use Rattle.stitcher.specs.Linked.{row_at, giver}
use Rattle.stitcher.specs.Schemes.{Scheme, AnswerRows, element_of}
use Rattle.foreign_answers.specs.Given.{first_given, same_key}
use Rattle.foreign_answers.specs.Judging.{Gives, AreGiven}
use Rattle.foreign_answers.specs.declared.given.Given.{Given}

-- the rows that have given their index for the inner bag s, where so many rows have given all, and the next one those before the bag t
abbrev pub reached : (k t s : ℕ) → ℕ
reached k t s = cond (nat_lt s t) (suc k) k

lt_true : (m n : ℕ) → m < n → nat_lt m n ≡ true
lt_true m n h = go (nat_lt m n) refl
  where
    go : (b : Bool) → nat_lt m n ≡ b → b ≡ true
    go true e = refl
    go false e = absurd (let l : n ≤ m = ltb-false m n e in omega (arith, h, l))

lt_false : (m n : ℕ) → n ≤ m → nat_lt m n ≡ false
lt_false m n h = go (nat_lt m n) refl
  where
    go : (b : Bool) → nat_lt m n ≡ b → b ≡ false
    go true e = absurd (let l : m < n = ltb-true m n e in omega (arith, h, l))
    go false e = refl

eq_false : (m n : ℕ) → (m ≡ n → ⊥) → nat_eq m n ≡ false
eq_false m n h = go (nat_eq m n) refl
  where
    go : (b : Bool) → nat_eq m n ≡ b → b ≡ false
    go true e = absurd (h ((Decides-eqb m n).0 e))
    go false e = refl

nothing_more : {A : Type 0} (o : Option A) → o ≡ option_or o None
nothing_more None = refl
nothing_more (Some x) = refl

-- the first place among one element more
position_more : {X : Type 0} (t : X → Bool) (m : ℕ) (xs : List X) (x : X) → position_from t m (xs ++ x ∷ []) ≡ option_or (position_from t m xs) (cond (t x) (Some (m + length xs)) None)
position_more t m [] x =
    let e : m ≡ m + 0 = omega arith in
    ap (λ n. cond (t x) (Some n) None) e
position_more t m (y ∷ xs) x = go (t y) (position_more t (m + 1) xs x)
  where
    go : (b : Bool) → position_from t (m + 1) (xs ++ x ∷ []) ≡ option_or (position_from t (m + 1) xs) (cond (t x) (Some (m + 1 + length xs)) None)
        → cond b (Some m) (position_from t (m + 1) (xs ++ x ∷ [])) ≡ option_or (cond b (Some m) (position_from t (m + 1) xs)) (cond (t x) (Some (m + suc (length xs))) None)
    go true rest = refl
    go false rest =
        let e : m + 1 + length xs ≡ m + suc (length xs) = omega arith in
        rest ∙ ap (λ n. option_or (position_from t (m + 1) xs) (cond (t x) (Some n) None)) e

-- tests that agree find the same
position_same : {X : Type 0} (t u : X → Bool) → ((x : X) → t x ≡ u x) → (m : ℕ) (xs : List X) → position_from t m xs ≡ position_from u m xs
position_same t u h m [] = refl
position_same t u h m (x ∷ xs) = λ i. cond (h x i) (Some m) (position_same t u h (m + 1) xs i)

take_long : {X : Type 0} (k : ℕ) (xs : List X) → k ≤ length xs → length (take k xs) ≡ k
take_long zero xs h = refl
take_long (suc k) [] h = absurd (omega (arith, h))
take_long (suc k) (x ∷ xs) h = ap suc (take_long k xs (omega (arith, h)))

module _ {I : Type 0} (eq : I → I → Bool) (laws : IsEquivalence eq) (S : Scheme I)
    (same : (i j : I) → S.is i j ≡ eq i j) (ans : List AnswerRows) (q : ℕ) where
  module _ (k t : ℕ) (own : I) (old : BTreeMap (ℕ × I) ℕ)
      (here : k < length (get_or ans q [])) (slot : t < slots (element_of S.elements q))
      (is : own ≡ S.inner q t (row_at ans q k))
      (before : Gives eq S q (λ s. take (reached k t s) (get_or ans q [])) old) where
    -- what is told of the index of a row
    pub told_first : first_given eq old t own ≡ giver S q t (take k (get_or ans q [])) (S.inner q t (row_at ans q k))
    told_first =
        before t own slot
        ∙ ap (λ (u : Bool). giver S q t (take (cond u (suc k) k) (get_or ans q [])) own) (lt_false t t (omega arith))
        ∙ ap (giver S q t (take k (get_or ans q []))) is

    -- after it is entered
    pub entered : (new : BTreeMap (ℕ × I) ℕ) → first_given eq old t own ≡ None
        → ((s : ℕ) (i : I) → first_given eq new s i
        ≡ cond (same_key eq (t, own) (s, i)) (Some (suc k)) (first_given eq old s i))
        → Gives eq S q (λ s. take (reached k (t + 1) s) (get_or ans q [])) new
    entered new none enters s i b = ⊎_elim (λ l. at_most l) (λ l. others (λ e. let f : t ≡ s = e in omega (arith, f, l)) (lt_false s t (omega (arith, l)) ∙ sym (lt_false s (t + 1) (omega (arith, l))))) (cases s t)
      where
        cases : (m n : ℕ) → (m ≤ n) ⊎ (n < m)
        cases m n = go (nat_lt n m) refl
          where
            go : (u : Bool) → nat_lt n m ≡ u → (m ≤ n) ⊎ (n < m)
            go true e = inr (ltb-true n m e)
            go false e = inl (ltb-false n m e)

        -- another inner bag
        others : (t ≡ s → ⊥) → nat_lt s t ≡ nat_lt s (t + 1) → first_given eq new s i ≡ giver S q s (take (reached k (t + 1) s) (get_or ans q [])) i
        others other far =
            enters s i
            ∙ ap (λ (u : Bool). cond (u && eq own i) (Some (suc k)) (first_given eq old s i)) (eq_false t s other)
            ∙ before s i b
            ∙ ap (λ (u : Bool). giver S q s (take (cond u (suc k) k) (get_or ans q [])) i) far

        -- this one
        this : t ≡ s → first_given eq new s i ≡ giver S q s (take (reached k (t + 1) s) (get_or ans q [])) i
        this e =
            subst (λ z. first_given eq new z i ≡ giver S q z (take (reached k (t + 1) z) (get_or ans q [])) i) e
            (enters t i
            ∙ ap (λ (u : Bool). cond (u && eq own i) (Some (suc k)) (first_given eq old t i)) ((Decides-eqb t t).1 refl)
            ∙ step (eq own i) refl
            ∙ sym more)
          where
            row : List Cell
            row = row_at ans q k

            at_t : first_given eq old t i ≡ giver S q t (take k (get_or ans q [])) i
            at_t = before t i slot ∙ ap (λ (u : Bool). giver S q t (take (cond u (suc k) k) (get_or ans q [])) i) (lt_false t t (omega arith))

            own_is : S.is (S.inner q t row) i ≡ eq own i
            own_is = same (S.inner q t row) i ∙ ap (λ z. eq z i) (sym is)

            long : 1 + length (take k (get_or ans q [])) ≡ suc k
            long = omega (arith, take_long k (get_or ans q []) (omega (arith, here)))

            more : giver S q t (take (reached k (t + 1) t) (get_or ans q [])) i ≡ option_or (giver S q t (take k (get_or ans q [])) i) (cond (eq own i) (Some (suc k)) None)
            more =
                ap (λ (u : Bool). giver S q t (take (cond u (suc k) k) (get_or ans q [])) i) (lt_true t (t + 1) (omega arith))
                ∙ ap (λ (l : AnswerRows). giver S q t l i) (take-suc (get_or ans q []) k [] here)
                ∙ position_more (λ r. S.is (S.inner q t r) i) 1 (take k (get_or ans q [])) row
                ∙ ap (λ (u : Bool). option_or (giver S q t (take k (get_or ans q [])) i) (cond u (Some (1 + length (take k (get_or ans q [])))) None)) own_is
                ∙ ap (λ n. option_or (giver S q t (take k (get_or ans q [])) i) (cond (eq own i) (Some n) None)) long

            step : (u : Bool) → eq own i ≡ u → cond u (Some (suc k)) (first_given eq old t i) ≡ option_or (giver S q t (take k (get_or ans q [])) i) (cond u (Some (suc k)) None)
            step false e = at_t ∙ nothing_more (giver S q t (take k (get_or ans q [])) i)
            step true e =
                let agrees : (r : List Cell) → S.is (S.inner q t r) i ≡ S.is (S.inner q t r) (S.inner q t row) = λ r.
                same (S.inner q t r) i ∙ laws.symm (S.inner q t r) i ∙ sym (laws.congr own i (S.inner q t r) e) ∙ laws.symm own (S.inner q t r)
                ∙ ap (eq (S.inner q t r)) is ∙ sym (same (S.inner q t r) (S.inner q t row)) in
                let empty : giver S q t (take k (get_or ans q [])) i ≡ None = position_same (λ r. S.is (S.inner q t r) i) (λ r. S.is (S.inner q t r) (S.inner q t row)) agrees 1 (take k (get_or ans q [])) ∙ sym told_first ∙ none in
                ap (λ (o : Option ℕ). option_or o (Some (suc k))) (sym empty)

        at_most : s ≤ t → first_given eq new s i ≡ giver S q s (take (reached k (t + 1) s) (get_or ans q [])) i
        at_most l =
            ⊎_elim
            (λ e. this (sym e))
            (λ u. others (λ e. let f : t ≡ s = e in omega (arith, f, u)) (lt_true s t u ∙ sym (lt_true s (t + 1) (omega (arith, u)))))
            (eq-or-lt_of_le l)

-- one answer more whose indexes are known
module _ {I : Type 0} (eq : I → I → Bool) (S : Scheme I) (ans : List AnswerRows) where
  at_front : {A : Type 0} (xs ys : List A) (k : ℕ) (d : A) → k < length xs → get_or (xs ++ ys) k d ≡ get_or xs k d
  at_front [] ys k d h = absurd (omega (arith, h))
  at_front (x ∷ xs) ys zero d h = refl
  at_front (x ∷ xs) ys (suc k) d h = at_front xs ys k d (omega (arith, h))

  at_last : {A : Type 0} (xs : List A) (x d : A) → get_or (xs ++ x ∷ []) (length xs) d ≡ x
  at_last [] x d = refl
  at_last (y ∷ xs) x d = at_last xs x d

  pub one_more : (given : List (Given I)) (q : ℕ) (own : Given I) → length given ≡ q → Gives eq S q (λ s. get_or ans q []) own.firsts → AreGiven eq S ans given → AreGiven eq S ans (given ++ own ∷ [])
  one_more given q own e mine each k d h =
      let low : k ≤ length given = omega (arith, h, length-append given (own ∷ [])) in
      ⊎_elim
      (λ last. subst (λ n. Gives eq S n (λ s. get_or ans n []) (get_or (given ++ own ∷ []) n d).firsts) (sym last)
      (subst (λ z. Gives eq S (length given) (λ s. get_or ans (length given) []) z.firsts) (sym (at_last given own d))
      (subst (λ n. Gives eq S n (λ s. get_or ans n []) own.firsts) (sym e) mine)))
      (λ before. subst (λ z. Gives eq S k (λ s. get_or ans k []) z.firsts) (sym (at_front given (own ∷ []) k d before)) (each k d before))
      (eq-or-lt_of_le low)
