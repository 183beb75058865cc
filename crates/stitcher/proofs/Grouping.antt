-- One row more among the groups.
use Rattle.std.proofs.Common.{◌≡◌, ℕ, zero, suc, ◌+◌, ◌-◌, ◌<◌, ◌≤◌, List, [], ◌∷◌, ◌++◌, refl, sym, ap, ◌∙◌, subst, Bool, true, false, cond, Option, Some, map, filter, get_or, length, drop, drop-cons, arith, length-append}
use Rattle.std.proofs.Math.Seq.{drop-length}
use Rattle.std.specs.BTreeMap.{BTreeMap, get}
use Rattle.std.specs.Cmp.{IsEquivalence}
use Rattle.std.specs.Map.{lookup}
use Rattle.std.specs.Option.{unwrap_or}
use Rattle.std.specs.Ordering.{is_eq}
use Rattle.std.specs.declared.cmp.Ordering.{Ordering}
use Rattle.nq_model.specs.declared.table.Cell.{Cell}
use Rattle.stitcher.specs.Schemes.{AnswerRows}
use Rattle.stitcher.specs.Groups.{first_under, IsChain, GoesOn, row_before, AreGrouped, IsPutInFront}

get_front : (xs ys : List ℕ) (k : ℕ) → k < length xs → get_or (xs ++ ys) k 0 ≡ get_or xs k 0
get_front [] ys k h = absurd (omega (arith, h))
get_front (x ∷ xs) ys zero h = refl
get_front (x ∷ xs) ys (suc k) h = get_front xs ys k (omega (arith, h))

get_last : (xs : List ℕ) (x : ℕ) → get_or (xs ++ x ∷ []) (length xs) 0 ≡ x
get_last [] x = refl
get_last (y ∷ xs) x = get_last xs x

low_at : (xs : List ℕ) (x n : ℕ) → ((j : ℕ) → get_or xs j 0 ≤ j + n) → x ≤ length xs + n → (k : ℕ) → get_or (xs ++ x ∷ []) k 0 ≤ k + n
low_at [] x n h l zero = omega (arith, l)
low_at [] x n h l (suc k) = omega arith
low_at (y ∷ xs) x n h l zero = h 0
low_at (y ∷ xs) x n h l (suc k) =
    let r : get_or (xs ++ x ∷ []) k 0 ≤ k + suc n = low_at xs x (suc n) (λ j. let a : get_or xs j 0 ≤ suc j + n = h (suc j) in omega (arith, a)) (omega (arith, l)) k in
    omega (arith, r)

chain_kept : (nexts more : List ℕ) (place : ℕ) (ks : List ℕ) → IsChain nexts place ks → IsChain (nexts ++ more) place ks
chain_kept nexts more place [] h = h
chain_kept nexts more place (k ∷ ks) h =
    (h.0, omega (arith, length-append nexts more, h.1), subst (λ p. IsChain (nexts ++ more) p ks) (sym (get_front nexts more k h.1)) (chain_kept nexts more (get_or nexts k 0) ks h.2))

chain_low : (nexts : List ℕ) (place : ℕ) (ks : List ℕ) → IsChain nexts place ks → place ≤ length nexts
chain_low nexts place [] h = omega (arith, h)
chain_low nexts place (k ∷ ks) h = omega (arith, h.0, h.1)

last_first : (rows : AnswerRows) (d : ℕ) → d < length rows → drop (length rows - (d + 1)) rows ≡ get_or rows (length rows - suc d) [] ∷ drop (length rows - d) rows
last_first rows d h =
    let i = length rows - suc d in
    let first : drop i rows ≡ get_or rows i [] ∷ drop (suc i) rows = drop-cons rows i [] (omega (arith, h)) in
    let here : length rows - (d + 1) ≡ i = omega arith in
    let behind : suc i ≡ length rows - d = omega (arith, h) in
    ap (λ n. drop n rows) here ∙ first ∙ ap (λ n. get_or rows i [] ∷ drop n rows) behind

-- what is found by an order, where indexes are equal as they tie
module _ {I : Type 0} (eq : I → I → Bool) (cmp : I → I → Ordering) (agree : (i j : I) → eq i j ≡ is_eq (cmp i j)) where
  pub first_found : (firsts : BTreeMap I ℕ) (i : I) → unwrap_or (get cmp firsts i) 0 ≡ first_under eq firsts i
  first_found firsts i = λ t. unwrap_or (lookup (λ j. sym (agree i j) t) firsts.entries) 0

  pub put_in_front : (firsts more : BTreeMap I ℕ) (nexts longer : List ℕ) (index : I) (place next : ℕ) → place ≡ suc (length nexts) → next ≡ unwrap_or (get cmp firsts index) 0 → longer ≡ nexts ++ next ∷ []
      → ((i : I) → get cmp more i ≡ cond (is_eq (cmp index i)) (Some place) (get cmp firsts i)) → IsPutInFront eq firsts nexts more longer index
  put_in_front firsts more nexts longer index place next at found is updates = record {
    next = is ∙ ap (λ (n : ℕ). nexts ++ n ∷ []) (found ∙ first_found firsts index);
    first = λ i. sym (first_found more i) ∙ ap (λ (o : Option ℕ). unwrap_or o 0) (updates i) ∙ go (is_eq (cmp index i)) (get cmp firsts i)
        ∙ (λ t. cond (sym (agree index i) t) (suc (length nexts)) (first_found firsts i t));
  }
    where
      go : (b : Bool) (o : Option ℕ) → unwrap_or (cond b (Some place) o) 0 ≡ cond b (suc (length nexts)) (unwrap_or o 0)
      go true o = at
      go false o = refl

module _ {I : Type 0} (eq : I → I → Bool) (outer : List Cell → I) (rows : AnswerRows) where
  -- so many of the last rows are in groups
  pub record Going (count : ℕ) (firsts : BTreeMap I ℕ) (nexts : List ℕ) : Type 0 where
    pub counted : length nexts ≡ count
    pub grouped : AreGrouped eq outer rows (drop (length rows - count) rows) firsts nexts
    pub goes_on : GoesOn nexts

  pub none_going : (firsts : BTreeMap I ℕ) (nexts : List ℕ) → nexts ≡ [] → ((i : I) → first_under eq firsts i ≡ 0) → Going 0 firsts nexts
  none_going firsts nexts none empty = record {
    counted = ap length none;
    grouped = λ i.
        let whole : length rows - 0 ≡ length rows = omega arith in
        let rest : drop (length rows - 0) rows ≡ [] = ap (λ n. drop n rows) whole ∙ drop-length rows in
        ([], empty i, sym (ap (λ (l : AnswerRows). filter (λ r. eq (outer r) i) l) rest));
    goes_on = λ k. subst (λ (l : List ℕ). get_or l k 0 ≤ k) (sym none) (omega arith);
  }

  pub all_grouped : (count : ℕ) (firsts : BTreeMap I ℕ) (nexts : List ℕ) → length rows ≤ count → count ≤ length rows → Going count firsts nexts → AreGrouped eq outer rows rows firsts nexts
  all_grouped count firsts nexts low high g =
      let none : length rows - count ≡ 0 = omega (arith, low, high) in
      subst (λ n. AreGrouped eq outer rows (drop n rows) firsts nexts) none g.grouped

  module _ (laws : IsEquivalence eq) where
    same_first : (m : BTreeMap I ℕ) (i j : I) → eq i j ≡ true → first_under eq m i ≡ first_under eq m j
    same_first m i j e = λ t. unwrap_or (lookup (λ z. laws.congr i j z e t) m.entries) 0

    grouped_more : (left : AnswerRows) (firsts more : BTreeMap I ℕ) (nexts longer : List ℕ) → AreGrouped eq outer rows left firsts nexts → IsPutInFront eq firsts nexts more longer (outer (row_before rows (length nexts))) → AreGrouped eq outer rows (row_before rows (length nexts) ∷ left) more longer
    grouped_more left firsts more nexts longer g put i = go (eq index i) refl
      where
        index : I
        index = outer (row_before rows (length nexts))

        go : (b : Bool) → eq (outer (row_before rows (length nexts))) i ≡ b → (ks : List ℕ) × IsChain longer (first_under eq more i) ks × (map (row_before rows) ks ≡ cond b (row_before rows (length nexts) ∷ filter (λ r. eq (outer r) i) left) (filter (λ r. eq (outer r) i) left))
        go true e =
            let old = g i in
            let next = first_under eq firsts index in
            let chain : IsChain longer (first_under eq firsts i) old.0 = subst (λ (l : List ℕ). IsChain l (first_under eq firsts i) old.0) (sym put.next) (chain_kept nexts (next ∷ []) (first_under eq firsts i) old.0 old.1) in
            let at : get_or longer (length nexts) 0 ≡ first_under eq firsts i = ap (λ (l : List ℕ). get_or l (length nexts) 0) put.next ∙ get_last nexts next ∙ same_first firsts index i e in (
              length nexts ∷ old.0,
              (
                put.first i ∙ ap (λ t. cond t (suc (length nexts)) (first_under eq firsts i)) e,
                omega (arith, length-append nexts (next ∷ []), ap length put.next),
                subst (λ p. IsChain longer p old.0) (sym at) chain,
              ),
              ap (λ (l : AnswerRows). row_before rows (length nexts) ∷ l) old.2,
            )
        go false e =
            let old = g i in
            let next = first_under eq firsts index in
            let chain : IsChain longer (first_under eq firsts i) old.0 = subst (λ (l : List ℕ). IsChain l (first_under eq firsts i) old.0) (sym put.next) (chain_kept nexts (next ∷ []) (first_under eq firsts i) old.0 old.1) in
            (old.0, subst (λ p. IsChain longer p old.0) (sym (put.first i ∙ ap (λ t. cond t (suc (length nexts)) (first_under eq firsts i)) e)) chain, old.2)

    pub one_more : (count row : ℕ) (firsts more : BTreeMap I ℕ) (nexts longer : List ℕ) (index : I) → count < length rows → row ≡ length rows - 1 - count → index ≡ outer (get_or rows row []) → IsPutInFront eq firsts nexts more longer index → Going count firsts nexts → Going (count + 1) more longer
    one_more count row firsts more nexts longer index below place own put g =
        let next = first_under eq firsts index in
        let at : row ≡ length rows - suc (length nexts) = omega (arith, place, g.counted) in
        let own_at : index ≡ outer (row_before rows (length nexts)) = own ∙ ap (λ n. outer (get_or rows n [])) at in
        let put_at : IsPutInFront eq firsts nexts more longer (outer (row_before rows (length nexts))) = subst (λ j. IsPutInFront eq firsts nexts more longer j) own_at put in
        let low = chain_low nexts next (g.grouped index).0 (g.grouped index).1 in
        record {
          counted = omega (arith, length-append nexts (next ∷ []), ap length put.next, g.counted);
          grouped = subst (λ (l : AnswerRows). AreGrouped eq outer rows l more longer) (ap (λ n. row_before rows n ∷ drop (length rows - count) rows) g.counted ∙ sym (last_first rows count below)) (grouped_more (drop (length rows - count) rows) firsts more nexts longer g.grouped put_at);
          goes_on = λ k.
              let l : get_or (nexts ++ next ∷ []) k 0 ≤ k + 0 = low_at nexts next 0 (λ j. omega (arith, g.goes_on j)) (omega (arith, low)) k in
              subst (λ (xs : List ℕ). get_or xs k 0 ≤ k) (sym put.next) (omega (arith, l));
        }
