-- One more row, inner bag or answer without fault, and the first with one.
use Rattle.std.proofs.Common.{◌≡◌, ◌≢◌, ℕ, zero, suc, ◌+◌, ◌<◌, ◌≤◌, List, [], ◌∷◌, refl, sym, ap, ◌∙◌, subst, Bool, get_or, length, take, Option, None, Some, option_map, arith, ⊎_elim, eq-or-lt_of_le}
use Rattle.std.specs.BTreeMap.{BTreeMap}
use Rattle.std.specs.Cmp.{IsEquivalence}
use Rattle.std.specs.Option.{option_or}
use Rattle.nq_ir.specs.Parts.{slots}
use Rattle.stitcher.specs.Linked as linked
use Rattle.stitcher.specs.Linked.{Home, row_at, first_from, outer_fault, inner_fault, row_fault}
use Rattle.stitcher.specs.Schemes.{Scheme, AnswerRows, element_of}
use Rattle.stitcher.proofs.Linked.{none_from, found_from}
use Rattle.foreign_answers.specs.Faults.{told}
use Rattle.foreign_answers.specs.Given.{first_given}
use Rattle.foreign_answers.specs.Judging.{column_in, Gives}
use Rattle.foreign_answers.specs.declared.faults.LinkFault.{LinkFault}
use Rattle.foreign_answers.specs.declared.faults.LinkFault.TheVariants as fault
use Rattle.foreign_answers.proofs.Entering.{reached, told_first}

-- a fault other than want of memory tells one
tells : (e : LinkFault) → e ≢ fault.Memory → (x : linked.LinkFault) × (told e ≡ Some x)
tells fault.Memory n = absurd (n refl)
tells (fault.Dangling answer row) n = (linked.dangling answer row, refl)
tells (fault.Twice answer row column earlier) n = (linked.twice answer row column earlier, refl)

module _ (find : ℕ → Option linked.LinkFault) where
  pub more_none : (n : ℕ) → ((j : ℕ) → j < n → find j ≡ None) → find n ≡ None → (j : ℕ) → j < n + 1 → find j ≡ None
  more_none n before here j h =
      let low : j ≤ n = omega (arith, h) in
      ⊎_elim (λ e. subst (λ i. find i ≡ None) (sym e) here) (λ l. before j l) (eq-or-lt_of_le low)

  pub all_none : (m n : ℕ) → n ≤ m → ((j : ℕ) → j < m → find j ≡ None) → first_from find 0 n ≡ None
  all_none m n low h = none_from find 0 n (λ j a b. h j (omega (arith, b, low)))

  pub first_told : (n m : ℕ) (e : LinkFault) → m < n → ((j : ℕ) → j < m → find j ≡ None) → e ≢ fault.Memory → find m ≡ told e → first_from find 0 n ≡ told e
  first_told n m e h before other is =
      let t = tells e other in
      found_from find 0 n m t.0 (omega arith) (omega (arith, h)) (λ j a b. before j b) (is ∙ t.1) ∙ sym t.1

module _ {I : Type 0} (S : Scheme I) (all : List Home) (column : ℕ → ℕ → ℕ) (ans : List AnswerRows) (q k : ℕ) where
  abbrev inners : Option linked.LinkFault
  inners = first_from (inner_fault S all column ans q k) 0 (slots (element_of S.elements q))

  pub row_none : outer_fault S all column ans q k ≡ None → inners ≡ None → row_fault S all column ans q k ≡ None
  row_none outer inner = ap (λ (o : Option linked.LinkFault). option_or o inners) outer ∙ inner

  pub outer_told : (e : LinkFault) → e ≢ fault.Memory → outer_fault S all column ans q k ≡ told e → row_fault S all column ans q k ≡ told e
  outer_told e other is =
      let t = tells e other in
      ap (λ (o : Option linked.LinkFault). option_or o inners) (is ∙ t.1) ∙ sym t.1

  pub inner_told : (e : LinkFault) → outer_fault S all column ans q k ≡ None → inners ≡ told e → row_fault S all column ans q k ≡ told e
  inner_told e outer is = ap (λ (o : Option linked.LinkFault). option_or o inners) outer ∙ is

-- what stands at a place, whatever stands where nothing does
pub got_any : {A : Type 0} (xs : List A) (k : ℕ) (d e : A) → k < length xs → get_or xs k d ≡ get_or xs k e
got_any [] k d e h = absurd (omega (arith, h))
got_any (x ∷ xs) zero d e h = refl
got_any (x ∷ xs) (suc k) d e h = got_any xs k d e (omega (arith, h))

-- the inner bags are as many as their columns
pub few_slots : (columns : List (List ℕ)) (q k n : ℕ) (tags : List ℕ) → tags ≡ get_or columns q [] → length (get_or columns q []) ≡ n → k < length tags → k < n
few_slots columns q k n tags e c h = omega (arith, ap length e, c, h)

pub no_more_slots : (columns : List (List ℕ)) (q k n : ℕ) (tags : List ℕ) → tags ≡ get_or columns q [] → length (get_or columns q []) ≡ n → length tags ≤ k → n ≤ k
no_more_slots columns q k n tags e c h = omega (arith, ap length e, c, h)

-- what an index tells that is entered
module _ {I : Type 0} (eq : I → I → Bool) (laws : IsEquivalence eq) (S : Scheme I)
    (same : (i j : I) → S.is i j ≡ eq i j) (all : List Home) (columns : List (List ℕ))
    (ans : List AnswerRows) (q k t : ℕ) (own : I) (old : BTreeMap (ℕ × I) ℕ)
    (here : k < length (get_or ans q [])) (slot : t < slots (element_of S.elements q))
    (is : own ≡ S.inner q t (row_at ans q k))
    (before : Gives eq S q (λ s. take (reached k t s) (get_or ans q [])) old)
    (found : Option ℕ) (e : found ≡ first_given eq old t own) where
  pub once_given : found ≡ None → inner_fault S all (column_in columns) ans q k t ≡ None
  once_given none = ap (option_map (linked.twice (suc q) (suc k) (column_in columns q t))) (sym (told_first eq laws S same ans q k t own old here slot is before) ∙ sym e ∙ none)

  pub twice_given : (text number earlier : ℕ) (tags : List ℕ) → text ≡ suc q → number ≡ suc k → tags ≡ get_or columns q [] → found ≡ Some earlier → inner_fault S all (column_in columns) ans q k t ≡ told (fault.Twice text number (get_or tags t 0) earlier)
  twice_given text number earlier tags at row are some =
      ap (option_map (linked.twice (suc q) (suc k) (column_in columns q t))) (sym (told_first eq laws S same ans q k t own old here slot is before) ∙ sym e ∙ some)
      ∙ (λ z. Some (linked.twice (sym at z) (sym row z) (get_or (sym are z) t 0) earlier))
