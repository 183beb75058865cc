-- Spans that are listed by tag and number, and others.
use Rattle.std.proofs.Common.{◌≡◌, ◌≢◌, ℕ, ℤ, zero, suc, pos, negsuc, ◌<◌, List, [], ◌∷◌, ◌++◌}
use Rattle.std.proofs.Common.{length, get_or, set, replicate, refl, sym, ap, ap₂, ◌∙◌, subst}
use Rattle.std.proofs.Common.{Bool, true, false, cond, Option, Some, None, arith, true≢false}
use Rattle.std.proofs.Common.{inl, inr}
use Rattle.std.specs.Option.{option_map, unwrap_or}
use Rattle.std.specs.List.{All, AllByRecursion as Each}
use Rattle.std.proofs.lemmas.List.Elements.{All-from_recursion, recursion_from_All}
use Rattle.std.proofs.lemmas.Bool.Decides.{nat_tests, eqb_tells}
use Rattle.std.proofs.lemmas.List.{get_or-set_same, get_or-set_other, length-set}
use Rattle.std.specs.BTreeMap.{BTreeMap, get, is_at}
use Rattle.std.specs.Cmp.{both_tied}
use Rattle.std.specs.Map.{lookup}
use Rattle.std.specs.Ordering.{int_cmp, int_eq, is_eq}
use Rattle.answer_text.specs.Indexes.{index_cmp, is_index}
use Rattle.answer_text.specs.Spans.{number_place, in_list, place, listed_or, span_under, AreEmpty}
use Rattle.answer_text.specs.Spans.{HasOneMore, HasOneMoreOther}
use Rattle.answer_text.specs.declared.spans.Spans.{Spans}
use Rattle.answer_text.proofs.Spanning.{same_index, index_itself}

-- 1. places

-- what a place among so many says
number_there : (count : ℕ) (z : ℤ) (at : ℕ) → number_place count z ≡ Some at
    → (z ≡ pos at) × (at < count)
number_there count (pos n) at e = grind (arith, nat_tests)
number_there count (negsuc n) at e = absurd (cc)

second_there : (tag : ℕ) (n : Option ℕ) (at : ℕ × ℕ) → option_map (λ m. (tag, m)) n ≡ Some at
    → (tag ≡ at.0) × (n ≡ Some at.1)
second_there tag (Some m) at e = (
  ap (λ (o : Option (ℕ × ℕ)). (unwrap_or o (0, 0)).0) e,
  ap (λ (o : Option (ℕ × ℕ)). option_map (λ (p : ℕ × ℕ). p.1) o) e,
)
second_there tag None at e = absurd (cc)

pub place_there : (lists : List (List (ℕ × ℕ))) (i : ℤ × ℤ) (at : ℕ × ℕ) → place lists i ≡ Some at
    → (i ≡ (pos at.0, pos at.1)) × ((at.0 < length lists) × (at.1 < length (get_or lists at.0 [])))
place_there lists i at e = go (number_place (length lists) i.0) refl e
  where
    go : (t : Option ℕ) → number_place (length lists) i.0 ≡ t → in_list lists i.1 t ≡ Some at
        → (i ≡ (pos at.0, pos at.1))
        × ((at.0 < length lists) × (at.1 < length (get_or lists at.0 [])))
    go (Some tag) h k =
        let second = second_there tag (number_place (length (get_or lists tag [])) i.1) at k in
        let one = number_there (length lists) i.0 tag h in
        let two = number_there (length (get_or lists tag [])) i.1 at.1 second.1 in (
          ap₂ (λ (x y : ℤ). (x, y)) (one.0 ∙ ap pos second.0) two.0,
          (
            subst (λ t. t < length lists) second.0 one.1,
            subst (λ t. at.1 < length (get_or lists t [])) second.0 two.1,
          ),
        )
    go None h k = absurd (cc)

-- 2. the span under an index

pub listed_span : (spans : Spans) (i : ℤ × ℤ) (at : ℕ × ℕ) (span : ℕ × ℕ)
    → place spans.listed.items i ≡ Some at
    → span ≡ get_or (get_or spans.listed.items at.0 []) at.1 (0, 0) → span ≡ span_under spans i
listed_span spans i at span e is = is
    ∙ sym (ap (listed_or spans.listed.items (unwrap_or (get index_cmp spans.others i) (0, 0))) e)

pub other_span : (spans : Spans) (i : ℤ × ℤ) (span : ℕ × ℕ) → place spans.listed.items i ≡ None
    → span ≡ unwrap_or (get index_cmp spans.others i) (0, 0) → span ≡ span_under spans i
other_span spans i span e is = is
    ∙ sym (ap (listed_or spans.listed.items (unwrap_or (get index_cmp spans.others i) (0, 0))) e)

-- 3. no spans

pub empty_made : (n : ℕ) → AreEmpty (replicate n (0, 0))
empty_made zero zero = refl
empty_made zero (suc at) = refl
empty_made (suc n) zero = refl
empty_made (suc n) (suc at) = empty_made n at

empty_at : (lists : List (List (ℕ × ℕ))) → Each AreEmpty lists → (tag : ℕ)
    → AreEmpty (get_or lists tag [])
empty_at [] h zero at = empty_made 0 at
empty_at [] h (suc tag) at = empty_made 0 at
empty_at (list ∷ lists) h zero at = h.0 at
empty_at (list ∷ lists) h (suc tag) at = empty_at lists h.1 tag at

pub none_under : (spans : Spans) → Each AreEmpty spans.listed.items → spans.others.entries ≡ []
    → (i : ℤ × ℤ) → span_under spans i ≡ (0, 0)
none_under spans listed others i = go (place spans.listed.items i)
  where
    go : (p : Option (ℕ × ℕ)) → listed_or spans.listed.items
        (unwrap_or (get index_cmp spans.others i) (0, 0)) p ≡ (0, 0)
    go (Some at) = empty_at spans.listed.items listed at.0 at.1
    go None = ap (λ (es : List ((ℤ × ℤ) × (ℕ × ℕ))). unwrap_or (lookup (is_at (index_cmp i)) es) (0, 0))
        others

-- one list of empty spans more
pub listed_more : (lists : List (List (ℕ × ℕ))) (made : List (ℕ × ℕ)) (n : ℕ)
    → All AreEmpty lists → made ≡ replicate n (0, 0) → All AreEmpty (lists ++ made ∷ [])
listed_more lists made n empty is = All-from_recursion AreEmpty (lists ++ made ∷ [])
    (go lists (recursion_from_All AreEmpty lists empty))
  where
    go : (xs : List (List (ℕ × ℕ))) → Each AreEmpty xs → Each AreEmpty (xs ++ made ∷ [])
    go [] h = (subst AreEmpty (sym is) (empty_made n), tt)
    go (x ∷ xs) h = (h.0, go xs h.1)

-- 4. one span more

-- indexes are one as they tie
pub index_ties : (i j : ℤ × ℤ) → is_eq (index_cmp i j) ≡ is_index i j
index_ties i j = sym (both_tied (int_eq i.0 j.0) (int_eq i.1 j.1) (int_cmp i.0 j.0)
    (int_cmp i.1 j.1) refl refl)

module _ (lists : List (List (ℕ × ℕ))) (tag number : ℕ) (span : ℕ × ℕ) (tags : tag < length lists)
    (numbers : number < length (get_or lists tag [])) where
  abbrev pub put_at : List (List (ℕ × ℕ))
  put_at = set lists tag (set (get_or lists tag []) number span)

  own_list : get_or put_at tag [] ≡ set (get_or lists tag []) number span
  own_list = get_or-set_same lists tag (set (get_or lists tag []) number span) [] tags

  long_as_before : (t : ℕ) → length (get_or put_at t []) ≡ length (get_or lists t [])
  long_as_before t = elim (eqb_tells t tag) [
    | inl own ↦ ap (λ (j : ℕ). length (get_or put_at j [])) own.1 ∙ ap length own_list
        ∙ length-set (get_or lists tag []) number span
        ∙ ap (λ (j : ℕ). length (get_or lists j [])) (sym own.1)
    | inr other ↦ ap length (get_or-set_other lists tag t
        (set (get_or lists tag []) number span) [] other.1)
  ]

  in_same_list : (z : ℤ) (t : Option ℕ) → in_list put_at z t ≡ in_list lists z t
  in_same_list z (Some t) = ap (λ (n : ℕ). option_map (λ (at : ℕ). (t, at)) (number_place n z))
      (long_as_before t)
  in_same_list z None = refl

  pub same_place : (i : ℤ × ℤ) → place put_at i ≡ place lists i
  same_place i = ap (λ (n : ℕ). in_list put_at i.1 (number_place n i.0))
      (length-set lists tag (set (get_or lists tag []) number span))
      ∙ in_same_list i.1 (number_place (length lists) i.0)

  pub put_there : get_or (get_or put_at tag []) number (0, 0) ≡ span
  put_there = ap (λ (l : List (ℕ × ℕ)). get_or l number (0, 0)) own_list
      ∙ get_or-set_same (get_or lists tag []) number span (0, 0) numbers

  pub others_stay : (t n : ℕ) → (t ≡ tag → n ≢ number)
      → get_or (get_or put_at t []) n (0, 0) ≡ get_or (get_or lists t []) n (0, 0)
  others_stay t n apart = elim (eqb_tells t tag) [
    | inl own ↦ ap (λ (j : ℕ). get_or (get_or put_at j []) n (0, 0)) own.1
        ∙ ap (λ (l : List (ℕ × ℕ)). get_or l n (0, 0)) own_list
        ∙ get_or-set_other (get_or lists tag []) number n span (0, 0) (apart own.1)
        ∙ ap (λ (j : ℕ). get_or (get_or lists j []) n (0, 0)) (sym own.1)
    | inr other ↦ ap (λ (l : List (ℕ × ℕ)). get_or l n (0, 0)) (get_or-set_other lists tag t
        (set (get_or lists tag []) number span) [] other.1)
  ]

module _ (spans more : Spans) (index : ℤ × ℤ) (span : ℕ × ℕ) where
  abbrev other_at : Spans → ℤ × ℤ → ℕ × ℕ
  other_at all i = unwrap_or (get index_cmp all.others i) (0, 0)

  abbrev lists : List (List (ℕ × ℕ))
  lists = spans.listed.items

  pub put_listed : (at : ℕ × ℕ) → place lists index ≡ Some at → more.listed.items
      ≡ set lists at.0 (set (get_or lists at.0 []) at.1 span) → more.others ≡ spans.others
      → HasOneMore spans more index span
  put_listed at e listed others i =
      ap₂ (λ (l : List (List (ℕ × ℕ))) (all : BTreeMap (ℤ × ℤ) (ℕ × ℕ)).
      listed_or l (unwrap_or (get index_cmp all i) (0, 0)) (place l i)) listed others
      ∙ ap (listed_or now (other_at spans i)) (same_place lists at.0 at.1 span own.1.0 own.1.1 i)
      ∙ go (is_index index i) (place lists i) refl refl
    where
      own : (index ≡ (pos at.0, pos at.1))
          × ((at.0 < length lists) × (at.1 < length (get_or lists at.0 [])))
      own = place_there lists index at e

      now : List (List (ℕ × ℕ))
      now = put_at lists at.0 at.1 span own.1.0 own.1.1

      go : (b : Bool) (p : Option (ℕ × ℕ)) → is_index index i ≡ b → place lists i ≡ p
          → listed_or now (other_at spans i) p
          ≡ cond b span (listed_or lists (other_at spans i) p)
      go true p h k =
          let one : p ≡ Some at = sym k ∙ sym (ap (place lists) (same_index index i h)) ∙ e in
          ap (listed_or now (other_at spans i)) one
          ∙ put_there lists at.0 at.1 span own.1.0 own.1.1
      go false (Some m) h k =
          let there = place_there lists i m k in
          others_stay lists at.0 at.1 span own.1.0 own.1.1 m.0 m.1
          (λ same also. true≢false (sym (index_itself index) ∙ ap (is_index index) (own.0
          ∙ ap₂ (λ (t n : ℕ). (pos t, pos n)) (sym same) (sym also) ∙ sym there.0) ∙ h))
      go false None h k = refl

  pub put_other : place lists index ≡ None → more.listed.items ≡ lists
      → HasOneMoreOther spans.others more.others index span → HasOneMore spans more index span
  put_other e listed inserted i =
      ap₂ (λ (l : List (List (ℕ × ℕ))) (found : Option (ℕ × ℕ)).
      listed_or l (unwrap_or found (0, 0)) (place l i)) listed (inserted i)
      ∙ go (is_index index i) (place lists i) refl refl
    where
      go : (b : Bool) (p : Option (ℕ × ℕ)) → is_index index i ≡ b → place lists i ≡ p
          → listed_or lists (unwrap_or (cond b (Some span) (get index_cmp spans.others i)) (0, 0)) p
          ≡ cond b span (listed_or lists (other_at spans i) p)
      go true p h k =
          let one : p ≡ None = sym k ∙ sym (ap (place lists) (same_index index i h)) ∙ e in
          ap (listed_or lists span) one
      go false p h k = refl

pub ruleset spans_under = (listed_span, other_span)

pub ruleset spans_put = (put_listed, put_other)
