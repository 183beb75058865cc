-- The fields of an element, put one after another.
use Rattle.std.proofs.Common.{◌≡◌, ℕ, zero, suc, ◌+◌, ◌-◌, ◌<◌, List, [], ◌∷◌, ◌++◌, map, refl, sym}
use Rattle.std.proofs.Common.{ap, ap₂, ◌∙◌, drop, arith, append_assoc, ◌≤◌, length, true≢false}
use Rattle.std.proofs.Common.{Bool, true, false, IsTrue, ◌↔◌, Bor, Option, Some, None, MatchOption}
use Rattle.std.proofs.Common.{slice_get, option_copied}
use Rattle.std.proofs.lemmas.Option.{slice_get_past, slice_get-get_or}
use Rattle.std.specs.List.{HoldsAt}
use Rattle.std.proofs.lemmas.List.{map-append}
use Rattle.nq_ir.specs.declared.base.Gen.{Gen}
use Rattle.nq_model.proofs.Orders.{sorted_mapped}
use Rattle.nq_model.specs.NamedRows.{Label}
use Rattle.nq_model.specs.Orders.{label_cmp, by_label}
use Rattle.nq_model.specs.Types.{int}
use Rattle.lineage.proofs.Views.{rows_then}
use Rattle.lineage.specs.TraceForms.{tag_label, row_label, whole_label, row_fields, element_fields}
use Rattle.lineage.specs.TraceForms.{ints, number_body, number_bodies}

pub ints_step : (n k : ℕ) → k < n → ints (n - k) ≡ int ∷ ints (n - (k + 1))
ints_step n k l = let e : n - k ≡ suc (n - (k + 1)) = omega arith in ap ints e

number_first : (m k : ℕ) (gens : List Gen) → number_bodies (suc m) (drop k gens)
    ≡ number_body (slice_get gens k) ∷ number_bodies m (drop (suc k) gens)
number_first m zero [] = refl
number_first m (suc k) [] = refl
number_first m zero (g ∷ gens) = refl
number_first m (suc k) (g ∷ gens) = number_first m k gens

pub numbers_step : (n k : ℕ) (gens : List Gen) → k < n → number_bodies (n - k) (drop k gens)
    ≡ number_body (slice_get gens k) ∷ number_bodies (n - (k + 1)) (drop (k + 1) gens)
numbers_step n k gens l =
    let e : n - k ≡ suc (n - (k + 1)) = omega arith in
    let s : suc k ≡ k + 1 = omega arith in
    ap (λ m. number_bodies m (drop k gens)) e ∙ number_first (n - (k + 1)) k gens
    ∙ ap (λ j. number_body (slice_get gens k) ∷ number_bodies (n - (k + 1)) (drop j gens)) s

-- one number more
pub pushed : {A : Type 0} (old new all : List (Label × A)) (k : ℕ) (r : A) (rs : List A)
    → new ≡ old ++ (row_label (k + 1), r) ∷ [] → old ++ row_fields (k + 1) (r ∷ rs) [] ≡ all
    → new ++ row_fields (k + 1 + 1) rs [] ≡ all
pushed {A} old new all k r rs e h =
    let s : k + 1 + 1 ≡ suc (k + 1) = omega arith in
    ap (λ (l : List (Label × A)). l ++ row_fields (k + 1 + 1) rs []) e
    ∙ append_assoc old ((row_label (k + 1), r) ∷ []) (row_fields (k + 1 + 1) rs [])
    ∙ ap (λ j. old ++ (row_label (k + 1), r) ∷ row_fields j rs []) s ∙ h

-- a tag, numbers and the element itself, in the order of their labels
pub element_built : {A B : Type 0} (h : A → B) (tag whole : Label) (t v : A) (rs : List B)
    (start first rows all : List (Label × A)) → start ≡ [] → tag ≡ tag_label → whole ≡ whole_label
    → first ≡ start ++ (tag, t) ∷ []
    → map (λ (f : Label × A). (f.0, h f.1)) rows
    ≡ map (λ (f : Label × A). (f.0, h f.1)) first ++ row_fields 1 rs []
    → all ≡ rows ++ (whole, v) ∷ []
    → map (λ (f : Label × A). (f.0, h f.1)) (by_label all) ≡ element_fields (h t) rs (h v)
element_built {A} {B} h tag whole t v rs start first rows all s e w f r a =
    let view : (Label × A) → (Label × B) = λ x. (x.0, h x.1) in
    let one : map view first ≡ (tag_label, h t) ∷ [] =
    ap (map view) (f ∙ ap (λ (l : List (Label × A)). l ++ (tag, t) ∷ []) s)
    ∙ ap (λ l. (l, h t) ∷ []) e in
    let both : map view all ≡ (tag_label, h t) ∷ row_fields 1 rs ((whole_label, h v) ∷ []) =
    ap (map view) a ∙ map-append view rows ((whole, v) ∷ [])
    ∙ ap₂ (λ (x : List (Label × B)) (y : Label). x ++ (y, h v) ∷ []) (r
    ∙ ap (λ (x : List (Label × B)). x ++ row_fields 1 rs []) one) w
    ∙ ap (λ (x : List (Label × B)). (tag_label, h t) ∷ x)
    (rows_then 1 rs ((whole_label, h v) ∷ [])) in
    sym (sorted_mapped view (λ x y. label_cmp x.0 y.0) (λ x y. label_cmp x.0 y.0) (λ x y. refl) all)
    ∙ ap by_label both

-- what a look at a place gives
pub looked : (gens : List Gen) (k : ℕ) (o : Option (Bor Gen)) → MatchOption o (length gens ≤ k)
    (λ x. (k < length gens) × HoldsAt (λ y. x.now ≡ y) gens k)
    → option_copied o ≡ slice_get gens k
looked gens k None h = sym (slice_get_past gens k h)
looked gens k (Some x) h = sym (slice_get-get_or gens k x.now h.0 ∙ ap Some (sym (h.1 x.now)))

-- a test that tells whether something is
pub told_true : {P : Type 0} (b : Bool) → b ≡ true → (IsTrue b ↔ P) → P
told_true b e h = h.0 e

pub told_false : {P : Type 0} (b : Bool) → b ≡ false → (IsTrue b ↔ P) → P → ⊥
told_false b e h p = let w : true ≡ false = sym (h.1 p) ∙ e in true≢false w
