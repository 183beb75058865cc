-- The names of expected kinds are exact.
use Rattle.std.proofs.Common.{◌≡◌, ◌⊎◌, ℕ, zero, suc, Bool, true, false, not, ◌&&◌, ◌||◌}
use Rattle.std.proofs.Common.{if◌then◌else◌, List, [], ◌∷◌, ◌++◌, refl, sym, ap, subst, ◌∙◌}
use Rattle.std.proofs.Common.{inl, inr, arith, rules, Decides}
use Rattle.std.specs.List.{Contains}
use Rattle.std.specs.Str.{bytes_eq}
use Rattle.std.proofs.lemmas.Slice.Eq.{bytes_eq-Decides}
use Rattle.explanations.specs.Groups.{Group, alone, is_named, names, names_from}
use Rattle.explanations.specs.Lists.{among, all_among}
use Rattle.explanations.specs.Naming.{IsNamed, Names}

-- 1. lists

here : {X : Type 0} (x : X) (xs : List X) → Contains (x ∷ xs) x
here x xs = (0, omega arith, refl)

there : {X : Type 0} (x y : X) (xs : List X) → Contains xs y → Contains (x ∷ xs) y
there x y xs h = let within = h.1 in (suc h.0, omega (arith, within), h.2)

none : {X : Type 0} (x : X) → Contains [] x → ⊥
none x h = let within = h.1 in omega (arith, within)

first_or : {X : Type 0} (x y : X) (xs : List X) → Contains (x ∷ xs) y
    → (x ≡ y) ⊎ Contains xs y
first_or x y xs (zero, within, is) = inl is
first_or x y xs (suc k, within, is) = inr (k, omega (arith, within), is)

-- 2. tests

both_left : (a b : Bool) → (a && b) ≡ true → a ≡ true
both_left true b e = refl
both_left false b e = absurd (cc)

not_second : (a b : Bool) → a ≡ true → (a && not b) ≡ false → b ≡ true
not_second true true e f = refl
not_second true false e f = absurd (cc)
not_second false b e f = absurd (cc)

or_later : (b c d : Bool) → (b || c) ≡ true → (c ≡ true → d ≡ true) → (b || d) ≡ true
or_later true c d e f = refl
or_later false c d e f = f e

among_both : (xs ys : List (List ℕ)) (word : List ℕ) → among (xs ++ ys) word ≡ true
    → among ys word ≡ false → among xs word ≡ true
among_both [] ys word e f = absurd (let both : true ≡ false = sym e ∙ f in cc)
among_both (x ∷ xs) ys word e f =
    or_later (bytes_eq x word) (among (xs ++ ys) word) (among xs word) e
    (λ h. among_both xs ys word h f)

same_bytes : (word : List ℕ) → bytes_eq word word ≡ true
same_bytes word = go (bytes_eq word word) (bytes_eq-Decides word word) refl
  where
    go : (b : Bool) → Decides (bytes_eq word word) (word ≡ word) → bytes_eq word word ≡ b
        → bytes_eq word word ≡ true
    go b decides is = search (rules, decides)

same_word : (word : List ℕ) → among (word ∷ []) word ≡ true
same_word word = ap (λ b. b || false) (same_bytes word)

-- 3. the names of some groups

-- a group of these whose kinds are all expected, and whose name is said
record Said (expected said : List (List ℕ)) (gs : List Group) : Type 0 where
  group : Group
  listed : Contains gs group
  full : all_among expected group.1 ≡ true
  named : Contains said group.0

module _ (expected : List (List ℕ)) where
  abbrev step : Bool → List (List ℕ) → Group → List Group → List (List ℕ)
  step b taken group more =
      if b then group.0 ∷ names_from expected (taken ++ group.1) more
      else names_from expected taken more

  right : (gs : List Group) (taken : List (List ℕ)) (name : List ℕ)
      → Contains (names_from expected taken gs) name
      → (s : Said expected (names_from expected taken gs) gs) × (s.group.0 ≡ name)
  right [] taken name h = absurd (none name h)
  right (group ∷ more) taken name h =
      go (is_named expected taken group) refl h (right more (taken ++ group.1) name)
      (right more taken name)
    where
      Later : List (List ℕ) → Type 0
      Later said = (s : Said expected said more) × (s.group.0 ≡ name)

      lift : (said wider : List (List ℕ)) → ((n : List ℕ) → Contains said n → Contains wider n)
          → Later said → (s : Said expected wider (group ∷ more)) × (s.group.0 ≡ name)
      lift said wider grows s = (
        record {
          group = s.0.group;
          listed = there group s.0.group more s.0.listed;
          full = s.0.full;
          named = grows s.0.group.0 s.0.named;
        },
        s.1,
      )

      go : (b : Bool) → is_named expected taken group ≡ b
          → Contains (step b taken group more) name
          → (Contains (names_from expected (taken ++ group.1) more) name
          → Later (names_from expected (taken ++ group.1) more))
          → (Contains (names_from expected taken more) name
          → Later (names_from expected taken more))
          → (s : Said expected (step b taken group more) (group ∷ more)) × (s.group.0 ≡ name)
      go true is h after_it without_it = elim (first_or group.0 name _ h) [
        | inl e ↦ (
          record {
            group = group;
            listed = here group more;
            full = both_left (all_among expected group.1) _ is;
            named = here group.0 _;
          },
          e,
        )
        | inr later ↦ lift _ _ (λ n k. there group.0 n _ k) (after_it later)
      ]
      go false is h after_it without_it = lift _ _ (λ n k. k) (without_it h)

  -- a kind is in a group that is said, or was taken before
  abbrev In : List Group → List (List ℕ) → List (List ℕ) → List ℕ → Type 0
  In gs said taken kind =
      ((s : Said expected said gs) × (among s.group.1 kind ≡ true)) ⊎ (among taken kind ≡ true)

  whole : (gs : List Group) (taken : List (List ℕ)) (kind : List ℕ)
      → among expected kind ≡ true → Contains gs (alone kind)
      → In gs (names_from expected taken gs) taken kind
  whole [] taken kind e h = absurd (none (alone kind) h)
  whole (group ∷ more) taken kind e h =
      go (is_named expected taken group) (among group.1 kind) refl refl
      (first_or group (alone kind) more h)
      (λ k. whole more (taken ++ group.1) kind e k) (λ k. whole more taken kind e k)
    where
      lift : (said wider old new : List (List ℕ))
          → ((n : List ℕ) → Contains said n → Contains wider n)
          → (among old kind ≡ true → among new kind ≡ true) → In more said old kind
          → In (group ∷ more) wider new kind
      lift said wider old new grows back (inl s) = inl (
        record {
          group = s.0.group;
          listed = there group s.0.group more s.0.listed;
          full = s.0.full;
          named = grows s.0.group.0 s.0.named;
        },
        s.1,
      )
      lift said wider old new grows back (inr was) = inr (back was)

      own : (group ≡ alone kind) → among group.1 kind ≡ true
      own is = let P : Group → Type 0 = λ g. among g.1 kind ≡ true in
          subst P (sym is) (same_word kind)

      was_taken : is_named expected taken group ≡ false → group ≡ alone kind
          → among taken kind ≡ true
      was_taken is same =
          let P : Group → Type 0 = λ g. is_named expected taken g ≡ false in
          both_left (among taken kind) true
          (not_second (all_among expected (kind ∷ [])) (all_among taken (kind ∷ []))
          (ap (λ b. b && true) e) (subst P same is))

      go : (b a : Bool) → is_named expected taken group ≡ b → among group.1 kind ≡ a
          → (group ≡ alone kind) ⊎ Contains more (alone kind)
          → (Contains more (alone kind)
          → In more (names_from expected (taken ++ group.1) more) (taken ++ group.1) kind)
          → (Contains more (alone kind) → In more (names_from expected taken more) taken kind)
          → In (group ∷ more) (step b taken group more) taken kind
      go true true is in_it place after_it without_it = inl (
        record {
          group = group;
          listed = here group more;
          full = both_left (all_among expected group.1) _ is;
          named = here group.0 _;
        },
        in_it,
      )
      go true false is in_it (inl same) after_it without_it =
          absurd (let both : true ≡ false = sym (own same) ∙ in_it in cc)
      go true false is in_it (inr later) after_it without_it =
          lift _ _ _ _ (λ n k. there group.0 n _ k)
          (λ k. among_both taken group.1 kind k in_it) (after_it later)
      go false a is in_it (inl same) after_it without_it = inr (was_taken is same)
      go false a is in_it (inr later) after_it without_it =
          lift _ _ _ _ (λ n k. k) (λ k. k) (without_it later)

  to_named : (gs : List Group) (s : Said expected (names_from expected [] gs) gs)
      → IsNamed gs expected (names_from expected [] gs) s.group
  to_named gs s = record { listed = s.listed; full = s.full; named = s.named }

-- the names of kinds, each of which is a group by itself
pub all_named : (Kind : Type 0) (words : Kind → List ℕ) (gs : List Group)
    → ((kind : Kind) → Contains gs (alone (words kind))) → (expected : List (List ℕ))
    → Names Kind words gs expected (names gs expected)
unfolding names
all_named Kind words gs listed expected = record {
  right = λ name h. let s = right expected gs [] name h in
      (s.0.group, to_named expected gs s.0, s.1);
  whole = λ kind e.
      elim (whole expected gs [] (words kind) e (listed kind)) [
        | inl s ↦ (s.0.group, to_named expected gs s.0, s.1)
        | inr was ↦ absurd (cc)
      ];
}
