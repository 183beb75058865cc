-- What is found under a name stands there, the first of its name, and what is not found is nowhere.
use Rattle.std.proofs.Common.{◌≡◌, ◌≢◌, ℕ, Bool, true, false, cond, ◌||◌, List, [], ◌∷◌, ◌++◌, Some, None, refl, ap, ◌∙◌}
use Rattle.std.specs.List.{AllByRecursion as Each}
use Rattle.std.specs.Str.{bytes_eq}
use Rattle.std.proofs.lemmas.Slice.Eq.{bytes_eq-Decides}
use Rattle.sql_profile.specs.Scope.{names_in, found, among}

-- before the first of this name stand others
pub found_first : {A : Type 0} (name : List ℕ) (before after : List (List ℕ × A)) (x : A) → Each (λ n. name ≢ n) (names_in before) → found name (before ++ (name, x) ∷ after) ≡ Some x
found_first name [] after x e = ap (λ b. cond b (Some x) (found name after)) ((bytes_eq-Decides name name).1 refl)
found_first name (b ∷ bs) after x e = ap (λ t. cond t (Some b.1) (found name (bs ++ (name, x) ∷ after))) (other (bytes_eq name b.0) refl) ∙ found_first name bs after x e.1
  where
    other : (t : Bool) → bytes_eq name b.0 ≡ t → t ≡ false
    other true h = absurd (e.0 ((bytes_eq-Decides name b.0).0 h))
    other false h = refl

pub found_none : {A : Type 0} (name : List ℕ) (xs : List (List ℕ × A)) → Each (λ n. name ≢ n) (names_in xs) → found name xs ≡ None
found_none name [] e = refl
found_none name (x ∷ xs) e = ap (λ t. cond t (Some x.1) (found name xs)) (other (bytes_eq name x.0) refl) ∙ found_none name xs e.1
  where
    other : (t : Bool) → bytes_eq name x.0 ≡ t → t ≡ false
    other true h = absurd (e.0 ((bytes_eq-Decides name x.0).0 h))
    other false h = refl

-- a name is among those, or differs from each
pub among_none : (name : List ℕ) (ns : List (List ℕ)) → among name ns ≡ false → Each (λ n. name ≢ n) ns
among_none name [] e = tt
among_none name (n ∷ ns) e = go (bytes_eq name n) refl e (λ g. among_none name ns g)
  where
    go : (b : Bool) → bytes_eq name n ≡ b → (b || among name ns) ≡ false → (among name ns ≡ false → Each (λ n. name ≢ n) ns) → (name ≢ n) × Each (λ n. name ≢ n) ns
    go true h g rest = absurd (cc)
    go false h g rest = ((λ s. let t = (bytes_eq-Decides name n).1 s in absurd (cc)), rest g)

pub among_not : (name : List ℕ) (ns : List (List ℕ)) → Each (λ n. name ≢ n) ns → among name ns ≡ false
among_not name [] e = refl
among_not name (n ∷ ns) e = go (bytes_eq name n) refl (among_not name ns e.1)
  where
    go : (b : Bool) → bytes_eq name n ≡ b → among name ns ≡ false → (b || among name ns) ≡ false
    go true h rest = absurd (e.0 ((bytes_eq-Decides name n).0 h))
    go false h rest = rest
