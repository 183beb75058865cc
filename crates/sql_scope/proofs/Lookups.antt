-- What is found under a name, and where names stand.
use Rattle.std.proofs.Common.{Bor, ◌≡◌, ℕ, Bool, true, false, cond, ◌||◌, List, [], ◌∷◌, ◌++◌, Option, Some, None, is_some, refl, sym, ap, ◌∙◌, append_assoc}
use Rattle.std.specs.Str.{bytes_eq}
use Rattle.std.proofs.lemmas.Slice.Eq.{bytes_eq-Decides}
use Rattle.nq_model.specs.Tables.{Columns}
use Rattle.sql_profile.specs.Scope.{among, found, names_in}
use Rattle.std.specs.Option.{option_map}
use Rattle.sql_scope.specs.Names.{before}
use Rattle.sql_scope.specs.Steps.{bounds}

-- a name is among those under which something is found
pub among_found : {A : Type 0} (name : List ℕ) (xs : List (List ℕ × A)) → among name (names_in xs) ≡ is_some (found name xs)
among_found name [] = refl
among_found {A} name (x ∷ xs) = go (bytes_eq name x.0) (among_found name xs)
  where
    go : (b : Bool) → among name (names_in xs) ≡ is_some (found name xs) → (b || among name (names_in xs)) ≡ is_some (cond b (Some x.1) (found name xs))
    go true e = refl
    go false e = e

-- what stands before others is looked at first
pub found_first : {A : Type 0} (name : List ℕ) (xs ys : List (List ℕ × A)) (x : A) → found name xs ≡ Some x → found name (xs ++ ys) ≡ Some x
found_first name [] ys x e = absurd (cc)
found_first {A} name (z ∷ xs) ys x e = go (bytes_eq name z.0) e (found_first name xs ys x)
  where
    go : (b : Bool) → cond b (Some z.1) (found name xs) ≡ Some x → (found name xs ≡ Some x → found name (xs ++ ys) ≡ Some x) → cond b (Some z.1) (found name (xs ++ ys)) ≡ Some x
    go true h r = h
    go false h r = r h

pub found_behind : {A : Type 0} (name : List ℕ) (xs ys : List (List ℕ × A)) → found name xs ≡ None → found name (xs ++ ys) ≡ found name ys
found_behind name [] ys e = refl
found_behind {A} name (z ∷ xs) ys e = go (bytes_eq name z.0) e (found_behind name xs ys)
  where
    go : (b : Bool) → cond b (Some z.1) (found name xs) ≡ None → (found name xs ≡ None → found name (xs ++ ys) ≡ found name ys) → cond b (Some z.1) (found name (xs ++ ys)) ≡ found name ys
    go true h r = absurd (cc)
    go false h r = r h

-- the last of those stands first
pub before_more : {A : Type 0} (ws : List A) (w : A) (ts : List A) → before (ws ++ w ∷ []) ts ≡ w ∷ before ws ts
before_more [] w ts = refl
before_more (v ∷ vs) w ts = before_more vs w (v ∷ ts)

-- a name is among others in any of these orders
or_swap : (a b c : Bool) → (a || (b || c)) ≡ (b || (a || c))
or_swap true true c = refl
or_swap true false c = refl
or_swap false b c = refl

among_before : (name : List ℕ) (ns seen : List (List ℕ)) → among name (before ns seen) ≡ (among name ns || among name seen)
among_before name [] seen = refl
among_before name (n ∷ ns) seen = among_before name ns (n ∷ seen) ∙ or_swap (among name ns) (bytes_eq name n) (among name seen) ∙ regroup (bytes_eq name n) (among name ns) (among name seen)
  where
    regroup : (a b c : Bool) → (a || (b || c)) ≡ ((a || b) || c)
    regroup true b c = refl
    regroup false b c = refl

or_none : (b : Bool) → (b || false) ≡ b
or_none true = refl
or_none false = refl

pub among_reversed : (name : List ℕ) (ns : List (List ℕ)) → among name (before ns []) ≡ among name ns
among_reversed name ns = among_before name ns [] ∙ or_none (among name ns)

-- an alias of a FROM, with the columns of its source
pub found_bound : (name : List ℕ) (own : List (List ℕ × Bor Columns)) → found name (bounds own) ≡ option_map (λ (r : Bor Columns). r.now) (found name own)
found_bound name [] = refl
found_bound name (x ∷ xs) = go (bytes_eq name x.0) (found_bound name xs)
  where
    go : (b : Bool) → found name (bounds xs) ≡ option_map (λ (r : Bor Columns). r.now) (found name xs)
        → cond b (Some x.1.now) (found name (bounds xs)) ≡ option_map (λ (r : Bor Columns). r.now) (cond b (Some x.1) (found name xs))
    go true e = refl
    go false e = e

pub bound_found : (name : List ℕ) (own : List (List ℕ × Bor Columns)) (columns : Bor Columns) → found name own ≡ Some columns → found name (bounds own) ≡ Some columns.now
bound_found name own columns e = found_bound name own ∙ ap (λ (o : Option (Bor Columns)). option_map (λ (r : Bor Columns). r.now) o) e

pub bound_nowhere : (name : List ℕ) (own : List (List ℕ × Bor Columns)) → found name own ≡ None → found name (bounds own) ≡ None
bound_nowhere name own e = found_bound name own ∙ ap (λ (o : Option (Bor Columns)). option_map (λ (r : Bor Columns). r.now) o) e

-- one more of a new name is found before the others and behind them
pub found_in_any_order : {A : Type 0} (name : List ℕ) (ws : List (List ℕ × A)) (w : List ℕ × A) (ts : List (List ℕ × A)) → ((n : List ℕ) → found n (before ws ts) ≡ found n (ws ++ ts)) → found w.0 (before ws ts) ≡ None
    → found name (before (ws ++ w ∷ []) ts) ≡ found name ((ws ++ w ∷ []) ++ ts)
found_in_any_order {A} name ws w ts same none =
    ap (found name) (before_more ws w ts) ∙ go (found name ws) refl ∙ ap (found name) (sym (append_assoc ws (w ∷ []) ts))
  where
    other : (b : Bool) → bytes_eq name w.0 ≡ b → (x : A) → found name ws ≡ Some x → cond b (Some w.1) (found name (before ws ts)) ≡ found name (before ws ts)
    other true e x some =
        let equal = (bytes_eq-Decides name w.0).0 e in
        let there : found name (before ws ts) ≡ Some x = same name ∙ found_first name ws ts x some in
        let nowhere : found name (before ws ts) ≡ None = ap (λ n. found n (before ws ts)) equal ∙ none in
        absurd (cc)
    other false e x some = refl

    go : (o : Option A) → found name ws ≡ o → cond (bytes_eq name w.0) (Some w.1) (found name (before ws ts)) ≡ found name (ws ++ w ∷ ts)
    go None e = ap (cond (bytes_eq name w.0) (Some w.1)) (same name ∙ found_behind name ws ts e) ∙ sym (found_behind name ws (w ∷ ts) e)
    go (Some x) e = other (bytes_eq name w.0) refl x e ∙ same name ∙ found_first name ws ts x e ∙ sym (found_first name ws (w ∷ ts) x e)
