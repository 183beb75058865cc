-- Going under a binder, coming out from under it, and looking a variable up.
use Rattle.std.proofs.Common.{◌≡◌, ℕ, zero, suc, ◌+◌, ◌-◌, ◌<◌, ◌≤◌, List, [], ◌∷◌, ◌++◌, reverse, length, Option, Some, None, set, refl, sym, ap, ◌∙◌, subst as along, arith}
use Rattle.std.specs.Prelude.{slice_get, MatchOption}
use Rattle.std.specs.Option.{option_to_list}
use Rattle.std.proofs.lemmas.List.{reverse-append, length-reverse}
use Rattle.nq_model.specs.Terms.{PlacedNode, at}
use Rattle.unfold.specs.declared.scope.Binder.{Binder}
use Rattle.unfold.specs.Environments.{Entry, stands_for, looked_up}
use Rattle.unfold.specs.Scopes.{IsFor, EachFor}
use Rattle.unfold.proofs.Typings.{right}

backwards : (e : Entry) (es : List Entry) → reverse (e ∷ es) ≡ reverse es ++ e ∷ []
backwards e es = reverse-append (e ∷ []) es

one_in : (bs : List Binder) (es : List Entry) (b : Binder) (e : Entry) → EachFor bs es → IsFor b e → EachFor (bs ++ b ∷ []) (es ++ e ∷ [])
one_in [] [] b e h i = (i, tt)
one_in [] (f ∷ es) b e h i = absurd h
one_in (c ∷ bs) [] b e h i = absurd h
one_in (c ∷ bs) (f ∷ es) b e h i = (h.0, one_in bs es b e h.1 i)

one_out : (bs : List Binder) (es : List Entry) (b : Binder) (e : Entry) → EachFor (bs ++ b ∷ []) (es ++ e ∷ []) → EachFor bs es
one_out [] [] b e h = tt
one_out [] (f ∷ []) b e h = absurd h.1
one_out [] (f ∷ (x ∷ es)) b e h = absurd h.1
one_out (c ∷ []) [] b e h = absurd h.1
one_out (c ∷ (x ∷ bs)) [] b e h = absurd h.1
one_out (c ∷ bs) (f ∷ es) b e h = (h.0, one_out bs es b e h.1)

-- going under a binder
pub entered : (bs cs : List Binder) (b : Binder) (es : List Entry) (e : Entry) → cs ≡ bs ++ b ∷ [] → EachFor bs (reverse es) → IsFor b e → EachFor cs (reverse (e ∷ es))
entered bs cs b es e c h i =
    along (λ xs. EachFor xs (reverse (e ∷ es))) (sym c) (along (EachFor (bs ++ b ∷ [])) (sym (backwards e es)) (one_in bs (reverse es) b e h i))

-- coming out
left_one : (bs cs : List Binder) (b : Binder) (es : List Entry) (e : Entry) → cs ≡ bs ++ b ∷ [] → EachFor cs (reverse (e ∷ es)) → EachFor bs (reverse es)
left_one bs cs b es e c h =
    one_out bs (reverse es) b e (along (EachFor (bs ++ b ∷ [])) (backwards e es) (along (λ xs. EachFor xs (reverse (e ∷ es))) c h))

-- as many entries as binders
as_many : (bs : List Binder) (es : List Entry) → EachFor bs es → length bs ≡ length es
as_many [] [] h = refl
as_many [] (e ∷ es) h = absurd h
as_many (b ∷ bs) [] h = absurd h
as_many (b ∷ bs) (e ∷ es) h = ap suc (as_many bs es h.1)

pub left_by : (o : Option Binder) (bs cs : List Binder) (m n : ℕ) (es : List Entry) (e : Entry) → n ≡ length cs → cs ≡ bs ++ option_to_list o → MatchOption o ((n ≡ 0) × (m ≡ 0)) (λ _. m + 1 ≡ n) → EachFor cs (reverse (e ∷ es)) → EachFor bs (reverse es)
left_by None bs cs m n es e l c k h =
    let q = as_many cs (reverse (e ∷ es)) h in
    let r = length-reverse (e ∷ es) in
    let z = k.0 in
    absurd (omega (arith, q, r, l, z))
left_by (Some b) bs cs m n es e l c k h = left_one bs cs b es e c h

-- a variable of the whole term
looked_outside : (n p : ℕ) (es : List Entry) (k : ℕ) → length es ≤ k → looked_up n p es k ≡ at p (PlacedNode.var (k - length es + n))
looked_outside n p [] k h = let e : k ≡ k - 0 = omega arith in ap (λ j. at p (PlacedNode.var (j + n))) e
looked_outside n p (e ∷ es) zero h = absurd (omega (arith, h))
looked_outside n p (e ∷ es) (suc k) h =
    let s : k - length es ≡ suc k - suc (length es) = omega arith in
    looked_outside n p es k (omega (arith, h)) ∙ ap (λ j. at p (PlacedNode.var (j + n))) s

pub looked_past : (n p count : ℕ) (bs : List Binder) (es : List Entry) (k : ℕ) → EachFor bs (reverse es) → count ≡ length bs → count ≤ k → at p (PlacedNode.var (k - count + n)) ≡ looked_up n p es k
looked_past n p count bs es k h c l =
    let m : count ≡ length es = c ∙ as_many bs (reverse es) h ∙ length-reverse es in
    ap (λ j. at p (PlacedNode.var (k - j + n))) m ∙ sym (looked_outside n p es k (omega (arith, m, l)))

-- a variable of a binder
backwards_at : (n p : ℕ) (es : List Entry) (k : ℕ) → k < length es → (e : Entry) → slice_get (reverse es) (length es - 1 - k) ≡ Some e → looked_up n p es k ≡ stands_for n p e
backwards_at n p [] k h e s = absurd (omega (arith, h))
backwards_at n p (f ∷ es) zero h e s =
    let l = length-reverse es in
    let i : suc (length es) - 1 - 0 ≡ length (reverse es) + 0 = omega (arith, l) in
    let q : slice_get (reverse es ++ f ∷ []) (length (reverse es) + 0) ≡ Some e = ap (λ xs. slice_get xs (length (reverse es) + 0)) (sym (backwards f es)) ∙ ap (slice_get (reverse (f ∷ es))) (sym i) ∙ s in
    let r : Some f ≡ Some e = sym (right (reverse es) (f ∷ []) 0) ∙ q in
    let t : f ≡ e = cc in
    ap (stands_for n p) t
backwards_at n p (f ∷ es) (suc k) h e s =
    let l = length-reverse es in
    let i : suc (length es) - 1 - suc k ≡ length es - 1 - k = omega (arith, h) in
    let b : length es - 1 - k < length (reverse es) = omega (arith, l, h) in
    let q : slice_get (reverse es ++ f ∷ []) (length es - 1 - k) ≡ Some e = ap (λ xs. slice_get xs (length es - 1 - k)) (sym (backwards f es)) ∙ ap (slice_get (reverse (f ∷ es))) (sym i) ∙ s in
    backwards_at n p es k (omega (arith, h)) e (sym (app_left (reverse es) (f ∷ []) (length es - 1 - k) b) ∙ q)
  where
    app_left : (xs ys : List Entry) (j : ℕ) → j < length xs → slice_get (xs ++ ys) j ≡ slice_get xs j
    app_left [] ys j h = absurd (omega (arith, h))
    app_left (x ∷ xs) ys zero h = refl
    app_left (x ∷ xs) ys (suc j) h = app_left xs ys j (omega (arith, h))

-- the entry of a binder, and the binder changed for one that stands for the same entry
is_at : (bs : List Binder) (es : List Entry) (i : ℕ) (b : Binder) → EachFor bs es → slice_get bs i ≡ Some b → (e : Entry) × (slice_get es i ≡ Some e) × IsFor b e × ((c : Binder) → IsFor c e → EachFor (set bs i c) es)
is_at [] es i b h s = absurd (cc)
is_at (c ∷ bs) [] i b h s = absurd h
is_at (c ∷ bs) (e ∷ es) zero b h s =
    let t : c ≡ b = cc in
    (e, refl, along (λ x. IsFor x e) t h.0, λ x i. (i, h.1))
is_at (c ∷ bs) (e ∷ es) (suc i) b h s =
    let r = is_at bs es i b h.1 s in
    (r.0, r.1, r.2, λ x j. (h.0, r.3 x j))

pub looked_inside : (n p : ℕ) (bs : List Binder) (es : List Entry) (k i : ℕ) (b : Binder) → EachFor bs (reverse es) → k < length bs → i ≡ length bs - 1 - k → slice_get bs i ≡ Some b → (e : Entry) × (looked_up n p es k ≡ stands_for n p e) × IsFor b e × ((c : Binder) → IsFor c e → EachFor (set bs i c) (reverse es))
looked_inside n p bs es k i b h l q s =
    let r = is_at bs (reverse es) i b h s in
    let m : length bs ≡ length es = as_many bs (reverse es) h ∙ length-reverse es in
    let j : i ≡ length es - 1 - k = omega (arith, m, q) in
    let t : slice_get (reverse es) (length es - 1 - k) ≡ Some r.0 = ap (slice_get (reverse es)) (sym j) ∙ r.1 in
    (r.0, backwards_at n p es k (omega (arith, m, l)) r.0 t, r.2, r.3)
