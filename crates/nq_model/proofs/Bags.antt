-- Laws of pairings in any order.
use Rattle.std.proofs.Common.{◌≡◌, suc, length, List, [], ◌∷◌, ◌++◌, map, refl, sym, ap, ◌∙◌, subst, flat_map, Bool, true, false, cond, filter, append_assoc, append-nil, subst₂}
use Rattle.nq_model.specs.Bags.{Pick, here, there, Matched, Reordered}

-- two picks in a row, in the other order
pub pick_twice : {A : Type 0} {x y : A} {xs ys zs : List A} → Pick x xs ys → Pick y ys zs → (ws : List A) × Pick y xs ws × Pick x ws zs
pick_twice here q = (_, there q, here)
pick_twice (there p) here = (_, here, p)
pick_twice (there {z = z} p) (there q) =
    let r = pick_twice p q in (z ∷ r.0, there r.1, there r.2)

-- a pairing that holds after an element was taken out holds before, with that element's partner
pub matched_pick : {A B : Type 0} (R : A → B → Type 0) {y : A} {ys rest : List A} (zs : List B) → Pick y ys rest → Matched R ys zs → (z : B) × (left : List B) × Pick z zs left × R y z × Matched R rest left
matched_pick R zs here m = m
matched_pick R zs (there p) m =
    let n = matched_pick R m.1 p m.4 in
    let t = pick_twice m.2 n.2 in
    (n.0, t.0, t.1, n.3, (m.0, n.1, t.2, m.3, n.4))

pub matched_trans : {A B C : Type 0} (R : A → B → Type 0) (S : B → C → Type 0) (Q : A → C → Type 0) → ((x : A) (y : B) (z : C) → R x y → S y z → Q x z) → (xs : List A) (ys : List B) (zs : List C) → Matched R xs ys → Matched S ys zs → Matched Q xs zs
matched_trans R S Q t [] ys zs e n = subst (λ (l : List _). Matched S l zs) e n
matched_trans R S Q t (x ∷ xs) ys zs m n =
    let k = matched_pick S zs m.2 n in
    (k.0, k.1, k.2, t x m.0 k.0 m.3 k.3, matched_trans R S Q t xs m.1 k.1 m.4 k.4)

-- an element put back on both sides
pub matched_put : {A B : Type 0} (R : A → B → Type 0) {x : A} {y : B} {xs us : List A} (ys vs : List B) → Pick x xs us → Pick y ys vs → R x y → Matched R us vs → Matched R xs ys
matched_put R {y = y} ys vs here q r m = (y, vs, q, r, m)
matched_put R ys vs (there p) q r m =
    let t = pick_twice q m.2 in
    (m.0, t.0, t.1, m.3, matched_put R t.0 m.1 p t.2 r m.4)

pub matched_sym : {A B : Type 0} (R : A → B → Type 0) (S : B → A → Type 0) → ((x : A) (y : B) → R x y → S y x) → (xs : List A) (ys : List B) → Matched R xs ys → Matched S ys xs
matched_sym R S t [] ys e = subst (λ (l : List _). Matched S l []) (sym e) refl
matched_sym R S t (x ∷ xs) ys m =
    matched_put S (x ∷ xs) xs m.2 here (t x m.0 m.3) (matched_sym R S t xs m.1 m.4)

pub matched_refl : {A : Type 0} (R : A → A → Type 0) → ((x : A) → R x x) → (xs : List A) → Matched R xs xs
matched_refl R t [] = refl
matched_refl R t (x ∷ xs) = (x, xs, here, t x, matched_refl R t xs)

pub pick_append : {A : Type 0} {x : A} {xs ys : List A} (zs : List A) → Pick x xs ys → Pick x (xs ++ zs) (ys ++ zs)
pick_append zs here = here
pick_append zs (there p) = there (pick_append zs p)

pub matched_append : {A B : Type 0} (R : A → B → Type 0) (xs us : List A) (ys vs : List B) → Matched R xs ys → Matched R us vs → Matched R (xs ++ us) (ys ++ vs)
matched_append R [] us ys vs e n = subst (λ (l : List _). Matched R us (l ++ vs)) (sym e) n
matched_append R (x ∷ xs) us ys vs m n =
    (m.0, m.1 ++ vs, pick_append vs m.2, m.3, matched_append R xs us m.1 vs m.4 n)

-- each side by a function
pub matched_map : {A B C D : Type 0} (R : A → B → Type 0) (S : C → D → Type 0) (f : A → C) (g : B → D) → ((x : A) (y : B) → R x y → S (f x) (g y)) → (xs : List A) (ys : List B) → Matched R xs ys → Matched S (map f xs) (map g ys)
matched_map R S f g t [] ys e = ap (λ (l : List _). map g l) e
matched_map R S f g t (x ∷ xs) ys m =
    (g m.0, map g m.1, pick_map m.2, t x m.0 m.3, matched_map R S f g t xs m.1 m.4)
  where
    pick_map : {y : _} {ys rest : List _} → Pick y ys rest → Pick (g y) (map g ys) (map g rest)
    pick_map here = here
    pick_map (there p) = there (pick_map p)

-- a relation that follows
pub matched_weaker : {A B : Type 0} (R S : A → B → Type 0) → ((x : A) (y : B) → R x y → S x y) → (xs : List A) (ys : List B) → Matched R xs ys → Matched S xs ys
matched_weaker R S t [] ys e = e
matched_weaker R S t (x ∷ xs) ys m = (m.0, m.1, m.2, t x m.0 m.3, matched_weaker R S t xs m.1 m.4)

pub pick_middle : {A : Type 0} (x : A) (xs ys : List A) → Pick x (xs ++ x ∷ ys) (xs ++ ys)
pick_middle x [] ys = here
pick_middle x (z ∷ xs) ys = there (pick_middle x xs ys)

pub reordered_refl : {A : Type 0} (xs : List A) → Reordered xs xs
reordered_refl xs = matched_refl (λ x y. x ≡ y) (λ x. refl) xs

pub reordered_trans : {A : Type 0} (xs ys zs : List A) → Reordered xs ys → Reordered ys zs → Reordered xs zs
reordered_trans xs ys zs = matched_trans (λ x y. x ≡ y) (λ x y. x ≡ y) (λ x y. x ≡ y) (λ x y z p q. p ∙ q) xs ys zs

pub reordered_sym : {A : Type 0} (xs ys : List A) → Reordered xs ys → Reordered ys xs
reordered_sym xs ys = matched_sym (λ x y. x ≡ y) (λ x y. x ≡ y) (λ x y p. sym p) xs ys

pub reordered_append : {A : Type 0} (xs us ys vs : List A) → Reordered xs ys → Reordered us vs → Reordered (xs ++ us) (ys ++ vs)
reordered_append xs us ys vs = matched_append (λ x y. x ≡ y) xs us ys vs

pub reordered_comm : {A : Type 0} (xs ys : List A) → Reordered (xs ++ ys) (ys ++ xs)
reordered_comm [] ys = subst (λ (l : List _). Reordered ys l) (sym (append-nil ys)) (reordered_refl ys)
reordered_comm (x ∷ xs) ys = (x, ys ++ xs, pick_middle x ys xs, refl, reordered_comm xs ys)

pub reordered_swap : {A : Type 0} (xs ys zs : List A) → Reordered (xs ++ (ys ++ zs)) (ys ++ (xs ++ zs))
reordered_swap xs ys zs =
    subst₂ (λ (a b : List _). Reordered a b) (append_assoc xs ys zs) (append_assoc ys xs zs) (reordered_append (xs ++ ys) zs (ys ++ xs) zs (reordered_comm xs ys) (reordered_refl zs))

-- a pairing, then the same elements in another order
pub matched_reordered : {A B : Type 0} (R : A → B → Type 0) (xs : List A) (ys zs : List B) → Matched R xs ys → Reordered ys zs → Matched R xs zs
matched_reordered R xs ys zs = matched_trans R (λ x y. x ≡ y) R (λ x y z r e. subst (R x) e r) xs ys zs

pub reordered_matched : {A B : Type 0} (R : A → B → Type 0) (xs ys : List A) (zs : List B) → Reordered xs ys → Matched R ys zs → Matched R xs zs
reordered_matched R xs ys zs = matched_trans (λ x y. x ≡ y) R R (λ x y z e r. subst (λ w. R w z) (sym e) r) xs ys zs

pub pick_flat : {A B : Type 0} (g : A → List B) {y : A} {ys rest : List A} → Pick y ys rest → Reordered (g y ++ flat_map g rest) (flat_map g ys)
pick_flat g {y = y} {rest = rest} here = reordered_refl (g y ++ flat_map g rest)
pick_flat g {y = y} (there {z = z} {ys = ys} {rest = rest} p) =
    reordered_trans (g y ++ (g z ++ flat_map g rest)) (g z ++ (g y ++ flat_map g rest)) (g z ++ flat_map g ys) (reordered_swap (g y) (g z) (flat_map g rest)) (reordered_append (g z) (g y ++ flat_map g rest) (g z) (flat_map g ys) (reordered_refl (g z)) (pick_flat g p))

pub matched_flat_map : {A B C D : Type 0} (R : A → B → Type 0) (S : C → D → Type 0) (f : A → List C) (g : B → List D) → ((x : A) (y : B) → R x y → Matched S (f x) (g y)) → (xs : List A) (ys : List B) → Matched R xs ys → Matched S (flat_map f xs) (flat_map g ys)
matched_flat_map R S f g t [] ys e = ap (λ (l : List _). flat_map g l) e
matched_flat_map R S f g t (x ∷ xs) ys m =
    matched_reordered S (f x ++ flat_map f xs) (g m.0 ++ flat_map g m.1) (flat_map g ys) (matched_append S (f x) (flat_map f xs) (g m.0) (flat_map g m.1) (t x m.0 m.3) (matched_flat_map R S f g t xs m.1 m.4)) (pick_flat g m.2)

pub pick_filter : {A : Type 0} (q : A → Bool) {y : A} {ys rest : List A} → Pick y ys rest → q y ≡ true → Pick y (filter q ys) (filter q rest)
pick_filter q {y = y} {rest = rest} here e = subst (λ b. Pick y (cond b (y ∷ filter q rest) (filter q rest)) (filter q rest)) (sym e) here
pick_filter q {y = y} (there {z = z} {ys = ys} {rest = rest} p) e = go (q z) (pick_filter q p e)
  where
    go : (b : Bool) → Pick y (filter q ys) (filter q rest) → Pick y (cond b (z ∷ filter q ys) (filter q ys)) (cond b (z ∷ filter q rest) (filter q rest))
    go true h = there h
    go false h = h

pub pick_not_filter : {A : Type 0} (q : A → Bool) {y : A} {ys rest : List A} → Pick y ys rest → q y ≡ false → filter q ys ≡ filter q rest
pick_not_filter q {y = y} {rest = rest} here e = ap (λ b. cond b (y ∷ filter q rest) (filter q rest)) e
pick_not_filter q (there {z = z} p) e = ap (λ (l : List _). cond (q z) (z ∷ l) l) (pick_not_filter q p e)

pub matched_filter : {A B : Type 0} (R : A → B → Type 0) (p : A → Bool) (q : B → Bool) → ((x : A) (y : B) → R x y → p x ≡ q y) → (xs : List A) (ys : List B) → Matched R xs ys → Matched R (filter p xs) (filter q ys)
matched_filter R p q t [] ys e = ap (λ (l : List _). filter q l) e
matched_filter R p q t (x ∷ xs) ys m = go (p x) (t x m.0 m.3) (matched_filter R p q t xs m.1 m.4)
  where
    go : (b : Bool) → b ≡ q m.0 → Matched R (filter p xs) (filter q m.1) → Matched R (cond b (x ∷ filter p xs) (filter p xs)) (filter q ys)
    go true e h = (m.0, filter q m.1, pick_filter q m.2 (sym e), m.3, h)
    go false e h = subst (λ (l : List _). Matched R (filter p xs) l) (sym (pick_not_filter q m.2 (sym e))) h

pub pick_length : {A : Type 0} {y : A} {ys rest : List A} → Pick y ys rest → length ys ≡ suc (length rest)
pick_length here = refl
pick_length (there p) = ap suc (pick_length p)

pub matched_length : {A B : Type 0} (R : A → B → Type 0) (xs : List A) (ys : List B) → Matched R xs ys → length xs ≡ length ys
matched_length R [] ys m = ap length (sym m)
matched_length R (x ∷ xs) ys m = ap suc (matched_length R xs m.1 m.4) ∙ sym (pick_length m.2)
