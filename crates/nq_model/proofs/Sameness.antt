-- Laws of sameness.
use Rattle.std.proofs.Common.{◌≡◌, ℕ, suc, ◌+◌, List, [], ◌∷◌, refl, sym, ap, ap₂, ◌∙◌, subst, Bool, true, false, cond, length, arith, Decides, ◌&&◌, nat_eq, true≢false, count_by, ◌⊎◌, inl, inr}
use Rattle.std.specs.Str.{bytes_eq}
use Rattle.std.specs.Bool.{one_answer}
use Rattle.std.specs.List.{AllByRecursion as Each}
use Rattle.std.proofs.lemmas.Slice.Eq.{bytes_eq-Decides}
use Rattle.std.proofs.lemmas.Bool.Decides.{Decides-eqb, Decides-int_eq}
use Rattle.std.proofs.lemmas.List.Sums.{sum_by-cons}
use Rattle.nq_model.specs.Bags.{Pick, here, there, Matched}
use Rattle.nq_model.specs.Cells.{cell_eq}
use Rattle.nq_model.specs.declared.table.Cell.{Cell}
use Rattle.nq_model.specs.declared.table.Cell.TheVariants.{Int, Bool as Truth, Text}
use Rattle.nq_model.specs.Values.{Nested, base, rec, bag, Elements, end, more, Fields, none, field, elements, elements_of, bag_of, Same, SameFields, SameElements, same, same_fields, same_counts}
use Rattle.nq_model.proofs.Bags.{matched_pick, matched_put, matched_length, pick_length}

pub elements_back : (xs : List Nested) → elements (elements_of xs) ≡ xs
elements_back [] = refl
elements_back (x ∷ xs) = ap (λ (l : List Nested). x ∷ l) (elements_back xs)

pub elements_of_back : (vs : Elements) → elements_of (elements vs) ≡ vs
elements_of_back end = refl
elements_of_back (more v vs) = ap (λ l. more v l) (elements_of_back vs)

-- two bags are the same where their elements are matched by sameness
pub matched_same : (vs : Elements) (ws : List Nested) → SameElements vs ws → Matched Same (elements vs) ws
matched_same end ws m = m
matched_same (more v vs) ws m = (m.0, m.1, m.2, m.3, matched_same vs m.1 m.4)

pub same_matched : (vs : Elements) (ws : List Nested) → Matched Same (elements vs) ws → SameElements vs ws
same_matched end ws m = m
same_matched (more v vs) ws m = (m.0, m.1, m.2, m.3, same_matched vs m.1 m.4)

-- matched elements make the same bag
pub same_bag : (xs ys : List Nested) → Matched Same xs ys → Same (bag_of xs) (bag_of ys)
same_bag xs ys m =
    same_matched (elements_of xs) (elements (elements_of ys)) (subst (λ (l : List Nested). Matched Same l (elements (elements_of ys))) (sym (elements_back xs)) (subst (λ (l : List Nested). Matched Same xs l) (sym (elements_back ys)) m))

pub bag_same : (xs ys : List Nested) → Same (bag_of xs) (bag_of ys) → Matched Same xs ys
bag_same xs ys s =
    subst (λ (l : List Nested). Matched Same l ys) (elements_back xs) (subst (λ (l : List Nested). Matched Same (elements (elements_of xs)) l) (elements_back ys) (matched_same (elements_of xs) (elements (elements_of ys)) s))

mutual
  pub same_refl : (v : Nested) → Same v v
  same_refl (base c) = refl
  same_refl (rec fs) = same_fields_refl fs
  same_refl (bag vs) = same_elements_refl vs

  pub same_fields_refl : (fs : Fields) → SameFields fs fs
  same_fields_refl none = tt
  same_fields_refl (field l v fs) = (refl, same_refl v, same_fields_refl fs)

  same_elements_refl : (vs : Elements) → SameElements vs (elements vs)
  same_elements_refl end = refl
  same_elements_refl (more v vs) = (v, elements vs, here, same_refl v, same_elements_refl vs)

mutual
  pub same_trans : (u v w : Nested) → Same u v → Same v w → Same u w
  same_trans (base c) (base d) (base e) p q = p ∙ q
  same_trans (base c) (base d) (rec hs) p q = absurd q
  same_trans (base c) (base d) (bag ws) p q = absurd q
  same_trans (base c) (rec gs) w p q = absurd p
  same_trans (base c) (bag vs) w p q = absurd p
  same_trans (rec fs) (base d) w p q = absurd p
  same_trans (rec fs) (rec gs) (base e) p q = absurd q
  same_trans (rec fs) (rec gs) (rec hs) p q = same_fields_trans fs gs hs p q
  same_trans (rec fs) (rec gs) (bag ws) p q = absurd q
  same_trans (rec fs) (bag vs) w p q = absurd p
  same_trans (bag us) (base d) w p q = absurd p
  same_trans (bag us) (rec gs) w p q = absurd p
  same_trans (bag us) (bag vs) (base e) p q = absurd q
  same_trans (bag us) (bag vs) (rec hs) p q = absurd q
  same_trans (bag us) (bag vs) (bag ws) p q = same_elements_trans us (elements vs) (elements ws) p (matched_same vs (elements ws) q)

  same_fields_trans : (fs gs hs : Fields) → SameFields fs gs → SameFields gs hs → SameFields fs hs
  same_fields_trans none none hs p q = q
  same_fields_trans none (field l w gs) hs p q = absurd p
  same_fields_trans (field k v fs) none hs p q = absurd p
  same_fields_trans (field k v fs) (field l w gs) none p q = absurd q
  same_fields_trans (field k v fs) (field l w gs) (field m x hs) p q =
      (p.0 ∙ q.0, same_trans v w x p.1 q.1, same_fields_trans fs gs hs p.2 q.2)

  same_elements_trans : (us : Elements) (vs ws : List Nested) → SameElements us vs → Matched Same vs ws → SameElements us ws
  same_elements_trans end vs ws p q = subst (λ (l : List Nested). Matched Same l ws) p q
  same_elements_trans (more u us) vs ws p q =
      let k = matched_pick Same ws p.2 q in
      (k.0, k.1, k.2, same_trans u p.0 k.0 p.3 k.3, same_elements_trans us p.1 k.1 p.4 k.4)

mutual
  pub same_sym : (v w : Nested) → Same v w → Same w v
  same_sym (base c) (base d) p = sym p
  same_sym (base c) (rec gs) p = absurd p
  same_sym (base c) (bag ws) p = absurd p
  same_sym (rec fs) (base d) p = absurd p
  same_sym (rec fs) (rec gs) p = same_fields_sym fs gs p
  same_sym (rec fs) (bag ws) p = absurd p
  same_sym (bag vs) (base d) p = absurd p
  same_sym (bag vs) (rec gs) p = absurd p
  same_sym (bag vs) (bag ws) p = same_matched ws (elements vs) (same_elements_sym vs (elements ws) p)

  same_fields_sym : (fs gs : Fields) → SameFields fs gs → SameFields gs fs
  same_fields_sym none none p = tt
  same_fields_sym none (field l w gs) p = absurd p
  same_fields_sym (field k v fs) none p = absurd p
  same_fields_sym (field k v fs) (field l w gs) p = (sym p.0, same_sym v w p.1, same_fields_sym fs gs p.2)

  same_elements_sym : (vs : Elements) (ws : List Nested) → SameElements vs ws → Matched Same ws (elements vs)
  same_elements_sym end ws p = subst (λ (l : List Nested). Matched Same l []) (sym p) refl
  same_elements_sym (more v vs) ws p =
      matched_put Same (v ∷ elements vs) (elements vs) p.2 here (same_sym v p.0 p.3) (same_elements_sym vs p.1 p.4)

pub count_cons : {A : Type 0} (p : A → Bool) (x : A) (xs : List A) → count_by p (x ∷ xs) ≡ cond (p x) 1 0 + count_by p xs
count_cons p x xs = sum_by-cons (λ y. cond (p y) 1 0) x xs

swapped : (a b c d : ℕ) → d ≡ b + c → a + d ≡ b + (a + c)
swapped a b c d e = omega arith

-- counting: a picked element counts as if it stood in front
pub count_pick : {A : Type 0} (p : A → Bool) {y : A} {ys rest : List A} → Pick y ys rest → count_by p ys ≡ count_by p (y ∷ rest)
count_pick p here = refl
count_pick p {y = y} (there {z = z} {ys = ys} {rest = rest} q) =
    count_cons p z ys
    ∙ swapped (cond (p z) 1 0) (cond (p y) 1 0) (count_by p rest) (count_by p ys) (count_pick p q ∙ count_cons p y rest)
    ∙ sym (count_cons p y (z ∷ rest) ∙ ap (λ n. cond (p y) 1 0 + n) (count_cons p z rest))

one_or_none : (b : Bool) (m n : ℕ) → cond b 1 0 + m ≡ suc n → (b ≡ true) ⊎ (m ≡ suc n)
one_or_none true m n e = inl refl
one_or_none false m n e = inr (omega arith)

-- where something passes, it can be picked
pub pick_passing : {A : Type 0} (p : A → Bool) (ys : List A) (n : ℕ) → count_by p ys ≡ suc n → (y : A) × (rest : List A) × Pick y ys rest × (p y ≡ true)
pick_passing p [] n e = absurd (omega arith)
pick_passing {A} p (y ∷ ys) n e =
    elim (one_or_none (p y) (count_by p ys) n (sym (count_cons p y ys) ∙ e)) [
      | inl t ↦ (y, ys, here, t)
      | inr later ↦ let r = pick_passing p ys n later in (r.0, y ∷ r.1, there r.2, r.3)
    ]

-- the test decides sameness to v
abbrev Judged : Nested → Type 0
Judged v = (w : Nested) → Decides (same v w) (Same v w)

judged_alike : (v x y : Nested) → Judged v → Same x y → same v x ≡ same v y
judged_alike v x y j s = one_answer (same v x) (same v y) (j x) (both_ways (j y))
  where
    both_ways : Decides (same v y) (Same v y) → Decides (same v y) (Same v x)
    both_ways d = (λ e. same_trans v y x (d.0 e) (same_sym x y s), λ h. d.1 (same_trans v x y h s))

counts_of_matched : (v : Nested) → Judged v → (xs ys : List Nested) → Matched Same xs ys → count_by (same v) xs ≡ count_by (same v) ys
counts_of_matched v j [] ys m = ap (count_by (same v)) (sym m)
counts_of_matched v j (x ∷ xs) ys m =
    count_cons (same v) x xs
    ∙ ap₂ (λ b n. cond b 1 0 + n) (judged_alike v x m.0 j m.3) (counts_of_matched v j xs m.1 m.4)
    ∙ sym (count_pick (same v) m.2 ∙ count_cons (same v) m.0 m.1)

matched_of_counts : (xs ys : List Nested) → Each Judged xs → length xs ≡ length ys → Each (λ v. count_by (same v) xs ≡ count_by (same v) ys) xs → Matched Same xs ys
matched_of_counts [] [] j e c = refl
matched_of_counts [] (y ∷ ys) j e c = absurd (omega arith)
matched_of_counts (x ∷ xs) ys j e c =
    let own : same x x ≡ true = (j.0 x).1 (same_refl x) in
    let some : count_by (same x) ys ≡ suc (count_by (same x) xs) = sym c.0 ∙ count_cons (same x) x xs ∙ ap (λ b. cond b 1 0 + count_by (same x) xs) own ∙ one_more (count_by (same x) xs) in
    let p = pick_passing (same x) ys (count_by (same x) xs) some in
    let s : Same x p.0 = (j.0 p.0).0 p.3 in
    (p.0, p.1, p.2, s, matched_of_counts xs p.1 j.1 (omega (arith, pick_length p.2)) (rest p.0 p.1 p.2 s xs j.1 c.1))
  where
    one_more : (n : ℕ) → 1 + n ≡ suc n
    one_more n = omega arith

    less : (v y : Nested) (left : List Nested) → Pick y ys left → Same x y → Judged v → count_by (same v) (x ∷ xs) ≡ count_by (same v) ys → count_by (same v) xs ≡ count_by (same v) left
    less v y left p s j h = drop (same v x) (same v y) (judged_alike v x y j s) (sym (count_cons (same v) x xs) ∙ h ∙ count_pick (same v) p ∙ count_cons (same v) y left)
      where
        drop : (a b : Bool) → a ≡ b → cond a 1 0 + count_by (same v) xs ≡ cond b 1 0 + count_by (same v) left → count_by (same v) xs ≡ count_by (same v) left
        drop true true e h = omega arith
        drop true false e h = absurd (cc)
        drop false true e h = absurd (cc)
        drop false false e h = omega arith

    rest : (y : Nested) (left : List Nested) → Pick y ys left → Same x y → (zs : List Nested) → Each Judged zs → Each (λ v. count_by (same v) (x ∷ xs) ≡ count_by (same v) ys) zs → Each (λ v. count_by (same v) xs ≡ count_by (same v) left) zs
    rest y left p s [] j c = tt
    rest y left p s (z ∷ zs) j c = (less z y left p s j.0 c.0, rest y left p s zs j.1 c.1)

and_Decides : {P Q : Type 0} (a b : Bool) → Decides a P → Decides b Q → Decides (a && b) (P × Q)
and_Decides true true d e = (λ h. (d.0 refl, e.0 refl), λ h. refl)
and_Decides true false d e = (λ h. absurd (true≢false (sym h)), λ h. e.1 h.1)
and_Decides false b d e = (λ h. absurd (true≢false (sym h)), λ h. d.1 h.0)

nat_Decides : (m n : ℕ) → Decides (nat_eq m n) (m ≡ n)
nat_Decides m n = Decides-eqb m n

pub cell_Decides : (c d : Cell) → Decides (cell_eq c d) (c ≡ d)
cell_Decides (Int a) (Int b) = (λ h. ap Int ((Decides-int_eq a b).0 h), λ h. let e : a ≡ b = cc in (Decides-int_eq a b).1 e)
cell_Decides (Int a) (Truth b) = (λ h. absurd (cc), λ h. absurd (cc))
cell_Decides (Int a) (Text b) = (λ h. absurd (cc), λ h. absurd (cc))
cell_Decides (Truth a) (Int b) = (λ h. absurd (cc), λ h. absurd (cc))
cell_Decides (Truth true) (Truth true) = (λ h. refl, λ h. refl)
cell_Decides (Truth true) (Truth false) = (λ h. absurd (cc), λ h. absurd (cc))
cell_Decides (Truth false) (Truth true) = (λ h. absurd (cc), λ h. absurd (cc))
cell_Decides (Truth false) (Truth false) = (λ h. refl, λ h. refl)
cell_Decides (Truth a) (Text b) = (λ h. absurd (cc), λ h. absurd (cc))
cell_Decides (Text a) (Int b) = (λ h. absurd (cc), λ h. absurd (cc))
cell_Decides (Text a) (Truth b) = (λ h. absurd (cc), λ h. absurd (cc))
cell_Decides (Text a) (Text b) = (λ h. ap Text ((bytes_eq-Decides a b).0 h), λ h. let e : a ≡ b = cc in (bytes_eq-Decides a b).1 e)

three : {P Q R : Type 0} (a b c : Bool) → Decides a P → Decides b Q → Decides c R → Decides (a && (b && c)) (P × Q × R)
three a b c d e f =
    let r = and_Decides a (b && c) d (and_Decides b c e f) in
    (λ h. let t = r.0 h in (t.0, t.1.0, t.1.1), λ h. r.1 (h.0, (h.1, h.2)))

counts_Decides : (vs : Elements) (xs ys : List Nested) → Decides (same_counts vs xs ys) (Each (λ v. count_by (same v) xs ≡ count_by (same v) ys) (elements vs))
counts_Decides end xs ys = (λ h. tt, λ h. refl)
counts_Decides (more v vs) xs ys =
    and_Decides (nat_eq (count_by (same v) xs) (count_by (same v) ys)) (same_counts vs xs ys) (nat_Decides (count_by (same v) xs) (count_by (same v) ys)) (counts_Decides vs xs ys)

each_counts : (xs ys zs : List Nested) → Each Judged zs → Matched Same xs ys → Each (λ v. count_by (same v) xs ≡ count_by (same v) ys) zs
each_counts xs ys [] j m = tt
each_counts xs ys (z ∷ zs) j m = (counts_of_matched z j.0 xs ys m, each_counts xs ys zs j.1 m)

bags_Decides : (vs ws : Elements) → Each Judged (elements vs) → Decides (nat_eq (length (elements vs)) (length (elements ws)) && same_counts vs (elements vs) (elements ws)) (SameElements vs (elements ws))
bags_Decides vs ws j =
    let r = and_Decides (nat_eq (length (elements vs)) (length (elements ws))) (same_counts vs (elements vs) (elements ws)) (nat_Decides (length (elements vs)) (length (elements ws))) (counts_Decides vs (elements vs) (elements ws)) in (
      λ h. let t = r.0 h in same_matched vs (elements ws) (matched_of_counts (elements vs) (elements ws) j t.0 t.1),
      λ h. let m = matched_same vs (elements ws) h in r.1 (matched_length Same (elements vs) (elements ws) m, each_counts (elements vs) (elements ws) (elements vs) j m),
    )

-- counting decides sameness, so the two definitions are one
mutual
  pub same_Decides : (v w : Nested) → Decides (same v w) (Same v w)
  same_Decides (base c) (base d) = cell_Decides c d
  same_Decides (base c) (rec gs) = (λ h. true≢false (sym h), λ h. absurd h)
  same_Decides (base c) (bag ws) = (λ h. true≢false (sym h), λ h. absurd h)
  same_Decides (rec fs) (base d) = (λ h. true≢false (sym h), λ h. absurd h)
  same_Decides (rec fs) (rec gs) = fields_Decides fs gs
  same_Decides (rec fs) (bag ws) = (λ h. true≢false (sym h), λ h. absurd h)
  same_Decides (bag vs) (base d) = (λ h. true≢false (sym h), λ h. absurd h)
  same_Decides (bag vs) (rec gs) = (λ h. true≢false (sym h), λ h. absurd h)
  same_Decides (bag vs) (bag ws) = bags_Decides vs ws (each_judged vs)

  fields_Decides : (fs gs : Fields) → Decides (same_fields fs gs) (SameFields fs gs)
  fields_Decides none none = (λ h. tt, λ h. refl)
  fields_Decides none (field l w gs) = (λ h. true≢false (sym h), λ h. absurd h)
  fields_Decides (field k v fs) none = (λ h. true≢false (sym h), λ h. absurd h)
  fields_Decides (field k v fs) (field l w gs) =
      three (bytes_eq k l) (same v w) (same_fields fs gs) (bytes_eq-Decides k l) (same_Decides v w) (fields_Decides fs gs)

  each_judged : (vs : Elements) → Each Judged (elements vs)
  each_judged end = tt
  each_judged (more v vs) = ((λ w. same_Decides v w), each_judged vs)

-- bags that are the same have as many elements that are the same as any value
pub same_counted : (u : Nested) (vs ws : Elements) → Same (bag vs) (bag ws) → count_by (same u) (elements vs) ≡ count_by (same u) (elements ws)
same_counted u vs ws s = counts_of_matched u (same_Decides u) (elements vs) (elements ws) (matched_same vs (elements ws) s)
