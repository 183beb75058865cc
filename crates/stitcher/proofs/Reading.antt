-- Tag and number read the answers: a finite list of entries.
use Rattle.std.proofs.Common.{◌≡◌, ℕ, ℤ, pos, zero, suc, ◌+◌, ◌<◌, ◌≤◌, List, [], ◌∷◌, ◌++◌, map, refl, sym, ap, ap₂, ◌∙◌, subst, flat_map, arith, get_or, append-nil, inl, inr, ⊎_elim, ◌⊎◌, eq-or-lt_of_le}
use Rattle.nq_model.proofs.Bags.{matched_trans, matched_weaker}
use Rattle.nq_model.specs.Numberings.{numbered, count_from}
use Rattle.nq_model.specs.Types.{TypeTree, FieldTypes, int, bool, text, rec, bag, fun, none, field}
use Rattle.nq_ir.proofs.Allowed.{Legibly}
use Rattle.nq_ir.proofs.Legible.{Stands, legible_in, among_cases, number_from}
use Rattle.nq_ir.specs.Among.{Among, first, later}
use Rattle.nq_ir.specs.Building.{Source, Alike, AlikeFields, FollowsIn, FollowsFields}
use Rattle.nq_ir.specs.Lets.{FlatRow, flat}
use Rattle.nq_ir.specs.Meanings.{Tables, Env}
use Rattle.nq_ir.specs.Parts.{slots, bags, leaves, bags_in, element_types}
use Rattle.nq_ir.specs.Spots.{Spot, top_spot, strands, spots}
use Rattle.nq_ir.specs.Trees.{FormTree}
use Rattle.shred_types.specs.Columns.{row_cells}
use Rattle.stitcher.specs.Schemes.{AnswerRows, Entry, Entered, Reads, answers, element_of}
use Rattle.stitcher.specs.FlatNumbers.{flat_numbers}
use Rattle.stitcher.proofs.Laid.{IsWritten, follow_in, types_stand}

-- the relation of indexes may be changed where it is the same below N
module _ {I E J F : Type 0} (R Q : ℕ → I → J → Type 0) (S : Source I E) (T : Source J F) (N : ℕ) (up : (n : ℕ) (i : I) (j : J) → n < N → R n i j → Q n i j) (down : (n : ℕ) (i : I) (j : J) → Q n i j → R n i j) where
  mutual
    alike_change : (A : TypeTree) (q l s n : ℕ) (e : E) (f : F) → n + bags A ≤ N → Alike R S T A q l s n e f → Alike Q S T A q l s n e f
    alike_change int q l s n e f b a = a
    alike_change bool q l s n e f b a = a
    alike_change text q l s n e f b a = a
    alike_change (rec fs) q l s n e f b a = alike_change_fields fs q l s n e f b a
    alike_change (bag A) q l s n e f b a = up n (S.inner q s e) (T.inner q s f) (omega arith) a
    alike_change (fun A B) q l s n e f b a = tt

    alike_change_fields : (fs : FieldTypes) (q l s n : ℕ) (e : E) (f : F) → n + bags_in fs ≤ N → AlikeFields R S T fs q l s n e f → AlikeFields Q S T fs q l s n e f
    alike_change_fields none q l s n e f b a = tt
    alike_change_fields (field k A fs) q l s n e f b a = (alike_change A q l s n e f (omega arith) a.0, alike_change_fields fs q (l + leaves A) (s + slots A) (n + bags A) e f (omega arith) a.1)

  mutual
    follows_change : (A : TypeTree) (n : ℕ) → n + bags A ≤ N → FollowsIn R S T A n → FollowsIn Q S T A n
    follows_change int n b h = tt
    follows_change bool n b h = tt
    follows_change text n b h = tt
    follows_change (rec fs) n b h = follows_change_fields fs n b h
    follows_change (bag A) n b h = (λ i j r. matched_weaker (λ e f. Alike R S T A n 0 0 (suc n) e f) (λ e f. Alike Q S T A n 0 0 (suc n) e f) (λ e f a. alike_change A n 0 0 (suc n) e f (omega arith) a) (S.rows n i) (T.rows n j) (h.0 i j (down n i j r)), follows_change A (suc n) (omega arith) h.1)
    follows_change (fun A B) n b h = tt

    follows_change_fields : (fs : FieldTypes) (n : ℕ) → n + bags_in fs ≤ N → FollowsFields R S T fs n → FollowsFields Q S T fs n
    follows_change_fields none n b h = tt
    follows_change_fields (field k A fs) n b h = (follows_change A n (omega arith) h.0, follows_change_fields fs (n + bags A) (omega arith) h.1)

-- one source in front of another: indexes related through one between
abbrev Through : {I J K : Type 0} → (ℕ → I → J → Type 0) → (ℕ → J → K → Type 0) → ℕ → I → K → Type 0
Through {I} {J} {K} Q R q i k = (j : J) × Q q i j × R q j k

module _ {I E J F K G : Type 0} (Q : ℕ → I → J → Type 0) (R : ℕ → J → K → Type 0) (S : Source I E) (T : Source J F) (U : Source K G) where
  mutual
    alike_join : (A : TypeTree) (q l s n : ℕ) (e : E) (f : F) (g : G) → Alike Q S T A q l s n e f → Alike R T U A q l s n f g → Alike (Through Q R) S U A q l s n e g
    alike_join int q l s n e f g a b = a ∙ b
    alike_join bool q l s n e f g a b = a ∙ b
    alike_join text q l s n e f g a b = a ∙ b
    alike_join (rec fs) q l s n e f g a b = alike_join_fields fs q l s n e f g a b
    alike_join (bag A) q l s n e f g a b = (T.inner q s f, a, b)
    alike_join (fun A B) q l s n e f g a b = tt

    alike_join_fields : (fs : FieldTypes) (q l s n : ℕ) (e : E) (f : F) (g : G) → AlikeFields Q S T fs q l s n e f → AlikeFields R T U fs q l s n f g → AlikeFields (Through Q R) S U fs q l s n e g
    alike_join_fields none q l s n e f g a b = tt
    alike_join_fields (field k A fs) q l s n e f g a b = (alike_join A q l s n e f g a.0 b.0, alike_join_fields fs q (l + leaves A) (s + slots A) (n + bags A) e f g a.1 b.1)

  mutual
    follows_join : (A : TypeTree) (n : ℕ) → FollowsIn Q S T A n → FollowsIn R T U A n → FollowsIn (Through Q R) S U A n
    follows_join int n h k = tt
    follows_join bool n h k = tt
    follows_join text n h k = tt
    follows_join (rec fs) n h k = follows_join_fields fs n h k
    follows_join (bag A) n h k = (λ i z r. matched_trans (λ e f. Alike Q S T A n 0 0 (suc n) e f) (λ f g. Alike R T U A n 0 0 (suc n) f g) (λ e g. Alike (Through Q R) S U A n 0 0 (suc n) e g) (λ e f g a b. alike_join A n 0 0 (suc n) e f g a b) (S.rows n i) (T.rows n r.0) (U.rows n z) (h.0 i r.0 r.1) (k.0 r.0 z r.2), follows_join A (suc n) h.1 k.1)
    follows_join (fun A B) n h k = tt

    follows_join_fields : (fs : FieldTypes) (n : ℕ) → FollowsFields Q S T fs n → FollowsFields R T U fs n → FollowsFields (Through Q R) S U fs n
    follows_join_fields none n h k = tt
    follows_join_fields (field k A fs) n h i = (follows_join A n h.0 i.0, follows_join_fields fs (n + bags A) h.1 i.1)

among_left : {A : Type 0} (x : A) (xs ys : List A) → Among x xs → Among x (xs ++ ys)
among_left x xs ys first = first
among_left x (y ∷ xs) ys (later m) = later (among_left x xs ys m)

among_right : {A : Type 0} (x : A) (xs ys : List A) → Among x ys → Among x (xs ++ ys)
among_right x [] ys m = m
among_right x (y ∷ xs) ys m = later (among_right x xs ys m)

among_split : {A : Type 0} (x : A) (xs ys : List A) → Among x (xs ++ ys) → Among x xs ⊎ Among x ys
among_split x [] ys m = inr m
among_split x (y ∷ xs) ys m = ⊎_elim (λ e. inl (subst (λ z. Among x (z ∷ xs)) e first)) (λ k. ⊎_elim (λ a. inl (later a)) (λ b. inr b) (among_split x xs ys k)) (among_cases m)

among_flat : {A B : Type 0} (f : A → List B) (x : B) (xs : List A) → Among x (flat_map f xs) → (y : A) × Among y xs × Among x (f y)
among_flat f x [] m = elim m [ ]
among_flat f x (y ∷ xs) m = ⊎_elim (λ a. (y, first, a)) (λ b. let r = among_flat f x xs b in (r.0, later r.1, r.2)) (among_split x (f y) (flat_map f xs) m)

flat_among : {A B : Type 0} (f : A → List B) (x : B) (y : A) (xs : List A) → Among y xs → Among x (f y) → Among x (flat_map f xs)
flat_among f x y [] m b = elim m [ ]
flat_among f x y (z ∷ xs) first b = among_left x (f z) (flat_map f xs) b
flat_among f x y (z ∷ xs) (later m) b = among_right x (f z) (flat_map f xs) (flat_among f x y xs m b)

among_map : {A B : Type 0} (f : A → B) (x : B) (xs : List A) → Among x (map f xs) → (y : A) × Among y xs × (x ≡ f y)
among_map f x [] m = elim m [ ]
among_map f x (y ∷ xs) m = ⊎_elim (λ e. (y, first, e)) (λ k. let r = among_map f x xs k in (r.0, later r.1, r.2)) (among_cases m)

map_among : {A B : Type 0} (f : A → B) (y : A) (xs : List A) → Among y xs → Among (f y) (map f xs)
map_among f y xs first = first
map_among f y (x ∷ xs) (later m) = later (map_among f y xs m)

among_count : (a n k : ℕ) → a ≤ k → k < a + n → Among k (count_from a n)
among_count a zero k h l = absurd (omega arith)
among_count a (suc n) k h l =
    ⊎_elim (λ e. subst (λ z. Among z (a ∷ count_from (suc a) n)) e first) (λ u. later (among_count (suc a) n k (omega arith) (omega arith))) (eq-or-lt_of_le h)

-- the entries: each path, each tag, each number with its spot
abbrev entry_of : ℕ → ℕ → (ℕ × Env) → Entry (ℤ × ℤ)
entry_of q t p = record { path = q; index = (pos t, pos p.0); spot = record { tag = t; rows = p.1 } }

abbrev at_tag : (ℕ → List Env) → ℕ → ℕ → List (Entry (ℤ × ℤ))
at_tag sorted q t = map (entry_of q t) (numbered 1 (sorted t))

abbrev at_path : List ℕ → (ℕ → List Env) → ℕ → List (Entry (ℤ × ℤ))
at_path tags sorted q = flat_map (at_tag sorted q) tags

abbrev entries : TypeTree → List ℕ → (ℕ → List Env) → List (Entry (ℤ × ℤ))
entries A tags sorted = flat_map (at_path tags sorted) (count_from 0 (suc (bags A)))

abbrev Written : List ℕ → (ℕ → List Env) → ℕ → (ℤ × ℤ) → Spot → Type 0
Written tags sorted = Through IsWritten (Stands tags sorted)

stands_entered : (A : TypeTree) (tags : List ℕ) (sorted : ℕ → List Env) (q : ℕ) (i : ℤ × ℤ) (s : Spot) → q < suc (bags A) → Written tags sorted q i s → Entered (entries A tags sorted) q i s
stands_entered A tags sorted q i s l w =
    let j = w.0 in
    let h = w.2 in
    let e : Among (entry_of q j.0 (j.1, s.rows)) (entries A tags sorted) = flat_among (at_path tags sorted) (entry_of q j.0 (j.1, s.rows)) q (count_from 0 (suc (bags A))) (among_count 0 (suc (bags A)) q (omega arith) (omega arith)) (flat_among (at_tag sorted q) (entry_of q j.0 (j.1, s.rows)) j.0 tags h.0 (map_among (entry_of q j.0) (j.1, s.rows) (numbered 1 (sorted j.0)) h.2)) in
    let f : Among (record { path = q; index = (pos j.0, pos j.1); spot = s }) (entries A tags sorted) = subst (λ z. Among (record { path = q; index = (pos j.0, pos j.1); spot = record { tag = z; rows = s.rows } }) (entries A tags sorted)) (sym h.1) e in
    subst (λ (z : ℤ × ℤ). Among (record { path = q; index = z; spot = s }) (entries A tags sorted)) (sym w.1) f

entered_stands : (A : TypeTree) (tags : List ℕ) (sorted : ℕ → List Env) (q : ℕ) (i : ℤ × ℤ) (s : Spot) → Entered (entries A tags sorted) q i s → Written tags sorted q i s
entered_stands A tags sorted q i s h =
    let a = among_flat (at_path tags sorted) (record { path = q; index = i; spot = s }) (count_from 0 (suc (bags A))) h in
    let b = among_flat (at_tag sorted a.0) (record { path = q; index = i; spot = s }) tags a.2 in
    let c = among_map (entry_of a.0 b.0) (record { path = q; index = i; spot = s }) (numbered 1 (sorted b.0)) b.2 in
    let index : i ≡ (pos b.0, pos c.0.0) = ap (λ z. z.index) c.2 in
    let spot : s ≡ record { tag = b.0; rows = c.0.1 } = ap (λ z. z.spot) c.2 in
    ((b.0, c.0.0), index, subst (λ z. Stands tags sorted q (b.0, c.0.0) z) (sym spot) (b.1, refl, c.1))

-- one number stands for one spot
nth_once : (a k : ℕ) (xs : List Env) (e f : Env) → Among (k, e) (numbered a xs) → Among (k, f) (numbered a xs) → e ≡ f
nth_once a k [] e f m n = elim m [ ]
nth_once a k (x ∷ xs) e f m n =
    ⊎_elim
    (λ h. ⊎_elim (λ i. ap (λ z. z.1) h ∙ sym (ap (λ z. z.1) i)) (λ i. let u : k ≡ a = ap (λ z. z.0) h in let v : suc a ≤ k = number_from (suc a) k f xs i in absurd (omega arith)) (among_cases n))
    (λ h. ⊎_elim (λ i. let u : k ≡ a = ap (λ z. z.0) i in let v : suc a ≤ k = number_from (suc a) k e xs h in absurd (omega arith)) (λ i. nth_once (suc a) k xs e f h i) (among_cases n))
    (among_cases m)

-- tag and number read the rows that stand laid out in the answers
pub flat_numbers_read : (ts : Tables) (rows : List (List FlatRow)) (ans : List AnswerRows) (form : FormTree) → Legibly ts form.element form.comps rows → ((n : ℕ) → get_or ans n [] ≡ map (row_cells (element_of (element_types (bag form.element)) n)) (get_or rows n [])) → Reads (flat_numbers (element_types (bag form.element))) ans form ts
flat_numbers_read ts rows ans form h laid_out =
    let A = form.element in
    let scheme = flat_numbers (element_types (bag A)) in
    let tags = h.tags in
    let sorted = h.sorted in
    let all = strands A form.comps in
    record {
      entries = entries A tags sorted;
      one_spot = λ q i s t a b. one tags sorted q i s t (entered_stands A tags sorted q i s a) (entered_stands A tags sorted q i t b);
      top = stands_entered A tags sorted 0 (pos 0, pos 1) top_spot (omega arith) ((0, 1), refl, (h.root, refl, subst (λ (l : List Env). Among {A = ℕ × Env} (1, []) (numbered 1 l)) (sym h.one) first));
      follows = follows_change (Written tags sorted) (Entered (entries A tags sorted)) (answers scheme ans) (spots ts all) (suc (bags A)) (λ n i s l k. stands_entered A tags sorted n i s l k) (λ n i s k. entered_stands A tags sorted n i s k) (bag A) 0 (omega arith) (follows_join IsWritten (Stands tags sorted) (answers scheme ans) (flat rows) (spots ts all) (bag A) 0 (follow_in (element_types (bag A)) rows ans laid_out (bag A) 0 (types_stand (bag A) (element_types (bag A)) 0 [] [] (sym (append-nil (element_types (bag A)))) refl)) (legible_in ts tags sorted all rows (bag A) 0 h.legible));
    }
  where
    one : (tags : List ℕ) (sorted : ℕ → List Env) (q : ℕ) (i : ℤ × ℤ) (s t : Spot) → Written tags sorted q i s → Written tags sorted q i t → s ≡ t
    one tags sorted q i s t a b =
        let tag : a.0.0 ≡ b.0.0 = (let p : pos a.0.0 ≡ pos b.0.0 = ap (λ (z : ℤ × ℤ). z.0) (sym a.1 ∙ b.1) in cc) in
        let number : a.0.1 ≡ b.0.1 = (let p : pos a.0.1 ≡ pos b.0.1 = ap (λ (z : ℤ × ℤ). z.1) (sym a.1 ∙ b.1) in cc) in
        let second : Among (a.0.1, t.rows) (numbered 1 (sorted a.0.0)) = subst (λ (n : ℕ). Among (n, t.rows) (numbered 1 (sorted a.0.0))) (sym number) (subst (λ (n : ℕ). Among (b.0.1, t.rows) (numbered 1 (sorted n))) (sym tag) b.2.2) in
        ap₂ (λ x y. record { tag = x; rows = y }) (a.2.1 ∙ tag ∙ sym b.2.1) (nth_once 1 a.0.1 (sorted a.0.0) s.rows t.rows a.2.2 second)
