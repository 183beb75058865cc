-- The homes of paths stand before them.
use Rattle.std.proofs.Common.{◌≡◌, ℕ, zero, suc, ◌+◌, ◌-◌, ◌<◌, ◌≤◌, List, [], ◌++◌, refl, sym, ap, ap₂, ◌∙◌, subst, get_or, length, arith, length-append, append-nil, ⊎_elim}
use Rattle.std.proofs.lemmas.Bool.{cases_lt}
use Rattle.std.proofs.Math.Seq.{get_or-append_right}
use Rattle.std.proofs.Math.ListN.{get_or-append}
use Rattle.nq_model.specs.Types.{TypeTree, FieldTypes, int, bool, text, rec, bag, fun, none, field}
use Rattle.nq_ir.specs.Parts.{slots, slots_in, bags, bags_in, element_types}
use Rattle.stitcher.specs.Linked.{Home, homes, homes_in, homes_fields, home_of}
use Rattle.stitcher.specs.Schemes.{element_of}
use Rattle.stitcher.specs.Walks.{TypesIn, TypesFields}
use Rattle.stitcher.proofs.Laid.{types_stand, types_length}

mutual
  pub homes_long : (a : TypeTree) (q s n : ℕ) → length (homes_in a q s n) ≡ bags a
  homes_long int q s n = refl
  homes_long bool q s n = refl
  homes_long text q s n = refl
  homes_long (rec fs) q s n = homes_long_fields fs q s n
  homes_long (bag a) q s n = ap suc (homes_long a n 0 (suc n))
  homes_long (fun a b) q s n = refl

  pub homes_long_fields : (fs : FieldTypes) (q s n : ℕ) → length (homes_fields fs q s n) ≡ bags_in fs
  homes_long_fields none q s n = refl
  homes_long_fields (field l a fs) q s n =
      length-append (homes_in a q s n) (homes_fields fs q (s + slots a) (n + bags a)) ∙ ap₂ (λ x y. x + y) (homes_long a q s n) (homes_long_fields fs q (s + slots a) (n + bags a))

-- no home and one before others
pub no_homes : (made : List Home) (q s n : ℕ) → made ++ homes_fields none q s n ≡ made
no_homes made q s n = append-nil made

-- a home at a place is that of an inner bag of an element of an earlier path
abbrev IsBefore : List TypeTree → ℕ → Home → Type 0
IsBefore elements n home = (home.0 < n) × (home.1 < slots (element_of elements home.0))

module _ (elements : List TypeTree) where
  mutual
    -- the k-th home of a part of the element at the path q
    in_part : (a : TypeTree) (q s n k : ℕ) → TypesIn elements a n → q < n → s + slots a ≤ slots (element_of elements q) → k < bags a → IsBefore elements (n + k) (get_or (homes_in a q s n) k (0, 0))
    in_part int q s n k t b l h = absurd (omega (arith, h))
    in_part bool q s n k t b l h = absurd (omega (arith, h))
    in_part text q s n k t b l h = absurd (omega (arith, h))
    in_part (rec fs) q s n k t b l h = in_fields fs q s n k t b l h
    in_part (bag a) q s n zero t b l h = (omega (arith, b), omega (arith, l))
    in_part (bag a) q s n (suc k) t b l h =
        let e : suc n + k ≡ n + suc k = omega arith in
        let here : 0 + slots a ≤ slots (element_of elements n) = omega (arith, ap slots t.0) in
        subst (λ m. IsBefore elements m (get_or (homes_in a n 0 (suc n)) k (0, 0))) e (in_part a n 0 (suc n) k t.1 (omega arith) here (omega (arith, h)))
    in_part (fun a c) q s n k t b l h = absurd (omega (arith, h))

    in_fields : (fs : FieldTypes) (q s n k : ℕ) → TypesFields elements fs n → q < n → s + slots_in fs ≤ slots (element_of elements q) → k < bags_in fs → IsBefore elements (n + k) (get_or (homes_fields fs q s n) k (0, 0))
    in_fields none q s n k t b l h = absurd (omega (arith, h))
    in_fields (field j a fs) q s n k t b l h =
        let own = homes_in a q s n in
        let others = homes_fields fs q (s + slots a) (n + bags a) in
        ⊎_elim
        (λ u. subst (λ z. IsBefore elements (n + k) z) (sym (get_or-append own others (0, 0) k (omega (arith, u, homes_long a q s n)))) (in_part a q s n k t.0 b (omega (arith, l)) u))
        (λ u.
        let e : n + bags a + (k - bags a) ≡ n + k = omega (arith, u) in
        let back : k - length own ≡ k - bags a = ap (λ m. k - m) (homes_long a q s n) in
        let at : get_or (own ++ others) k (0, 0) ≡ get_or others (k - bags a) (0, 0) = get_or-append_right own others k (0, 0) (omega (arith, u, homes_long a q s n)) ∙ ap (λ m. get_or others m (0, 0)) back in
        subst (λ z. IsBefore elements (n + k) z) (sym at) (subst (λ m. IsBefore elements m (get_or others (k - bags a) (0, 0))) e (in_fields fs q (s + slots a) (n + bags a) (k - bags a) t.1 (omega (arith, b)) (omega (arith, l)) (omega (arith, u, h)))))
        (cases_lt k (bags a))

-- of a bag's type
pub homes_before : (a : TypeTree) (q : ℕ) → 0 < q → q < length (element_types (bag a)) → IsBefore (element_types (bag a)) q (home_of (homes (bag a)) q)
homes_before a zero b h = absurd (omega (arith, b))
homes_before a (suc k) b h =
    let elements = element_types (bag a) in
    let stand : TypesIn elements (bag a) 0 = types_stand (bag a) elements 0 [] [] (sym (append-nil elements)) refl in
    let e : 1 + k ≡ suc k = omega arith in
    subst (λ m. IsBefore elements m (get_or (homes_in a 0 0 1) k (0, 0))) e (in_part elements a 0 0 1 k stand.1 (omega arith) (omega arith) (omega (arith, h, types_length a)))
