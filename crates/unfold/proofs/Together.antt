-- Putting in, all at once, what the binders around a term stand for.
use Rattle.std.proofs.Common.{◌≡◌, ℕ, zero, suc, ◌+◌, ◌-◌, ◌<◌, ◌≤◌, cond, Bool, true, false, List, [], ◌∷◌, refl, sym, ap, ◌∙◌, nat_lt, nat_eq, arith}
use Rattle.nq_model.specs.Terms.{PlacedTerm, PlacedNode, PlacedFields, at}
use Rattle.nq_model.specs.Substitution.{shift, subst, subst_fields}
use Rattle.unfold.specs.Environments.{Entry, stays, given, stands_for, looked_up}
use Rattle.unfold.proofs.Shifts.{index_above, shift_zero, shift_sum, subst_unused}
use Rattle.unfold.proofs.Typings.{lt_true, lt_false}

-- the variable k, of place p, under c binders of the term's own
abbrev pub put_all : ℕ → List Entry → ℕ → ℕ → ℕ → PlacedTerm
put_all n es c p k = cond (nat_lt k c) (at p (PlacedNode.var k)) (shift c 0 (looked_up n p es (k - c)))

-- the term with what the entries stand for under n binders that stay, where c binders are its own
abbrev mutual
  pub subst_all : ℕ → List Entry → ℕ → PlacedTerm → PlacedTerm
  subst_all n es c (at p (PlacedNode.var k)) = put_all n es c p k
  subst_all n es c (at p (PlacedNode.int i)) = at p (PlacedNode.int i)
  subst_all n es c (at p (PlacedNode.bool b)) = at p (PlacedNode.bool b)
  subst_all n es c (at p (PlacedNode.text x)) = at p (PlacedNode.text x)
  subst_all n es c (at p (PlacedNode.table l)) = at p (PlacedNode.table l)
  subst_all n es c (at p (PlacedNode.unary op t)) = at p (PlacedNode.unary op (subst_all n es c t))
  subst_all n es c (at p (PlacedNode.binary op t u)) = at p (PlacedNode.binary op (subst_all n es c t) (subst_all n es c u))
  subst_all n es c (at p (PlacedNode.choose t u v)) = at p (PlacedNode.choose (subst_all n es c t) (subst_all n es c u) (subst_all n es c v))
  subst_all n es c (at p (PlacedNode.fun k t)) = at p (PlacedNode.fun k (subst_all n es (c + 1) t))
  subst_all n es c (at p (PlacedNode.apply t u)) = at p (PlacedNode.apply (subst_all n es c t) (subst_all n es c u))
  subst_all n es c (at p (PlacedNode.rec fs)) = at p (PlacedNode.rec (subst_all_fields n es c fs))
  subst_all n es c (at p (PlacedNode.field t l)) = at p (PlacedNode.field (subst_all n es c t) l)
  subst_all n es c (at p (PlacedNode.aggregate g t)) = at p (PlacedNode.aggregate g (subst_all n es c t))
  subst_all n es c (at p (PlacedNode.single t)) = at p (PlacedNode.single (subst_all n es c t))
  subst_all n es c (at p (PlacedNode.nil k)) = at p (PlacedNode.nil k)
  subst_all n es c (at p (PlacedNode.union t u)) = at p (PlacedNode.union (subst_all n es c t) (subst_all n es c u))
  subst_all n es c (at p (PlacedNode.for t u)) = at p (PlacedNode.for (subst_all n es c t) (subst_all n es (c + 1) u))
  subst_all n es c (at p (PlacedNode.guard t u)) = at p (PlacedNode.guard (subst_all n es c t) (subst_all n es c u))
  subst_all n es c (at p (PlacedNode.bind t u)) = at p (PlacedNode.bind (subst_all n es c t) (subst_all n es (c + 1) u))

  pub subst_all_fields : ℕ → List Entry → ℕ → PlacedFields → PlacedFields
  subst_all_fields n es c PlacedFields.none = PlacedFields.none
  subst_all_fields n es c (PlacedFields.with_field l t fs) = PlacedFields.with_field l (subst_all n es c t) (subst_all_fields n es c fs)

same : (j c : ℕ) → j ≡ c → nat_eq j c ≡ true
same j c h = grind arith

-- entries whose binders stand under at most n that stay
abbrev pub IsWithin : ℕ → Entry → Type 0
IsWithin n (stays m) = m < n
IsWithin n (given m s) = m ≤ n

abbrev pub AreWithin : ℕ → List Entry → Type 0
AreWithin n [] = Unit {0}
AreWithin n (e ∷ es) = IsWithin n e × AreWithin n es

-- what an entry stands for under one more binder that stays
pub stands_under : (n p : ℕ) (e : Entry) → IsWithin n e → stands_for (n + 1) p e ≡ shift 1 0 (stands_for n p e)
stands_under n p (stays m) h =
    let e : n + 1 - m - 1 ≡ n - m - 1 + 1 = omega (arith, h) in
    ap (λ j. at p (PlacedNode.var j)) (e ∙ sym (index_above 1 0 (n - m - 1) (omega arith)))
stands_under n p (given m s) h =
    let e : n + 1 - m ≡ n - m + 1 = omega (arith, h) in
    ap (λ j. shift j 0 s) e ∙ sym (shift_sum 1 (n - m) 0 0 (n - m + 1) (omega arith) (omega arith) refl s)

looked_under : (n p : ℕ) (es : List Entry) (k : ℕ) → AreWithin n es → looked_up (n + 1) p es k ≡ shift 1 0 (looked_up n p es k)
looked_under n p [] k h =
    let e : k + (n + 1) ≡ k + n + 1 = omega arith in
    ap (λ j. at p (PlacedNode.var j)) (e ∙ sym (index_above 1 0 (k + n) (omega arith)))
looked_under n p (e ∷ es) zero h = stands_under n p e h.0
looked_under n p (e ∷ es) (suc k) h = looked_under n p es k h.1

-- a binder that stays, as one of the term's own and as one around it
kept_in : (n p : ℕ) (es : List Entry) (c j : ℕ) → AreWithin n es → shift (c + 1) 0 (looked_up n p es j) ≡ shift c 0 (looked_up (n + 1) p es j)
kept_in n p es c j h =
    let e : c + 1 ≡ 1 + c = omega arith in
    ap (λ z. shift z 0 (looked_up n p es j)) e ∙ sym (shift_sum c 1 0 0 (1 + c) (omega arith) (omega arith) refl (looked_up n p es j)) ∙ ap (shift c 0) (sym (looked_under n p es j h))

kept_var : (n p : ℕ) (es : List Entry) (c k : ℕ) → AreWithin n es → (a b : Bool) → nat_lt k (c + 1) ≡ a → nat_lt k c ≡ b → cond a (at p (PlacedNode.var k)) (shift (c + 1) 0 (looked_up n p es (k - (c + 1)))) ≡ cond b (at p (PlacedNode.var k)) (shift c 0 (looked_up (n + 1) p (stays n ∷ es) (k - c)))
kept_var n p es c k h true true e f = refl
kept_var n p es c k h true false e f =
    let l = lt_true k (c + 1) e in
    let g = lt_false k c f in
    let z : k - c ≡ 0 = omega (arith, l, g) in
    let v : k ≡ n + 1 - n - 1 + c = omega (arith, l, g) in
    ap (λ j. at p (PlacedNode.var j)) (v ∙ sym (index_above c 0 (n + 1 - n - 1) (omega arith))) ∙ ap (λ j. shift c 0 (looked_up (n + 1) p (stays n ∷ es) j)) (sym z)
kept_var n p es c k h false true e f =
    let l = lt_false k (c + 1) e in
    let g = lt_true k c f in
    absurd (omega (arith, l, g))
kept_var n p es c k h false false e f =
    let l = lt_false k (c + 1) e in
    let z : k - c ≡ suc (k - (c + 1)) = omega (arith, l) in
    kept_in n p es c (k - (c + 1)) h ∙ ap (λ j. shift c 0 (looked_up (n + 1) p (stays n ∷ es) j)) (sym z)

module _ (n : ℕ) (es : List Entry) (h : AreWithin n es) where
  mutual
    pub kept : (c : ℕ) (t : PlacedTerm) → subst_all n es (c + 1) t ≡ subst_all (n + 1) (stays n ∷ es) c t
    kept c (at p (PlacedNode.var k)) = kept_var n p es c k h (nat_lt k (c + 1)) (nat_lt k c) refl refl
    kept c (at p (PlacedNode.int i)) = refl
    kept c (at p (PlacedNode.bool b)) = refl
    kept c (at p (PlacedNode.text x)) = refl
    kept c (at p (PlacedNode.table l)) = refl
    kept c (at p (PlacedNode.unary op t)) = rw (kept c t) refl
    kept c (at p (PlacedNode.binary op t u)) = rw (kept c t, kept c u) refl
    kept c (at p (PlacedNode.choose t u v)) = rw (kept c t, kept c u, kept c v) refl
    kept c (at p (PlacedNode.fun k t)) = rw (kept (c + 1) t) refl
    kept c (at p (PlacedNode.apply t u)) = rw (kept c t, kept c u) refl
    kept c (at p (PlacedNode.rec fs)) = rw (kepts c fs) refl
    kept c (at p (PlacedNode.field t l)) = rw (kept c t) refl
    kept c (at p (PlacedNode.aggregate g t)) = rw (kept c t) refl
    kept c (at p (PlacedNode.single t)) = rw (kept c t) refl
    kept c (at p (PlacedNode.nil k)) = refl
    kept c (at p (PlacedNode.union t u)) = rw (kept c t, kept c u) refl
    kept c (at p (PlacedNode.for t u)) = rw (kept c t, kept (c + 1) u) refl
    kept c (at p (PlacedNode.guard t u)) = rw (kept c t, kept c u) refl
    kept c (at p (PlacedNode.bind t u)) = rw (kept c t, kept (c + 1) u) refl

    kepts : (c : ℕ) (fs : PlacedFields) → subst_all_fields n es (c + 1) fs ≡ subst_all_fields (n + 1) (stays n ∷ es) c fs
    kepts c PlacedFields.none = refl
    kepts c (PlacedFields.with_field l t fs) = rw (kept c t, kepts c fs) refl

-- a term that is put in, by itself after the others and together with them
given_var : (n p : ℕ) (es : List Entry) (v : PlacedTerm) (c k : ℕ) (a b : Bool) → nat_lt k (c + 1) ≡ a → nat_lt k c ≡ b → subst c v (cond a (at p (PlacedNode.var k)) (shift (c + 1) 0 (looked_up n p es (k - (c + 1))))) ≡ cond b (at p (PlacedNode.var k)) (shift c 0 (looked_up n p (given n v ∷ es) (k - c)))
given_var n p es v c k true true e f =
    ap (λ z. cond z (at p (PlacedNode.var k)) (cond (nat_eq k c) (shift c 0 v) (at p (PlacedNode.var (k - 1))))) f
given_var n p es v c k true false e f =
    let l = lt_true k (c + 1) e in
    let g = lt_false k c f in
    let z : k - c ≡ 0 = omega (arith, l, g) in
    let m : n - n ≡ 0 = omega arith in
    ap (λ x. cond x (at p (PlacedNode.var k)) (cond (nat_eq k c) (shift c 0 v) (at p (PlacedNode.var (k - 1))))) f ∙ ap (λ x. cond x (shift c 0 v) (at p (PlacedNode.var (k - 1)))) (same k c (omega (arith, l, g))) ∙ ap (shift c 0) (sym (ap (λ j. shift j 0 v) m ∙ shift_zero 0 v)) ∙ ap (λ j. shift c 0 (looked_up n p (given n v ∷ es) j)) (sym z)
given_var n p es v c k false true e f =
    let l = lt_false k (c + 1) e in
    let g = lt_true k c f in
    absurd (omega (arith, l, g))
given_var n p es v c k false false e f =
    let l = lt_false k (c + 1) e in
    let z : k - c ≡ suc (k - (c + 1)) = omega (arith, l) in
    subst_unused c (c + 1) c 0 (omega arith) (omega arith) refl v (looked_up n p es (k - (c + 1))) ∙ ap (λ j. shift c 0 (looked_up n p (given n v ∷ es) j)) (sym z)

module _ (n : ℕ) (es : List Entry) (v : PlacedTerm) where
  mutual
    pub put_in : (c : ℕ) (t : PlacedTerm) → subst c v (subst_all n es (c + 1) t) ≡ subst_all n (given n v ∷ es) c t
    put_in c (at p (PlacedNode.var k)) = given_var n p es v c k (nat_lt k (c + 1)) (nat_lt k c) refl refl
    put_in c (at p (PlacedNode.int i)) = refl
    put_in c (at p (PlacedNode.bool b)) = refl
    put_in c (at p (PlacedNode.text x)) = refl
    put_in c (at p (PlacedNode.table l)) = refl
    put_in c (at p (PlacedNode.unary op t)) = rw (put_in c t) refl
    put_in c (at p (PlacedNode.binary op t u)) = rw (put_in c t, put_in c u) refl
    put_in c (at p (PlacedNode.choose t u v)) = rw (put_in c t, put_in c u, put_in c v) refl
    put_in c (at p (PlacedNode.fun k t)) = rw (put_in (c + 1) t) refl
    put_in c (at p (PlacedNode.apply t u)) = rw (put_in c t, put_in c u) refl
    put_in c (at p (PlacedNode.rec fs)) = rw (puts_in c fs) refl
    put_in c (at p (PlacedNode.field t l)) = rw (put_in c t) refl
    put_in c (at p (PlacedNode.aggregate g t)) = rw (put_in c t) refl
    put_in c (at p (PlacedNode.single t)) = rw (put_in c t) refl
    put_in c (at p (PlacedNode.nil k)) = refl
    put_in c (at p (PlacedNode.union t u)) = rw (put_in c t, put_in c u) refl
    put_in c (at p (PlacedNode.for t u)) = rw (put_in c t, put_in (c + 1) u) refl
    put_in c (at p (PlacedNode.guard t u)) = rw (put_in c t, put_in c u) refl
    put_in c (at p (PlacedNode.bind t u)) = rw (put_in c t, put_in (c + 1) u) refl

    puts_in : (c : ℕ) (fs : PlacedFields) → subst_fields c v (subst_all_fields n es (c + 1) fs) ≡ subst_all_fields n (given n v ∷ es) c fs
    puts_in c PlacedFields.none = refl
    puts_in c (PlacedFields.with_field l t fs) = rw (put_in c t, puts_in c fs) refl

-- with no entries nothing is put in
none_var : (c p k : ℕ) (a : Bool) → nat_lt k c ≡ a → cond a (at p (PlacedNode.var k)) (shift c 0 (at p (PlacedNode.var (k - c + 0)))) ≡ at p (PlacedNode.var k)
none_var c p k true e = refl
none_var c p k false e =
    let h = lt_false k c e in
    let j : k - c + 0 + c ≡ k = omega (arith, h) in
    ap (λ z. at p (PlacedNode.var z)) (index_above c 0 (k - c + 0) (omega arith) ∙ j)

mutual
  pub put_none : (c : ℕ) (t : PlacedTerm) → subst_all 0 [] c t ≡ t
  put_none c (at p (PlacedNode.var k)) = none_var c p k (nat_lt k c) refl
  put_none c (at p (PlacedNode.int i)) = refl
  put_none c (at p (PlacedNode.bool b)) = refl
  put_none c (at p (PlacedNode.text x)) = refl
  put_none c (at p (PlacedNode.table l)) = refl
  put_none c (at p (PlacedNode.unary op t)) = rw (put_none c t) refl
  put_none c (at p (PlacedNode.binary op t u)) = rw (put_none c t, put_none c u) refl
  put_none c (at p (PlacedNode.choose t u v)) = rw (put_none c t, put_none c u, put_none c v) refl
  put_none c (at p (PlacedNode.fun k t)) = rw (put_none (c + 1) t) refl
  put_none c (at p (PlacedNode.apply t u)) = rw (put_none c t, put_none c u) refl
  put_none c (at p (PlacedNode.rec fs)) = rw (puts_none c fs) refl
  put_none c (at p (PlacedNode.field t l)) = rw (put_none c t) refl
  put_none c (at p (PlacedNode.aggregate g t)) = rw (put_none c t) refl
  put_none c (at p (PlacedNode.single t)) = rw (put_none c t) refl
  put_none c (at p (PlacedNode.nil k)) = refl
  put_none c (at p (PlacedNode.union t u)) = rw (put_none c t, put_none c u) refl
  put_none c (at p (PlacedNode.for t u)) = rw (put_none c t, put_none (c + 1) u) refl
  put_none c (at p (PlacedNode.guard t u)) = rw (put_none c t, put_none c u) refl
  put_none c (at p (PlacedNode.bind t u)) = rw (put_none c t, put_none (c + 1) u) refl

  puts_none : (c : ℕ) (fs : PlacedFields) → subst_all_fields 0 [] c fs ≡ fs
  puts_none c PlacedFields.none = refl
  puts_none c (PlacedFields.with_field l t fs) = rw (put_none c t, puts_none c fs) refl
