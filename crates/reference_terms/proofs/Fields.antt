-- A field put into a record, and fields taken from the last to the first.
use Rattle.std.proofs.Common.{◌≡◌, ℕ, zero, suc, ◌-◌, ◌<◌, ◌≤◌, List, [], ◌∷◌, ◌++◌, true, false, cond, take, drop, length, get_or, insert, refl, ap, sym, ◌∙◌, subst, arith}
use Rattle.std.specs.Prelude.{not}
use Rattle.std.specs.Bool.{◌==◌}
use Rattle.std.specs.Ordering.{is_gt, ordering_index}
use Rattle.std.specs.declared.cmp.Ordering.{Ordering}
use Rattle.std.specs.declared.cmp.Ordering.TheVariants.{Less, Equal, Greater}
use Rattle.nq_model.specs.Orders.{label_cmp, by_label}
use Rattle.nq_model.specs.Meaning.{put_field}
use Rattle.nq_model.specs.Values.{Nested, nested, fields_view}
use Rattle.nq_model.specs.declared.value.Value.{Value}

-- the field belongs behind one whose label is below its own
pub belongs_behind : (l : List ℕ) (v : Nested) (fs : List (List ℕ × Value)) (i : ℕ) (x : List ℕ × Value) → x ≡ get_or fs i x → i < length fs → is_gt (label_cmp l x.0) ≡ true
    → take (suc i) (fields_view fs) ++ put_field l v (drop (suc i) (fields_view fs)) ≡ take i (fields_view fs) ++ put_field l v (drop i (fields_view fs))
belongs_behind l v [] i x e h k = absurd (omega (arith, h))
belongs_behind l v (f ∷ fs) zero x e h k =
    let test : is_gt (label_cmp l f.0) ≡ true = ap (λ (y : List ℕ × Value). is_gt (label_cmp l y.0)) (sym e) ∙ k in
    sym (ap (λ b. cond b ((f.0, nested f.1) ∷ put_field l v (fields_view fs)) ((l, v) ∷ (f.0, nested f.1) ∷ fields_view fs)) test)
belongs_behind l v (f ∷ fs) (suc i) x e h k =
    ap (λ (zs : List (List ℕ × Nested)). (f.0, nested f.1) ∷ zs) (belongs_behind l v fs i x e (omega (arith, h)) k)

-- and before one whose label is not
pub belongs_here : (l : List ℕ) (v : Nested) (fs : List (List ℕ × Value)) (i : ℕ) (x : List ℕ × Value) → x ≡ get_or fs i x → i < length fs → is_gt (label_cmp l x.0) ≡ false
    → insert (fields_view fs) i (l, v) ≡ take i (fields_view fs) ++ put_field l v (drop i (fields_view fs))
belongs_here l v [] i x e h k = absurd (omega (arith, h))
belongs_here l v (f ∷ fs) zero x e h k =
    let test : is_gt (label_cmp l f.0) ≡ false = ap (λ (y : List ℕ × Value). is_gt (label_cmp l y.0)) (sym e) ∙ k in
    sym (ap (λ b. cond b ((f.0, nested f.1) ∷ put_field l v (fields_view fs)) ((l, v) ∷ (f.0, nested f.1) ∷ fields_view fs)) test)
belongs_here l v (f ∷ fs) (suc i) x e h k =
    ap (λ (zs : List (List ℕ × Nested)). (f.0, nested f.1) ∷ zs) (belongs_here l v fs i x e (omega (arith, h)) k)

-- what is seen of fields with one more
pub inserted_view : (fs : List (List ℕ × Value)) (i : ℕ) (f : List ℕ × Value) → fields_view (insert fs i f) ≡ insert (fields_view fs) i (f.0, nested f.1)
inserted_view [] zero f = refl
inserted_view [] (suc i) f = refl
inserted_view (g ∷ fs) zero f = refl
inserted_view (g ∷ fs) (suc i) f = ap (λ (zs : List (List ℕ × Nested)). (g.0, nested g.1) ∷ zs) (inserted_view fs i f)

-- one more element before those behind a place
pub one_before : {A : Type 0} (xs : List A) (p : ℕ) (d : A) → 0 < p → p ≤ length xs → drop (p - 1) xs ≡ get_or xs (p - 1) d ∷ drop p xs
one_before [] p d h k = absurd (omega (arith, h, k))
one_before (x ∷ xs) zero d h k = absurd (omega (arith, h))
one_before (x ∷ xs) (suc zero) d h k = refl
one_before {A} (x ∷ xs) (suc (suc p)) d h k =
    let e : suc (suc p) - 1 ≡ suc p = omega arith in
    let f : suc p - 1 ≡ p = omega arith in
    rw e (subst (λ n. drop n xs ≡ get_or xs n d ∷ drop (suc p) xs) f (one_before xs (suc p) d (omega arith) (omega (arith, k))))

pub none_behind : {A : Type 0} (xs : List A) (p : ℕ) → length xs ≤ p → drop p xs ≡ []
none_behind [] zero h = refl
none_behind [] (suc p) h = refl
none_behind (x ∷ xs) zero h = absurd (omega (arith, h))
none_behind (x ∷ xs) (suc p) h = none_behind xs p (omega (arith, h))

-- the code's test for a label that is not above
pub is_greater : (r : Ordering) → not (ordering_index r == 2) ≡ false → is_gt r ≡ true
is_greater Less h = absurd (cc)
is_greater Equal h = absurd (cc)
is_greater Greater h = refl

pub is_not_greater : (r : Ordering) → not (ordering_index r == 2) ≡ true → is_gt r ≡ false
is_not_greater Less h = refl
is_not_greater Equal h = refl
is_not_greater Greater h = absurd (cc)

-- fields with one more before them are in order again
pub one_more : (fs made : List (List ℕ × Nested)) (p : ℕ) (l : List ℕ) (v : Nested) → 0 < p → p ≤ length fs → get_or fs (p - 1) (l, v) ≡ (l, v)
    → made ≡ put_field l v (by_label (drop p fs)) → made ≡ by_label (drop (p - 1) fs)
one_more fs made p l v h k e m =
    m ∙ ap by_label (sym (one_before fs p (l, v) h k ∙ ap (λ z. z ∷ drop p fs) e))
