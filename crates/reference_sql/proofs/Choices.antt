-- The choices of one more source, row by row.
use Rattle.std.proofs.Common.{◌≡◌, ℕ, zero, suc, ◌+◌, ◌<◌, List, [], ◌∷◌, ◌++◌, flat_map, take, length, get_or, sym, ap, ap₂, ◌∙◌, arith, append-nil, append_assoc}

flat_more : {A B : Type 0} (f : A → List B) (xs : List A) (i : ℕ) (d : A) → i < length xs → flat_map f (take (suc i) xs) ≡ flat_map f (take i xs) ++ f (get_or xs i d)
flat_more f [] i d h = absurd (omega (arith, h))
flat_more f (x ∷ xs) zero d h = append-nil (f x)
flat_more f (x ∷ xs) (suc i) d h = ap (λ (l : List _). f x ++ l) (flat_more f xs i d (omega (arith, h))) ∙ sym (append_assoc (f x) (flat_map f (take i xs)) (f (get_or xs i d)))

-- one more element's part is put behind
pub part_more : {A B : Type 0} (f : A → List B) (xs : List A) (i : ℕ) (x : A) (old new : List B) → i < length xs → x ≡ get_or xs i x → old ≡ flat_map f (take i xs) → new ≡ old ++ f x → new ≡ flat_map f (take (i + 1) xs)
part_more f xs i x old new h is so_far pushed =
    let e : i + 1 ≡ suc i = omega arith in
    pushed ∙ ap₂ (λ (l r : List _). l ++ r) so_far (ap f is) ∙ sym (flat_more f xs i x h) ∙ ap (λ n. flat_map f (take n xs)) (sym e)
