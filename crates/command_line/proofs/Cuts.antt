-- Frames tell their texts: the length of each says where it ends.
use Rattle.std.proofs.Common.{◌≡◌, ℕ, ◌<◌, ◌^◌, List, [], ◌∷◌, ◌++◌, refl, sym, ap₂, ◌∙◌, length, arith, append_assoc, codes, All}
use Rattle.std.specs.Fmt.{decimal}
use Rattle.std.specs.Str.Parse.{AllDigits}
use Rattle.std.specs.Int.{IsInRange}
use Rattle.std.proofs.lemmas.Fmt.{decimal_is_IsNumeral, decimal_injective}
use Rattle.std.proofs.lemmas.Str.Parse.{digit_from_value}
use Rattle.std.proofs.lemmas.List.{append_cancel_left}
use Rattle.std.proofs.lemmas.List.Elements.{All-head, All-tail}
use Rattle.nq_ir.specs.declared.path.Step.{Step}
use Rattle.command_line.specs.Frames.{frame, frames}
use Rattle.command_line.specs.Paths.{path_text}

no_digit : (b : ℕ) → b ≡ 10 → IsInRange 48 57 b → ⊥
no_digit b e r = omega (arith, e, r)

-- digits end at the end of their line
digits_end : (ds es x y : List ℕ) → AllDigits 10 ds → AllDigits 10 es → ds ++ 10 ∷ x ≡ es ++ 10 ∷ y → (ds ≡ es) × (x ≡ y)
digits_end [] [] x y d f e = let rest : x ≡ y = cc in (refl, rest)
digits_end [] (b ∷ es) x y d f e = let same : b ≡ 10 = cc in absurd (no_digit b same (digit_from_value b f.0))
digits_end (a ∷ ds) [] x y d f e = let same : a ≡ 10 = cc in absurd (no_digit a same (digit_from_value a d.0))
digits_end (a ∷ ds) (b ∷ es) x y d f e =
    let rest : ds ++ 10 ∷ x ≡ es ++ 10 ∷ y = cc in
    let first : a ≡ b = cc in
    let r = digits_end ds es x y d.1 f.1 rest in
    (ap₂ (λ z (l : List ℕ). z ∷ l) first r.0, r.1)

lengths_end : (m n : ℕ) (x y : List ℕ) → m < 2 ^ 64 → n < 2 ^ 64 → decimal m ++ 10 ∷ x ≡ decimal n ++ 10 ∷ y → (m ≡ n) × (x ≡ y)
lengths_end m n x y k l e =
    let r = digits_end (decimal m) (decimal n) x y (decimal_is_IsNumeral m k).0.1 (decimal_is_IsNumeral n l).0.1 e in
    (decimal_injective m n k l r.0, r.1)

-- lists of one length in front
fronts_end : (xs ys x y : List ℕ) → length xs ≡ length ys → xs ++ x ≡ ys ++ y → (xs ≡ ys) × (x ≡ y)
fronts_end [] [] x y long e = (refl, e)
fronts_end [] (b ∷ ys) x y long e = absurd (omega (arith, long))
fronts_end (a ∷ xs) [] x y long e = absurd (omega (arith, long))
fronts_end (a ∷ xs) (b ∷ ys) x y long e =
    let rest : xs ++ x ≡ ys ++ y = cc in
    let first : a ≡ b = cc in
    let r = fronts_end xs ys x y (omega (arith, long)) rest in
    (ap₂ (λ z (l : List ℕ). z ∷ l) first r.0, r.1)

-- a frame and what stands behind it
behind : (path : List Step) (text rest : List ℕ)
    → frame path text ++ rest ≡ codes "-- " ++ (path_text path ++ (codes " " ++ (decimal (length text) ++ 10 ∷ (text ++ (codes "\n;\n" ++ rest)))))
behind path text rest = simp append_assoc

frame_ends : (path : List Step) (text other rest more : List ℕ) → length text < 2 ^ 64 → length other < 2 ^ 64
    → frame path text ++ rest ≡ frame path other ++ more → (text ≡ other) × (rest ≡ more)
frame_ends path text other rest more k l e =
    let whole = sym (behind path text rest) ∙ e ∙ behind path other more in
    let marked = append_cancel_left (codes "-- ") _ _ whole in
    let named = append_cancel_left (path_text path) _ _ marked in
    let spaced = append_cancel_left (codes " ") _ _ named in
    let long = lengths_end (length text) (length other) (text ++ (codes "\n;\n" ++ rest)) (other ++ (codes "\n;\n" ++ more)) k l spaced in
    let texts = fronts_end text other (codes "\n;\n" ++ rest) (codes "\n;\n" ++ more) long.0 long.1 in
    (texts.0, append_cancel_left (codes "\n;\n") rest more texts.1)

pub frames_tell : (paths : List (List Step)) (texts others : List (List ℕ)) → length texts ≡ length paths → length others ≡ length paths
    → All (λ text. length text < 2 ^ 64) texts → All (λ text. length text < 2 ^ 64) others → frames paths texts ≡ frames paths others → texts ≡ others
frames_tell [] [] [] m n k l e = refl
frames_tell [] [] (o ∷ others) m n k l e = absurd (omega (arith, n))
frames_tell [] (t ∷ texts) others m n k l e = absurd (omega (arith, m))
frames_tell (p ∷ paths) [] others m n k l e = absurd (omega (arith, m))
frames_tell (p ∷ paths) (t ∷ texts) [] m n k l e = absurd (omega (arith, n))
frames_tell (p ∷ paths) (t ∷ texts) (o ∷ others) m n k l e =
    let Short : List ℕ → Type 0 = λ text. length text < 2 ^ 64 in
    let r = frame_ends p t o (frames paths texts) (frames paths others) (All-head Short t texts k) (All-head Short o others l) e in
    ap₂ (λ (x : List ℕ) (xs : List (List ℕ)). x ∷ xs) r.0 (frames_tell paths texts others (omega (arith, m)) (omega (arith, n)) (All-tail Short t texts k) (All-tail Short o others l) r.1)
