-- The columns of a text that is UTF-8 are its characters.
use Rattle.std.proofs.Common.{◌≡◌, ℕ, zero, suc, ◌+◌, ◌-◌, ◌<◌, ◌≤◌, min, Bool, true, false, ◌&&◌, IsTrue, List, [], ◌∷◌, ◌++◌, map, flat_map, length, take, drop, refl, ap, ap₂, sym, subst, ◌∙◌, append_assoc, arith}
use Rattle.std.specs.Str.{all_scalars, IsUtf8, encode_utf8_all}
use Rattle.std.specs.Char.{encode_utf8, IsScalar}
use Rattle.std.proofs.lemmas.Str.{IsUtf8-encode, encode_same, is_utf8-from_IsUtf8, length-encode, len_utf8_bounds}
use Rattle.std.proofs.lemmas.List.{length-append, length-take, take-append-drop}
use Rattle.std.proofs.lemmas.List.Concat.{flat_map-cons}
use Rattle.std.proofs.Math.Seq.{take-append_seam, drop-append_seam}
use Rattle.diagnostics.specs.Columns.{column_len, columns_behind, columns, is_text}
use Rattle.diagnostics.proofs.ColumnSteps.{chosen, column_some, columns_split, no_columns, no_text}

-- no front of a character's bytes is a text
front_is_whole : (c : ℕ) (rest : List ℕ) (i : ℕ) → 0 < i → IsUtf8 (take i (encode_utf8 c ++ rest))
    → length (encode_utf8 c) ≤ i
front_is_whole c rest i above u = by u.0 u.1.1
  where
    by : (cs : List ℕ) → encode_utf8_all cs ≡ take i (encode_utf8 c ++ rest)
        → length (encode_utf8 c) ≤ i
    by [] e =
        let l : 0 ≡ min i (length (encode_utf8 c ++ rest)) = ap length e
        ∙ length-take i (encode_utf8 c ++ rest) in
        let m : length (encode_utf8 c ++ rest) ≡ length (encode_utf8 c) + length rest
        = length-append (encode_utf8 c) rest in
        omega (arith, l, m, above)
    by (d ∷ ds) e =
        let text = encode_utf8 c ++ rest in
        let parts : text ≡ encode_utf8 d ++ (encode_utf8_all ds ++ drop i text) =
        sym (take-append-drop i text) ∙ ap (λ (t : List ℕ). t ++ drop i text) (sym e)
        ∙ append_assoc (encode_utf8 d) (encode_utf8_all ds) (drop i text) in
        let same : c ≡ d = (encode_same c d rest (encode_utf8_all ds ++ drop i text) parts).0 in
        let l : length (encode_utf8 d ++ encode_utf8_all ds) ≡ min i (length text) = ap length e
        ∙ length-take i text in
        let m : length (encode_utf8 d ++ encode_utf8_all ds)
        ≡ length (encode_utf8 d) + length (encode_utf8_all ds)
        = length-append (encode_utf8 d) (encode_utf8_all ds) in
        let k : length (encode_utf8 c) ≡ length (encode_utf8 d)
        = ap (λ x. length (encode_utf8 x)) same in
        omega (arith, l, m, k)

-- the first length that passes is chosen
pick : (p : ℕ → Bool) (n : ℕ) → 0 < n → n ≤ 4 → ((m : ℕ) → 0 < m → m < n → p m ≡ false) → p n ≡ true
    → chosen (p 1) (p 2) (p 3) (p 4) ≡ n
pick p zero a b f e = absurd (omega (arith, a))
pick p (suc zero) a b f e = ap (λ t. chosen t (p 2) (p 3) (p 4)) e
pick p (suc (suc zero)) a b f e =
    ap (λ t. chosen t (p 2) (p 3) (p 4)) (f 1 (omega arith) (omega arith))
    ∙ ap (λ t. chosen false t (p 3) (p 4)) e
pick p (suc (suc (suc zero))) a b f e =
    ap (λ t. chosen t (p 2) (p 3) (p 4)) (f 1 (omega arith) (omega arith))
    ∙ ap (λ t. chosen false t (p 3) (p 4)) (f 2 (omega arith) (omega arith))
    ∙ ap (λ t. chosen false false t (p 4)) e
pick p (suc (suc (suc (suc zero)))) a b f e =
    ap (λ t. chosen t (p 2) (p 3) (p 4)) (f 1 (omega arith) (omega arith))
    ∙ ap (λ t. chosen false t (p 3) (p 4)) (f 2 (omega arith) (omega arith))
    ∙ ap (λ t. chosen false false t (p 4)) (f 3 (omega arith) (omega arith))
    ∙ ap (λ t. chosen false false false t) e
pick p (suc (suc (suc (suc (suc n))))) a b f e = absurd (omega (arith, b))

-- a character is a column
character_len : (c : ℕ) (rest : List ℕ) → IsScalar c → column_len (encode_utf8 c ++ rest)
    ≡ length (encode_utf8 c)
character_len c rest s =
    let size : length (encode_utf8 c) ≡ _ = length-encode c in
    let least = (len_utf8_bounds c).0 in
    let most = (len_utf8_bounds c).1 in
    pick (λ n. is_text n (encode_utf8 c ++ rest)) (length (encode_utf8 c))
    (omega (arith, size, least)) (omega (arith, size, most)) short full
  where
    short : (m : ℕ) → 0 < m → m < length (encode_utf8 c) → is_text m (encode_utf8 c ++ rest) ≡ false
    short m above below =
        no_text (take m (encode_utf8 c ++ rest)) (λ (u : IsUtf8 (take m (encode_utf8 c ++ rest))). let k : length (encode_utf8 c) ≤ m = front_is_whole c rest m above u in omega (arith, k, below))

    full : is_text (length (encode_utf8 c)) (encode_utf8 c ++ rest) ≡ true
    full = is_utf8-from_IsUtf8 (take (length (encode_utf8 c)) (encode_utf8 c ++ rest))
        (subst IsUtf8 (sym (take-append_seam (encode_utf8 c) rest)) (IsUtf8-encode c s))

both : (x y : Bool) → (x && y) ≡ true → (x ≡ true) × (y ≡ true)
both true y e = (refl, e)
both false y e = absurd (cc)

all_characters : (cs : List ℕ) → all_scalars cs ≡ true → columns (encode_utf8_all cs)
    ≡ map encode_utf8 cs
all_characters [] s = no_columns [] refl
all_characters (c ∷ cs) s =
    let here : IsScalar c = (both _ _ s).0 in
    let rest = encode_utf8_all cs in
    let text = encode_utf8 c ++ rest in
    let size : length text ≡ length (encode_utf8 c) + length rest
    = length-append (encode_utf8 c) rest in
    let bytes : length (encode_utf8 c) ≡ _ = length-encode c in
    let least = (len_utf8_bounds c).0 in
    columns_split text (omega (arith, size, bytes, least))
    ∙ ap (λ n. take n text ∷ columns (drop n text)) (character_len c rest here)
    ∙ ap₂ (λ (x y : List ℕ). x ∷ columns y) (take-append_seam (encode_utf8 c) rest)
    (drop-append_seam (encode_utf8 c) rest)
    ∙ ap (λ (r : List (List ℕ)). encode_utf8 c ∷ r) (all_characters cs (both _ _ s).1)

pub characters : (cs : List ℕ) → IsTrue (all_scalars cs) → columns (encode_utf8_all cs)
    ≡ map encode_utf8 cs
characters cs s = all_characters cs s

back : (byte : ℕ) (bytes : List ℕ) (count : ℕ) → 0 < count → drop (count - 1) bytes
    ≡ drop count (byte ∷ bytes)
back byte bytes zero h = absurd (omega arith)
back byte bytes (suc count) h = let e : suc count - 1 ≡ count = omega arith in ap (λ n. drop n bytes) e

together : (count : ℕ) (bytes : List ℕ) → flat_map (λ (column : List ℕ). column)
    (columns_behind count bytes) ≡ drop count bytes
together zero [] = refl
together (suc count) [] = refl
together zero (byte ∷ bytes) =
    let size = column_len (byte ∷ bytes) in
    flat_map-cons (λ (column : List ℕ). column) (take size (byte ∷ bytes))
    (columns_behind (size - 1) bytes)
    ∙ ap (λ (r : List ℕ). take size (byte ∷ bytes) ++ r)
    (together (size - 1) bytes ∙ back byte bytes size
    (column_some (byte ∷ bytes) (omega arith)))
    ∙ take-append-drop size (byte ∷ bytes)
together (suc count) (byte ∷ bytes) = together count bytes

pub whole : (line : List ℕ) → flat_map (λ (column : List ℕ). column) (columns line) ≡ line
unfolding columns
whole line = together 0 line
