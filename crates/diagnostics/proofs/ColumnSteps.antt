-- Columns one by one.
use Rattle.std.proofs.Common.{◌≡◌, ℕ, zero, suc, ◌+◌, ◌-◌, ◌<◌, ◌≤◌, List, [], ◌∷◌, Bool, true, false, if◌then◌else◌, length, take, drop, ◌++◌, refl, ap, ap₂, sym, ◌∙◌, append-nil, append_assoc, arith}
use Rattle.std.specs.Str.{is_utf8, IsUtf8}
use Rattle.std.proofs.lemmas.Str.{IsUtf8-from_is_utf8}
use Rattle.std.proofs.lemmas.List.Concat.{flat_map-cons}
use Rattle.diagnostics.specs.Columns.{column_len, columns_behind, columns, shown, shown_line}

-- bytes that are no UTF-8 fail the test
pub no_text : (bytes : List ℕ) → (IsUtf8 bytes → ⊥) → is_utf8 bytes ≡ false
no_text bytes refused = by (is_utf8 bytes) refl
  where
    by : (t : Bool) → is_utf8 bytes ≡ t → t ≡ false
    by true e = absurd (refused (IsUtf8-from_is_utf8 bytes e))
    by false e = refl

-- the columns behind some bytes are those of the rest
behind : (count : ℕ) (bytes : List ℕ) → columns_behind count bytes
    ≡ columns_behind 0 (drop count bytes)
behind zero bytes = refl
behind (suc count) [] = refl
behind (suc count) (byte ∷ bytes) = behind count bytes

-- the length of a column, by whether one, two, three and four bytes are UTF-8
abbrev pub chosen : Bool → Bool → Bool → Bool → ℕ
chosen one two three four
    = if one then 1 else if two then 2 else if three then 3 else if four then 4 else 1

-- a column has a byte, and no more than there are
pub column_fits : (bytes : List ℕ) → 0 < length bytes → (0 < column_len bytes)
    × (column_len bytes ≤ length bytes)
column_fits [] h = absurd (omega arith)
column_fits (a ∷ []) h = by (is_utf8 (a ∷ []))
  where
    by : (s : Bool) → (0 < chosen s s s s) × (chosen s s s s ≤ 1)
    by true = (omega arith, omega arith)
    by false = (omega arith, omega arith)
column_fits (a ∷ b ∷ []) h = by (is_utf8 (a ∷ [])) (is_utf8 (a ∷ b ∷ []))
  where
    by : (s t : Bool) → (0 < chosen s t t t) × (chosen s t t t ≤ 2)
    by true t = (omega arith, omega arith)
    by false true = (omega arith, omega arith)
    by false false = (omega arith, omega arith)
column_fits (a ∷ b ∷ c ∷ []) h = by (is_utf8 (a ∷ [])) (is_utf8 (a ∷ b ∷ []))
    (is_utf8 (a ∷ b ∷ c ∷ []))
  where
    by : (s t u : Bool) → (0 < chosen s t u u) × (chosen s t u u ≤ 3)
    by true t u = (omega arith, omega arith)
    by false true u = (omega arith, omega arith)
    by false false true = (omega arith, omega arith)
    by false false false = (omega arith, omega arith)
column_fits (a ∷ b ∷ c ∷ d ∷ rest) h = by (is_utf8 (a ∷ [])) (is_utf8 (a ∷ b ∷ []))
    (is_utf8 (a ∷ b ∷ c ∷ [])) (is_utf8 (a ∷ b ∷ c ∷ d ∷ []))
  where
    by : (s t u v : Bool) → (0 < chosen s t u v) × (chosen s t u v ≤ suc
        (suc (suc (suc (length rest)))))
    by true t u v = (omega arith, omega arith)
    by false true u v = (omega arith, omega arith)
    by false false true v = (omega arith, omega arith)
    by false false false true = (omega arith, omega arith)
    by false false false false = (omega arith, omega arith)

split : (byte : ℕ) (bytes : List ℕ) (count : ℕ) → 0 < count → columns_behind (count - 1) bytes
    ≡ columns_behind 0 (drop count (byte ∷ bytes))
split byte bytes zero h = absurd (omega arith)
split byte bytes (suc count) h = let e : suc count - 1 ≡ count = omega arith in ap (λ n. columns_behind n bytes) e ∙ behind count bytes

-- the first column, and the columns of what is behind it
pub columns_split : (bytes : List ℕ) → 0 < length bytes → columns bytes
    ≡ take (column_len bytes) bytes ∷ columns (drop (column_len bytes) bytes)
unfolding columns
columns_split [] h = absurd (omega arith)
columns_split (byte ∷ bytes) h =
    ap (λ rest. take (column_len (byte ∷ bytes)) (byte ∷ bytes) ∷ rest)
    (split byte bytes (column_len (byte ∷ bytes)) (column_fits (byte ∷ bytes) h).0)

-- the same, as the code finds them
pub split_is : (bytes front back : List ℕ) (count : ℕ) → 0 < length bytes → count ≡ column_len bytes
    → front ≡ take count bytes → back ≡ drop count bytes
    → columns bytes ≡ front ∷ columns back
split_is bytes front back count h c f b =
    columns_split bytes h ∙ ap (λ n. take n bytes ∷ columns (drop n bytes)) (sym c)
    ∙ ap₂ (λ (x y : List ℕ). x ∷ columns y) (sym f) (sym b)

pub column_some : (bytes : List ℕ) → 0 < length bytes → 0 < column_len bytes
column_some bytes h = (column_fits bytes h).0

pub column_within : (bytes : List ℕ) → 0 < length bytes → column_len bytes ≤ length bytes
column_within bytes h = (column_fits bytes h).1

pub ruleset fitting = (column_some, column_within)

-- where there is no byte there is no column
pub no_columns : (bytes : List ℕ) → length bytes ≡ 0 → columns bytes ≡ []
unfolding columns
no_columns [] h = refl
no_columns (byte ∷ bytes) h = absurd (omega (arith, h))

pub none_left : (bytes : List ℕ) (count : ℕ) → length bytes ≡ 0 → drop count (columns bytes)
    ≡ columns bytes
none_left bytes count h = ap (drop count) (no_columns bytes h) ∙ none count
    ∙ sym (no_columns bytes h)
  where
    none : (n : ℕ) → drop {A = List ℕ} n [] ≡ []
    none zero = refl
    none (suc n) = refl

one_less : (count at : ℕ) → at < count → count - at ≡ suc (count - (at + 1))
one_less count at h = omega arith

-- a column more is left out
pub skip_one : (rest column behind : List ℕ) (count at : ℕ) → at < count → columns rest ≡ column
    ∷ columns behind
    → drop (count - at) (columns rest) ≡ drop (count - (at + 1)) (columns behind)
skip_one rest column behind count at h e = ap₂ (λ n (cs : List (List ℕ)). drop n cs)
    (one_less count at h) e

-- where there is no column, none is shown
pub none_shown : (text rest : List ℕ) (count : ℕ) → length rest ≡ 0 → text
    ++ shown_line (take count (columns rest)) ≡ text
none_shown text rest count h = ap (λ (cs : List (List ℕ)). text ++ shown_line (take count cs))
    (no_columns rest h) ∙ none count
  where
    none : (n : ℕ) → text ++ shown_line (take n []) ≡ text
    none zero = append-nil text
    none (suc n) = append-nil text

-- a column more is shown
pub show_one : (old new rest column behind : List ℕ) (count at : ℕ) → at < count → columns rest
    ≡ column ∷ columns behind → new ≡ old ++ shown column
    → new ++ shown_line (take (count - (at + 1)) (columns behind)) ≡ old
    ++ shown_line (take (count - at) (columns rest))
show_one old new rest column behind count at h e put =
    let left = take (count - (at + 1)) (columns behind) in
    ap (λ (t : List ℕ). t ++ shown_line left) put
    ∙ append_assoc old (shown column) (shown_line left)
    ∙ ap (λ (t : List ℕ). old ++ t) (sym (flat_map-cons shown column left))
    ∙ sym (ap₂ (λ n (cs : List (List ℕ)). old ++ shown_line (take n cs)) (one_less count at h) e)
