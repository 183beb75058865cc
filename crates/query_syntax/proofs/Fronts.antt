-- Numbers and literals read byte by byte, and where words and literals may be cut.
use Rattle.std.proofs.Common.{◌≡◌, ◌≢◌, ℕ, zero, suc, ◌+◌, ◌-◌, ◌*◌, ◌≤◌, ◌<◌, ◌==◌, eqb, Bor, Bool, true, false, true≢false, not, cond, nat_le, ◌&&◌, ◌||◌, All, slice_index, one-add, subst₂, ap₂, inl, inr, if◌then◌else◌, List, [], ◌∷◌, length, take, drop, get_or, Option, Some, None, option_map, refl, ap, sym, ◌∙◌, subst, arith}
use Rattle.std.specs.List.{prefix_len}
use Rattle.std.specs.Str.{IsAscii, IsUtf8}
use Rattle.std.proofs.Math.Seq.{drop-cons}
use Rattle.std.proofs.lemmas.Bool.Decides.{nat_tests}
use Rattle.std.proofs.lemmas.List.{drop-drop, get_or-drop, length-drop}
use Rattle.std.proofs.lemmas.List.Elements.{All-cons, All-nil}
use Rattle.std.proofs.lemmas.Str.{IsUtf8-from_ascii}
use Rattle.nq_model.specs.SchemaTokens.{is_white, begins_word, is_word_byte, is_comment_byte}
use Rattle.lexical.proofs.Fronts.{longer}
use Rattle.std.specs.Cmp.Lexicographic.{pointwise}
use Rattle.nq_model.specs.QueryTokens.{Gap, Takes, begins_with, is_digit, is_quote, is_order_mark, front, word_front, number_front, literal_front, literal_len, symbols, symbol_front, value_from}
use Rattle.query_syntax.specs.Fronts.{mark_token, table_view}
use Rattle.query_syntax.specs.declared.marks.Mark.{Mark}

-- the row of a table at which a symbol is found
pub row_here : (table : List (Bor (List ℕ) × Mark)) (bs : List ℕ) (i : ℕ) (d : Bor (List ℕ) × Mark) → i < length table → begins_with (get_or table i d).0.now bs ≡ true
    → Takes (length (get_or table i d).0.now) (mark_token (get_or table i d).1) ≡ symbol_front (table_view (drop i table)) bs
row_here table bs i d h e =
    let row = get_or table i d in
    sym (ap (λ rows. symbol_front (table_view rows) bs) (drop-cons table i d h)
    ∙ ap (λ b. if b then Takes (length row.0.now) (mark_token row.1) else symbol_front (table_view (drop (suc i) table)) bs) e)

pub row_later : (table : List (Bor (List ℕ) × Mark)) (bs : List ℕ) (i : ℕ) (d : Bor (List ℕ) × Mark) → i < length table → begins_with (get_or table i d).0.now bs ≡ false
    → symbol_front (table_view (drop (suc i) table)) bs ≡ symbol_front (table_view (drop i table)) bs
row_later table bs i d h e =
    let row = get_or table i d in
    sym (ap (λ rows. symbol_front (table_view rows) bs) (drop-cons table i d h)
    ∙ ap (λ b. if b then Takes (length row.0.now) (mark_token row.1) else symbol_front (table_view (drop (suc i) table)) bs) e)

word_byte : (b : ℕ) → begins_word b ≡ true → is_word_byte b ≡ true
word_byte b h = ap (λ t. t || (nat_le 48 b && nat_le b 57)) h

word_byte_small : (b : ℕ) → is_word_byte b ≡ true → b < 128
word_byte_small b h = grind (arith, nat_tests)

ascii_run : (bs : List ℕ) → IsAscii (take (prefix_len is_word_byte bs) bs)
ascii_run [] = λ i. omega arith
ascii_run (b ∷ bs) = by (is_word_byte b) refl (ascii_run bs)
  where
    at : (n : ℕ) → b < 128 → IsAscii (take n bs) → (i : ℕ) → slice_index (b ∷ take n bs) i < 128
    at n h r zero = h
    at n h r (suc i) = r i

    none : (i : ℕ) → slice_index [] i < 128
    none i = omega arith

    by : (t : Bool) → is_word_byte b ≡ t → IsAscii (take (prefix_len is_word_byte bs) bs) → IsAscii (take (cond t (1 + prefix_len is_word_byte bs) 0) (b ∷ bs))
    by true e r = subst (λ n. IsAscii (take n (b ∷ bs))) (sym (one-add (prefix_len is_word_byte bs))) (at (prefix_len is_word_byte bs) (word_byte_small b e) r)
    by false e r = none

pub word_utf8 : (b : ℕ) (rest bytes : List ℕ) (n : ℕ) → bytes ≡ b ∷ rest → begins_word b ≡ true → n ≡ prefix_len is_word_byte rest → IsUtf8 (take (n + 1) bytes)
word_utf8 b rest bytes n e w m =
    subst₂ (λ k (l : List ℕ). IsUtf8 (take k l)) (longer is_word_byte b rest (word_byte b w) ∙ ap (λ k. k + 1) (sym m)) (sym e)
    (IsUtf8-from_ascii (take (prefix_len is_word_byte (b ∷ rest)) (b ∷ rest)) (ascii_run (b ∷ rest)))

-- what stands at the front, where a word does
pub word_there : (place b : ℕ) (rest bytes : List ℕ) (n : ℕ) → bytes ≡ b ∷ rest → is_white b ≡ false → (b == 35) ≡ false → begins_word b ≡ true → n ≡ prefix_len is_word_byte rest
    → word_front (n + 1) bytes ≡ front place b rest
word_there place b rest bytes n e w c g m =
    let number = if is_digit b then number_front (suc (prefix_len is_digit rest)) (b ∷ rest)
    else (if is_quote b then literal_front (literal_len false rest) rest
    else (if is_order_mark place (b ∷ rest) then Gap 3
    else symbol_front symbols (b ∷ rest))) in
    let word = if begins_word b then word_front (suc (prefix_len is_word_byte rest)) (b ∷ rest) else number in
    let comment = if b == 35 then Gap (suc (prefix_len is_comment_byte rest)) else word in
    let size : n + 1 ≡ suc (prefix_len is_word_byte rest) = omega (arith, m) in
    ap₂ (λ k (l : List ℕ). word_front k l) size e
    ∙ sym (ap (λ t. if t then Gap 1 else comment) w
    ∙ ap (λ t. if t then Gap (suc (prefix_len is_comment_byte rest)) else word) c
    ∙ ap (λ t. if t then word_front (suc (prefix_len is_word_byte rest)) (b ∷ rest) else number) g)

pub not_equal : (b : ℕ) → b ≢ 35 → (b == 35) ≡ false
not_equal b h = grind (arith, nat_tests)
