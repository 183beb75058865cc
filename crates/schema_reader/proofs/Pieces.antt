-- What the tests of the first byte tell of the front of bytes.
use Rattle.std.proofs.Common.{◌≡◌, ℕ, zero, suc, ◌+◌, ◌<◌, true, cond, ◌||◌, ◌&&◌, nat_le, List, [], ◌∷◌, length, take, refl, sym, ◌∙◌, ap, subst, arith, one-add, Some, length-take-le, take-append-drop, slice_index}
use Rattle.std.specs.List.{AllByRecursion as Each, prefix_len}
use Rattle.std.specs.Str.{IsAscii, IsUtf8}
use Rattle.std.proofs.lemmas.Str.{IsUtf8-from_ascii}
use Rattle.std.proofs.lemmas.Bool.Decides.{nat_tests}
use Rattle.std.proofs.lemmas.List.Sums.{prefix_len-le-length}
use Rattle.nq_model.specs.SchemaTokens.{Mark, Symbol, token, is_white, begins_word, is_word_byte, is_comment_byte, Piece}
use Rattle.schema_reader.specs.Fronts.{mark_of, HasFront}
use Rattle.schema_reader.proofs.Cuts.{comment_front, word_front, byte_of-mark_of, run_all}

pub has_white : (place b : ℕ) (bs bytes : List ℕ) → bytes ≡ b ∷ bs → is_white b ≡ true → HasFront place bytes 1 []
has_white place b bs bytes e h = subst (λ z. HasFront place z 1 []) (sym e) (record { piece = Piece.white b; whole = refl; fits = h; size = refl; says = refl })

pub has_comment : (place b n : ℕ) (bs bytes : List ℕ) → bytes ≡ b ∷ bs → b ≡ 35 → n ≡ prefix_len is_comment_byte bytes → HasFront place bytes n []
has_comment place b n bs bytes e h l =
    let k = prefix_len is_comment_byte bs in
    let front : bytes ≡ 35 ∷ bs = e ∙ ap (λ z. z ∷ bs) h in
    let size : n ≡ suc k = l ∙ ap (prefix_len is_comment_byte) front ∙ one-add k in
    subst (λ z. HasFront place bytes z []) (sym size)
    (subst (λ z. HasFront place z (suc k) []) (sym front)
    (record {
      piece = Piece.comment (take k bs);
      whole = ap (λ z. 35 ∷ z) (sym (take-append-drop k bs));
      fits = comment_front place bs;
      size = ap suc (length-take-le k bs (prefix_len-le-length is_comment_byte bs));
      says = refl;
    }))

word_len_more : (b : ℕ) (bs : List ℕ) → begins_word b ≡ true → prefix_len is_word_byte (b ∷ bs) ≡ suc (prefix_len is_word_byte bs)
word_len_more b bs h =
    ap (λ t. cond (t || (nat_le 48 b && nat_le b 57)) (1 + prefix_len is_word_byte bs) 0) h ∙ one-add (prefix_len is_word_byte bs)

pub has_word : (place b : ℕ) (bs bytes w : List ℕ) → bytes ≡ b ∷ bs → begins_word b ≡ true → w ≡ take (prefix_len is_word_byte bytes) bytes
    → HasFront place bytes (length w) (token place (Symbol.word w) ∷ [])
has_word place b bs bytes w e h l =
    let k = prefix_len is_word_byte bs in
    let same : w ≡ b ∷ take k bs = l ∙ ap (λ z. take (prefix_len is_word_byte z) z) e ∙ ap (λ n. take n (b ∷ bs)) (word_len_more b bs h) in
    let size : length (b ∷ take k bs) ≡ suc k = ap suc (length-take-le k bs (prefix_len-le-length is_word_byte bs)) in
    subst (λ z. HasFront place bytes (length z) (token place (Symbol.word z) ∷ [])) (sym same)
    (subst (λ z. HasFront place bytes z (token place (Symbol.word (b ∷ take k bs)) ∷ [])) (sym size)
    (subst (λ z. HasFront place z (suc k) (token place (Symbol.word (b ∷ take k bs)) ∷ [])) (sym e)
    (record {
      piece = Piece.word (b ∷ take k bs);
      whole = ap (λ z. b ∷ z) (sym (take-append-drop k bs));
      fits = word_front place b bs h;
      size = size;
      says = refl;
    })))

pub has_mark : (place b : ℕ) (bs bytes : List ℕ) (m : Mark) → bytes ≡ b ∷ bs → mark_of b ≡ Some m → HasFront place bytes 1 (token place (Symbol.mark m) ∷ [])
has_mark place b bs bytes m e h =
    subst (λ z. HasFront place z 1 (token place (Symbol.mark m) ∷ [])) (sym e)
    (record { piece = Piece.mark m; whole = ap (λ z. z ∷ bs) (byte_of-mark_of b m h); fits = tt; size = refl; says = refl })

-- a word is ASCII, so it is UTF-8
word_byte_small : (b : ℕ) → is_word_byte b ≡ true → b < 128
word_byte_small b h = grind (arith, nat_tests)

ascii_from : (bs : List ℕ) → Each (λ b. is_word_byte b ≡ true) bs → IsAscii bs
ascii_from [] e = λ i. omega arith
ascii_from (b ∷ bs) e = at (word_byte_small b e.0) (ascii_from bs e.1)
  where
    at : b < 128 → IsAscii bs → (i : ℕ) → slice_index (b ∷ bs) i < 128
    at h r zero = h
    at h r (suc i) = r i

pub word_utf8 : (bytes : List ℕ) (n : ℕ) → n ≡ prefix_len is_word_byte bytes → IsUtf8 (take n bytes)
word_utf8 bytes n e = IsUtf8-from_ascii (take n bytes) (subst (λ z. IsAscii (take z bytes)) (sym e) (ascii_from (take (prefix_len is_word_byte bytes) bytes) (run_all is_word_byte bytes)))
