-- Pieces of a list, which end at places.
use Rattle.std.proofs.Common.{◌≡◌, ℕ, zero, suc, ◌+◌, ◌-◌, ◌<◌, ◌≤◌, List, [], ◌∷◌, ◌++◌, take, drop, length, get_or, slice_range, All, refl, sym, ap, ap₂, ◌∙◌, subst, arith, length-append, length-drop}
use Rattle.std.proofs.lemmas.List.{drop_all, take_all, take-append-le, drop-append-le}
use Rattle.std.proofs.lemmas.List.Elements.{All-push}
use Rattle.std.specs.Str.{IsUtf8}
use Rattle.rows.specs.Packed.{pieces, AreEnds, start_of}

-- no piece begins past the end
ends_within : (from : ℕ) (ends : List ℕ) (size : ℕ) → AreEnds from ends size → from ≤ size
ends_within from [] size h = omega (arith, h)
ends_within from (end ∷ ends) size h = omega (arith, h.0, ends_within end ends size h.1)

-- one more piece ends at the new end
pub ends_more : (from : ℕ) (ends : List ℕ) (size more : ℕ) → AreEnds from ends size → size ≤ more → AreEnds from (ends ++ more ∷ []) more
ends_more from [] size more h k = (omega (arith, h), refl)
ends_more from (end ∷ ends) size more h k = (h.0, ends_more end ends size more h.1 k)

-- where a piece begins and ends
place_at : (from : ℕ) (ends : List ℕ) (size at : ℕ) → AreEnds from ends size → at < length ends
    → (get_or (from ∷ ends) at 0 ≤ get_or ends at 0) × (get_or ends at 0 ≤ size)
place_at from [] size at h k = absurd (omega (arith, k))
place_at from (end ∷ ends) size zero h k = (h.0, ends_within end ends size h.1)
place_at from (end ∷ ends) size (suc at) h k = place_at end ends size at h.1 (omega (arith, k))

piece_begins : (ends : List ℕ) (size at : ℕ) → AreEnds 0 ends size → at < length ends → start_of ends at ≤ get_or ends at 0
piece_begins ends size at h k = (place_at 0 ends size at h k).0

piece_ends : (ends : List ℕ) (size at : ℕ) → AreEnds 0 ends size → at < length ends → get_or ends at 0 ≤ size
piece_ends ends size at h k = (place_at 0 ends size at h k).1

module _ {A : Type 0} where
  -- a range of a list, before more comes
  range_before : (xs more : List A) (start end : ℕ) → start ≤ end → end ≤ length xs → slice_range (xs ++ more) start end ≡ slice_range xs start end
  range_before xs more start end h k =
      ap (take (end - start)) (drop-append-le start xs more (omega arith))
      ∙ take-append-le (end - start) (drop start xs) more (rw length-drop (omega arith))

  -- what comes last
  range_after : (xs more : List A) → slice_range (xs ++ more) (length xs) (length (xs ++ more)) ≡ more
  range_after xs more =
      ap (take (length (xs ++ more) - length xs)) (drop-append-le (length xs) xs more (omega arith) ∙ ap (λ (l : List A). l ++ more) (drop_all (length xs) xs (omega arith)))
      ∙ take_all (length (xs ++ more) - length xs) more (rw length-append (omega arith))

  pieces_push : (from : ℕ) (ends : List ℕ) (xs ys : List A) → AreEnds from ends (length xs)
      → pieces from (ends ++ length (xs ++ ys) ∷ []) (xs ++ ys) ≡ pieces from ends xs ++ ys ∷ []
  pieces_push from [] xs ys h =
      ap (λ (n : ℕ). slice_range (xs ++ ys) n (length (xs ++ ys)) ∷ []) h ∙ ap (λ (l : List A). l ∷ []) (range_after xs ys)
  pieces_push from (end ∷ ends) xs ys h =
      ap₂ (λ (l : List A) (ls : List (List A)). l ∷ ls) (range_before xs ys from end h.0 (ends_within end ends (length xs) h.1)) (pieces_push end ends xs ys h.1)

  -- one more piece
  pub pieces_more : (ends now : List ℕ) (xs ys more : List A) (old : List (List A)) → AreEnds 0 ends (length xs) → pieces 0 ends xs ≡ old
      → more ≡ xs ++ ys → now ≡ ends ++ length more ∷ [] → pieces 0 now more ≡ old ++ ys ∷ []
  pieces_more ends now xs ys more old h view grown last =
      ap₂ (λ (es : List ℕ) (l : List A). pieces 0 es l) (last ∙ ap (λ (l : List A). ends ++ length l ∷ []) grown) grown
      ∙ pieces_push 0 ends xs ys h ∙ ap (λ (ls : List (List A)). ls ++ ys ∷ []) view

  pub pieces_length : (from : ℕ) (ends : List ℕ) (xs : List A) → length (pieces from ends xs) ≡ length ends
  pieces_length from [] xs = refl
  pieces_length from (end ∷ ends) xs = ap suc (pieces_length end ends xs)

  piece_from : (from : ℕ) (ends : List ℕ) (xs : List A) (at : ℕ) (none : List A) → at < length ends
      → get_or (pieces from ends xs) at none ≡ slice_range xs (get_or (from ∷ ends) at 0) (get_or ends at 0)
  piece_from from [] xs at none h = absurd (omega (arith, h))
  piece_from from (end ∷ ends) xs zero none h = refl
  piece_from from (end ∷ ends) xs (suc at) none h = piece_from end ends xs at none (omega (arith, h))

  -- the piece of a number
  pub piece_at : (ends : List ℕ) (xs : List A) (at : ℕ) (none : List A) → at < length ends
      → get_or (pieces 0 ends xs) at none ≡ slice_range xs (start_of ends at) (get_or ends at 0)
  piece_at ends xs at none h = piece_from 0 ends xs at none h

  -- as many ends as pieces
  pub ends_length : (ends : List ℕ) (xs : List A) (seen : List (List A)) → pieces 0 ends xs ≡ seen → length ends ≡ length seen
  ends_length ends xs seen view = sym (pieces_length 0 ends xs) ∙ ap length view

  pub piece_there : (ends : List ℕ) (xs : List A) (seen : List (List A)) (at : ℕ) → pieces 0 ends xs ≡ seen → at < length seen → at < length ends
  piece_there ends xs seen at view h = omega (arith, ends_length ends xs seen view)

-- where a piece begins and ends
module _ {A : Type 0} (ends : List ℕ) (xs : List A) (seen : List (List A)) (at start end : ℕ) (view : pieces 0 ends xs ≡ seen) (known : AreEnds 0 ends (length xs))
    (within : at < length ends) (begins : start ≡ start_of ends at) (is_end : end ≡ get_or ends at 0) where
  pub read_order : start ≤ end
  read_order = rw (begins, is_end) (piece_begins ends (length xs) at known within)

  pub read_within : end ≤ length xs
  read_within = rw is_end (piece_ends ends (length xs) at known within)

  pub read_piece : slice_range xs start end ≡ get_or seen at []
  read_piece =
      ap₂ (slice_range xs) begins is_end ∙ sym (piece_at ends xs at [] within) ∙ ap (λ (ls : List (List A)). get_or ls at []) view

-- bytes that are texts, which end at these places
abbrev pub AreTexts : List ℕ → List ℕ → Type 0
AreTexts ends bytes = AreEnds 0 ends (length bytes) × All IsUtf8 (pieces 0 ends bytes)

pub texts_stay : (ends now bytes more : List ℕ) → AreTexts ends bytes → now ≡ ends → more ≡ bytes → AreTexts now more
texts_stay ends now bytes more known same also =
    subst (λ (es : List ℕ). AreTexts es more) (sym same) (subst (AreTexts ends) (sym also) known)

pub texts_more : (ends now bytes text more : List ℕ) (end : ℕ) → AreTexts ends bytes → IsUtf8 text → more ≡ bytes ++ text → end ≡ length bytes + length text
    → now ≡ ends ++ end ∷ [] → AreTexts now more
texts_more ends now bytes text more end known utf8 grown last pushed =
    let size : end ≡ length more = last ∙ sym (ap length grown ∙ length-append bytes text) in
    let is_now : now ≡ ends ++ length more ∷ [] = pushed ∙ ap (λ (n : ℕ). ends ++ n ∷ []) size in
    let all : All IsUtf8 (pieces 0 ends bytes ++ text ∷ []) = All-push IsUtf8 (pieces 0 ends bytes) text known.1 utf8 in (
      subst (λ (es : List ℕ). AreEnds 0 es (length more)) (sym is_now) (ends_more 0 ends (length bytes) (length more) known.0 (omega (arith, size, last))),
      subst (All IsUtf8) (sym (pieces_more ends now bytes text more (pieces 0 ends bytes) known.0 refl grown is_now)) all,
    )

-- the texts with one more
pub texts_pushed : (ends now bytes text more : List ℕ) (end : ℕ) (old : List (List ℕ)) → AreTexts ends bytes → pieces 0 ends bytes ≡ old → more ≡ bytes ++ text
    → end ≡ length bytes + length text → now ≡ ends ++ end ∷ [] → pieces 0 now more ≡ old ++ text ∷ []
texts_pushed ends now bytes text more end old known view grown last pushed =
    let size : end ≡ length more = last ∙ sym (ap length grown ∙ length-append bytes text) in
    pieces_more ends now bytes text more old known.0 view grown (pushed ∙ ap (λ (n : ℕ). ends ++ n ∷ []) size)
