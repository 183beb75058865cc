-- Tokens are cut off one by one: each piece has a byte, and what is left is a text of its own.
use Rattle.std.proofs.Common.{◌≡◌, ℕ, zero, suc, ◌+◌, ◌-◌, ◌≤◌, Bool, true, false, ◌&&◌, ◌==◌, nat_le, if◌then◌else◌, get_or, ◌⊎◌, inl, inr, option_map, List, [], ◌∷◌, ◌++◌, length, take, drop, Option, Some, None, Result, Ok, Err, refl, ap, sym, ◌∙◌, subst, arith, append_assoc}
use Rattle.std.specs.List.{AllByRecursion as Each, prefix_len}
use Rattle.std.proofs.lemmas.Bool.Decides.{nat_tests}
use Rattle.std.proofs.lemmas.List.{length-drop}
use Rattle.std.proofs.lemmas.List.Sums.{prefix_len-le-length}
use Rattle.lexical.proofs.Literals.{literal_within}
use Rattle.nq_model.specs.SchemaTokens.{is_white, begins_word, is_word_byte, is_comment_byte}
use Rattle.nq_model.specs.QueryTokens.{Token, Word, Value, Number, is_order_mark, value_from, Stop, NoToken, TooLarge, Front, Gap, Takes, Stops, is_digit, is_quote, begins_with, symbols, symbol_front, word_front, number_front, literal_len, literal_front, front, with_token, go_on, tokens_from}

-- what is cut off of m bytes has a byte, and no more than there are
abbrev Moves : ℕ → Front → Type 0
Moves m (Gap n) = (1 ≤ n) × (n ≤ m)
Moves m (Takes n t) = (1 ≤ n) × (n ≤ m)
Moves m (Stops f) = Unit {0}

record Moving (m : ℕ) (f : Front) : Type 0 where
  moves : Moves m f

either : (m : ℕ) (b : Bool) (x y : Front) → (b ≡ true → Moving m x) → Moving m y → Moving m (if b then x else y)
either m true x y h k = h refl
either m false x y h k = k

gap : (m n : ℕ) → 1 ≤ n → n ≤ m → Moving m (Gap n)
gap m n h k = record { moves = (h, k) }

taken : (m n : ℕ) (t : ℕ → Token) → 1 ≤ n → n ≤ m → Moving m (Takes n t)
taken m n t h k = record { moves = (h, k) }

stopped : (m : ℕ) (f : Stop) → Moving m (Stops f)
stopped m f = record { moves = tt }

and_second : (a b : Bool) → (a && b) ≡ true → b ≡ true
and_second true b e = e
and_second false b e = absurd (cc)

begins_within : (cs bs : List ℕ) → begins_with cs bs ≡ true → length cs ≤ length bs
begins_within [] bs e = omega arith
begins_within (c ∷ cs) [] e = absurd (cc)
begins_within (c ∷ cs) (b ∷ bs) e = let r = begins_within cs bs (and_second (c == b) (begins_with cs bs) e) in omega (arith, r)

symbol_moves : (table : List (List ℕ × (ℕ → Token))) (bs : List ℕ) → Each (λ s. 1 ≤ length s.0) table → Moving (length bs) (symbol_front table bs)
symbol_moves [] bs e = stopped (length bs) NoToken
symbol_moves (s ∷ ss) bs e = either (length bs) (begins_with s.0 bs) (Takes (length s.0) s.1) (symbol_front ss bs) (λ h. taken (length bs) (length s.0) s.1 e.0 (begins_within s.0 bs h)) (symbol_moves ss bs e.1)

literal_moves : (bs : List ℕ) (o : Option ℕ) → literal_len false bs ≡ o → Moving (suc (length bs)) (literal_front o bs)
literal_moves bs None e = stopped (suc (length bs)) NoToken
literal_moves bs (Some n) e = let w = literal_within bs n e in taken (suc (length bs)) (suc n) _ (omega arith) (omega (arith, w))

table_moves : Each (λ s. 1 ≤ length s.0) symbols
table_moves = (omega arith, (omega arith, (omega arith, (omega arith, (omega arith, (omega arith, (omega arith, (omega arith, (omega arith, (omega arith, (omega arith, (omega arith, (omega arith, (omega arith, (omega arith, (omega arith, (omega arith, (omega arith, (omega arith, (omega arith, (omega arith, (omega arith, (omega arith, (omega arith, tt))))))))))))))))))))))))

module _ (place b : ℕ) (bs : List ℕ) where
  abbrev symbol : Front
  symbol = symbol_front symbols (b ∷ bs)

  abbrev mark : Front
  mark = if is_order_mark place (b ∷ bs) then Gap 3 else symbol

  abbrev literal : Front
  literal = if is_quote b then literal_front (literal_len false bs) bs else mark

  abbrev number : Front
  number = if is_digit b then number_front (suc (prefix_len is_digit bs)) (b ∷ bs) else literal

  abbrev word : Front
  word = if begins_word b then word_front (suc (prefix_len is_word_byte bs)) (b ∷ bs) else number

  abbrev comment : Front
  comment = if b == 35 then Gap (suc (prefix_len is_comment_byte bs)) else word

  mark_moves : Moving (suc (length bs)) mark
  mark_moves =
      either (suc (length bs)) (is_order_mark place (b ∷ bs)) (Gap 3) symbol
      (λ h. gap (suc (length bs)) 3 (omega arith) (begins_within (0xEF ∷ 0xBB ∷ 0xBF ∷ []) (b ∷ bs) (and_second (place == 0) (begins_with (0xEF ∷ 0xBB ∷ 0xBF ∷ []) (b ∷ bs)) h)))
      (symbol_moves symbols (b ∷ bs) table_moves)

  literal_part : Moving (suc (length bs)) literal
  literal_part = either (suc (length bs)) (is_quote b) (literal_front (literal_len false bs) bs) mark (λ h. literal_moves bs (literal_len false bs) refl) mark_moves

  number_part : Moving (suc (length bs)) number
  number_part =
      let n = suc (prefix_len is_digit bs) in
      let few = prefix_len-le-length is_digit bs in
      let long : suc (prefix_len is_digit bs) ≤ suc (length bs) = omega (arith, few) in
      let some : 1 ≤ suc (prefix_len is_digit bs) = omega arith in
      either (suc (length bs)) (is_digit b) (number_front n (b ∷ bs)) literal
      (λ h. either (suc (length bs)) (nat_le (value_from 0 (take n (b ∷ bs))) 9223372036854775807) (Takes n (λ p. Value p (Number (value_from 0 (take n (b ∷ bs))) n))) (Stops TooLarge) (λ k. taken (suc (length bs)) n (λ p. Value p (Number (value_from 0 (take n (b ∷ bs))) n)) some long) (stopped (suc (length bs)) TooLarge))
      literal_part

  word_part : Moving (suc (length bs)) word
  word_part =
      let n = suc (prefix_len is_word_byte bs) in
      let few = prefix_len-le-length is_word_byte bs in
      let long : suc (prefix_len is_word_byte bs) ≤ suc (length bs) = omega (arith, few) in
      let some : 1 ≤ suc (prefix_len is_word_byte bs) = omega arith in
      either (suc (length bs)) (begins_word b) (word_front n (b ∷ bs)) number
      (λ h. either (suc (length bs)) (nat_le n 64) (Takes n (λ p. Word p (take n (b ∷ bs)))) (Stops NoToken) (λ k. taken (suc (length bs)) n (λ p. Word p (take n (b ∷ bs))) some long) (stopped (suc (length bs)) NoToken))
      number_part

  comment_part : Moving (suc (length bs)) comment
  comment_part =
      let few = prefix_len-le-length is_comment_byte bs in
      let long : suc (prefix_len is_comment_byte bs) ≤ suc (length bs) = omega (arith, few) in
      let some : 1 ≤ suc (prefix_len is_comment_byte bs) = omega arith in
      either (suc (length bs)) (b == 35) (Gap (suc (prefix_len is_comment_byte bs))) word (λ h. gap (suc (length bs)) (suc (prefix_len is_comment_byte bs)) some long) word_part

  front_moves : Moving (suc (length bs)) (front place b bs)
  front_moves = either (suc (length bs)) (is_white b) (Gap 1) comment (λ h. gap (suc (length bs)) 1 (omega arith) (omega arith)) comment_part

shorter : (k b : ℕ) (bs : List ℕ) → 1 ≤ k → length (drop k (b ∷ bs)) ≤ length bs
shorter k b bs h = let e = length-drop k (b ∷ bs) in omega (arith, e, h)

-- more turns than bytes change nothing
enough : (n m p : ℕ) (bs : List ℕ) → length bs ≤ n → length bs ≤ m → tokens_from n p bs ≡ tokens_from m p bs
enough n m p [] h g = refl
enough zero m p (b ∷ bs) h g = absurd (omega (arith, h))
enough (suc n) zero p (b ∷ bs) h g = absurd (omega (arith, g))
enough (suc n) (suc m) p (b ∷ bs) h g = go (front p b bs) (front_moves p b bs).moves (λ q xs k l. enough n m q xs k l)
  where
    go : (f : Front) → Moves (suc (length bs)) f → ((q : ℕ) (xs : List ℕ) → length xs ≤ n → length xs ≤ m → tokens_from n q xs ≡ tokens_from m q xs) → go_on p (b ∷ bs) f (tokens_from n) ≡ go_on p (b ∷ bs) f (tokens_from m)
    go (Gap k) l r = let s = shorter k b bs l.0 in r (p + k) (drop k (b ∷ bs)) (omega (arith, s, h)) (omega (arith, s, g))
    go (Takes k t) l r = let s = shorter k b bs l.0 in ap (with_token (t p)) (r (p + k) (drop k (b ∷ bs)) (omega (arith, s, h)) (omega (arith, s, g)))
    go (Stops f) l r = refl

-- what is left of a text, cut as a text of its own
abbrev pub rest_of : ℕ → List ℕ → Result (List Token) (ℕ × Stop)
rest_of place bs = tokens_from (length bs) place bs

-- these tokens, and then those
abbrev pub behind : List Token → Result (List Token) (ℕ × Stop) → Result (List Token) (ℕ × Stop)
behind ts (Ok us) = Ok (ts ++ us)
behind ts (Err e) = Err e

pub behind_more : (ts : List Token) (t : Token) (r : Result (List Token) (ℕ × Stop)) → behind ts (with_token t r) ≡ behind (ts ++ t ∷ []) r
behind_more ts t (Ok us) = ap (λ (l : List Token). Ok l) (sym (append_assoc ts (t ∷ []) us))
behind_more ts t (Err e) = refl

pub behind_none : (r : Result (List Token) (ℕ × Stop)) → behind [] r ≡ r
behind_none (Ok us) = refl
behind_none (Err e) = refl

module _ (p b : ℕ) (bs : List ℕ) where
  -- a piece has a byte, and no more than there are
  pub gap_moves : (n : ℕ) → front p b bs ≡ Gap n → (1 ≤ n) × (n ≤ suc (length bs))
  gap_moves n e = subst (Moves (suc (length bs))) e (front_moves p b bs).moves

  pub token_moves : (n : ℕ) (t : ℕ → Token) → front p b bs ≡ Takes n t → (1 ≤ n) × (n ≤ suc (length bs))
  token_moves n t e = subst (Moves (suc (length bs))) e (front_moves p b bs).moves

  pub after_gap : (n : ℕ) → front p b bs ≡ Gap n → rest_of p (b ∷ bs) ≡ rest_of (p + n) (drop n (b ∷ bs))
  after_gap n e =
      let m = gap_moves n e in
      let s = shorter n b bs m.0 in
      ap (λ f. go_on p (b ∷ bs) f (tokens_from (length bs))) e ∙ enough (length bs) (length (drop n (b ∷ bs))) (p + n) (drop n (b ∷ bs)) s (omega arith)

  pub after_token : (n : ℕ) (t : ℕ → Token) → front p b bs ≡ Takes n t → rest_of p (b ∷ bs) ≡ with_token (t p) (rest_of (p + n) (drop n (b ∷ bs)))
  after_token n t e =
      let m = token_moves n t e in
      let s = shorter n b bs m.0 in
      ap (λ f. go_on p (b ∷ bs) f (tokens_from (length bs))) e ∙ ap (with_token (t p)) (enough (length bs) (length (drop n (b ∷ bs))) (p + n) (drop n (b ∷ bs)) s (omega arith))

  pub after_stop : (f : Stop) → front p b bs ≡ Stops f → rest_of p (b ∷ bs) ≡ Err (p, f)
  after_stop f e = ap (λ f. go_on p (b ∷ bs) f (tokens_from (length bs))) e
