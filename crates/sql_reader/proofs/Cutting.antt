-- Tokens are cut off one by one: each piece has a byte, and what is left is a text of its own.
use Rattle.std.proofs.Common.{◌≡◌, ℕ, zero, suc, ◌+◌, ◌≤◌, Bool, true, false, ◌&&◌, ◌==◌, if◌then◌else◌, List, [], ◌∷◌, ◌++◌, length, take, drop, map, Option, Some, None, Result, Ok, Err, refl, ap, sym, ◌∙◌, subst, arith, append_assoc}
use Rattle.std.specs.List.{AllByRecursion as Each, prefix_len}
use Rattle.std.proofs.lemmas.List.{length-drop, length-take}
use Rattle.std.proofs.lemmas.List.Sums.{prefix_len-le-length}
use Rattle.nq_model.specs.SchemaTokens.{is_word_byte, is_comment_byte}
use Rattle.sql_profile.specs.Tokens.{First, Token, keywords, capital, same_bytes, begins_with, symbols, symbol_front, word_front, number_front, name_front, is_name_byte, literal_len, literal_front, is_digit, Stuck, NoToken, TooLarge, Front, Gap, Takes, Stops, front, with_token, go_on, tokens_from}
use Rattle.lexical.proofs.Literals.{literal_within}
use Rattle.sql_reader.proofs.Fronts.{same_literal}

-- what is cut off of m bytes has a byte, and no more than there are
abbrev Moves : ℕ → Front → Type 0
Moves m (Gap n) = (1 ≤ n) × (n ≤ m)
Moves m (Takes n t) = (1 ≤ n) × (n ≤ m)
Moves m (Stops f) = Unit {0}

record Moving (m : ℕ) (f : Front) : Type 0 where
  moves : Moves m f

either : (m : ℕ) (b : Bool) (x y : Front) → (b ≡ true → Moving m x) → Moving m y → Moving m (if b then x else y)
either m true x y h k = h refl
either m false x y h k = k

gap : (m n : ℕ) → 1 ≤ n → n ≤ m → Moving m (Gap n)
gap m n h k = record { moves = (h, k) }

taken : (m n : ℕ) (t : ℕ → Token) → 1 ≤ n → n ≤ m → Moving m (Takes n t)
taken m n t h k = record { moves = (h, k) }

stopped : (m : ℕ) (f : Stuck) → Moving m (Stops f)
stopped m f = record { moves = tt }

and_second : (a b : Bool) → (a && b) ≡ true → b ≡ true
and_second true b e = e
and_second false b e = absurd (cc)

begins_within : (cs bs : List ℕ) → begins_with cs bs ≡ true → length cs ≤ length bs
begins_within [] bs e = omega arith
begins_within (c ∷ cs) [] e = absurd (cc)
begins_within (c ∷ cs) (b ∷ bs) e = let r = begins_within cs bs (and_second (c == b) (begins_with cs bs) e) in omega (arith, r)

symbol_moves : (table : List (List ℕ × (ℕ → Token))) (bs : List ℕ) → Each (λ s. 1 ≤ length s.0) table → Moving (length bs) (symbol_front table bs)
symbol_moves [] bs e = stopped (length bs) NoToken
symbol_moves (s ∷ ss) bs e = either (length bs) (begins_with s.0 bs) (Takes (length s.0) s.1) (symbol_front ss bs) (λ h. taken (length bs) (length s.0) s.1 e.0 (begins_within s.0 bs h)) (symbol_moves ss bs e.1)

word_moves : (m : ℕ) (table : List (List ℕ × (ℕ → Token))) (word : List ℕ) → 1 ≤ length word → length word ≤ m → Moving m (word_front table word)
word_moves m [] word h k = stopped m NoToken
word_moves m (r ∷ rs) word h k = either m (same_bytes r.0 (map capital word)) (Takes (length word) r.1) (word_front rs word) (λ e. taken m (length word) r.1 h k) (word_moves m rs word h k)

number_moves : (m : ℕ) (digits : List ℕ) → 1 ≤ length digits → length digits ≤ m → Moving m (number_front digits)
number_moves m digits h k = either m _ _ _ (λ e. taken m (length digits) _ h k) (stopped m TooLarge)

name_moves : (bs rest : List ℕ) (n : ℕ) → length rest + n ≤ length bs → Moving (suc (length bs)) (name_front n bs rest)
name_moves bs [] n h = stopped (suc (length bs)) NoToken
name_moves bs (q ∷ rest) n h = either (suc (length bs)) _ _ _ (λ e. taken (suc (length bs)) (n + 2) _ (omega arith) (omega (arith, h))) (stopped (suc (length bs)) NoToken)

literal_moves : (bs : List ℕ) (o : Option ℕ) → literal_len false bs ≡ o → Moving (suc (length bs)) (literal_front o bs)
literal_moves bs None e = stopped (suc (length bs)) NoToken
literal_moves bs (Some n) e =
    let w = literal_within bs n (same_literal false bs ∙ e) in
    taken (suc (length bs)) (suc n) _ (omega arith) (omega (arith, w))

table_moves : Each (λ s. 1 ≤ length s.0) symbols
table_moves = (omega arith, (omega arith, (omega arith, (omega arith, (omega arith, (omega arith, (omega arith, (omega arith, (omega arith, (omega arith, (omega arith, (omega arith, (omega arith, (omega arith, tt))))))))))))))

-- a run at the front, with the byte before it
run_some : (n b : ℕ) (bs : List ℕ) → 1 ≤ length (take (suc n) (b ∷ bs))
run_some n b bs = omega arith

run_few : (n b : ℕ) (bs : List ℕ) → length (take (suc n) (b ∷ bs)) ≤ suc (length bs)
run_few n b bs = let e = length-take (suc n) (b ∷ bs) in omega (arith, e)

name_few : (bs : List ℕ) → length (drop (prefix_len is_name_byte bs) bs) + prefix_len is_name_byte bs ≤ length bs
name_few bs =
    let few = prefix_len-le-length is_name_byte bs in
    let e = length-drop (prefix_len is_name_byte bs) bs in
    omega (arith, few, e)

front_moves : (place b : ℕ) (bs : List ℕ) → Moving (suc (length bs)) (front First place b bs)
front_moves place b bs =
    let m = suc (length bs) in
    let few = prefix_len-le-length is_comment_byte bs in
    either m _ _ _ (λ h. gap m 1 (omega arith) (omega arith))
    (either m _ _ _ (λ h. gap m (suc (prefix_len is_comment_byte bs)) (omega arith) (omega (arith, few)))
    (either m _ _ _ (λ h. word_moves m (keywords First) (take (suc (prefix_len is_word_byte bs)) (b ∷ bs)) (run_some (prefix_len is_word_byte bs) b bs) (run_few (prefix_len is_word_byte bs) b bs))
    (either m _ _ _ (λ h. number_moves m (take (suc (prefix_len is_digit bs)) (b ∷ bs)) (run_some (prefix_len is_digit bs) b bs) (run_few (prefix_len is_digit bs) b bs))
    (either m _ _ _ (λ h. name_moves bs (drop (prefix_len is_name_byte bs) bs) (prefix_len is_name_byte bs) (name_few bs))
    (either m _ _ _ (λ h. literal_moves bs (literal_len false bs) refl)
    (either m _ _ _ (λ h. gap m 3 (omega arith) (begins_within (0xEF ∷ 0xBB ∷ 0xBF ∷ []) (b ∷ bs) (and_second (place == 0) (begins_with (0xEF ∷ 0xBB ∷ 0xBF ∷ []) (b ∷ bs)) h)))
    (symbol_moves symbols (b ∷ bs) table_moves)))))))

shorter : (k b : ℕ) (bs : List ℕ) → 1 ≤ k → length (drop k (b ∷ bs)) ≤ length bs
shorter k b bs h = let e = length-drop k (b ∷ bs) in omega (arith, e, h)

-- more turns than bytes change nothing
enough : (n m p : ℕ) (bs : List ℕ) → length bs ≤ n → length bs ≤ m → tokens_from First n p bs ≡ tokens_from First m p bs
enough n m p [] h g = refl
enough zero m p (b ∷ bs) h g = absurd (omega (arith, h))
enough (suc n) zero p (b ∷ bs) h g = absurd (omega (arith, g))
enough (suc n) (suc m) p (b ∷ bs) h g = go (front First p b bs) (front_moves p b bs).moves (λ q xs k l. enough n m q xs k l)
  where
    go : (f : Front) → Moves (suc (length bs)) f → ((q : ℕ) (xs : List ℕ) → length xs ≤ n → length xs ≤ m → tokens_from First n q xs ≡ tokens_from First m q xs) → go_on p (b ∷ bs) f (tokens_from First n) ≡ go_on p (b ∷ bs) f (tokens_from First m)
    go (Gap k) l r = let s = shorter k b bs l.0 in r (p + k) (drop k (b ∷ bs)) (omega (arith, s, h)) (omega (arith, s, g))
    go (Takes k t) l r = let s = shorter k b bs l.0 in ap (with_token (t p)) (r (p + k) (drop k (b ∷ bs)) (omega (arith, s, h)) (omega (arith, s, g)))
    go (Stops f) l r = refl

-- what is left of a text, cut as a text of its own
abbrev pub rest_of : ℕ → List ℕ → Result (List Token) (ℕ × Stuck)
rest_of place bs = tokens_from First (length bs) place bs

-- these tokens, and then those
abbrev pub behind : List Token → Result (List Token) (ℕ × Stuck) → Result (List Token) (ℕ × Stuck)
behind ts (Ok us) = Ok (ts ++ us)
behind ts (Err e) = Err e

pub behind_more : (ts : List Token) (t : Token) (r : Result (List Token) (ℕ × Stuck)) → behind ts (with_token t r) ≡ behind (ts ++ t ∷ []) r
behind_more ts t (Ok us) = ap (λ (l : List Token). Ok l) (sym (append_assoc ts (t ∷ []) us))
behind_more ts t (Err e) = refl

pub behind_none : (r : Result (List Token) (ℕ × Stuck)) → behind [] r ≡ r
behind_none (Ok us) = refl
behind_none (Err e) = refl

module _ (p b : ℕ) (bs : List ℕ) where
  -- a piece has a byte, and no more than there are
  pub gap_moves : (n : ℕ) → front First p b bs ≡ Gap n → (1 ≤ n) × (n ≤ suc (length bs))
  gap_moves n e = subst (Moves (suc (length bs))) e (front_moves p b bs).moves

  pub token_moves : (n : ℕ) (t : ℕ → Token) → front First p b bs ≡ Takes n t → (1 ≤ n) × (n ≤ suc (length bs))
  token_moves n t e = subst (Moves (suc (length bs))) e (front_moves p b bs).moves

  pub after_gap : (n : ℕ) → front First p b bs ≡ Gap n → rest_of p (b ∷ bs) ≡ rest_of (p + n) (drop n (b ∷ bs))
  after_gap n e =
      let m = gap_moves n e in
      let s = shorter n b bs m.0 in
      ap (λ f. go_on p (b ∷ bs) f (tokens_from First (length bs))) e ∙ enough (length bs) (length (drop n (b ∷ bs))) (p + n) (drop n (b ∷ bs)) s (omega arith)

  pub after_token : (n : ℕ) (t : ℕ → Token) → front First p b bs ≡ Takes n t → rest_of p (b ∷ bs) ≡ with_token (t p) (rest_of (p + n) (drop n (b ∷ bs)))
  after_token n t e =
      let m = token_moves n t e in
      let s = shorter n b bs m.0 in
      ap (λ f. go_on p (b ∷ bs) f (tokens_from First (length bs))) e ∙ ap (with_token (t p)) (enough (length bs) (length (drop n (b ∷ bs))) (p + n) (drop n (b ∷ bs)) s (omega arith))

  pub after_stop : (f : Stuck) → front First p b bs ≡ Stops f → rest_of p (b ∷ bs) ≡ Err (p, f)
  after_stop f e = ap (λ f. go_on p (b ∷ bs) f (tokens_from First (length bs))) e
