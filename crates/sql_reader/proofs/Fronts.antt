-- Numbers, literals and names as the shared lexer reads them, keywords letter by letter, and tables of marks.
use Rattle.std.proofs.Common.{◌≡◌, ℕ, suc, ◌+◌, ◌-◌, ◌*◌, ◌≤◌, ◌<◌, ◌==◌, Bor, Bool, true, false, cond, nat_le, ◌&&◌, if◌then◌else◌, List, [], ◌∷◌, length, take, drop, get_or, map, codes, ap₂, Some, option_map, refl, ap, sym, ◌∙◌, arith}
use Rattle.std.specs.List.{prefix_len}
use Rattle.std.proofs.Math.Seq.{drop-cons}
use Rattle.std.proofs.lemmas.Bool.Decides.{nat_tests}
use Rattle.std.proofs.lemmas.List.{get_or-drop, length-drop}
use Rattle.nq_model.specs.QueryTokens as query
use Rattle.nq_model.specs.SchemaTokens.{is_white, begins_word, is_word_byte, is_comment_byte}
use Rattle.sql_profile.specs.Tokens.{First, Front, Gap, Takes, Stops, NoToken, Name, keywords, symbols, front, is_digit, is_order_mark, number_front, literal_front, is_name_byte, name_front, is_quote, literal_len, number_from, begins_with, symbol_front, word_front, same_bytes, capital}
use Rattle.sql_reader.specs.Fronts.{table_view}
use Rattle.sql_reader.specs.Symbols.{mark_token}
use Rattle.sql_reader.specs.declared.token.Mark.{Mark}

-- the definitions of both languages agree
pub same_number : (n : ℕ) (bs : List ℕ) → query.value_from n bs ≡ number_from n bs
same_number n [] = refl
same_number n (b ∷ bs) = same_number (10 * n + (b - 48)) bs

pub same_literal : (after : Bool) (bs : List ℕ) → query.literal_len after bs ≡ literal_len after bs
same_literal false [] = refl
same_literal true [] = refl
same_literal false (b ∷ bs) = ap (option_map suc) (same_literal (is_quote b) bs)
same_literal true (b ∷ bs) = ap (λ o. if is_quote b then option_map suc o else Some 0) (same_literal false bs)

pub same_begins : (cs bs : List ℕ) → query.begins_with cs bs ≡ begins_with cs bs
same_begins [] bs = refl
same_begins (c ∷ cs) [] = refl
same_begins (c ∷ cs) (b ∷ bs) = ap (λ r. c == b && r) (same_begins cs bs)

-- one more letter of a keyword
pub letter_same : (keyword word : List ℕ) (i : ℕ) → i < length keyword → length word ≡ length keyword → get_or keyword i 0 ≡ capital (get_or word i 0)
    → same_bytes (drop (suc i) keyword) (map capital (drop (suc i) word)) ≡ same_bytes (drop i keyword) (map capital (drop i word))
letter_same keyword word i h l e =
    sym (ap (λ k. same_bytes k (map capital (drop i word))) (drop-cons keyword i 0 h)
    ∙ ap (λ w. same_bytes (get_or keyword i 0 ∷ drop (suc i) keyword) (map capital w)) (drop-cons word i 0 (omega (arith, h, l)))
    ∙ ap (λ b. b && same_bytes (drop (suc i) keyword) (map capital (drop (suc i) word))) (equal (get_or keyword i 0) (capital (get_or word i 0)) e))
  where
    equal : (m n : ℕ) → m ≡ n → (m == n) ≡ true
    equal m n e = grind (arith, nat_tests)

pub letter_other : (keyword word : List ℕ) (i : ℕ) → i < length keyword → length word ≡ length keyword → (get_or keyword i 0 ≡ capital (get_or word i 0) → ⊥)
    → same_bytes (drop i keyword) (map capital (drop i word)) ≡ false
letter_other keyword word i h l e =
    ap (λ k. same_bytes k (map capital (drop i word))) (drop-cons keyword i 0 h)
    ∙ ap (λ w. same_bytes (get_or keyword i 0 ∷ drop (suc i) keyword) (map capital w)) (drop-cons word i 0 (omega (arith, h, l)))
    ∙ ap (λ b. b && same_bytes (drop (suc i) keyword) (map capital (drop (suc i) word))) (other (get_or keyword i 0) (capital (get_or word i 0)) e)
  where
    other : (m n : ℕ) → (m ≡ n → ⊥) → (m == n) ≡ false
    other m n e = grind (arith, nat_tests)

pub other_length : (keyword word : List ℕ) → (length word ≡ length keyword → ⊥) → same_bytes keyword (map capital word) ≡ false
other_length [] [] h = absurd (h refl)
other_length [] (b ∷ bs) h = refl
other_length (c ∷ cs) [] h = refl
other_length (c ∷ cs) (b ∷ bs) h = ap (λ r. c == capital b && r) (other_length cs bs (λ e. h (ap suc e))) ∙ never (c == capital b)
  where
    never : (b : Bool) → (b && false) ≡ false
    never true = refl
    never false = refl

-- the row of a table at which a symbol or a keyword is found
module _ (table : List (Bor (List ℕ) × Mark)) (i : ℕ) (d : Bor (List ℕ) × Mark) (h : i < length table) where
  pub symbol_here : (bs : List ℕ) → begins_with (get_or table i d).0.now bs ≡ true
      → Takes (length (get_or table i d).0.now) (mark_token (get_or table i d).1) ≡ symbol_front (table_view (drop i table)) bs
  symbol_here bs e =
      let row = get_or table i d in
      sym (ap (λ rows. symbol_front (table_view rows) bs) (drop-cons table i d h)
      ∙ ap (λ b. if b then Takes (length row.0.now) (mark_token row.1) else symbol_front (table_view (drop (suc i) table)) bs) e)

  pub symbol_later : (bs : List ℕ) → begins_with (get_or table i d).0.now bs ≡ false
      → symbol_front (table_view (drop (suc i) table)) bs ≡ symbol_front (table_view (drop i table)) bs
  symbol_later bs e =
      let row = get_or table i d in
      sym (ap (λ rows. symbol_front (table_view rows) bs) (drop-cons table i d h)
      ∙ ap (λ b. if b then Takes (length row.0.now) (mark_token row.1) else symbol_front (table_view (drop (suc i) table)) bs) e)

  pub keyword_here : (word : List ℕ) → same_bytes (get_or table i d).0.now (map capital word) ≡ true
      → Takes (length word) (mark_token (get_or table i d).1) ≡ word_front (table_view (drop i table)) word
  keyword_here word e =
      let row = get_or table i d in
      sym (ap (λ rows. word_front (table_view rows) word) (drop-cons table i d h)
      ∙ ap (λ b. if b then Takes (length word) (mark_token row.1) else word_front (table_view (drop (suc i) table)) word) e)

  pub keyword_later : (word : List ℕ) → same_bytes (get_or table i d).0.now (map capital word) ≡ false
      → word_front (table_view (drop (suc i) table)) word ≡ word_front (table_view (drop i table)) word
  keyword_later word e =
      let row = get_or table i d in
      sym (ap (λ rows. word_front (table_view rows) word) (drop-cons table i d h)
      ∙ ap (λ b. if b then Takes (length word) (mark_token row.1) else word_front (table_view (drop (suc i) table)) word) e)

-- a name ends at a double quote
name_stops : (bs : List ℕ) → prefix_len is_name_byte bs < length bs → get_or bs (prefix_len is_name_byte bs) 0 ≡ 34
name_stops [] h = absurd (omega (arith, h))
name_stops (b ∷ bs) h = by (b == 34) refl h (name_stops bs)
  where
    is_34 : (n : ℕ) → (n == 34) ≡ true → n ≡ 34
    is_34 n e = grind (arith, nat_tests)

    by : (t : Bool) → (b == 34) ≡ t → cond (if t then false else true) (1 + prefix_len is_name_byte bs) 0 < suc (length bs)
        → (prefix_len is_name_byte bs < length bs → get_or bs (prefix_len is_name_byte bs) 0 ≡ 34)
        → get_or (b ∷ bs) (cond (if t then false else true) (1 + prefix_len is_name_byte bs) 0) 0 ≡ 34
    by true e h r = is_34 b e
    by false e h r =
        let step : 1 + prefix_len is_name_byte bs ≡ suc (prefix_len is_name_byte bs) = omega arith in
        ap (λ n. get_or (b ∷ bs) n 0) step ∙ r (omega (arith, h))

pub name_closes : (text rest : List ℕ) (place n : ℕ) → rest ≡ drop (place + 1) text → place < length text → n ≡ prefix_len is_name_byte rest → n < length rest
    → (place + 1 + n < length text) × (get_or text (place + 1 + n) 0 ≡ 34)
name_closes text rest place n e h m k =
    let l : length rest ≡ length text - (place + 1) = ap length e ∙ length-drop (place + 1) text in
    let there : prefix_len is_name_byte rest < length rest = omega (arith, m, k) in (
      omega (arith, l, k, h),
      sym (get_or-drop (place + 1) text n 0)
          ∙ ap (λ (l : List ℕ). get_or l n 0) (sym e)
          ∙ ap (λ i. get_or rest i 0) m
          ∙ name_stops rest there,
    )

-- the front, where an identifier of this many bytes is closed
pub name_there : (rest : List ℕ) (n : ℕ) → n ≡ prefix_len is_name_byte rest → n < length rest → 1 ≤ n → n ≤ 128
    → Takes (n + 2) (λ p. Name p (take n rest)) ≡ name_front (prefix_len is_name_byte rest) rest (drop (prefix_len is_name_byte rest) rest)
name_there rest n e h some few =
    let inside : (nat_le 1 n && nat_le n 128) ≡ true = grind (arith, nat_tests) in
    sym (ap (λ k. name_front k rest (drop k rest)) (sym e)
    ∙ ap (name_front n rest) (drop-cons rest n 0 h)
    ∙ ap (λ b. if b then Takes (n + 2) (λ p. Name p (take n rest)) else Stops NoToken) inside)

pub no_name : (rest : List ℕ) (n : ℕ) → n ≡ prefix_len is_name_byte rest → (n < length rest → 1 ≤ n → n ≤ 128 → ⊥)
    → Stops NoToken ≡ name_front (prefix_len is_name_byte rest) rest (drop (prefix_len is_name_byte rest) rest)
no_name rest n e h = sym (ap (λ k. name_front k rest (drop k rest)) (sym e) ∙ by (drop n rest) (length-drop n rest))
  where
    outside : (n : ℕ) → (1 ≤ n → n ≤ 128 → ⊥) → (nat_le 1 n && nat_le n 128) ≡ false
    outside n h = grind (arith, nat_tests)

    by : (l : List ℕ) → length l ≡ length rest - n → name_front n rest l ≡ Stops NoToken
    by [] k = refl
    by (q ∷ l) k =
        let inside : n < length rest = omega (arith, k) in
        ap (λ b. if b then Takes (n + 2) (λ p. Name p (take n rest)) else Stops NoToken) (outside n (λ a b. h inside a b))

-- What stands at the front, where it is a word or a number.
module _ (place b : ℕ) (rest bytes : List ℕ) (n : ℕ) (there : bytes ≡ b ∷ rest) (w : is_white b ≡ false) (c : begins_with (codes "--") bytes ≡ false) where
  abbrev symbol : Front
  symbol = if is_order_mark place (b ∷ rest) then Gap 3 else symbol_front symbols (b ∷ rest)

  abbrev name : Front
  name =
      if b == 34 then name_front (prefix_len is_name_byte rest) rest (drop (prefix_len is_name_byte rest) rest)
      else (if is_quote b then literal_front (literal_len false rest) rest else symbol)

  abbrev number : Front
  number = if is_digit b then number_front (take (suc (prefix_len is_digit rest)) (b ∷ rest)) else name

  abbrev word : Front
  word = if begins_word b then word_front (keywords First) (take (suc (prefix_len is_word_byte rest)) (b ∷ rest)) else number

  no_gap : front First place b rest ≡ word
  no_gap =
      ap (λ t. if t then Gap 1 else (if begins_with (codes "--") (b ∷ rest) then Gap (suc (prefix_len is_comment_byte rest)) else word)) w
      ∙ ap (λ t. if t then Gap (suc (prefix_len is_comment_byte rest)) else word) (ap (begins_with (codes "--")) (sym there) ∙ c)

  pub word_there : begins_word b ≡ true → n ≡ prefix_len is_word_byte rest → word_front (keywords First) (take (n + 1) bytes) ≡ front First place b rest
  word_there g m =
      let size : n + 1 ≡ suc (prefix_len is_word_byte rest) = omega (arith, m) in
      ap₂ (λ k (l : List ℕ). word_front (keywords First) (take k l)) size there
      ∙ sym (no_gap ∙ ap (λ t. if t then word_front (keywords First) (take (suc (prefix_len is_word_byte rest)) (b ∷ rest)) else number) g)

  pub number_there : begins_word b ≡ false → is_digit b ≡ true → n ≡ prefix_len is_digit rest → number_front (take (n + 1) bytes) ≡ front First place b rest
  number_there g d m =
      let size : n + 1 ≡ suc (prefix_len is_digit rest) = omega (arith, m) in
      ap₂ (λ k (l : List ℕ). number_front (take k l)) size there
      ∙ sym (no_gap
      ∙ ap (λ t. if t then word_front (keywords First) (take (suc (prefix_len is_word_byte rest)) (b ∷ rest)) else number) g
      ∙ ap (λ t. if t then number_front (take (suc (prefix_len is_digit rest)) (b ∷ rest)) else name) d)
