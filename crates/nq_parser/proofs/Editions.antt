-- A text of the second edition begins with the three tokens of its header.
use Rattle.std.proofs.Common.{◌-◌, ◌≤◌, length, map, take, drop, subst, ◌≡◌, ℕ, Bool, true, false, ◌&&◌, ◌==◌, cond, bytes_eq, List, [], ◌∷◌, refl, sym, ap, arith, codes}
use Rattle.std.proofs.lemmas.List.{take_all}
use Rattle.std.specs.Prelude.{get_or}
use Rattle.std.proofs.lemmas.Bool.Decides.{nat_tests}
use Rattle.std.proofs.lemmas.Slice.Eq.{bytes_eq-Decides}
use Rattle.nq_model.specs.QueryTokens.{Token, Word, Value, Sign, Number, Semicolon, place_of}
use Rattle.nq_model.specs.QueryGrammar.{First, Second, header_tokens}
use Rattle.nq_model.specs.QueryTexts.{edition_of}
use Rattle.query_syntax.specs.Symbols.{symbol_view, token_view}
use Rattle.query_syntax.specs.declared.symbol.Symbol.{Symbol}
use Rattle.query_syntax.specs.declared.symbol.Symbol.TheVariants as symbols
use Rattle.query_syntax.specs.declared.symbol.Token.{Token as CodeToken}
use Rattle.nq_parser.specs.Editions.{is_nq, is_two, is_semicolon}

not_word : (a b c : Token) (x : List Token) → is_nq a ≡ false → edition_of (a ∷ b ∷ c ∷ x) ≡ First
not_word (Word p w) (Value q (Number n digits)) (Sign r Semicolon) x e = ap (λ z. cond (z && (n == 2 && digits == 1)) Second First) e
not_word a b c x e = refl

both_false : (a b : Bool) → b ≡ false → cond (a && b) Second First ≡ First
both_false true b e = ap (λ z. cond z Second First) e
both_false false b e = refl

not_two : (a b c : Token) (x : List Token) → is_two b ≡ false → edition_of (a ∷ b ∷ c ∷ x) ≡ First
not_two (Word p w) (Value q (Number n digits)) (Sign r Semicolon) x e = both_false (bytes_eq w (codes "nq")) (n == 2 && digits == 1) e
not_two a b c x e = refl

not_semicolon : (a b c : Token) (x : List Token) → is_semicolon c ≡ false → edition_of (a ∷ b ∷ c ∷ x) ≡ First
not_semicolon (Word p w) (Value q (Number n digits)) (Sign r Semicolon) x e = absurd (cc)
not_semicolon a b c x e = refl

the_number : (b : Token) → is_two b ≡ true → b ≡ Value (place_of b) (Number 2 1)
the_number (Value q (Number n digits)) e =
    let i : n ≡ 2 = grind (e, arith, nat_tests) in
    let j : digits ≡ 1 = grind (e, arith, nat_tests) in rw (i, j) refl
the_number b e = absurd (cc)

the_semicolon : (c : Token) → is_semicolon c ≡ true → c ≡ Sign (place_of c) Semicolon
the_semicolon (Sign r Semicolon) e = refl
the_semicolon c e = absurd (cc)

-- three tokens that are none, and fewer than three
pub no_header : (a b c : Token) (x : List Token) → is_nq a && (is_two b && is_semicolon c) ≡ false → edition_of (a ∷ b ∷ c ∷ x) ≡ First
no_header a b c x e = go (is_nq a) (is_two b) (is_semicolon c) refl refl refl e
  where
    go : (i j k : Bool) → is_nq a ≡ i → is_two b ≡ j → is_semicolon c ≡ k → i && (j && k) ≡ false → edition_of (a ∷ b ∷ c ∷ x) ≡ First
    go false j k u v w e = not_word a b c x u
    go true false k u v w e = not_two a b c x v
    go true true false u v w e = not_semicolon a b c x w
    go true true true u v w e = absurd (cc)

nq_is : (p : ℕ) (s : Symbol) → is_nq (symbol_view p s) ≡ true → symbol_view p s ≡ Word p (codes "nq")
nq_is p (symbols.Word w) e = let i : w.now ≡ codes "nq" = grind (e, arith, bytes_eq-Decides) in ap (λ z. Word p z) i
nq_is p s e = absurd (cc)

-- a list that begins with a header
pub header_at : (xs : List CodeToken) (a b c : CodeToken) → 3 ≤ length xs → a ≡ get_or xs 0 a → b ≡ get_or xs 1 b → c ≡ get_or xs 2 c
    → is_nq (token_view a) ≡ true → is_two (token_view b) ≡ true → is_semicolon (token_view c) ≡ true
    → (q r : ℕ) × (map token_view xs ≡ header_tokens Second (a.place, q, r) (map token_view (take (length xs - 3) (drop 3 xs))))
header_at [] a b c n i j k e f g = absurd (omega (arith, n))
header_at (x ∷ []) a b c n i j k e f g = absurd (omega (arith, n))
header_at (x ∷ y ∷ []) a b c n i j k e f g = absurd (omega (arith, n))
header_at (x ∷ y ∷ z ∷ zs) a b c n i j k e f g =
    let rest : take (length (x ∷ y ∷ z ∷ zs) - 3) zs ≡ zs = take_all (length (x ∷ y ∷ z ∷ zs) - 3) zs (omega arith) in
    let word : token_view x ≡ Word a.place (codes "nq") = subst (λ t. token_view t ≡ Word a.place (codes "nq")) i (nq_is a.place a.symbol e) in
    let number : token_view y ≡ Value (place_of (token_view b)) (Number 2 1) = subst (λ t. token_view t ≡ Value (place_of (token_view b)) (Number 2 1)) j (the_number (token_view b) f) in
    let semicolon : token_view z ≡ Sign (place_of (token_view c)) Semicolon = subst (λ t. token_view t ≡ Sign (place_of (token_view c)) Semicolon) k (the_semicolon (token_view c) g) in
    let P : List CodeToken → Type 0 = λ ts. token_view x ∷ token_view y ∷ token_view z ∷ map token_view zs ≡ header_tokens Second (a.place, place_of (token_view b), place_of (token_view c)) (map token_view ts) in
    (place_of (token_view b), place_of (token_view c), subst P (sym rest) (cc))
