-- A text holds names of 1 to 128 bytes without a double quote and numbers below 2^63 alone, so the tree that it spells
-- can be spelled.
use Rattle.std.proofs.Common.{◌≡◌, ℕ, zero, suc, ◌+◌, ◌<◌, ◌≤◌, ◌^◌, Bool, true, false, cond, ◌&&◌, ◌==◌, Contains, nat_le, if◌then◌else◌, List, [], ◌∷◌, length, take, drop, map, Option, Some, None, Result, Ok, Err, refl, sym, ap, subst, arith}
use Rattle.std.specs.List.{AllByRecursion as Each, prefix_len}
use Rattle.std.proofs.lemmas.Bool.Decides.{nat_tests}
use Rattle.nq_model.specs.SchemaTokens.{is_word_byte, is_comment_byte}
use Rattle.sql_profile.specs.Tokens.{Edition, First, Token, Value, Number, Literal, Truth, Name, End, Stuck, NoToken, TooLarge, Front, Gap, Takes, Stops, is_name_byte, is_digit, begins_with, same_bytes, capital, keywords, symbols, symbol_front, number_from, number_front, word_front, name_front, literal_len, literal_front, front, with_token, go_on, tokens_from}
use Rattle.sql_profile.specs.Grammar.{OfSource, SourcesSyntax, OneSource, MoreSources, FromSyntax, NoFrom, HasFrom, OfRowNumber, ExprSyntax, OfConstant, OfColumn, OfParens, OfMinus, OfNot, OfNotExists, OfCase, OfBinary, OfScalar, Counted, Summed, OfCount, OfSum, OfTail, QuerySyntax, OneSelect, MoreSelects, SelectSyntax, OfSelect, KeepSyntax, NoWhere, HasWhere, ItemsSyntax, OneItem, MoreItems, OfItem, ValueSyntax, Plain, Numbering, KeysSyntax, NoKeys, HasKeys, KeyListSyntax, OneKey, MoreKeys, OfWith, WithListSyntax, OneDef, MoreDefs, WithsSyntax, NoWith, HasWith, OfText, sources_tokens, froms_tokens, tokens, query_tokens, choice_tokens, keep_tokens, items_tokens, held_tokens, keys_tokens, key_list_tokens, defs_tokens, withs_tokens, semis_tokens, text_tokens, tree_of, expr_of, selects_of, select_of, items_of, value_of, keys_of, key_list_of, source_of, sources_of, from_of, with_of, with_list_of, withs_of}
use Rattle.sql_profile.specs.Grammar as grammar
use Rattle.sql_profile.specs.declared.tree.Source.{Source}
use Rattle.sql_profile.specs.Trees.{PlacedExprs, none_at, then_at, PlacedQuery, no_select_at, then_select_at, PlacedItems, no_item_at, then_item_at, item_at, PlacedWith, PlacedSql, bare_source, bare_expr, bare_exprs, bare_query, bare_select, bare_keep, bare_items, bare_value, bare_with, bare}
use Rattle.sql_profile.specs.Texts.{Spells}
use Rattle.sql_profile.specs.Spellable.{HasWritableNames, IsSpellableExpr, IsSpellableQuery, AreSpellableSelects, IsSpellableSelect, IsSpellableKeep, HasSpellableItems, AreSpellableItems, IsSpellableValue, AreSpellableKeys, IsSpellableWith, IsSpellable}
use Rattle.sql_profile.specs.WritableNames.{IsWritableName}
use Rattle.sql_profile.proofs.TokenCuts.{ok_same}

-- bytes of names hold no quote
no_quotes : (bs : List ℕ) → Each (λ b. is_name_byte b ≡ true) bs → Contains bs 34 → ⊥
no_quotes [] e (k, within, is) = absurd (omega (arith, within))
no_quotes (b ∷ bs) e (zero, within, is) = let h : (if 34 == 34 then false else true) ≡ true = subst (λ n. is_name_byte n ≡ true) is e.0 in absurd (cc)
no_quotes (b ∷ bs) e (suc k, within, is) = no_quotes bs e.1 (k, omega (arith, within), is)

-- what a token holds
abbrev Holds : Token → Type 0
Holds (Name p n) = IsWritableName n
Holds (Value p (Number n d)) = n < 2 ^ 63
Holds _ = Unit {0}

abbrev FrontHolds : Front → Type 0
FrontHolds (Gap n) = Unit {0}
FrontHolds (Takes n t) = (p : ℕ) → Holds (t p)
FrontHolds (Stops f) = Unit {0}

record Held (f : Front) : Type 0 where
  holds : FrontHolds f

gap : (n : ℕ) → Held (Gap n)
gap n = record { holds = tt }

stuck : (f : Stuck) → Held (Stops f)
stuck f = record { holds = tt }

either : (b : Bool) (x y : Front) → (b ≡ true → Held x) → Held y → Held (if b then x else y)
either true x y m n = m refl
either false x y m n = n

always : {A : Type 0} {b : Bool} → A → b ≡ true → A
always a e = a

-- tables whose tokens hold nothing
abbrev Bare : List (List ℕ × (ℕ → Token)) → Type 0
Bare table = Each (λ k. (p : ℕ) → Holds (k.1 p)) table

symbol_holds : (table : List (List ℕ × (ℕ → Token))) (bs : List ℕ) → Bare table → Held (symbol_front table bs)
symbol_holds [] bs e = stuck NoToken
symbol_holds (s ∷ ss) bs e = either (begins_with s.0 bs) (Takes (length s.0) s.1) (symbol_front ss bs) (always (record { holds = e.0 })) (symbol_holds ss bs e.1)

word_holds : (table : List (List ℕ × (ℕ → Token))) (word : List ℕ) → Bare table → Held (word_front table word)
word_holds [] word e = stuck NoToken
word_holds (k ∷ ks) word e = either (same_bytes k.0 (map capital word)) (Takes (length word) k.1) (word_front ks word) (always (record { holds = e.0 })) (word_holds ks word e.1)

number_holds : (digits : List ℕ) → Held (number_front digits)
number_holds digits = either (nat_le (number_from 0 digits) 9223372036854775807) (Takes (length digits) (λ p. Value p (Number (number_from 0 digits) (length digits)))) (Stops TooLarge) (λ e. record { holds = λ p. let h : number_from 0 digits < 2 ^ 63 = grind (arith, nat_tests, e) in h }) (stuck TooLarge)

one : (n : ℕ) → suc n ≡ 1 + n
one n = omega arith

-- bytes up to the first that is none of a name
front_plain : (bs : List ℕ) → Each (λ b. is_name_byte b ≡ true) (take (prefix_len is_name_byte bs) bs)
front_plain [] = tt
front_plain (b ∷ bs) = go (is_name_byte b) refl (front_plain bs)
  where
    go : (t : Bool) → is_name_byte b ≡ t → Each (λ b. is_name_byte b ≡ true) (take (prefix_len is_name_byte bs) bs) → Each (λ b. is_name_byte b ≡ true) (take (cond t (1 + prefix_len is_name_byte bs) 0) (b ∷ bs))
    go true e r = subst (λ k. Each (λ b. is_name_byte b ≡ true) (take k (b ∷ bs))) (one (prefix_len is_name_byte bs)) (e, r)
    go false e r = tt

front_length : (bs : List ℕ) → length (take (prefix_len is_name_byte bs) bs) ≡ prefix_len is_name_byte bs
front_length [] = refl
front_length (b ∷ bs) = go (is_name_byte b) (front_length bs)
  where
    go : (t : Bool) → length (take (prefix_len is_name_byte bs) bs) ≡ prefix_len is_name_byte bs → length (take (cond t (1 + prefix_len is_name_byte bs) 0) (b ∷ bs)) ≡ cond t (1 + prefix_len is_name_byte bs) 0
    go true e = subst (λ k. length (take k (b ∷ bs)) ≡ k) (one (prefix_len is_name_byte bs)) (ap suc e)
    go false e = refl

name_holds : (bs rest : List ℕ) → Held (name_front (prefix_len is_name_byte bs) bs rest)
name_holds bs [] = stuck NoToken
name_holds bs (q ∷ rest) =
    either (nat_le 1 (prefix_len is_name_byte bs) && nat_le (prefix_len is_name_byte bs) 128) _ _ (λ e. record { holds = λ p. named e }) (stuck NoToken)
  where
    named : (nat_le 1 (prefix_len is_name_byte bs) && nat_le (prefix_len is_name_byte bs) 128) ≡ true → IsWritableName (take (prefix_len is_name_byte bs) bs)
    named e =
        let l = front_length bs in
        let some : 1 ≤ prefix_len is_name_byte bs = grind (arith, nat_tests, e) in
        let few : prefix_len is_name_byte bs ≤ 128 = grind (arith, nat_tests, e) in
        record { some = omega (arith, l, some); few = omega (arith, l, few); no_quote = no_quotes (take (prefix_len is_name_byte bs) bs) (front_plain bs) }

literal_holds : (o : Option ℕ) (bs : List ℕ) → Held (literal_front o bs)
literal_holds None bs = stuck NoToken
literal_holds (Some n) bs = record { holds = λ p. tt }

words_bare : (edition : Edition) → Bare (keywords edition)
words_bare First = (λ p. tt, (λ p. tt, (λ p. tt, (λ p. tt, (λ p. tt, (λ p. tt, (λ p. tt, (λ p. tt, (λ p. tt, (λ p. tt, (λ p. tt, (λ p. tt, (λ p. tt, (λ p. tt, (λ p. tt, (λ p. tt, (λ p. tt, (λ p. tt, (λ p. tt, (λ p. tt, (λ p. tt, (λ p. tt, (λ p. tt, (λ p. tt, (λ p. tt, tt)))))))))))))))))))))))))

symbols_bare : Bare symbols
symbols_bare = (λ p. tt, (λ p. tt, (λ p. tt, (λ p. tt, (λ p. tt, (λ p. tt, (λ p. tt, (λ p. tt, (λ p. tt, (λ p. tt, (λ p. tt, (λ p. tt, (λ p. tt, (λ p. tt, tt))))))))))))))

front_holds : (edition : Edition) (place b : ℕ) (bs : List ℕ) → Held (front edition place b bs)
front_holds edition place b bs =
    either _ _ _ (always (gap 1))
    (either _ _ _ (always (gap (suc (prefix_len is_comment_byte bs))))
    (either _ _ _ (always (word_holds (keywords edition) (take (suc (prefix_len is_word_byte bs)) (b ∷ bs)) (words_bare edition)))
    (either _ _ _ (always (number_holds (take (suc (prefix_len is_digit bs)) (b ∷ bs))))
    (either _ _ _ (always (name_holds bs (drop (prefix_len is_name_byte bs) bs)))
    (either _ _ _ (always (literal_holds (literal_len false bs) bs))
    (either _ _ _ (always (gap 3)) (symbol_holds symbols (b ∷ bs) symbols_bare)))))))

tokens_hold : (edition : Edition) (n place : ℕ) (bs : List ℕ) (ts : List Token) → tokens_from edition n place bs ≡ Ok ts → Each Holds ts
tokens_hold edition n place [] ts e = subst (λ (l : List Token). Each Holds l) (ok_same (End place ∷ []) ts e) (tt, tt)
tokens_hold edition zero place (b ∷ bs) ts e = subst (λ (l : List Token). Each Holds l) (ok_same [] ts e) tt
tokens_hold edition (suc n) place (b ∷ bs) ts e = go (front edition place b bs) (front_holds edition place b bs).holds e (λ p rest us k. tokens_hold edition n p rest us k)
  where
    put : (t : Token) (r : Result (List Token) (ℕ × Stuck)) → Holds t → with_token t r ≡ Ok ts → ((us : List Token) → r ≡ Ok us → Each Holds us) → Each Holds ts
    put t (Err x) h e c = absurd (cc)
    put t (Ok us) h e c = subst (λ (l : List Token). Each Holds l) (ok_same (t ∷ us) ts e) (h, c us refl)

    go : (f : Front) → FrontHolds f → go_on place (b ∷ bs) f (tokens_from edition n) ≡ Ok ts → ((p : ℕ) (rest : List ℕ) (us : List Token) → tokens_from edition n p rest ≡ Ok us → Each Holds us) → Each Holds ts
    go (Gap m) k e c = c (place + m) (drop m (b ∷ bs)) ts e
    go (Takes m t) k e c = put (t place) (tokens_from edition n (place + m) (drop m (b ∷ bs))) (k place) e (λ us g. c (place + m) (drop m (b ∷ bs)) us g)
    go (Stops f) k e c = absurd (cc)

-- Parts whose tokens hold such names and numbers can be spelled, and the tokens behind them hold such too. A list is
-- read from the left, so what its further parts make of it is told as a function.
sources_held : (ss : SourcesSyntax) (x : List Token) → Each Holds (sources_tokens ss x)
    → ((rest : List Source) → Each HasWritableNames (map bare_source rest) → Each HasWritableNames (map bare_source (sources_of ss rest))) × Each Holds x
sources_held (OneSource f (OfSource p t a q n)) x h = (λ rest m. ((h.1.0, h.1.1.1.0), m), h.1.1.1.1)
sources_held (MoreSources ss c (OfSource p t a q n)) x h =
    let r = sources_held ss _ h in
    let k = r.1.1 in
    (λ rest m. r.0 (source_of (OfSource p t a q n) ∷ rest) ((k.0, k.1.1.0), m), k.1.1.1)

from_held : (f : FromSyntax) (x : List Token) → Each Holds (froms_tokens f x) → Each HasWritableNames (map bare_source (from_of f)) × Each Holds x
from_held NoFrom x h = (tt, h)
from_held (HasFrom ss) x h = let r = sources_held ss x h in (r.0 [] tt, r.1)

mutual
  expr_held : (s : ExprSyntax) (x : List Token) → Each Holds (tokens s x) → IsSpellableExpr (bare_expr (expr_of s)) × Each Holds x
  expr_held (OfConstant p (Number n d)) x h = ((n, refl, h.0), h.1)
  expr_held (OfConstant p (Literal t)) x h = (tt, h.1)
  expr_held (OfConstant p (Truth b)) x h = (tt, h.1)
  expr_held (OfColumn p a q r c) x h = ((h.0, h.1.1.0), h.1.1.1)
  expr_held (OfParens p e q) x h = let r = expr_held e _ h.1 in (r.0, r.1.1)
  expr_held (OfMinus p e) x h = expr_held e x h.1
  expr_held (OfNot p e) x h = expr_held e x h.1
  expr_held (OfNotExists p e o q c) x h = let r = query_held q _ h.1.1.1 in (r.0 no_select_at tt, r.1.1)
  expr_held (OfCase p w t g y e n z) x h =
      let a = expr_held t _ h.1.1 in
      let b = expr_held y _ a.1.1 in
      let c = expr_held n _ b.1.1 in
      ((a.0, b.0, c.0), c.1.1)
  expr_held (OfBinary l p op r) x h =
      let a = expr_held l _ h in
      let b = expr_held r x a.1.1 in
      ((a.0, b.0), b.1)
  expr_held (OfScalar (Counted (OfCount p s c o t z)) f w y) x h =
      let a = from_held f _ h.1.1.1.1.1.1 in
      let b = keep_held w _ a.1 in
      ((a.0, b.0, refl), b.1.1)
  expr_held (OfScalar (Summed (OfSum p s c o u v) e (OfTail z m q r)) f w y) x h =
      let d = expr_held e _ h.1.1.1.1.1.1 in
      let a = from_held f _ d.1.1.1.1.1 in
      let b = keep_held w _ a.1 in
      ((a.0, b.0, d.0), b.1.1)

  query_held : (q : QuerySyntax) (x : List Token) → Each Holds (query_tokens q x)
      → ((rest : PlacedQuery) → AreSpellableSelects (bare_query rest) → IsSpellableQuery (bare_query (selects_of q rest))) × Each Holds x
  query_held (OneSelect s) x h = let r = select_held s x h in (λ rest m. (r.0, m), r.1)
  query_held (MoreSelects q u a s) x h =
      let r = query_held q _ h in
      let k = select_held s x r.1.1.1 in
      (λ rest m. r.0 (then_select_at (select_of s) rest) (k.0, m), k.1)

  select_held : (s : SelectSyntax) (x : List Token) → Each Holds (choice_tokens s x) → IsSpellableSelect (bare_select (select_of s)) × Each Holds x
  select_held (OfSelect i f w) x h =
      let a = items_held i _ h in
      let b = from_held f _ a.1 in
      let c = keep_held w x b.1 in
      ((a.0 no_item_at tt, b.0, c.0), c.1)

  keep_held : (w : KeepSyntax) (x : List Token) → Each Holds (keep_tokens w x) → IsSpellableKeep (bare_keep (grammar.keep_of w)) × Each Holds x
  keep_held NoWhere x h = (tt, h)
  keep_held (HasWhere p e) x h = expr_held e x h.1

  items_held : (i : ItemsSyntax) (x : List Token) → Each Holds (items_tokens i x)
      → ((rest : PlacedItems) → AreSpellableItems (bare_items rest) → HasSpellableItems (bare_items (items_of i rest))) × Each Holds x
  items_held (OneItem p (OfItem v a q n)) x h =
      let r = value_held v _ h.1 in
      (λ rest m. (r.1.1.0, r.0, m), r.1.1.1)
  items_held (MoreItems is c (OfItem v a q n)) x h =
      let l = items_held is _ h in
      let r = value_held v _ l.1.1 in
      (λ rest m. l.0 (then_item_at (item_at q n (value_of v)) rest) (r.1.1.0, r.0, m), r.1.1.1)

  value_held : (v : ValueSyntax) (x : List Token) → Each Holds (held_tokens v x) → IsSpellableValue (bare_value (value_of v)) × Each Holds x
  value_held (Plain e) x h = expr_held e x h
  value_held (Numbering (OfRowNumber r o c v q) ks z) x h = let k = keys_held ks _ h.1.1.1.1.1 in (k.0, k.1.1)

  keys_held : (ks : KeysSyntax) (x : List Token) → Each Holds (keys_tokens ks x) → AreSpellableKeys (bare_exprs (keys_of ks)) × Each Holds x
  keys_held NoKeys x h = (tt, h)
  keys_held (HasKeys ks) x h = let r = key_list_held ks x h in (r.0 none_at tt, r.1)

  key_list_held : (ks : KeyListSyntax) (x : List Token) → Each Holds (key_list_tokens ks x)
      → ((rest : PlacedExprs) → AreSpellableKeys (bare_exprs rest) → AreSpellableKeys (bare_exprs (key_list_of ks rest))) × Each Holds x
  key_list_held (OneKey o b e) x h = let r = expr_held e x h.1.1 in (λ rest m. (r.0, m), r.1)
  key_list_held (MoreKeys ks c e) x h =
      let l = key_list_held ks _ h in
      let r = expr_held e x l.1.1 in
      (λ rest m. l.0 (then_at (expr_of e) rest) (r.0, m), r.1)

defs_held : (ds : WithListSyntax) (x : List Token) → Each Holds (defs_tokens ds x)
    → ((rest : List PlacedWith) → Each IsSpellableWith (map bare_with rest) → Each IsSpellableWith (map bare_with (with_list_of ds rest))) × Each Holds x
defs_held (OneDef w (OfWith p n a o q c)) x h =
    let r = query_held q _ h.1.1.1.1 in
    (λ rest m. ((h.1.0, r.0 no_select_at tt), m), r.1.1)
defs_held (MoreDefs ds k (OfWith p n a o q c)) x h =
    let l = defs_held ds _ h in
    let r = query_held q _ l.1.1.1.1.1 in
    (λ rest m. l.0 (with_of (OfWith p n a o q c) ∷ rest) ((l.1.1.0, r.0 no_select_at tt), m), r.1.1)

withs_held : (w : WithsSyntax) (x : List Token) → Each Holds (withs_tokens w x) → Each IsSpellableWith (map bare_with (withs_of w)) × Each Holds x
withs_held NoWith x h = (tt, h)
withs_held (HasWith ds) x h = let r = defs_held ds x h in (r.0 [] tt, r.1)

pub spelled_spellable : (edition : Edition) (d : ℕ) (text : List ℕ) (tree : PlacedSql) → Spells edition d text tree → IsSpellable (bare tree)
spelled_spellable edition d text tree a = go a.syntax_tree (subst (λ (l : List Token). Each Holds l) a.derived.2 (tokens_hold edition (length text) 0 text a.tokens a.cut.1)) a.same
  where
    go : (s : grammar.TextSyntax) → Each Holds (text_tokens s (End a.derived.1 ∷ [])) → tree ≡ tree_of s → IsSpellable (bare tree)
    go (OfText w q s) h e =
        let l = withs_held w _ h in
        let r = query_held q _ l.1 in
        subst (λ (t : PlacedSql). IsSpellable (bare t)) (sym e) (l.0, r.0 no_select_at tt)
