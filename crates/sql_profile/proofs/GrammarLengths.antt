-- No tree is deeper than it has tokens.
use Rattle.std.proofs.Common.{suc, ◌+◌, ◌≤◌, List, ◌∷◌, length, arith}
use Rattle.sql_profile.specs.Tokens.{All, As, Close, Comma, Else, Key, Name, Open, Oper, Stop, Then, Token, Union, Value, Number}
use Rattle.sql_profile.specs.Grammar.{ExprSyntax, OfScalar, Counted, Summed, OfCount, OfSum, OfTail, FromSyntax, HasFrom, HasKeys, HasSemi, HasWhere, HasWith, ItemsSyntax, KeepSyntax, KeyListSyntax, KeysSyntax, MoreDefs, MoreItems, MoreKeys, MoreSelects, MoreSources, NoFrom, NoKeys, NoSemi, NoWhere, NoWith, Numbering, OfBinary, OfCase, OfColumn, OfConstant, OfItem, OfMinus, OfNot, OfNotExists, OfParens, OfRowNumber, OfSelect, OfSource, OfText, OfWith, OneDef, OneItem, OneKey, OneSelect, OneSource, Plain, QuerySyntax, SelectSyntax, SemicolonSyntax, SourcesSyntax, TextSyntax, ValueSyntax, WithListSyntax, WithsSyntax, choice_depth, choice_tokens, defs_depth, defs_tokens, depth, froms_tokens, held_depth, held_tokens, items_depth, items_tokens, keep_depth, keep_tokens, key_list_depth, key_list_tokens, keys_depth, keys_tokens, query_tokens, selects_depth, semis_tokens, sources_tokens, text_depth, text_tokens, tokens, withs_depth, withs_tokens}

pub froms_tokens_more : (f : FromSyntax) (x : List Token) → length x ≤ length (froms_tokens f x)
froms_tokens_more NoFrom x = omega arith
froms_tokens_more (HasFrom ss) x = go ss x
  where
    go : (ss : SourcesSyntax) (x : List Token) → length x ≤ length (sources_tokens ss x)
    go (OneSource p (OfSource q t a r n)) x = omega arith
    go (MoreSources ss c (OfSource q t a r n)) x = let h = go ss (Comma c ∷ Name q t ∷ Key a As ∷ Name r n ∷ x) in omega (arith, h)

mutual
  pub depth_tokens : (s : ExprSyntax) (x : List Token) → depth s + length x ≤ length (tokens s x)
  depth_tokens (OfConstant p c) x = omega arith
  depth_tokens (OfColumn p a q r c) x = omega arith
  depth_tokens (OfParens p e q) x = let h = depth_tokens e (Close q ∷ x) in omega (arith, h)
  depth_tokens (OfMinus p e) x = let h = depth_tokens e x in omega (arith, h)
  depth_tokens (OfNot p e) x = let h = depth_tokens e x in omega (arith, h)
  depth_tokens (OfNotExists p e o q c) x = let h = query_depth_tokens q (Close c ∷ x) in omega (arith, h)
  depth_tokens (OfCase p w t i y e n z) x =
      let h1 = depth_tokens t (Key i Then ∷ tokens y (Key e Else ∷ tokens n (Key z Stop ∷ x))) in
      let h2 = depth_tokens y (Key e Else ∷ tokens n (Key z Stop ∷ x)) in
      let h3 = depth_tokens n (Key z Stop ∷ x) in
      omega (arith, h1, h2, h3)
  depth_tokens (OfBinary l p op r) x =
      let h1 = depth_tokens l (Oper p op ∷ tokens r x) in
      let h2 = depth_tokens r x in
      omega (arith, h1, h2)
  depth_tokens (OfScalar (Counted (OfCount p s c o t z)) f w y) x =
      let g = froms_tokens_more f (keep_tokens w (Close y ∷ x)) in
      let k = keep_depth_tokens w (Close y ∷ x) in
      omega (arith, g, k)
  depth_tokens (OfScalar (Summed (OfSum p s c o u v) e (OfTail z m q r)) f w y) x =
      let h = depth_tokens e (Close z ∷ Comma m ∷ Value q (Number 0 1) ∷ Close r ∷ froms_tokens f (keep_tokens w (Close y ∷ x))) in
      let g = froms_tokens_more f (keep_tokens w (Close y ∷ x)) in
      let k = keep_depth_tokens w (Close y ∷ x) in
      omega (arith, h, g, k)

  pub query_depth_tokens : (q : QuerySyntax) (x : List Token) → suc (selects_depth q) + length x ≤ length (query_tokens q x)
  query_depth_tokens (OneSelect s) x = choice_depth_tokens s x
  query_depth_tokens (MoreSelects q u a s) x =
      let h = query_depth_tokens q (Key u Union ∷ Key a All ∷ choice_tokens s x) in
      let g = choice_depth_tokens s x in
      omega (arith, h, g)

  pub choice_depth_tokens : (s : SelectSyntax) (x : List Token) → suc (choice_depth s) + length x ≤ length (choice_tokens s x)
  choice_depth_tokens (OfSelect i f w) x =
      let h = items_depth_tokens i (froms_tokens f (keep_tokens w x)) in
      let g = froms_tokens_more f (keep_tokens w x) in
      let k = keep_depth_tokens w x in
      omega (arith, h, g, k)

  pub keep_depth_tokens : (w : KeepSyntax) (x : List Token) → keep_depth w + length x ≤ length (keep_tokens w x)
  keep_depth_tokens NoWhere x = omega arith
  keep_depth_tokens (HasWhere p e) x = let h = depth_tokens e x in omega (arith, h)

  pub items_depth_tokens : (i : ItemsSyntax) (x : List Token) → 2 + items_depth i + length x ≤ length (items_tokens i x)
  items_depth_tokens (OneItem p (OfItem v a q n)) x = let h = held_depth_tokens v (Key a As ∷ Name q n ∷ x) in omega (arith, h)
  items_depth_tokens (MoreItems is c (OfItem v a q n)) x =
      let h = held_depth_tokens v (Key a As ∷ Name q n ∷ x) in
      let g = items_depth_tokens is (Comma c ∷ held_tokens v (Key a As ∷ Name q n ∷ x)) in
      omega (arith, h, g)

  pub held_depth_tokens : (v : ValueSyntax) (x : List Token) → held_depth v + length x ≤ length (held_tokens v x)
  held_depth_tokens (Plain e) x = depth_tokens e x
  held_depth_tokens (Numbering (OfRowNumber r o y v q) ks z) x = let h = keys_depth_tokens ks (Close z ∷ x) in omega (arith, h)

  pub keys_depth_tokens : (ks : KeysSyntax) (x : List Token) → keys_depth ks + length x ≤ length (keys_tokens ks x)
  keys_depth_tokens NoKeys x = omega arith
  keys_depth_tokens (HasKeys ks) x = key_list_depth_tokens ks x

  pub key_list_depth_tokens : (ks : KeyListSyntax) (x : List Token) → key_list_depth ks + length x ≤ length (key_list_tokens ks x)
  key_list_depth_tokens (OneKey o b e) x = let h = depth_tokens e x in omega (arith, h)
  key_list_depth_tokens (MoreKeys ks c e) x =
      let h = depth_tokens e x in
      let g = key_list_depth_tokens ks (Comma c ∷ tokens e x) in
      omega (arith, h, g)

pub defs_depth_tokens : (ds : WithListSyntax) (x : List Token) → defs_depth ds + length x ≤ length (defs_tokens ds x)
defs_depth_tokens (OneDef p (OfWith q n a o k c)) x = let h = query_depth_tokens k (Close c ∷ x) in omega (arith, h)
defs_depth_tokens (MoreDefs ds y (OfWith q n a o k c)) x =
    let h = query_depth_tokens k (Close c ∷ x) in
    let g = defs_depth_tokens ds (Comma y ∷ Name q n ∷ Key a As ∷ Open o ∷ query_tokens k (Close c ∷ x)) in
    omega (arith, h, g)

pub withs_depth_tokens : (w : WithsSyntax) (x : List Token) → withs_depth w + length x ≤ length (withs_tokens w x)
withs_depth_tokens NoWith x = omega arith
withs_depth_tokens (HasWith ds) x = defs_depth_tokens ds x

pub semis_more : (s : SemicolonSyntax) (x : List Token) → length x ≤ length (semis_tokens s x)
semis_more NoSemi x = omega arith
semis_more (HasSemi p) x = omega arith

pub text_depth_tokens : (t : TextSyntax) (x : List Token) → text_depth t + length x ≤ length (text_tokens t x)
text_depth_tokens (OfText w q s) x =
    let h = withs_depth_tokens w (query_tokens q (semis_tokens s x)) in
    let g = query_depth_tokens q (semis_tokens s x) in
    let k = semis_more s x in
    omega (arith, h, g, k)
