-- No tree is deeper than it has tokens.
use Rattle.std.proofs.Common.{ℕ, suc, ◌+◌, ◌≤◌, max, codes, List, [], ◌∷◌, length, arith}
use Rattle.nq_model.specs.QueryTokens.{Opening, Closing, OpeningBag, ClosingBag, Comma, Colon, Semicolon, Dot, Assign, From, Arrow, Token, Word, Value, Oper, Sign, End}
use Rattle.nq_model.specs.QueryGrammar.{TypeSyntax, TBase, TBag, TParen, TNoFields, TRec, TFun, TypeFields, TOne, TMore, Syntax, Const, Truth, Var, Table, Aggregated, Paren, NoFields, Rec, Bag, Nil, For, Where, If, Fun, Let, Prefix, Infix, Apply, Field, Fields, One, More, type_tokens, type_fields_tokens, type_depth, type_fields_depth, tokens, fields_tokens, depth, fields_depth, deepest, fields_deepest}

mutual
  pub type_depth_tokens : (t : TypeSyntax) (x : List Token) → type_depth t + length x ≤ length (type_tokens t x)
  type_depth_tokens (TBase p c) x = omega arith
  type_depth_tokens (TBag p t q) x = let h = type_depth_tokens t (Sign q ClosingBag ∷ x) in omega (arith, h)
  type_depth_tokens (TParen p t q) x = let h = type_depth_tokens t (Sign q Closing ∷ x) in omega (arith, h)
  type_depth_tokens (TNoFields p q) x = omega arith
  type_depth_tokens (TRec fs q) x = let h = type_fields_tokens_deep fs (Sign q Closing ∷ x) in omega (arith, h)
  type_depth_tokens (TFun a p t) x =
      let h = type_depth_tokens a (Sign p Arrow ∷ type_tokens t x) in
      let g = type_depth_tokens t x in
      omega (arith, h, g)

  type_fields_tokens_deep : (fs : TypeFields) (x : List Token) → type_fields_depth fs + length x ≤ length (type_fields_tokens fs x)
  type_fields_tokens_deep (TOne p v l c t) x = let h = type_depth_tokens t x in omega (arith, h)
  type_fields_tokens_deep (TMore fs q v l c t) x =
      let h = type_depth_tokens t x in
      let g = type_fields_tokens_deep fs (Sign q Comma ∷ Word v l ∷ Sign c Colon ∷ type_tokens t x) in
      omega (arith, h, g)

mutual
  -- an expression, and the types in it
  pub depth_tokens : (s : Syntax) (x : List Token) → max (depth s) (deepest s) + length x ≤ length (tokens s x)
  depth_tokens (Const p c) x = omega arith
  depth_tokens (Truth p b) x = omega arith
  depth_tokens (Var p y) x = omega arith
  depth_tokens (Table p v l) x = omega arith
  depth_tokens (Aggregated g p o e c) x = let h = depth_tokens e (Sign c Closing ∷ x) in omega (arith, h)
  depth_tokens (Paren p e q) x = let h = depth_tokens e (Sign q Closing ∷ x) in omega (arith, h)
  depth_tokens (NoFields p q) x = omega arith
  depth_tokens (Rec fs q) x = let h = fields_depth_tokens fs (Sign q Closing ∷ x) in omega (arith, h)
  depth_tokens (Bag p e q) x = let h = depth_tokens e (Sign q ClosingBag ∷ x) in omega (arith, h)
  depth_tokens (Nil p c t q) x = let h = type_depth_tokens t (Sign q ClosingBag ∷ x) in omega (arith, h)
  depth_tokens (For p o v y a m c n) x =
      let h = depth_tokens m (Sign c Closing ∷ tokens n x) in
      let g = depth_tokens n x in
      omega (arith, h, g)
  depth_tokens (Where p o t c n) x =
      let h = depth_tokens t (Sign c Closing ∷ tokens n x) in
      let g = depth_tokens n x in
      omega (arith, h, g)
  depth_tokens (If p t q y r n) x =
      let h = depth_tokens t (Word q (codes "then") ∷ tokens y (Word r (codes "else") ∷ tokens n x)) in
      let g = depth_tokens y (Word r (codes "else") ∷ tokens n x) in
      let k = depth_tokens n x in
      omega (arith, h, g, k)
  depth_tokens (Fun p o v y c t z a n) x =
      let h = type_depth_tokens t (Sign z Closing ∷ Sign a Arrow ∷ tokens n x) in
      let g = depth_tokens n x in
      omega (arith, h, g)
  depth_tokens (Let p v y a m s n) x =
      let h = depth_tokens m (Sign s Semicolon ∷ tokens n x) in
      let g = depth_tokens n x in
      omega (arith, h, g)
  depth_tokens (Prefix p u e) x = let h = depth_tokens e x in omega (arith, h)
  depth_tokens (Infix l p op r) x =
      let h = depth_tokens l (Oper p op ∷ tokens r x) in
      let g = depth_tokens r x in
      omega (arith, h, g)
  depth_tokens (Apply f p a q) x =
      let h = depth_tokens f (Sign p Opening ∷ tokens a (Sign q Closing ∷ x)) in
      let g = depth_tokens a (Sign q Closing ∷ x) in
      omega (arith, h, g)
  depth_tokens (Field e p v l) x = let h = depth_tokens e (Sign p Dot ∷ Word v l ∷ x) in omega (arith, h)

  fields_depth_tokens : (fs : Fields) (x : List Token) → max (fields_depth fs) (fields_deepest fs) + length x ≤ length (fields_tokens fs x)
  fields_depth_tokens (One p v l a e) x = let h = depth_tokens e x in omega (arith, h)
  fields_depth_tokens (More fs c v l a e) x =
      let h = depth_tokens e x in
      let g = fields_depth_tokens fs (Sign c Comma ∷ Word v l ∷ Sign a Assign ∷ tokens e x) in
      omega (arith, h, g)
