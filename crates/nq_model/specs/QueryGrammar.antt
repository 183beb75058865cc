-- The syntax trees of queries, and the tokens of each tree.
--
-- A tree keeps its parentheses and the place of every token. Lists grow to the right, as they are read. The
-- levels of operators are those of the written grammar: a tree stands where its level is no weaker than the
-- level that is asked for.
use Rattle.std.specs.Prelude.{◌≡◌, ℕ, suc, ◌≤◌, max, Bool, true, false, ⊤, cond, List, [], ◌∷◌, codes}
use Rattle.std.specs.Str.{bytes_eq}
use Rattle.nq_model.specs.SchemaTexts.{type_word}
use Rattle.nq_model.specs.Terms.{Aggregate, Emptiness, Count, Sum}
use Rattle.nq_model.specs.QueryTokens.{Operator, Union, Of, Opening, Closing, OpeningBag, ClosingBag, Comma, Colon, Semicolon, Dot, Assign, From, Arrow, Bang, Constant, Number, Token, Word, Value, Oper, Sign, End}
use Rattle.nq_model.specs.declared.term.Unary.{Unary as UnaryOp}
use Rattle.nq_model.specs.declared.term.Unary.TheVariants.{Minus, Not}
use Rattle.nq_model.specs.declared.term.Binary.{Binary as BinaryOp}
use Rattle.nq_model.specs.declared.term.Binary.TheVariants.{Add, Sub, Mul, And, Or}
use Rattle.nq_model.specs.declared.table.ColumnType.{ColumnType}
use Rattle.nq_model.specs.declared.table.ColumnType.TheVariants as column

-- the versions of the language, which differ in their reserved words and forms
pub data Edition : Type 0 where
  First : Edition
  Second : Edition

-- what a word is where a variable might stand; only `IsName` may be a variable
pub data Kind : Type 0 where
  IsFor : Kind
  IsWhere : Kind
  IsIf : Kind
  IsThen : Kind
  IsElse : Kind
  IsFun : Kind
  IsLet : Kind
  IsTable : Kind
  IsAggregate : Aggregate → Kind
  IsTruth : Bool → Kind
  IsBase : ColumnType → Kind
  IsName : Kind

-- what an edition makes of a word that is not reserved in the first
abbrev pub later_kind : Edition → List ℕ → Kind
later_kind First w = IsName
later_kind Second w = cond (bytes_eq w (codes "count")) (IsAggregate Count) (cond (bytes_eq w (codes "sum")) (IsAggregate Sum) IsName)

-- how what is asked of a bag is spelled
abbrev pub aggregate_word : Aggregate → List ℕ
aggregate_word Emptiness = codes "empty"
aggregate_word Count = codes "count"
aggregate_word Sum = codes "sum"

-- how a truth value is spelled
abbrev pub truth_word : Bool → List ℕ
truth_word true = codes "true"
truth_word false = codes "false"

abbrev pub kind : Edition → List ℕ → Kind
kind ed w =
    cond (bytes_eq w (codes "for")) IsFor
    (cond (bytes_eq w (codes "where")) IsWhere
    (cond (bytes_eq w (codes "if")) IsIf
    (cond (bytes_eq w (codes "then")) IsThen
    (cond (bytes_eq w (codes "else")) IsElse
    (cond (bytes_eq w (codes "fun")) IsFun
    (cond (bytes_eq w (codes "let")) IsLet
    (cond (bytes_eq w (codes "table")) IsTable
    (cond (bytes_eq w (codes "empty")) (IsAggregate Emptiness)
    (cond (bytes_eq w (codes "true")) (IsTruth true)
    (cond (bytes_eq w (codes "false")) (IsTruth false)
    (cond (bytes_eq w (codes "int")) (IsBase column.Int)
    (cond (bytes_eq w (codes "bool")) (IsBase column.Bool)
    (cond (bytes_eq w (codes "text")) (IsBase column.Text)
    (later_kind ed w))))))))))))))

-- types; a number is the place of a token
mutual
  pub data TypeSyntax : Type 0 where
    TBase : ℕ → ColumnType → TypeSyntax
    TBag : ℕ → TypeSyntax → ℕ → TypeSyntax
    TParen : ℕ → TypeSyntax → ℕ → TypeSyntax
    TNoFields : ℕ → ℕ → TypeSyntax
    TRec : TypeFields → ℕ → TypeSyntax
    TFun : TypeSyntax → ℕ → TypeSyntax → TypeSyntax

  pub data TypeFields : Type 0 where
    TOne : ℕ → ℕ → List ℕ → ℕ → TypeSyntax → TypeFields
    TMore : TypeFields → ℕ → ℕ → List ℕ → ℕ → TypeSyntax → TypeFields

-- expressions, and programs
mutual
  pub data Syntax : Type 0 where
    Const : ℕ → Constant → Syntax
    Truth : ℕ → Bool → Syntax
    Var : ℕ → List ℕ → Syntax
    Table : ℕ → ℕ → List ℕ → Syntax
    Aggregated : Aggregate → ℕ → ℕ → Syntax → ℕ → Syntax
    Paren : ℕ → Syntax → ℕ → Syntax
    NoFields : ℕ → ℕ → Syntax
    Rec : Fields → ℕ → Syntax
    Bag : ℕ → Syntax → ℕ → Syntax
    Nil : ℕ → ℕ → TypeSyntax → ℕ → Syntax
    For : ℕ → ℕ → ℕ → List ℕ → ℕ → Syntax → ℕ → Syntax → Syntax
    Where : ℕ → ℕ → Syntax → ℕ → Syntax → Syntax
    If : ℕ → Syntax → ℕ → Syntax → ℕ → Syntax → Syntax
    Fun : ℕ → ℕ → ℕ → List ℕ → ℕ → TypeSyntax → ℕ → ℕ → Syntax → Syntax
    Let : ℕ → ℕ → List ℕ → ℕ → Syntax → ℕ → Syntax → Syntax
    Prefix : ℕ → UnaryOp → Syntax → Syntax
    Infix : Syntax → ℕ → Operator → Syntax → Syntax
    Apply : Syntax → ℕ → Syntax → ℕ → Syntax
    Field : Syntax → ℕ → ℕ → List ℕ → Syntax

  pub data Fields : Type 0 where
    One : ℕ → ℕ → List ℕ → ℕ → Syntax → Fields
    More : Fields → ℕ → ℕ → List ℕ → ℕ → Syntax → Fields

-- the tokens of a type, and then x
abbrev mutual
  pub type_tokens : TypeSyntax → List Token → List Token
  type_tokens (TBase p c) x = Word p (type_word c) ∷ x
  type_tokens (TBag p t q) x = Sign p OpeningBag ∷ type_tokens t (Sign q ClosingBag ∷ x)
  type_tokens (TParen p t q) x = Sign p Opening ∷ type_tokens t (Sign q Closing ∷ x)
  type_tokens (TNoFields p q) x = Sign p Opening ∷ Sign q Closing ∷ x
  type_tokens (TRec fs q) x = type_fields_tokens fs (Sign q Closing ∷ x)
  type_tokens (TFun a p t) x = type_tokens a (Sign p Arrow ∷ type_tokens t x)

  pub type_fields_tokens : TypeFields → List Token → List Token
  type_fields_tokens (TOne p v l c t) x = Sign p Opening ∷ Word v l ∷ Sign c Colon ∷ type_tokens t x
  type_fields_tokens (TMore fs q v l c t) x = type_fields_tokens fs (Sign q Comma ∷ Word v l ∷ Sign c Colon ∷ type_tokens t x)

-- `-` or `!`
abbrev pub prefix_token : ℕ → UnaryOp → Token
prefix_token p Minus = Oper p (Of Sub)
prefix_token p Not = Sign p Bang

-- the tokens of an expression, and then x
abbrev mutual
  pub tokens : Syntax → List Token → List Token
  tokens (Const p c) x = Value p c ∷ x
  tokens (Truth p b) x = Word p (truth_word b) ∷ x
  tokens (Var p y) x = Word p y ∷ x
  tokens (Table p v l) x = Word p (codes "table") ∷ Word v l ∷ x
  tokens (Aggregated g p o e c) x = Word p (aggregate_word g) ∷ Sign o Opening ∷ tokens e (Sign c Closing ∷ x)
  tokens (Paren p e q) x = Sign p Opening ∷ tokens e (Sign q Closing ∷ x)
  tokens (NoFields p q) x = Sign p Opening ∷ Sign q Closing ∷ x
  tokens (Rec fs q) x = fields_tokens fs (Sign q Closing ∷ x)
  tokens (Bag p e q) x = Sign p OpeningBag ∷ tokens e (Sign q ClosingBag ∷ x)
  tokens (Nil p c t q) x = Sign p OpeningBag ∷ Sign c Colon ∷ type_tokens t (Sign q ClosingBag ∷ x)
  tokens (For p o v y a m c n) x = Word p (codes "for") ∷ Sign o Opening ∷ Word v y ∷ Sign a From ∷ tokens m (Sign c Closing ∷ tokens n x)
  tokens (Where p o t c n) x = Word p (codes "where") ∷ Sign o Opening ∷ tokens t (Sign c Closing ∷ tokens n x)
  tokens (If p t q y r n) x = Word p (codes "if") ∷ tokens t (Word q (codes "then") ∷ tokens y (Word r (codes "else") ∷ tokens n x))
  tokens (Fun p o v y c t z a n) x = Word p (codes "fun") ∷ Sign o Opening ∷ Word v y ∷ Sign c Colon ∷ type_tokens t (Sign z Closing ∷ Sign a Arrow ∷ tokens n x)
  tokens (Let p v y a m s n) x = Word p (codes "let") ∷ Word v y ∷ Sign a Assign ∷ tokens m (Sign s Semicolon ∷ tokens n x)
  tokens (Prefix p u e) x = prefix_token p u ∷ tokens e x
  tokens (Infix l p op r) x = tokens l (Oper p op ∷ tokens r x)
  tokens (Apply f p a q) x = tokens f (Sign p Opening ∷ tokens a (Sign q Closing ∷ x))
  tokens (Field e p v l) x = tokens e (Sign p Dot ∷ Word v l ∷ x)

  pub fields_tokens : Fields → List Token → List Token
  fields_tokens (One p v l a e) x = Sign p Opening ∷ Word v l ∷ Sign a Assign ∷ tokens e x
  fields_tokens (More fs c v l a e) x = fields_tokens fs (Sign c Comma ∷ Word v l ∷ Sign a Assign ∷ tokens e x)

abbrev pub binary_level : BinaryOp → ℕ
binary_level Or = 3
binary_level And = 4
binary_level Add = 6
binary_level Sub = 6
binary_level Mul = 7
binary_level _ = 5

-- the level of an operator; on its right it asks for the next level
abbrev pub level : Operator → ℕ
level Union = 2
level (Of b) = binary_level b

abbrev pub binary_left_level : BinaryOp → ℕ
binary_left_level Or = 3
binary_left_level And = 4
binary_left_level Add = 6
binary_left_level Sub = 6
binary_left_level Mul = 7
binary_left_level _ = 6

-- what an operator asks for on its left: its own level, but comparisons do not chain
abbrev pub left_level : Operator → ℕ
left_level Union = 2
left_level (Of b) = binary_left_level b

-- a function type stands only where a whole type may stand
abbrev mutual
  pub TypeFits : Bool → TypeSyntax → Type 0
  TypeFits whole (TBase p c) = ⊤
  TypeFits whole (TBag p t q) = TypeFits true t
  TypeFits whole (TParen p t q) = TypeFits true t
  TypeFits whole (TNoFields p q) = ⊤
  TypeFits whole (TRec fs q) = TypeFieldsFit fs
  TypeFits whole (TFun a p t) = (whole ≡ true) × TypeFits false a × TypeFits true t

  pub TypeFieldsFit : TypeFields → Type 0
  TypeFieldsFit (TOne p v l c t) = TypeFits true t
  TypeFieldsFit (TMore fs q v l c t) = TypeFieldsFit fs × TypeFits true t

-- the expression may stand where level n is asked for; `let` stands only at level 0, that of a program
abbrev mutual
  pub Fits : Edition → ℕ → Syntax → Type 0
  Fits ed n (Const p c) = ⊤
  Fits ed n (Truth p b) = ⊤
  Fits ed n (Var p y) = kind ed y ≡ IsName
  Fits ed n (Table p v l) = ⊤
  Fits ed n (Aggregated g p o e c) = (kind ed (aggregate_word g) ≡ IsAggregate g) × Fits ed 1 e
  Fits ed n (Paren p e q) = Fits ed 1 e
  Fits ed n (NoFields p q) = ⊤
  Fits ed n (Rec fs q) = FieldsFit ed fs
  Fits ed n (Bag p e q) = Fits ed 1 e
  Fits ed n (Nil p c t q) = TypeFits true t
  Fits ed n (For p o v y a m c b) = (n ≤ 1) × (kind ed y ≡ IsName) × Fits ed 1 m × Fits ed 1 b
  Fits ed n (Where p o t c b) = (n ≤ 1) × Fits ed 1 t × Fits ed 1 b
  Fits ed n (If p t q y r b) = (n ≤ 1) × Fits ed 1 t × Fits ed 1 y × Fits ed 1 b
  Fits ed n (Fun p o v y c t z a b) = (n ≤ 1) × (kind ed y ≡ IsName) × TypeFits true t × Fits ed 1 b
  Fits ed n (Let p v y a m s b) = (n ≤ 0) × (kind ed y ≡ IsName) × Fits ed 1 m × Fits ed 0 b
  Fits ed n (Prefix p u e) = (n ≤ 8) × Fits ed 8 e
  Fits ed n (Infix l p op r) = (n ≤ level op) × Fits ed (left_level op) l × Fits ed (suc (level op)) r
  Fits ed n (Apply f p a q) = (n ≤ 9) × Fits ed 9 f × Fits ed 1 a
  Fits ed n (Field e p v l) = (n ≤ 9) × Fits ed 9 e

  pub FieldsFit : Edition → Fields → Type 0
  FieldsFit ed (One p v l a e) = Fits ed 1 e
  FieldsFit ed (More fs c v l a e) = FieldsFit ed fs × Fits ed 1 e

-- one more than the deepest direct part
abbrev mutual
  pub type_depth : TypeSyntax → ℕ
  type_depth (TBase p c) = 1
  type_depth (TBag p t q) = suc (type_depth t)
  type_depth (TParen p t q) = suc (type_depth t)
  type_depth (TNoFields p q) = 1
  type_depth (TRec fs q) = suc (type_fields_depth fs)
  type_depth (TFun a p t) = suc (max (type_depth a) (type_depth t))

  pub type_fields_depth : TypeFields → ℕ
  type_fields_depth (TOne p v l c t) = type_depth t
  type_fields_depth (TMore fs q v l c t) = max (type_fields_depth fs) (type_depth t)

-- one more than the deepest direct part; parentheses count as one more, and types add nothing
abbrev mutual
  pub depth : Syntax → ℕ
  depth (Const p c) = 1
  depth (Truth p b) = 1
  depth (Var p y) = 1
  depth (Table p v l) = 1
  depth (Aggregated g p o e c) = suc (depth e)
  depth (Paren p e q) = suc (depth e)
  depth (NoFields p q) = 1
  depth (Rec fs q) = suc (fields_depth fs)
  depth (Bag p e q) = suc (depth e)
  depth (Nil p c t q) = 1
  depth (For p o v y a m c n) = suc (max (depth m) (depth n))
  depth (Where p o t c n) = suc (max (depth t) (depth n))
  depth (If p t q y r n) = suc (max (depth t) (max (depth y) (depth n)))
  depth (Fun p o v y c t z a n) = suc (depth n)
  depth (Let p v y a m s n) = suc (max (depth m) (depth n))
  depth (Prefix p u e) = suc (depth e)
  depth (Infix l p op r) = suc (max (depth l) (depth r))
  depth (Apply f p a q) = suc (max (depth f) (depth a))
  depth (Field e p v l) = suc (depth e)

  pub fields_depth : Fields → ℕ
  fields_depth (One p v l a e) = depth e
  fields_depth (More fs c v l a e) = max (fields_depth fs) (depth e)

-- the depth of the deepest type in the expression, 0 where there is none
abbrev mutual
  pub deepest : Syntax → ℕ
  deepest (Const p c) = 0
  deepest (Truth p b) = 0
  deepest (Var p y) = 0
  deepest (Table p v l) = 0
  deepest (Aggregated g p o e c) = deepest e
  deepest (Paren p e q) = deepest e
  deepest (NoFields p q) = 0
  deepest (Rec fs q) = fields_deepest fs
  deepest (Bag p e q) = deepest e
  deepest (Nil p c t q) = type_depth t
  deepest (For p o v y a m c n) = max (deepest m) (deepest n)
  deepest (Where p o t c n) = max (deepest t) (deepest n)
  deepest (If p t q y r n) = max (deepest t) (max (deepest y) (deepest n))
  deepest (Fun p o v y c t z a n) = max (type_depth t) (deepest n)
  deepest (Let p v y a m s n) = max (deepest m) (deepest n)
  deepest (Prefix p u e) = deepest e
  deepest (Infix l p op r) = max (deepest l) (deepest r)
  deepest (Apply f p a q) = max (deepest f) (deepest a)
  deepest (Field e p v l) = deepest e

  pub fields_deepest : Fields → ℕ
  fields_deepest (One p v l a e) = deepest e
  fields_deepest (More fs c v l a e) = max (fields_deepest fs) (deepest e)

-- what stands before a program of an edition: nothing, or `nq` `2` `;`, each with its place, and then x
abbrev pub Header : Edition → Type 0
Header First = ⊤
Header Second = ℕ × ℕ × ℕ

abbrev pub header_tokens : (ed : Edition) → Header ed → List Token → List Token
header_tokens First h x = x
header_tokens Second h x = Word h.0 (codes "nq") ∷ Value h.1 (Number 2 1) ∷ Sign h.2 Semicolon ∷ x

-- the tokens are those of what stands behind the header, and the end of the text
abbrev pub IsBody : Edition → List Token → Syntax → Type 0
IsBody ed ts s = Fits ed 0 s × (q : ℕ) × (ts ≡ tokens s (End q ∷ []))

-- the tokens are those of a program, and the end of the text
abbrev pub IsProgram : Edition → List Token → Syntax → Type 0
IsProgram ed ts s = (h : Header ed) × (body : List Token) × (ts ≡ header_tokens ed h body) × IsBody ed body s

-- neither the program nor a type in it is deeper than d
abbrev pub Within : ℕ → Syntax → Type 0
Within d s = (depth s ≤ d) × (deepest s ≤ d)

-- the tokens are those of a program of depth at most d
abbrev pub IsSpelled : Edition → ℕ → List Token → Type 0
IsSpelled ed d ts = (s : Syntax) × IsProgram ed ts s × Within d s
