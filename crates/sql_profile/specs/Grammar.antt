-- The grammar of SQL texts: syntax trees, the tokens of each, and its depth.
--
--     text   = [ WITH def { , def } ] query [ ; ]
--     def    = name AS ( query )
--     query  = select { UNION ALL select }
--     select = SELECT item { , item } [ FROM source { , source } ] [ WHERE O ]
--     item   = O AS name | ROW_NUMBER ( ) OVER ( [ ORDER BY O { , O } ] ) AS name
--     source = name AS name
--     O      = O OR A | A
--     A      = A AND N | N
--     N      = NOT N | NOT EXISTS ( query ) | C
--     C      = S, then at most one of = <> < <= > >= with S
--     S      = S + M | S - M | M
--     M      = M * U | U
--     U      = - U | P
--     P      = number | literal | TRUE | FALSE | name . name | ( O ) | CASE WHEN O THEN O ELSE O END
--            | ( SELECT COUNT ( * ) [ FROM source { , source } ] [ WHERE O ] )
--            | ( SELECT COALESCE ( SUM ( O ) , 0 ) [ FROM source { , source } ] [ WHERE O ] )
use Rattle.std.specs.Prelude.{◌≡◌, ℕ, suc, ◌≤◌, max, List, [], ◌∷◌, pos}
use Rattle.nq_model.specs.Totals.{HowMany, SumOf}
use Rattle.nq_model.specs.declared.term.Binary.{Binary}
use Rattle.nq_model.specs.declared.term.Binary.TheVariants.{Or, And, Add, Sub, Mul}
use Rattle.nq_model.specs.declared.term.Unary.TheVariants as one_operand
use Rattle.sql_profile.specs.declared.tree.Source.{Source}
use Rattle.sql_profile.specs.Tokens.{Edition, With, As, Union, All, Select, From, Where, RowNumber, Over, Order, By, Not, Exists, Case, When, Then, Else, Stop, Count, Sum, Coalesce, Constant, Number, Literal, Truth, Token, Value, Name, Key, Oper, Open, Close, Comma, Dot, Semi, End, unquoted}
use Rattle.sql_profile.specs.Trees.{PlacedExpr, int_at, bool_at, text_at, column_at, unary_at, binary_at, choose_at, not_exists_at, total_at, PlacedExprs, none_at, then_at, PlacedQuery, no_select_at, then_select_at, PlacedSelect, select_at, PlacedKeep, keep_all_at, keep_if_at, PlacedItems, no_item_at, then_item_at, item_at, PlacedValue, plain_at, number_at, PlacedWith, PlacedSql}

-- Syntax trees keep parentheses and the place of every token. Lists grow to the right, as they are read.

-- `name AS name` in a FROM
pub data SourceSyntax : Type 0 where
  OfSource : ℕ → List ℕ → ℕ → ℕ → List ℕ → SourceSyntax

pub data SourcesSyntax : Type 0 where
  OneSource : ℕ → SourceSyntax → SourcesSyntax
  MoreSources : SourcesSyntax → ℕ → SourceSyntax → SourcesSyntax

pub data FromSyntax : Type 0 where
  NoFrom : FromSyntax
  HasFrom : SourcesSyntax → FromSyntax

-- `ROW_NUMBER ( ) OVER (`
pub data NumberingHead : Type 0 where
  OfRowNumber : ℕ → ℕ → ℕ → ℕ → ℕ → NumberingHead

-- `( SELECT COUNT ( * )`
pub data CountHead : Type 0 where
  OfCount : ℕ → ℕ → ℕ → ℕ → ℕ → ℕ → CountHead

-- `( SELECT COALESCE ( SUM (`
pub data SumHead : Type 0 where
  OfSum : ℕ → ℕ → ℕ → ℕ → ℕ → ℕ → SumHead

-- `) , 0 )`
pub data SumTail : Type 0 where
  OfTail : ℕ → ℕ → ℕ → ℕ → SumTail

mutual
  pub data ExprSyntax : Type 0 where
    OfConstant : ℕ → Constant → ExprSyntax
    OfColumn : ℕ → List ℕ → ℕ → ℕ → List ℕ → ExprSyntax
    OfParens : ℕ → ExprSyntax → ℕ → ExprSyntax
    OfMinus : ℕ → ExprSyntax → ExprSyntax
    OfNot : ℕ → ExprSyntax → ExprSyntax
    OfNotExists : ℕ → ℕ → ℕ → QuerySyntax → ℕ → ExprSyntax
    OfCase : ℕ → ℕ → ExprSyntax → ℕ → ExprSyntax → ℕ → ExprSyntax → ℕ → ExprSyntax
    OfBinary : ExprSyntax → ℕ → Binary → ExprSyntax → ExprSyntax
    OfScalar : ScalarSyntax → FromSyntax → KeepSyntax → ℕ → ExprSyntax

  pub data ScalarSyntax : Type 0 where
    Counted : CountHead → ScalarSyntax
    Summed : SumHead → ExprSyntax → SumTail → ScalarSyntax

  pub data QuerySyntax : Type 0 where
    OneSelect : SelectSyntax → QuerySyntax
    MoreSelects : QuerySyntax → ℕ → ℕ → SelectSyntax → QuerySyntax

  pub data SelectSyntax : Type 0 where
    OfSelect : ItemsSyntax → FromSyntax → KeepSyntax → SelectSyntax

  pub data KeepSyntax : Type 0 where
    NoWhere : KeepSyntax
    HasWhere : ℕ → ExprSyntax → KeepSyntax

  pub data ItemsSyntax : Type 0 where
    OneItem : ℕ → ItemSyntax → ItemsSyntax
    MoreItems : ItemsSyntax → ℕ → ItemSyntax → ItemsSyntax

  pub data ItemSyntax : Type 0 where
    OfItem : ValueSyntax → ℕ → ℕ → List ℕ → ItemSyntax

  pub data ValueSyntax : Type 0 where
    Plain : ExprSyntax → ValueSyntax
    Numbering : NumberingHead → KeysSyntax → ℕ → ValueSyntax

  pub data KeysSyntax : Type 0 where
    NoKeys : KeysSyntax
    HasKeys : KeyListSyntax → KeysSyntax

  pub data KeyListSyntax : Type 0 where
    OneKey : ℕ → ℕ → ExprSyntax → KeyListSyntax
    MoreKeys : KeyListSyntax → ℕ → ExprSyntax → KeyListSyntax

-- `name AS ( query )`
pub data WithSyntax : Type 0 where
  OfWith : ℕ → List ℕ → ℕ → ℕ → QuerySyntax → ℕ → WithSyntax

pub data WithListSyntax : Type 0 where
  OneDef : ℕ → WithSyntax → WithListSyntax
  MoreDefs : WithListSyntax → ℕ → WithSyntax → WithListSyntax

pub data WithsSyntax : Type 0 where
  NoWith : WithsSyntax
  HasWith : WithListSyntax → WithsSyntax

pub data SemicolonSyntax : Type 0 where
  NoSemi : SemicolonSyntax
  HasSemi : ℕ → SemicolonSyntax

pub data TextSyntax : Type 0 where
  OfText : WithsSyntax → QuerySyntax → SemicolonSyntax → TextSyntax

-- The tokens of a tree, and then x.
abbrev pub source_tokens : SourceSyntax → List Token → List Token
source_tokens (OfSource p t a q n) x = Name p t ∷ Key a As ∷ Name q n ∷ x

abbrev pub sources_tokens : SourcesSyntax → List Token → List Token
sources_tokens (OneSource p s) x = Key p From ∷ source_tokens s x
sources_tokens (MoreSources ss c s) x = sources_tokens ss (Comma c ∷ source_tokens s x)

abbrev pub froms_tokens : FromSyntax → List Token → List Token
froms_tokens NoFrom x = x
froms_tokens (HasFrom ss) x = sources_tokens ss x

abbrev pub row_tokens : NumberingHead → List Token → List Token
row_tokens (OfRowNumber r o c v q) x = Key r RowNumber ∷ Open o ∷ Close c ∷ Key v Over ∷ Open q ∷ x

abbrev pub count_tokens : CountHead → List Token → List Token
count_tokens (OfCount p s c o t z) x = Open p ∷ Key s Select ∷ Key c Count ∷ Open o ∷ Oper t Mul ∷ Close z ∷ x

abbrev pub sum_tokens : SumHead → List Token → List Token
sum_tokens (OfSum p s c o u v) x = Open p ∷ Key s Select ∷ Key c Coalesce ∷ Open o ∷ Key u Sum ∷ Open v ∷ x

abbrev pub tail_tokens : SumTail → List Token → List Token
tail_tokens (OfTail z c q r) x = Close z ∷ Comma c ∷ Value q (Number 0 1) ∷ Close r ∷ x

abbrev mutual
  pub tokens : ExprSyntax → List Token → List Token
  tokens (OfConstant p c) x = Value p c ∷ x
  tokens (OfColumn p a q r c) x = Name p a ∷ Dot q ∷ Name r c ∷ x
  tokens (OfParens p e q) x = Open p ∷ tokens e (Close q ∷ x)
  tokens (OfMinus p e) x = Oper p Sub ∷ tokens e x
  tokens (OfNot p e) x = Key p Not ∷ tokens e x
  tokens (OfNotExists p e o q c) x = Key p Not ∷ Key e Exists ∷ Open o ∷ query_tokens q (Close c ∷ x)
  tokens (OfCase p w t h y e n z) x = Key p Case ∷ Key w When ∷ tokens t (Key h Then ∷ tokens y (Key e Else ∷ tokens n (Key z Stop ∷ x)))
  tokens (OfBinary l p op r) x = tokens l (Oper p op ∷ tokens r x)
  tokens (OfScalar h f w z) x = scalar_tokens h (froms_tokens f (keep_tokens w (Close z ∷ x)))

  pub scalar_tokens : ScalarSyntax → List Token → List Token
  scalar_tokens (Counted c) x = count_tokens c x
  scalar_tokens (Summed h e v) x = sum_tokens h (tokens e (tail_tokens v x))

  pub query_tokens : QuerySyntax → List Token → List Token
  query_tokens (OneSelect s) x = choice_tokens s x
  query_tokens (MoreSelects q u a s) x = query_tokens q (Key u Union ∷ Key a All ∷ choice_tokens s x)

  pub choice_tokens : SelectSyntax → List Token → List Token
  choice_tokens (OfSelect i f w) x = items_tokens i (froms_tokens f (keep_tokens w x))

  pub keep_tokens : KeepSyntax → List Token → List Token
  keep_tokens NoWhere x = x
  keep_tokens (HasWhere p e) x = Key p Where ∷ tokens e x

  pub items_tokens : ItemsSyntax → List Token → List Token
  items_tokens (OneItem p i) x = Key p Select ∷ item_tokens i x
  items_tokens (MoreItems is c i) x = items_tokens is (Comma c ∷ item_tokens i x)

  pub item_tokens : ItemSyntax → List Token → List Token
  item_tokens (OfItem h a p n) x = held_tokens h (Key a As ∷ Name p n ∷ x)

  pub held_tokens : ValueSyntax → List Token → List Token
  held_tokens (Plain e) x = tokens e x
  held_tokens (Numbering r ks q) x = row_tokens r (keys_tokens ks (Close q ∷ x))

  pub keys_tokens : KeysSyntax → List Token → List Token
  keys_tokens NoKeys x = x
  keys_tokens (HasKeys ks) x = key_list_tokens ks x

  pub key_list_tokens : KeyListSyntax → List Token → List Token
  key_list_tokens (OneKey o b e) x = Key o Order ∷ Key b By ∷ tokens e x
  key_list_tokens (MoreKeys ks c e) x = key_list_tokens ks (Comma c ∷ tokens e x)

abbrev pub def_tokens : WithSyntax → List Token → List Token
def_tokens (OfWith p n a o q c) x = Name p n ∷ Key a As ∷ Open o ∷ query_tokens q (Close c ∷ x)

abbrev pub defs_tokens : WithListSyntax → List Token → List Token
defs_tokens (OneDef p d) x = Key p With ∷ def_tokens d x
defs_tokens (MoreDefs ds c d) x = defs_tokens ds (Comma c ∷ def_tokens d x)

abbrev pub withs_tokens : WithsSyntax → List Token → List Token
withs_tokens NoWith x = x
withs_tokens (HasWith ds) x = defs_tokens ds x

abbrev pub semis_tokens : SemicolonSyntax → List Token → List Token
semis_tokens NoSemi x = x
semis_tokens (HasSemi p) x = Semi p ∷ x

abbrev pub text_tokens : TextSyntax → List Token → List Token
text_tokens (OfText w q s) x = withs_tokens w (query_tokens q (semis_tokens s x))

-- A form stands where its level is no weaker than the level that is asked for.
abbrev pub level : Binary → ℕ
level Or = 1
level And = 2
level Add = 5
level Sub = 5
level Mul = 6
level _ = 4

-- What an operator asks for on its left. On its right it asks for the next level.
abbrev pub left_level : Binary → ℕ
left_level Or = 1
left_level And = 2
left_level Add = 5
left_level Sub = 5
left_level Mul = 6
left_level _ = 5

abbrev mutual
  pub Fits : ℕ → ExprSyntax → Type 0
  Fits n (OfConstant p c) = Unit {0}
  Fits n (OfColumn p a q r c) = Unit {0}
  Fits n (OfParens p e q) = Fits 1 e
  Fits n (OfMinus p e) = (n ≤ 7) × Fits 7 e
  Fits n (OfNot p e) = (n ≤ 3) × Fits 3 e
  Fits n (OfNotExists p e o q c) = (n ≤ 3) × QueryFits q
  Fits n (OfCase p w t h y e m z) = Fits 1 t × Fits 1 y × Fits 1 m
  Fits n (OfBinary l p op r) = (n ≤ level op) × Fits (left_level op) l × Fits (suc (level op)) r
  Fits n (OfScalar h f w z) = ScalarFits h × KeepFits w

  pub ScalarFits : ScalarSyntax → Type 0
  ScalarFits (Counted c) = Unit {0}
  ScalarFits (Summed h e v) = Fits 1 e

  pub QueryFits : QuerySyntax → Type 0
  QueryFits (OneSelect s) = ChoiceFits s
  QueryFits (MoreSelects q u a s) = QueryFits q × ChoiceFits s

  pub ChoiceFits : SelectSyntax → Type 0
  ChoiceFits (OfSelect i f w) = ItemsFit i × KeepFits w

  pub KeepFits : KeepSyntax → Type 0
  KeepFits NoWhere = Unit {0}
  KeepFits (HasWhere p e) = Fits 1 e

  pub ItemsFit : ItemsSyntax → Type 0
  ItemsFit (OneItem p i) = ItemFits i
  ItemsFit (MoreItems is c i) = ItemsFit is × ItemFits i

  pub ItemFits : ItemSyntax → Type 0
  ItemFits (OfItem h a p n) = HeldFits h

  pub HeldFits : ValueSyntax → Type 0
  HeldFits (Plain e) = Fits 1 e
  HeldFits (Numbering r ks q) = KeysFit ks

  pub KeysFit : KeysSyntax → Type 0
  KeysFit NoKeys = Unit {0}
  KeysFit (HasKeys ks) = KeyListFits ks

  pub KeyListFits : KeyListSyntax → Type 0
  KeyListFits (OneKey o b e) = Fits 1 e
  KeyListFits (MoreKeys ks c e) = KeyListFits ks × Fits 1 e

abbrev pub DefFits : WithSyntax → Type 0
DefFits (OfWith p n a o q c) = QueryFits q

abbrev pub DefsFit : WithListSyntax → Type 0
DefsFit (OneDef p d) = DefFits d
DefsFit (MoreDefs ds c d) = DefsFit ds × DefFits d

abbrev pub WithsFit : WithsSyntax → Type 0
WithsFit NoWith = Unit {0}
WithsFit (HasWith ds) = DefsFit ds

abbrev pub TextFits : TextSyntax → Type 0
TextFits (OfText w q s) = WithsFit w × QueryFits q

-- One more than the deepest direct part, of an expression, a SELECT and a query; parentheses count as one more.
abbrev mutual
  pub depth : ExprSyntax → ℕ
  depth (OfConstant p c) = 1
  depth (OfColumn p a q r c) = 1
  depth (OfParens p e q) = suc (depth e)
  depth (OfMinus p e) = suc (depth e)
  depth (OfNot p e) = suc (depth e)
  depth (OfNotExists p e o q c) = suc (suc (selects_depth q))
  depth (OfCase p w t h y e n z) = suc (max (depth t) (max (depth y) (depth n)))
  depth (OfBinary l p op r) = suc (max (depth l) (depth r))
  depth (OfScalar h f w z) = suc (max (scalar_depth h) (keep_depth w))

  pub scalar_depth : ScalarSyntax → ℕ
  scalar_depth (Counted c) = 0
  scalar_depth (Summed h e v) = depth e

  -- of the deepest SELECT; the query's own depth is one more
  pub selects_depth : QuerySyntax → ℕ
  selects_depth (OneSelect s) = choice_depth s
  selects_depth (MoreSelects q u a s) = max (selects_depth q) (choice_depth s)

  pub choice_depth : SelectSyntax → ℕ
  choice_depth (OfSelect i f w) = suc (max (items_depth i) (keep_depth w))

  -- of the deepest expression, 0 where there is none
  pub keep_depth : KeepSyntax → ℕ
  keep_depth NoWhere = 0
  keep_depth (HasWhere p e) = depth e

  pub items_depth : ItemsSyntax → ℕ
  items_depth (OneItem p i) = item_depth i
  items_depth (MoreItems is c i) = max (items_depth is) (item_depth i)

  pub item_depth : ItemSyntax → ℕ
  item_depth (OfItem h a p n) = held_depth h

  pub held_depth : ValueSyntax → ℕ
  held_depth (Plain e) = depth e
  held_depth (Numbering r ks q) = keys_depth ks

  pub keys_depth : KeysSyntax → ℕ
  keys_depth NoKeys = 0
  keys_depth (HasKeys ks) = key_list_depth ks

  pub key_list_depth : KeyListSyntax → ℕ
  key_list_depth (OneKey o b e) = depth e
  key_list_depth (MoreKeys ks c e) = max (key_list_depth ks) (depth e)

abbrev pub def_depth : WithSyntax → ℕ
def_depth (OfWith p n a o q c) = suc (selects_depth q)

abbrev pub defs_depth : WithListSyntax → ℕ
defs_depth (OneDef p d) = def_depth d
defs_depth (MoreDefs ds c d) = max (defs_depth ds) (def_depth d)

abbrev pub withs_depth : WithsSyntax → ℕ
withs_depth NoWith = 0
withs_depth (HasWith ds) = defs_depth ds

-- A text is as deep as its deepest query.
abbrev pub text_depth : TextSyntax → ℕ
text_depth (OfText w q s) = max (withs_depth w) (suc (selects_depth q))

-- the tokens are those of the syntax tree, and then the end
abbrev pub IsText : Edition → List Token → TextSyntax → Type 0
IsText edition ts s = TextFits s × (q : ℕ) × (ts ≡ text_tokens s (End q ∷ []))

-- the tokens are a whole text of depth at most d
abbrev pub IsSpelled : Edition → ℕ → List Token → Type 0
IsSpelled edition d ts = (s : TextSyntax) × IsText edition ts s × (text_depth s ≤ d)

-- The tree that a syntax tree stands for: no parentheses, and the places that faults are told by. A constant and
-- a column have the place of their first token, and a source that of its table's name.
abbrev pub constant_at : ℕ → Constant → PlacedExpr
constant_at p (Number n digits) = int_at p (pos n)
constant_at p (Literal t) = text_at p (unquoted t)
constant_at p (Truth b) = bool_at p b

abbrev pub first_place : ItemsSyntax → ℕ
first_place (OneItem p i) = p
first_place (MoreItems is c i) = first_place is

abbrev pub source_of : SourceSyntax → Source
source_of (OfSource p t a q n) = record { table = t; alias = n; place = p }

abbrev pub sources_of : SourcesSyntax → List Source → List Source
sources_of (OneSource f s) rest = source_of s ∷ rest
sources_of (MoreSources ss c s) rest = sources_of ss (source_of s ∷ rest)

abbrev pub from_of : FromSyntax → List Source
from_of NoFrom = []
from_of (HasFrom ss) = sources_of ss []

-- lists grow to the right in syntax trees: what follows is handed on
abbrev mutual
  pub expr_of : ExprSyntax → PlacedExpr
  expr_of (OfConstant p c) = constant_at p c
  expr_of (OfColumn p a q r c) = column_at p a c
  expr_of (OfParens p e q) = expr_of e
  expr_of (OfMinus p e) = unary_at p one_operand.Minus (expr_of e)
  expr_of (OfNot p e) = unary_at p one_operand.Not (expr_of e)
  expr_of (OfNotExists p e o q c) = not_exists_at p (selects_of q no_select_at)
  expr_of (OfScalar (Counted (OfCount p s c o t z)) f w y) = total_at p HowMany (from_of f) (keep_of w) (int_at p (pos 1))
  expr_of (OfScalar (Summed (OfSum p s c o u v) e t) f w y) = total_at p SumOf (from_of f) (keep_of w) (expr_of e)
  expr_of (OfCase p w t h y e n z) = choose_at p (expr_of t) (expr_of y) (expr_of n)
  expr_of (OfBinary l p op r) = binary_at p op (expr_of l) (expr_of r)

  pub selects_of : QuerySyntax → PlacedQuery → PlacedQuery
  selects_of (OneSelect s) rest = then_select_at (select_of s) rest
  selects_of (MoreSelects q u a s) rest = selects_of q (then_select_at (select_of s) rest)

  pub select_of : SelectSyntax → PlacedSelect
  select_of (OfSelect i f w) = select_at (first_place i) (items_of i no_item_at) (from_of f) (keep_of w)

  pub keep_of : KeepSyntax → PlacedKeep
  keep_of NoWhere = keep_all_at
  keep_of (HasWhere p e) = keep_if_at (expr_of e)

  pub items_of : ItemsSyntax → PlacedItems → PlacedItems
  items_of (OneItem p (OfItem v a q n)) rest = then_item_at (item_at q n (value_of v)) rest
  items_of (MoreItems is c (OfItem v a q n)) rest = items_of is (then_item_at (item_at q n (value_of v)) rest)

  pub value_of : ValueSyntax → PlacedValue
  value_of (Plain e) = plain_at (expr_of e)
  value_of (Numbering r ks q) = number_at (keys_of ks)

  pub keys_of : KeysSyntax → PlacedExprs
  keys_of NoKeys = none_at
  keys_of (HasKeys ks) = key_list_of ks none_at

  pub key_list_of : KeyListSyntax → PlacedExprs → PlacedExprs
  key_list_of (OneKey o b e) rest = then_at (expr_of e) rest
  key_list_of (MoreKeys ks c e) rest = key_list_of ks (then_at (expr_of e) rest)

abbrev pub with_of : WithSyntax → PlacedWith
with_of (OfWith p n a o q c) = record { name = n; place = p; query = selects_of q no_select_at }

abbrev pub with_list_of : WithListSyntax → List PlacedWith → List PlacedWith
with_list_of (OneDef w d) rest = with_of d ∷ rest
with_list_of (MoreDefs ds k d) rest = with_list_of ds (with_of d ∷ rest)

abbrev pub withs_of : WithsSyntax → List PlacedWith
withs_of NoWith = []
withs_of (HasWith ds) = with_list_of ds []

abbrev pub tree_of : TextSyntax → PlacedSql
tree_of (OfText w q s) = record { withs = withs_of w; main = selects_of q no_select_at }
