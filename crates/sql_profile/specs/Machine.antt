-- Reading token by token, with a stack of unfinished forms.
use Rattle.std.specs.Prelude.{ℕ, zero, suc, Bool, cond, leb, List, codes, Option, Some, None}
use Rattle.nq_model.specs.declared.term.Binary.{Binary}
use Rattle.nq_model.specs.declared.term.Binary.TheVariants.{Sub, Mul}
use Rattle.sql_profile.specs.Tokens.{With, As, Union, All, Select, From, Where, RowNumber, Over, Order, By, Not, Exists, Case, When, Then, Else, Stop, Count, Sum, Coalesce, Number, Token, Value, Name, Key, Oper, Open, Close, Comma, Dot, Semi, End}
use Rattle.sql_profile.specs.Grammar.{SourceSyntax, OfSource, SourcesSyntax, OneSource, MoreSources, FromSyntax, NoFrom, HasFrom, NumberingHead, OfRowNumber, ExprSyntax, OfConstant, OfColumn, OfParens, OfMinus, OfNot, OfNotExists, OfCase, OfBinary, OfScalar, ScalarSyntax, Counted, Summed, OfCount, SumHead, OfSum, SumTail, OfTail, QuerySyntax, OneSelect, MoreSelects, SelectSyntax, OfSelect, NoWhere, HasWhere, ItemsSyntax, OneItem, MoreItems, ItemSyntax, OfItem, ValueSyntax, Plain, Numbering, NoKeys, HasKeys, KeyListSyntax, OneKey, MoreKeys, WithSyntax, OfWith, WithListSyntax, OneDef, MoreDefs, WithsSyntax, NoWith, HasWith, NoSemi, HasSemi, TextSyntax, OfText, level, left_level, text_depth}
use Rattle.nq_model.specs.Machines as machines
use Rattle.nq_model.specs.Machines.{Outcome}

-- What stands before the next part of a list: its opening tokens, or the parts so far and the separator.
pub data Before : Type 0 where
  Fresh : Before
  Behind : QuerySyntax → ℕ → ℕ → Before

pub data ItemHead : Type 0 where
  AtSelect : ℕ → ItemHead
  AtComma : ItemsSyntax → ℕ → ItemHead

pub data KeyHead : Type 0 where
  AtBy : ℕ → ℕ → KeyHead
  KeyComma : KeyListSyntax → ℕ → KeyHead

pub data SourceHead : Type 0 where
  AtFrom : ℕ → SourceHead
  SourceComma : SourcesSyntax → ℕ → SourceHead

pub data DefHead : Type 0 where
  AtWith : ℕ → DefHead
  DefComma : WithListSyntax → ℕ → DefHead

abbrev pub put_select : Before → SelectSyntax → QuerySyntax
put_select Fresh s = OneSelect s
put_select (Behind q u a) s = MoreSelects q u a s

abbrev pub put_item : ItemHead → ItemSyntax → ItemsSyntax
put_item (AtSelect p) i = OneItem p i
put_item (AtComma is c) i = MoreItems is c i

abbrev pub put_key : KeyHead → ExprSyntax → KeyListSyntax
put_key (AtBy o b) e = OneKey o b e
put_key (KeyComma ks c) e = MoreKeys ks c e

abbrev pub put_source : SourceHead → SourceSyntax → SourcesSyntax
put_source (AtFrom p) s = OneSource p s
put_source (SourceComma ss c) s = MoreSources ss c s

abbrev pub put_def : DefHead → WithSyntax → WithListSyntax
put_def (AtWith p) d = OneDef p d
put_def (DefComma ds c) d = MoreDefs ds c d

-- The unfinished forms round an expression, innermost first, and those round a query.
mutual
  pub data Around : Type 0 where
    InParen : ℕ → Around → Around
    InNeg : ℕ → Around → Around
    InNot : ℕ → Around → Around
    InWhen : ℕ → ℕ → Around → Around
    InThen : ℕ → ℕ → ExprSyntax → ℕ → Around → Around
    InElse : ℕ → ℕ → ExprSyntax → ℕ → ExprSyntax → ℕ → Around → Around
    InRight : ExprSyntax → ℕ → Binary → Around → Around
    InItem : ItemHead → Before → Outside → Around
    InKey : KeyHead → NumberingHead → ItemHead → Before → Outside → Around
    InWhere : ℕ → ItemsSyntax → FromSyntax → Before → Outside → Around
    InSum : SumHead → Around → Around
    InScalarWhere : ℕ → ScalarSyntax → FromSyntax → Around → Around

  pub data Outside : Type 0 where
    InMain : WithsSyntax → Outside
    InDef : DefHead → ℕ → List ℕ → ℕ → ℕ → Outside
    InExists : ℕ → ℕ → ℕ → Around → Outside

pub data State : Type 0 where
  AtDef : DefHead → State
  AtDefName : DefHead → ℕ → List ℕ → State
  AtDefAs : DefHead → ℕ → List ℕ → ℕ → State
  WantSelect : Before → Outside → State
  AtUnion : QuerySyntax → ℕ → Outside → State
  Want : Around → State
  AtName : ℕ → List ℕ → Around → State
  AtDot : ℕ → List ℕ → ℕ → Around → State
  AtCase : ℕ → Around → State
  AtExists : ℕ → ℕ → Around → State
  Have : ExprSyntax → Around → State
  AtRow : ℕ → ItemHead → Before → Outside → State
  AtRowOpen : ℕ → ℕ → ItemHead → Before → Outside → State
  AtRowClose : ℕ → ℕ → ℕ → ItemHead → Before → Outside → State
  AtOver : ℕ → ℕ → ℕ → ℕ → ItemHead → Before → Outside → State
  InOver : NumberingHead → ItemHead → Before → Outside → State
  AtOrder : ℕ → NumberingHead → ItemHead → Before → Outside → State
  AtHeld : ValueSyntax → ItemHead → Before → Outside → State
  AtAs : ValueSyntax → ℕ → ItemHead → Before → Outside → State
  HaveItems : ItemsSyntax → FromSyntax → Before → Outside → State
  AtSource : SourceHead → ItemsSyntax → Before → Outside → State
  AtSourceName : SourceHead → ℕ → List ℕ → ItemsSyntax → Before → Outside → State
  AtSourceAs : SourceHead → ℕ → List ℕ → ℕ → ItemsSyntax → Before → Outside → State
  AtSemi : WithsSyntax → QuerySyntax → ℕ → State
  AtScalar : ℕ → ℕ → Around → State
  AtCount : ℕ → ℕ → ℕ → Around → State
  AtCountOpen : ℕ → ℕ → ℕ → ℕ → Around → State
  AtCountStar : ℕ → ℕ → ℕ → ℕ → ℕ → Around → State
  AtCoalesce : ℕ → ℕ → ℕ → Around → State
  AtCoalesceOpen : ℕ → ℕ → ℕ → ℕ → Around → State
  AtSum : ℕ → ℕ → ℕ → ℕ → ℕ → Around → State
  AtSumClose : SumHead → ExprSyntax → ℕ → Around → State
  AtSumComma : SumHead → ExprSyntax → ℕ → ℕ → Around → State
  AtSumZero : SumHead → ExprSyntax → ℕ → ℕ → ℕ → Around → State
  HaveScalar : ScalarSyntax → FromSyntax → Around → State
  AtScalarSource : SourceHead → ScalarSyntax → Around → State
  AtScalarSourceName : SourceHead → ℕ → List ℕ → ScalarSyntax → Around → State
  AtScalarSourceAs : SourceHead → ℕ → List ℕ → ℕ → ScalarSyntax → Around → State
  Ready : TextSyntax → ℕ → State

abbrev pub start_state : State
start_state = WantSelect Fresh (InMain NoWith)

-- the level that the next expression has to have
abbrev pub asks : Around → ℕ
asks (InRight l p op k) = suc (level op)
asks (InNeg p k) = 7
asks (InNot p k) = 3
asks _ = 1

-- how strongly a token takes what stands before it, 0 where it takes nothing
abbrev pub binds : Token → ℕ
binds (Oper p op) = level op
binds _ = 0

abbrev pub level_of : ExprSyntax → ℕ
level_of (OfBinary l p op r) = level op
level_of (OfNot p e) = 3
level_of (OfNotExists p e o q c) = 3
level_of (OfMinus p e) = 7
level_of _ = 8

-- behind a whole query
abbrev pub after_query : Outside → QuerySyntax → Token → Option State
after_query c q (Key u Union) = Some (AtUnion q u c)
after_query (InExists n e o k) q (Close c) = Some (Have (OfNotExists n e o q c) k)
after_query (InDef h p n a o) q (Close c) = Some (WantSelect Fresh (InMain (HasWith (put_def h (OfWith p n a o q c)))))
after_query (InMain w) q (Semi p) = Some (AtSemi w q p)
after_query (InMain w) q (End p) = Some (Ready (OfText w q NoSemi) p)
after_query _ q _ = None

-- behind the order keys so far
abbrev pub after_key : KeyListSyntax → NumberingHead → ItemHead → Before → Outside → Token → Option State
after_key ks r h b c (Comma p) = Some (Want (InKey (KeyComma ks p) r h b c))
after_key ks r h b c (Close q) = Some (AtHeld (Numbering r (HasKeys ks) q) h b c)
after_key ks r h b c _ = None

-- a token behind an expression that no form around takes for whole
abbrev pub shift : Around → ExprSyntax → Token → Option State
shift k s (Oper p op) = cond (leb (left_level op) (level_of s)) (Some (Want (InRight s p op k))) None
shift (InParen p k) s (Close q) = Some (Have (OfParens p s q) k)
shift (InWhen p w k) s (Key h Then) = Some (Want (InThen p w s h k))
shift (InThen p w t h k) s (Key e Else) = Some (Want (InElse p w t h s e k))
shift (InElse p w t h y e k) s (Key z Stop) = Some (Have (OfCase p w t h y e s z) k)
shift (InSum h k) s (Close z) = Some (AtSumClose h s z k)
shift (InScalarWhere p h f k) s (Close z) = Some (Have (OfScalar h f (HasWhere p s) z) k)
shift (InItem h b c) s (Key a As) = Some (AtAs (Plain s) a h b c)
shift (InKey h r i b c) s t = after_key (put_key h s) r i b c t
shift (InWhere p i f b c) s t = after_query c (put_select b (OfSelect i f (HasWhere p s))) t
shift _ s _ = None

-- a token behind a whole expression: forms that are open to the right end before it
abbrev pub after : Around → ExprSyntax → Token → Option State
after (InNeg p k) s t = after k (OfMinus p s) t
after (InNot p k) s t = cond (leb (binds t) 2) (after k (OfNot p s) t) (shift (InNot p k) s t)
after (InRight l p op k) s t = cond (leb (binds t) (level op)) (after k (OfBinary l p op s) t) (shift (InRight l p op k) s t)
after k s t = shift k s t

abbrev pub start : Around → Token → Option State
start k (Value p c) = Some (Have (OfConstant p c) k)
start k (Name p n) = Some (AtName p n k)
start k (Open p) = Some (Want (InParen p k))
start k (Oper p Sub) = Some (Want (InNeg p k))
start k (Key p Case) = Some (AtCase p k)
start k (Key p Not) = cond (leb (asks k) 3) (Some (Want (InNot p k))) None
start (InNot p k) (Key e Exists) = Some (AtExists p e k)
start (InParen p k) (Key s Select) = Some (AtScalar p s k)
start (InItem h b c) (Key r RowNumber) = Some (AtRow r h b c)
start _ _ = None

abbrev pub start_select : Before → Outside → Token → Option State
start_select b c (Key p Select) = Some (Want (InItem (AtSelect p) b c))
start_select Fresh (InMain NoWith) (Key p With) = Some (AtDef (AtWith p))
start_select Fresh (InMain (HasWith ds)) (Comma p) = Some (AtDef (DefComma ds p))
start_select _ _ _ = None

abbrev pub after_items : ItemsSyntax → FromSyntax → Before → Outside → Token → Option State
after_items i f b c (Key p Where) = Some (Want (InWhere p i f b c))
after_items i NoFrom b c (Comma p) = Some (Want (InItem (AtComma i p) b c))
after_items i NoFrom b c (Key p From) = Some (AtSource (AtFrom p) i b c)
after_items i (HasFrom ss) b c (Comma p) = Some (AtSource (SourceComma ss p) i b c)
after_items i f b c t = after_query c (put_select b (OfSelect i f NoWhere)) t

abbrev pub after_scalar : ScalarSyntax → FromSyntax → Around → Token → Option State
after_scalar h f k (Key p Where) = Some (Want (InScalarWhere p h f k))
after_scalar h f k (Close z) = Some (Have (OfScalar h f NoWhere z) k)
after_scalar h NoFrom k (Key p From) = Some (AtScalarSource (AtFrom p) h k)
after_scalar h (HasFrom ss) k (Comma p) = Some (AtScalarSource (SourceComma ss p) h k)
after_scalar h f k t = None

abbrev pub step : State → Token → Option State
step (AtDef h) (Name p n) = Some (AtDefName h p n)
step (AtDefName h p n) (Key a As) = Some (AtDefAs h p n a)
step (AtDefAs h p n a) (Open o) = Some (WantSelect Fresh (InDef h p n a o))
step (WantSelect b c) t = start_select b c t
step (AtUnion q u c) (Key a All) = Some (WantSelect (Behind q u a) c)
step (Want k) t = start k t
step (AtName p n k) (Dot q) = Some (AtDot p n q k)
step (AtDot p n q k) (Name r c) = Some (Have (OfColumn p n q r c) k)
step (AtCase p k) (Key w When) = Some (Want (InWhen p w k))
step (AtExists n e k) (Open o) = Some (WantSelect Fresh (InExists n e o k))
step (Have s k) t = after k s t
step (AtRow r h b c) (Open o) = Some (AtRowOpen r o h b c)
step (AtRowOpen r o h b c) (Close x) = Some (AtRowClose r o x h b c)
step (AtRowClose r o x h b c) (Key v Over) = Some (AtOver r o x v h b c)
step (AtOver r o x v h b c) (Open q) = Some (InOver (OfRowNumber r o x v q) h b c)
step (InOver r h b c) (Close q) = Some (AtHeld (Numbering r NoKeys q) h b c)
step (InOver r h b c) (Key o Order) = Some (AtOrder o r h b c)
step (AtOrder o r h b c) (Key y By) = Some (Want (InKey (AtBy o y) r h b c))
step (AtHeld v h b c) (Key a As) = Some (AtAs v a h b c)
step (AtAs v a h b c) (Name p n) = Some (HaveItems (put_item h (OfItem v a p n)) NoFrom b c)
step (HaveItems i f b c) t = after_items i f b c t
step (AtSource h i b c) (Name p t) = Some (AtSourceName h p t i b c)
step (AtSourceName h p t i b c) (Key a As) = Some (AtSourceAs h p t a i b c)
step (AtSourceAs h p t a i b c) (Name q n) = Some (HaveItems i (HasFrom (put_source h (OfSource p t a q n))) b c)
step (AtScalar p s k) (Key c Count) = Some (AtCount p s c k)
step (AtScalar p s k) (Key c Coalesce) = Some (AtCoalesce p s c k)
step (AtCount p s c k) (Open o) = Some (AtCountOpen p s c o k)
step (AtCountOpen p s c o k) (Oper t Mul) = Some (AtCountStar p s c o t k)
step (AtCountStar p s c o t k) (Close z) = Some (HaveScalar (Counted (OfCount p s c o t z)) NoFrom k)
step (AtCoalesce p s c k) (Open o) = Some (AtCoalesceOpen p s c o k)
step (AtCoalesceOpen p s c o k) (Key u Sum) = Some (AtSum p s c o u k)
step (AtSum p s c o u k) (Open v) = Some (Want (InSum (OfSum p s c o u v) k))
step (AtSumClose h e z k) (Comma c) = Some (AtSumComma h e z c k)
step (AtSumComma h e z c k) (Value q (Number zero (suc zero))) = Some (AtSumZero h e z c q k)
step (AtSumZero h e z c q k) (Close r) = Some (HaveScalar (Summed h e (OfTail z c q r)) NoFrom k)
step (HaveScalar h f k) t = after_scalar h f k t
step (AtScalarSource i h k) (Name p t) = Some (AtScalarSourceName i p t h k)
step (AtScalarSourceName i p t h k) (Key a As) = Some (AtScalarSourceAs i p t a h k)
step (AtScalarSourceAs i p t a h k) (Name q n) = Some (HaveScalar h (HasFrom (put_source i (OfSource p t a q n))) k)
step (AtSemi w q p) (End e) = Some (Ready (OfText w q (HasSemi p)) e)
step _ _ = None

-- The least filling: an expression is filled by `1`, a name by `"n"`, an item by a numbering.
abbrev pub one : ExprSyntax
one = OfConstant 0 (Number 1 1)

abbrev pub some_name : List ℕ
some_name = codes "n"

abbrev pub named : ValueSyntax → ItemSyntax
named v = OfItem v 0 0 some_name

abbrev pub numbering : ValueSyntax
numbering = Numbering (OfRowNumber 0 0 0 0 0) NoKeys 0

abbrev pub some_select : SelectSyntax
some_select = OfSelect (OneItem 0 (named numbering)) NoFrom NoWhere

abbrev pub some_query : QuerySyntax
some_query = OneSelect some_select

abbrev pub counted : ℕ → ℕ → ℕ → ℕ → ℕ → ℕ → ScalarSyntax
counted p s c o t z = Counted (OfCount p s c o t z)

abbrev pub some_tail : SumTail
some_tail = OfTail 0 0 0 0

abbrev mutual
  pub close : Around → ExprSyntax → TextSyntax
  close (InParen p k) s = close k (OfParens p s 0)
  close (InNeg p k) s = close k (OfMinus p s)
  close (InNot p k) s = close k (OfNot p s)
  close (InWhen p w k) s = close k (OfCase p w s 0 one 0 one 0)
  close (InThen p w t h k) s = close k (OfCase p w t h s 0 one 0)
  close (InElse p w t h y e k) s = close k (OfCase p w t h y e s 0)
  close (InRight l p op k) s = close k (OfBinary l p op s)
  close (InItem h b c) s = close_query c (put_select b (OfSelect (put_item h (named (Plain s))) NoFrom NoWhere))
  close (InKey h r i b c) s = close_query c (put_select b (OfSelect (put_item i (named (Numbering r (HasKeys (put_key h s)) 0))) NoFrom NoWhere))
  close (InWhere p i f b c) s = close_query c (put_select b (OfSelect i f (HasWhere p s)))
  close (InSum h k) s = close k (OfScalar (Summed h s some_tail) NoFrom NoWhere 0)
  close (InScalarWhere p h f k) s = close k (OfScalar h f (HasWhere p s) 0)

  pub close_query : Outside → QuerySyntax → TextSyntax
  close_query (InMain w) q = OfText w q NoSemi
  close_query (InDef h p n a o) q = OfText (HasWith (put_def h (OfWith p n a o q 0))) some_query NoSemi
  close_query (InExists n e o k) q = close k (OfNotExists n e o q 0)

abbrev pub close_items : ItemsSyntax → FromSyntax → Before → Outside → TextSyntax
close_items i f b c = close_query c (put_select b (OfSelect i f NoWhere))

abbrev pub close_held : ValueSyntax → ItemHead → Before → Outside → TextSyntax
close_held v h b c = close_items (put_item h (named v)) NoFrom b c

abbrev pub close_row : NumberingHead → ItemHead → Before → Outside → TextSyntax
close_row r h b c = close_held (Numbering r NoKeys 0) h b c

abbrev pub close_scalar : ScalarSyntax → FromSyntax → Around → TextSyntax
close_scalar h f k = close k (OfScalar h f NoWhere 0)

-- behind SELECT or a comma a numbering is less than an expression
abbrev pub close_want : Around → TextSyntax
close_want (InItem h b c) = close_held numbering h b c
close_want (InParen p k) = close_scalar (counted p 0 0 0 0 0) NoFrom k
close_want k = close k one

-- the least text that begins with what was read
abbrev pub least : State → TextSyntax
least (AtDef h) = OfText (HasWith (put_def h (OfWith 0 some_name 0 0 some_query 0))) some_query NoSemi
least (AtDefName h p n) = OfText (HasWith (put_def h (OfWith p n 0 0 some_query 0))) some_query NoSemi
least (AtDefAs h p n a) = OfText (HasWith (put_def h (OfWith p n a 0 some_query 0))) some_query NoSemi
least (WantSelect b c) = close_query c (put_select b some_select)
least (AtUnion q u c) = close_query c (MoreSelects q u 0 some_select)
least (Want k) = close_want k
least (AtName p n k) = close k (OfColumn p n 0 0 some_name)
least (AtDot p n q k) = close k (OfColumn p n q 0 some_name)
least (AtCase p k) = close k (OfCase p 0 one 0 one 0 one 0)
least (AtExists n e k) = close k (OfNotExists n e 0 some_query 0)
least (Have s k) = close k s
least (AtRow r h b c) = close_row (OfRowNumber r 0 0 0 0) h b c
least (AtRowOpen r o h b c) = close_row (OfRowNumber r o 0 0 0) h b c
least (AtRowClose r o x h b c) = close_row (OfRowNumber r o x 0 0) h b c
least (AtOver r o x v h b c) = close_row (OfRowNumber r o x v 0) h b c
least (InOver r h b c) = close_row r h b c
least (AtOrder o r h b c) = close_held (Numbering r (HasKeys (OneKey o 0 one)) 0) h b c
least (AtHeld v h b c) = close_held v h b c
least (AtAs v a h b c) = close_items (put_item h (OfItem v a 0 some_name)) NoFrom b c
least (HaveItems i f b c) = close_items i f b c
least (AtSource h i b c) = close_items i (HasFrom (put_source h (OfSource 0 some_name 0 0 some_name))) b c
least (AtSourceName h p t i b c) = close_items i (HasFrom (put_source h (OfSource p t 0 0 some_name))) b c
least (AtSourceAs h p t a i b c) = close_items i (HasFrom (put_source h (OfSource p t a 0 some_name))) b c
least (AtSemi w q p) = OfText w q (HasSemi p)
least (AtScalar p s k) = close_scalar (counted p s 0 0 0 0) NoFrom k
least (AtCount p s c k) = close_scalar (counted p s c 0 0 0) NoFrom k
least (AtCountOpen p s c o k) = close_scalar (counted p s c o 0 0) NoFrom k
least (AtCountStar p s c o t k) = close_scalar (counted p s c o t 0) NoFrom k
least (AtCoalesce p s c k) = close_scalar (Summed (OfSum p s c 0 0 0) one some_tail) NoFrom k
least (AtCoalesceOpen p s c o k) = close_scalar (Summed (OfSum p s c o 0 0) one some_tail) NoFrom k
least (AtSum p s c o u k) = close_scalar (Summed (OfSum p s c o u 0) one some_tail) NoFrom k
least (AtSumClose h e z k) = close_scalar (Summed h e (OfTail z 0 0 0)) NoFrom k
least (AtSumComma h e z c k) = close_scalar (Summed h e (OfTail z c 0 0)) NoFrom k
least (AtSumZero h e z c q k) = close_scalar (Summed h e (OfTail z c q 0)) NoFrom k
least (HaveScalar h f k) = close_scalar h f k
least (AtScalarSource i h k) = close_scalar h (HasFrom (put_source i (OfSource 0 some_name 0 0 some_name))) k
least (AtScalarSourceName i p t h k) = close_scalar h (HasFrom (put_source i (OfSource p t 0 0 some_name))) k
least (AtScalarSourceAs i p t a h k) = close_scalar h (HasFrom (put_source i (OfSource p t a 0 some_name))) k
least (Ready s q) = s

abbrev pub fits : ℕ → State → Bool
fits d st = leb (text_depth (least st)) d

abbrev pub turn : ℕ → Token → Option State → (State → Outcome Token State) → Outcome Token State
turn d t o go = machines.turn Token State step fits d t o go

abbrev pub run : ℕ → List Token → State → Outcome Token State
run d ts st = machines.run Token State step fits d ts st
