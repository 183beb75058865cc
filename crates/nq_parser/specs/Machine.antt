-- Reading a query token by token, with a stack of unfinished forms.
use Rattle.std.specs.Prelude.{ℕ, suc, Bool, false, cond, ◌&&◌, leb, List, [], ◌∷◌, codes, Option, Some, None}
use Rattle.nq_model.specs.QueryTokens.{Operator, Of, Opening, Closing, OpeningBag, ClosingBag, Comma, Colon, Semicolon, Dot, Assign, From, Arrow, Bang, Token, Word, Value, Oper, Sign, End}
use Rattle.nq_model.specs.QueryGrammar.{Edition, Kind, IsFor, IsWhere, IsIf, IsThen, IsElse, IsFun, IsLet, IsTable, IsAggregate, IsTruth, IsBase, IsName, kind, TypeSyntax, TBase, TBag, TParen, TNoFields, TRec, TFun, TypeFields, TOne, TMore, Syntax, Const, Truth, Var, Table, Aggregated, Paren, NoFields, Rec, Bag, Nil, For, Where, If, Fun, Let, Prefix, Infix, Apply, Field, Fields, One, More, level, left_level, depth, deepest}
use Rattle.nq_model.specs.Terms.{Aggregate}
use Rattle.nq_model.specs.declared.term.Unary.{Unary as UnaryOp}
use Rattle.nq_model.specs.declared.term.Unary.TheVariants.{Minus, Not}
use Rattle.nq_model.specs.declared.term.Binary.TheVariants.{Sub}
use Rattle.nq_model.specs.declared.table.ColumnType.TheVariants as column
use Rattle.nq_model.specs.Machines as machines
use Rattle.nq_model.specs.Machines.{Outcome}

-- what stands before the next field: the `(`, or the fields so far and a comma
pub data FieldHead : Type 0 where
  AtFirst : ℕ → FieldHead
  AtNext : Fields → ℕ → FieldHead

pub data TypeHead : Type 0 where
  TAtFirst : ℕ → TypeHead
  TAtNext : TypeFields → ℕ → TypeHead

abbrev pub put_field : FieldHead → ℕ → List ℕ → ℕ → Syntax → Fields
put_field (AtFirst p) v l a e = One p v l a e
put_field (AtNext fs c) v l a e = More fs c v l a e

abbrev pub put_type : TypeHead → ℕ → List ℕ → ℕ → TypeSyntax → TypeFields
put_type (TAtFirst p) v l c t = TOne p v l c t
put_type (TAtNext fs q) v l c t = TMore fs q v l c t

-- a form that waits for an expression
pub data Frame : Type 0 where
  InParen : ℕ → Frame
  InBag : ℕ → Frame
  InAggregate : Aggregate → ℕ → ℕ → Frame
  InSource : ℕ → ℕ → ℕ → List ℕ → ℕ → Frame
  InBody : ℕ → ℕ → ℕ → List ℕ → ℕ → Syntax → ℕ → Frame
  InTest : ℕ → ℕ → Frame
  InGuarded : ℕ → ℕ → Syntax → ℕ → Frame
  InIf : ℕ → Frame
  InThen : ℕ → Syntax → ℕ → Frame
  InElse : ℕ → Syntax → ℕ → Syntax → ℕ → Frame
  InFunBody : ℕ → ℕ → ℕ → List ℕ → ℕ → TypeSyntax → ℕ → ℕ → Frame
  InValue : ℕ → ℕ → List ℕ → ℕ → Frame
  InLetBody : ℕ → ℕ → List ℕ → ℕ → Syntax → ℕ → Frame
  InPrefix : ℕ → UnaryOp → Frame
  InRight : Syntax → ℕ → Operator → Frame
  InArg : Syntax → ℕ → Frame
  InField : FieldHead → ℕ → List ℕ → ℕ → Frame

-- a form that waits for a type
pub data TypeFrame : Type 0 where
  TInBag : ℕ → TypeFrame
  TInParen : ℕ → TypeFrame
  TInRight : TypeSyntax → ℕ → TypeFrame
  TInField : TypeHead → ℕ → List ℕ → ℕ → TypeFrame

-- where a whole type stands: in an empty bag, or behind the variable of a function
pub data Around : Type 0 where
  InNil : ℕ → ℕ → Around
  InFun : ℕ → ℕ → ℕ → List ℕ → ℕ → Around

pub data State : Type 0 where
  Want : List Frame → State
  AtWord : ℕ → ℕ → List ℕ → List Frame → State
  AtTable : ℕ → List Frame → State
  AtAggregate : Aggregate → ℕ → List Frame → State
  AtFor : ℕ → List Frame → State
  AtForOpen : ℕ → ℕ → List Frame → State
  AtForName : ℕ → ℕ → ℕ → List ℕ → List Frame → State
  AtWhere : ℕ → List Frame → State
  AtFun : ℕ → List Frame → State
  AtFunOpen : ℕ → ℕ → List Frame → State
  AtFunName : ℕ → ℕ → ℕ → List ℕ → List Frame → State
  AtFunClose : ℕ → ℕ → ℕ → List ℕ → ℕ → TypeSyntax → ℕ → List Frame → State
  AtLet : ℕ → List Frame → State
  AtLetName : ℕ → ℕ → List ℕ → List Frame → State
  AtComma : Fields → ℕ → List Frame → State
  AtLabel : Fields → ℕ → ℕ → List ℕ → List Frame → State
  AtDot : Syntax → ℕ → List Frame → State
  WantType : List TypeFrame → Around → List Frame → State
  AtTypeWord : ℕ → ℕ → List ℕ → List TypeFrame → Around → List Frame → State
  AtTypeComma : TypeFields → ℕ → List TypeFrame → Around → List Frame → State
  AtTypeLabel : TypeFields → ℕ → ℕ → List ℕ → List TypeFrame → Around → List Frame → State
  HaveType : TypeSyntax → List TypeFrame → Around → List Frame → State
  Have : Syntax → List Frame → State
  Ready : Syntax → ℕ → State

-- before any token
abbrev pub start_state : State
start_state = Want []

-- the level that the next expression has to have
abbrev pub asks_of : Frame → ℕ
asks_of (InRight l p op) = suc (level op)
asks_of (InPrefix p u) = 8
asks_of (InLetBody p v y a m s) = 0
asks_of _ = 1

abbrev pub asks : List Frame → ℕ
asks [] = 0
asks (f ∷ k) = asks_of f

-- how strongly a token takes what stands before it, 0 where it takes nothing
abbrev pub binds : Token → ℕ
binds (Oper p op) = level op
binds (Sign p Opening) = 9
binds (Sign p Dot) = 9
binds _ = 0

abbrev pub level_of : Syntax → ℕ
level_of (Let p v y a m s n) = 0
level_of (For p o v y a m c n) = 1
level_of (Where p o t c n) = 1
level_of (If p t q y r n) = 1
level_of (Fun p o v y c t z a n) = 1
level_of (Infix l p op r) = level op
level_of (Prefix p u e) = 8
level_of (Apply f p a q) = 9
level_of (Field e p v l) = 9
level_of _ = 10

-- whether an unfinished form, which is open to the right, ends before the token
abbrev pub ends : Frame → Token → Bool
ends (InBody p o v y a m c) t = leb (binds t) 1
ends (InGuarded p o m c) t = leb (binds t) 1
ends (InElse p x q y r) t = leb (binds t) 1
ends (InFunBody p o v y c ty z a) t = leb (binds t) 1
ends (InLetBody p v y a m s) t = leb (binds t) 0
ends (InPrefix p u) t = leb (binds t) 7
ends (InRight l p op) t = leb (binds t) (level op)
ends _ t = false

-- the whole form that a form with its last part is
abbrev pub joined : Frame → Syntax → Syntax
joined (InBody p o v y a m c) n = For p o v y a m c n
joined (InGuarded p o t c) n = Where p o t c n
joined (InElse p t q y r) n = If p t q y r n
joined (InFunBody p o v y c t z a) n = Fun p o v y c t z a n
joined (InLetBody p v y a m s) n = Let p v y a m s n
joined (InPrefix p u) e = Prefix p u e
joined (InRight l p op) r = Infix l p op r
joined _ s = s

abbrev pub then_word : Kind → ℕ → Syntax → ℕ → List Frame → Option State
then_word IsThen p s q k = Some (Want (InThen p s q ∷ k))
then_word _ p s q k = None

abbrev pub else_word : Kind → ℕ → Syntax → ℕ → Syntax → ℕ → List Frame → Option State
else_word IsElse p t q s r k = Some (Want (InElse p t q s r ∷ k))
else_word _ p t q s r k = None

-- a token behind an expression that no form around takes for whole
abbrev pub shift : Edition → List Frame → Syntax → Token → Option State
shift ed k s (Oper p op) = cond (leb (left_level op) (level_of s)) (Some (Want (InRight s p op ∷ k))) None
shift ed k s (Sign p Opening) = cond (leb 9 (level_of s)) (Some (Want (InArg s p ∷ k))) None
shift ed k s (Sign p Dot) = cond (leb 9 (level_of s)) (Some (AtDot s p k)) None
shift ed (InParen p ∷ k) s (Sign q Closing) = Some (Have (Paren p s q) k)
shift ed (InBag p ∷ k) s (Sign q ClosingBag) = Some (Have (Bag p s q) k)
shift ed (InAggregate a p o ∷ k) s (Sign c Closing) = Some (Have (Aggregated a p o s c) k)
shift ed (InSource p o v y a ∷ k) s (Sign c Closing) = Some (Want (InBody p o v y a s c ∷ k))
shift ed (InTest p o ∷ k) s (Sign c Closing) = Some (Want (InGuarded p o s c ∷ k))
shift ed (InIf p ∷ k) s (Word q w) = then_word (kind ed w) p s q k
shift ed (InThen p t q ∷ k) s (Word r w) = else_word (kind ed w) p t q s r k
shift ed (InValue p v y a ∷ k) s (Sign q Semicolon) = Some (Want (InLetBody p v y a s q ∷ k))
shift ed (InArg f p ∷ k) s (Sign q Closing) = Some (Have (Apply f p s q) k)
shift ed (InField h v l a ∷ k) s (Sign q Closing) = Some (Have (Rec (put_field h v l a s) q) k)
shift ed (InField h v l a ∷ k) s (Sign c Comma) = Some (AtComma (put_field h v l a s) c k)
shift ed [] s (End q) = Some (Ready s q)
shift ed _ s _ = None

-- a token behind a whole expression: forms that are open to the right end before it
abbrev pub after : Edition → List Frame → Syntax → Token → Option State
after ed [] s t = shift ed [] s t
after ed (f ∷ k) s t = cond (ends f t) (after ed k (joined f s) t) (shift ed (f ∷ k) s t)

-- a word where an expression begins
abbrev pub begin_word : Kind → List Frame → ℕ → List ℕ → Option State
begin_word IsName k p w = Some (Have (Var p w) k)
begin_word (IsTruth b) k p w = Some (Have (Truth p b) k)
begin_word IsTable k p w = Some (AtTable p k)
begin_word (IsAggregate a) k p w = Some (AtAggregate a p k)
begin_word IsFor k p w = cond (leb (asks k) 1) (Some (AtFor p k)) None
begin_word IsWhere k p w = cond (leb (asks k) 1) (Some (AtWhere p k)) None
begin_word IsIf k p w = cond (leb (asks k) 1) (Some (Want (InIf p ∷ k))) None
begin_word IsFun k p w = cond (leb (asks k) 1) (Some (AtFun p k)) None
begin_word IsLet k p w = cond (leb (asks k) 0) (Some (AtLet p k)) None
begin_word _ k p w = None

-- behind `(` a word may be a label
abbrev pub start_word : Edition → List Frame → ℕ → List ℕ → Option State
start_word ed (InParen q ∷ k) p w = Some (AtWord q p w k)
start_word ed k p w = begin_word (kind ed w) k p w

abbrev pub start_prefix : List Frame → ℕ → UnaryOp → Option State
start_prefix k p u = cond (leb (asks k) 8) (Some (Want (InPrefix p u ∷ k))) None

-- a token where an expression begins
abbrev pub start : Edition → List Frame → Token → Option State
start ed k (Value p c) = Some (Have (Const p c) k)
start ed k (Word p w) = start_word ed k p w
start ed k (Oper p (Of Sub)) = start_prefix k p Minus
start ed k (Sign p Bang) = start_prefix k p Not
start ed k (Sign p Opening) = Some (Want (InParen p ∷ k))
start ed k (Sign p OpeningBag) = Some (Want (InBag p ∷ k))
start ed (InParen p ∷ k) (Sign q Closing) = Some (Have (NoFields p q) k)
start ed (InBag p ∷ k) (Sign c Colon) = Some (WantType [] (InNil p c) k)
start ed _ _ = None

abbrev pub at_table : ℕ → List Frame → Token → Option State
at_table p k (Word v l) = Some (Have (Table p v l) k)
at_table p k _ = None

abbrev pub at_aggregate : Aggregate → ℕ → List Frame → Token → Option State
at_aggregate a p k (Sign o Opening) = Some (Want (InAggregate a p o ∷ k))
at_aggregate a p k _ = None

abbrev pub at_for : ℕ → List Frame → Token → Option State
at_for p k (Sign o Opening) = Some (AtForOpen p o k)
at_for p k _ = None

abbrev pub at_where : ℕ → List Frame → Token → Option State
at_where p k (Sign o Opening) = Some (Want (InTest p o ∷ k))
at_where p k _ = None

abbrev pub at_fun : ℕ → List Frame → Token → Option State
at_fun p k (Sign o Opening) = Some (AtFunOpen p o k)
at_fun p k _ = None

-- `(` and a word that is no label, and the token behind it
abbrev pub no_label : Edition → Kind → ℕ → ℕ → List ℕ → List Frame → Token → Option State
no_label ed IsName p v w k t = after ed (InParen p ∷ k) (Var v w) t
no_label ed (IsTruth b) p v w k t = after ed (InParen p ∷ k) (Truth v b) t
no_label ed IsTable p v w k t = at_table v (InParen p ∷ k) t
no_label ed (IsAggregate a) p v w k t = at_aggregate a v (InParen p ∷ k) t
no_label ed IsFor p v w k t = at_for v (InParen p ∷ k) t
no_label ed IsWhere p v w k t = at_where v (InParen p ∷ k) t
no_label ed IsIf p v w k t = start ed (InIf v ∷ InParen p ∷ k) t
no_label ed IsFun p v w k t = at_fun v (InParen p ∷ k) t
no_label ed _ p v w k t = None

abbrev pub at_word : Edition → ℕ → ℕ → List ℕ → List Frame → Token → Option State
at_word ed p v w k (Sign a Assign) = Some (Want (InField (AtFirst p) v w a ∷ k))
at_word ed p v w k t = no_label ed (kind ed w) p v w k t

-- the state, where the word may be a variable
abbrev pub if_name : Kind → State → Option State
if_name IsName st = Some st
if_name _ st = None

abbrev pub at_for_open : Edition → ℕ → ℕ → List Frame → Token → Option State
at_for_open ed p o k (Word v y) = if_name (kind ed y) (AtForName p o v y k)
at_for_open ed p o k _ = None

abbrev pub at_for_name : ℕ → ℕ → ℕ → List ℕ → List Frame → Token → Option State
at_for_name p o v y k (Sign a From) = Some (Want (InSource p o v y a ∷ k))
at_for_name p o v y k _ = None

abbrev pub at_fun_open : Edition → ℕ → ℕ → List Frame → Token → Option State
at_fun_open ed p o k (Word v y) = if_name (kind ed y) (AtFunName p o v y k)
at_fun_open ed p o k _ = None

abbrev pub at_fun_name : ℕ → ℕ → ℕ → List ℕ → List Frame → Token → Option State
at_fun_name p o v y k (Sign c Colon) = Some (WantType [] (InFun p o v y c) k)
at_fun_name p o v y k _ = None

abbrev pub at_fun_close : ℕ → ℕ → ℕ → List ℕ → ℕ → TypeSyntax → ℕ → List Frame → Token → Option State
at_fun_close p o v y c t z k (Sign a Arrow) = Some (Want (InFunBody p o v y c t z a ∷ k))
at_fun_close p o v y c t z k _ = None

abbrev pub at_let : Edition → ℕ → List Frame → Token → Option State
at_let ed p k (Word v y) = if_name (kind ed y) (AtLetName p v y k)
at_let ed p k _ = None

abbrev pub at_let_name : ℕ → ℕ → List ℕ → List Frame → Token → Option State
at_let_name p v y k (Sign a Assign) = Some (Want (InValue p v y a ∷ k))
at_let_name p v y k _ = None

abbrev pub at_comma : Fields → ℕ → List Frame → Token → Option State
at_comma fs c k (Word v l) = Some (AtLabel fs c v l k)
at_comma fs c k _ = None

abbrev pub at_label : Fields → ℕ → ℕ → List ℕ → List Frame → Token → Option State
at_label fs c v l k (Sign a Assign) = Some (Want (InField (AtNext fs c) v l a ∷ k))
at_label fs c v l k _ = None

abbrev pub at_dot : Syntax → ℕ → List Frame → Token → Option State
at_dot s p k (Word v l) = Some (Have (Field s p v l) k)
at_dot s p k _ = None

-- behind a whole type that stands in an expression
abbrev pub after_around : Around → TypeSyntax → List Frame → Token → Option State
after_around (InNil p c) t k (Sign q ClosingBag) = Some (Have (Nil p c t q) k)
after_around (InFun p o v y c) t k (Sign z Closing) = Some (AtFunClose p o v y c t z k)
after_around _ t k _ = None

-- behind a type
abbrev pub after_type : List TypeFrame → TypeSyntax → Around → List Frame → Token → Option State
after_type j t o k (Sign a Arrow) = Some (WantType (TInRight t a ∷ j) o k)
after_type (TInRight a p ∷ j) t o k tok = after_type j (TFun a p t) o k tok
after_type (TInBag p ∷ j) t o k (Sign q ClosingBag) = Some (HaveType (TBag p t q) j o k)
after_type (TInParen p ∷ j) t o k (Sign q Closing) = Some (HaveType (TParen p t q) j o k)
after_type (TInField h v l c ∷ j) t o k (Sign q Closing) = Some (HaveType (TRec (put_type h v l c t) q) j o k)
after_type (TInField h v l c ∷ j) t o k (Sign q Comma) = Some (AtTypeComma (put_type h v l c t) q j o k)
after_type [] t o k tok = after_around o t k tok
after_type _ t o k tok = None

abbrev pub begin_base : Kind → List TypeFrame → Around → List Frame → ℕ → Option State
begin_base (IsBase b) j o k p = Some (HaveType (TBase p b) j o k)
begin_base _ j o k p = None

-- behind `(` a word may be a label
abbrev pub start_base : Edition → List TypeFrame → Around → List Frame → ℕ → List ℕ → Option State
start_base ed (TInParen q ∷ j) o k p w = Some (AtTypeWord q p w j o k)
start_base ed j o k p w = begin_base (kind ed w) j o k p

-- a token where a type begins
abbrev pub start_type : Edition → List TypeFrame → Around → List Frame → Token → Option State
start_type ed j o k (Word p w) = start_base ed j o k p w
start_type ed j o k (Sign p Opening) = Some (WantType (TInParen p ∷ j) o k)
start_type ed j o k (Sign p OpeningBag) = Some (WantType (TInBag p ∷ j) o k)
start_type ed (TInParen p ∷ j) o k (Sign q Closing) = Some (HaveType (TNoFields p q) j o k)
start_type ed _ o k _ = None

abbrev pub no_type_label : Kind → ℕ → ℕ → List TypeFrame → Around → List Frame → Token → Option State
no_type_label (IsBase b) p v j o k t = after_type (TInParen p ∷ j) (TBase v b) o k t
no_type_label _ p v j o k t = None

abbrev pub at_type_word : Edition → ℕ → ℕ → List ℕ → List TypeFrame → Around → List Frame → Token → Option State
at_type_word ed p v w j o k (Sign c Colon) = Some (WantType (TInField (TAtFirst p) v w c ∷ j) o k)
at_type_word ed p v w j o k t = no_type_label (kind ed w) p v j o k t

abbrev pub at_type_comma : TypeFields → ℕ → List TypeFrame → Around → List Frame → Token → Option State
at_type_comma fs q j o k (Word v l) = Some (AtTypeLabel fs q v l j o k)
at_type_comma fs q j o k _ = None

abbrev pub at_type_label : TypeFields → ℕ → ℕ → List ℕ → List TypeFrame → Around → List Frame → Token → Option State
at_type_label fs q v l j o k (Sign c Colon) = Some (WantType (TInField (TAtNext fs q) v l c ∷ j) o k)
at_type_label fs q v l j o k _ = None

-- the state behind a token, if it may stand there
abbrev pub step : Edition → State → Token → Option State
step ed (Want k) t = start ed k t
step ed (AtWord p v w k) t = at_word ed p v w k t
step ed (AtTable p k) t = at_table p k t
step ed (AtAggregate a p k) t = at_aggregate a p k t
step ed (AtFor p k) t = at_for p k t
step ed (AtForOpen p o k) t = at_for_open ed p o k t
step ed (AtForName p o v y k) t = at_for_name p o v y k t
step ed (AtWhere p k) t = at_where p k t
step ed (AtFun p k) t = at_fun p k t
step ed (AtFunOpen p o k) t = at_fun_open ed p o k t
step ed (AtFunName p o v y k) t = at_fun_name p o v y k t
step ed (AtFunClose p o v y c ty z k) t = at_fun_close p o v y c ty z k t
step ed (AtLet p k) t = at_let ed p k t
step ed (AtLetName p v y k) t = at_let_name p v y k t
step ed (AtComma fs c k) t = at_comma fs c k t
step ed (AtLabel fs c v l k) t = at_label fs c v l k t
step ed (AtDot s p k) t = at_dot s p k t
step ed (WantType j o k) t = start_type ed j o k t
step ed (AtTypeWord p v w j o k) t = at_type_word ed p v w j o k t
step ed (AtTypeComma fs q j o k) t = at_type_comma fs q j o k t
step ed (AtTypeLabel fs q v l j o k) t = at_type_label fs q v l j o k t
step ed (HaveType ty j o k) t = after_type j ty o k t
step ed (Have s k) t = after ed k s t
step ed (Ready s q) t = None

-- The least fillings: an expression is filled by `()`, a type by `int`, a word by `x`.
abbrev pub unit : Syntax
unit = NoFields 0 0

abbrev pub int_type : TypeSyntax
int_type = TBase 0 column.Int

abbrev pub some_name : List ℕ
some_name = codes "x"

-- a form with this part, and its least fillings behind it
abbrev pub finish : Frame → Syntax → Syntax
finish (InParen p) s = Paren p s 0
finish (InBag p) s = Bag p s 0
finish (InAggregate a p o) s = Aggregated a p o s 0
finish (InSource p o v y a) s = For p o v y a s 0 unit
finish (InBody p o v y a m c) s = For p o v y a m c s
finish (InTest p o) s = Where p o s 0 unit
finish (InGuarded p o t c) s = Where p o t c s
finish (InIf p) s = If p s 0 unit 0 unit
finish (InThen p t q) s = If p t q s 0 unit
finish (InElse p t q y r) s = If p t q y r s
finish (InFunBody p o v y c t z a) s = Fun p o v y c t z a s
finish (InValue p v y a) s = Let p v y a s 0 unit
finish (InLetBody p v y a m q) s = Let p v y a m q s
finish (InPrefix p u) s = Prefix p u s
finish (InRight l p op) s = Infix l p op s
finish (InArg f p) s = Apply f p s 0
finish (InField h v l a) s = Rec (put_field h v l a s) 0

abbrev pub close : List Frame → Syntax → Syntax
close [] s = s
close (f ∷ k) s = close k (finish f s)

abbrev pub finish_type : TypeFrame → TypeSyntax → TypeSyntax
finish_type (TInBag p) t = TBag p t 0
finish_type (TInParen p) t = TParen p t 0
finish_type (TInRight a p) t = TFun a p t
finish_type (TInField h v l c) t = TRec (put_type h v l c t) 0

abbrev pub close_type : List TypeFrame → TypeSyntax → TypeSyntax
close_type [] t = t
close_type (f ∷ j) t = close_type j (finish_type f t)

abbrev pub fill_around : Around → TypeSyntax → Syntax
fill_around (InNil p c) t = Nil p c t 0
fill_around (InFun p o v y c) t = Fun p o v y c t 0 0 unit

abbrev pub close_around : List TypeFrame → Around → List Frame → TypeSyntax → Syntax
close_around j o k t = close k (fill_around o (close_type j t))

-- behind `(` nothing is needed, and behind `[` a type is less than an expression
abbrev pub close_want : List Frame → Syntax
close_want (InParen p ∷ k) = close k (NoFields p 0)
close_want (InBag p ∷ k) = close k (Nil p 0 int_type 0)
close_want k = close k unit

-- behind `(` nothing is needed
abbrev pub close_type_want : List TypeFrame → Around → List Frame → Syntax
close_type_want (TInParen p ∷ j) o k = close_around j o k (TNoFields p 0)
close_type_want j o k = close_around j o k int_type

-- the least program that begins with what was read
abbrev pub least : State → Syntax
least (Want k) = close_want k
least (AtWord p v w k) = close k (Rec (One p v w 0 unit) 0)
least (AtTable p k) = close k (Table p 0 some_name)
least (AtAggregate a p k) = close k (Aggregated a p 0 unit 0)
least (AtFor p k) = close k (For p 0 0 some_name 0 unit 0 unit)
least (AtForOpen p o k) = close k (For p o 0 some_name 0 unit 0 unit)
least (AtForName p o v y k) = close k (For p o v y 0 unit 0 unit)
least (AtWhere p k) = close k (Where p 0 unit 0 unit)
least (AtFun p k) = close k (Fun p 0 0 some_name 0 int_type 0 0 unit)
least (AtFunOpen p o k) = close k (Fun p o 0 some_name 0 int_type 0 0 unit)
least (AtFunName p o v y k) = close k (Fun p o v y 0 int_type 0 0 unit)
least (AtFunClose p o v y c t z k) = close k (Fun p o v y c t z 0 unit)
least (AtLet p k) = close k (Let p 0 some_name 0 unit 0 unit)
least (AtLetName p v y k) = close k (Let p v y 0 unit 0 unit)
least (AtComma fs c k) = close k (Rec (More fs c 0 some_name 0 unit) 0)
least (AtLabel fs c v l k) = close k (Rec (More fs c v l 0 unit) 0)
least (AtDot s p k) = close k (Field s p 0 some_name)
least (WantType j o k) = close_type_want j o k
least (AtTypeWord p v w j o k) = close_around j o k (TRec (TOne p v w 0 int_type) 0)
least (AtTypeComma fs q j o k) = close_around j o k (TRec (TMore fs q 0 some_name 0 int_type) 0)
least (AtTypeLabel fs q v l j o k) = close_around j o k (TRec (TMore fs q v l 0 int_type) 0)
least (HaveType t j o k) = close_around j o k t
least (Have s k) = close k s
least (Ready s q) = s

-- whether the least program is of depth at most d
abbrev pub fits : ℕ → State → Bool
fits d st = leb (depth (least st)) d && leb (deepest (least st)) d

abbrev pub turn : Edition → ℕ → Token → Option State → (State → Outcome Token State) → Outcome Token State
turn ed d t o go = machines.turn Token State (step ed) fits d t o go

abbrev pub run : Edition → ℕ → List Token → State → Outcome Token State
run ed d ts st = machines.run Token State (step ed) fits d ts st
