-- A token more: where the reader stands behind it, if it may stand there.
use Rattle.std.specs.Prelude.{ℕ, suc, Bool, false, true, cond, leb, ◌&&◌, ◌==◌, List, [], ◌∷◌, Option, Some, None}
use Rattle.nq_model.specs.declared.term.Binary.{Binary}
use Rattle.nq_model.specs.declared.term.Binary.TheVariants.{Sub, Mul}
use Rattle.sql_profile.specs.declared.tree.Source.{Source}
use Rattle.sql_profile.specs.Grammar.{level, left_level}
use Rattle.sql_profile.specs.Machine.{binds}
use Rattle.sql_profile.specs.Tokens.{As, Union, All, Select, From, RowNumber, Over, Order, By, Exists, Case, Stop, Count, Coalesce, Token, Value as Constant, Name, Key, Oper, Open, Close, Comma, Dot, Semi, End}
use Rattle.sql_profile.specs.Tokens as sql
use Rattle.sql_profile.specs.Trees.{PlacedKeep, keep_all_at, keep_if_at}
use Rattle.sql_reader.specs.Parts.{Named, named, Part, Selects, Keys, Begun, Scalar, Ranged, OfSelect, OfScalar, Value, Base, constant, column, in_parens, minus, negation, not_exists, choice, binary, counting, summing, scalar, no_selects, no_keys, begun, add_item, add_source, add_select, add_key, add_with, plain, numbering}

-- An unfinished form. `Item`, `OrderKey` and `Where` stand round an expression of a SELECT, `Where` or `Sum` round
-- one of a scalar query, `NotExists` round a query.
pub data Form : Type 0 where
  Paren : ℕ → Form
  Minus : ℕ → Form
  Not : ℕ → Form
  When : ℕ → Form
  Then : ℕ → Part → Form
  Else : ℕ → Part → Part → Form
  Right : Part → ℕ → Binary → Form
  Item : Begun → Form
  OrderKey : Keys → Begun → Form
  Where : Ranged → List Source → Form
  NotExists : ℕ → Form
  Sum : ℕ → Form

-- what was read of the head of a scalar query, from SELECT on
pub data Head : Type 0 where
  BehindSelect : Head
  BehindCount : Head
  BehindCountOpen : Head
  BehindCountStar : Head
  BehindCoalesce : Head
  BehindCoalesceOpen : Head
  BehindSum : Head

-- what was read behind a summed expression
pub data Tail : Type 0 where
  BehindClose : Tail
  BehindComma : Tail
  BehindZero : Tail

-- what was read last, inside the unfinished forms
pub data Position : Type 0 where
  AtStart : Position
  BehindWith : Position
  AtDef : Position
  AtDefName : Named → Position
  AtDefAs : Named → Position
  WantSelect : Selects → Position
  AtUnion : Selects → Position
  Want : Position
  AtName : Named → Position
  AtDot : Named → Position
  AtCase : ℕ → Position
  AtExists : ℕ → Position
  Have : Part → Position
  AtRow : Position
  AtRowOpen : Position
  AtRowClose : Position
  AtOver : Position
  InOver : Position
  AtOrder : Position
  AtValue : Value → Position
  AtAs : Value → Position
  HaveItems : Ranged → List Source → Position
  AtSource : Ranged → List Source → Position
  AtSourceName : Ranged → List Source → Named → Position
  AtSourceAs : Ranged → List Source → Named → Position
  AtHead : ℕ → Head → Position
  AtTail : Scalar → Tail → Position
  AtSemi : Selects → Position
  Ready : Selects → Position

-- round all forms stand the WITH queries
pub data State : Type 0 where
  On : Base → List Form → Position → State

abbrev pub start_state : State
start_state = On (record { withs = []; depth = 0; name = None }) [] AtStart

-- the level that the next expression has to have
abbrev pub asks : List Form → ℕ
asks (Right l p op ∷ k) = suc (level op)
asks (Minus p ∷ k) = 7
asks (Not p ∷ k) = 3
asks k = 1

-- whether an unfinished form, which is open to the right, ends before the token
abbrev pub ends : Form → Token → Bool
ends (Minus p) t = true
ends (Not p) t = leb (binds t) 2
ends (Right l p op) t = leb (binds t) (level op)
ends f t = false

-- the whole form that a form with its last part is
abbrev pub joined : Form → Part → Part
joined (Minus p) s = minus p s
joined (Not p) s = negation p s
joined (Right l p op) s = binary l p op s
joined f s = s

-- the WITH query of this name is whole; the main query ends with no `)`
abbrev pub end_def : Option Named → Base → Selects → Option State
end_def (Some n) b q = Some (On (add_with b n q) [] BehindWith)
end_def None b q = None

-- a `)` behind a whole query
abbrev pub close_query : List Form → Base → Selects → Option State
close_query [] b q = end_def b.name b q
close_query (NotExists p ∷ k) b q = Some (On b k (Have (not_exists p q)))
close_query (f ∷ k) b q = None

-- the main query is whole, if that is what is read
abbrev pub main_ends : Option Named → Base → Position → Option State
main_ends None b at = Some (On b [] at)
main_ends (Some n) b at = None

abbrev pub end_main : List Form → Base → Position → Option State
end_main [] b at = main_ends b.name b at
end_main (f ∷ k) b at = None

-- behind a whole query
abbrev pub after_query : Base → List Form → Selects → Token → Option State
after_query b k q (Key u Union) = Some (On b k (AtUnion q))
after_query b k q (Close c) = close_query k b q
after_query b k q (Semi p) = end_main k b (AtSemi q)
after_query b k q (End p) = end_main k b (Ready q)
after_query b k q t = None

-- the `)` of a scalar query
abbrev pub after_scalar : Base → List Form → Part → Token → Option State
after_scalar b k s (Close z) = Some (On b k (Have s))
after_scalar b k s t = None

-- behind the sources and the condition of what they belong to
abbrev pub after_ranged : Ranged → List Source → PlacedKeep → ℕ → Base → List Form → Token → Option State
after_ranged (OfSelect g) from keep n b k t = after_query b k (add_select g from keep n) t
after_ranged (OfScalar s) from keep n b k t = after_scalar b k (scalar s from keep n) t

-- behind a whole order key
abbrev pub after_key : Base → List Form → Keys → Begun → Token → Option State
after_key b k ks g (Comma p) = Some (On b (OrderKey ks g ∷ k) Want)
after_key b k ks g (Close p) = Some (On b (Item g ∷ k) (AtValue (numbering ks)))
after_key b k ks g t = None

-- a token that is no operator, behind the expression that a form stands round
abbrev pub behind : Form → Base → List Form → Part → Token → Option State
behind (Paren p) b k s (Close q) = Some (On b k (Have (in_parens s)))
behind (When p) b k s (Key h sql.Then) = Some (On b (Then p s ∷ k) Want)
behind (Then p t) b k s (Key e sql.Else) = Some (On b (Else p t s ∷ k) Want)
behind (Else p t y) b k s (Key z Stop) = Some (On b k (Have (choice p t y s)))
behind (Item g) b k s (Key a As) = Some (On b (Item g ∷ k) (AtAs (plain s)))
behind (OrderKey ks g) b k s t = after_key b k (add_key ks s) g t
behind (Where g from) b k s t = after_ranged g from (keep_if_at s.tree) s.depth b k t
behind (Sum p) b k s (Close z) = Some (On b k (AtTail (summing p s) BehindClose))
behind f b k s t = None

abbrev pub behind_top : Base → List Form → Part → Token → Option State
behind_top b [] s t = None
behind_top b (f ∷ k) s t = behind f b k s t

-- a token behind an expression that no form around takes for whole
abbrev pub shift : Base → List Form → Part → Token → Option State
shift b k s (Oper p op) = cond (leb (left_level op) s.level) (Some (On b (Right s p op ∷ k) Want)) None
shift b k s t = behind_top b k s t

-- a token behind a whole expression: forms that are open to the right end before it
abbrev pub after : Base → List Form → Part → Token → Option State
after b [] s t = shift b [] s t
after b (f ∷ k) s t = cond (ends f t) (after b k (joined f s) t) (shift b (f ∷ k) s t)

-- EXISTS behind NOT
abbrev pub start_exists : List Form → Base → Option State
start_exists (Not p ∷ k) b = Some (On b k (AtExists p))
start_exists k b = None

-- ROW_NUMBER behind SELECT or a comma
abbrev pub start_row : List Form → Base → Option State
start_row (Item g ∷ k) b = Some (On b (Item g ∷ k) AtRow)
start_row k b = None

-- SELECT behind a `(`
abbrev pub start_scalar : List Form → Base → Option State
start_scalar (Paren p ∷ k) b = Some (On b k (AtHead p BehindSelect))
start_scalar k b = None

-- a token where an expression begins
abbrev pub start : Base → List Form → Token → Option State
start b k (Constant p c) = Some (On b k (Have (constant p c)))
start b k (Name p n) = Some (On b k (AtName (named p n)))
start b k (Open p) = Some (On b (Paren p ∷ k) Want)
start b k (Oper p Sub) = Some (On b (Minus p ∷ k) Want)
start b k (Key p Case) = Some (On b k (AtCase p))
start b k (Key p sql.Not) = cond (leb (asks k) 3) (Some (On b (Not p ∷ k) Want)) None
start b k (Key e Exists) = start_exists k b
start b k (Key s Select) = start_scalar k b
start b k (Key r RowNumber) = start_row k b
start b k t = None

-- where a SELECT begins
abbrev pub start_select : Base → List Form → Selects → Token → Option State
start_select b k q (Key p Select) = Some (On b (Item (begun q p) ∷ k) Want)
start_select b k q t = None

abbrev pub at_start : Base → List Form → Token → Option State
at_start b k (Key p sql.With) = Some (On b k AtDef)
at_start b k t = start_select b k no_selects t

abbrev pub behind_with : Base → List Form → Token → Option State
behind_with b k (Comma p) = Some (On b k AtDef)
behind_with b k t = start_select b k no_selects t

abbrev pub at_def : Base → List Form → Token → Option State
at_def b k (Name p n) = Some (On b k (AtDefName (named p n)))
at_def b k t = None

abbrev pub at_def_name : Named → Base → List Form → Token → Option State
at_def_name n b k (Key a As) = Some (On b k (AtDefAs n))
at_def_name n b k t = None

abbrev pub at_def_as : Named → Base → List Form → Token → Option State
at_def_as n b k (Open o) = Some (On (record { withs = b.withs; depth = b.depth; name = Some n }) k (WantSelect no_selects))
at_def_as n b k t = None

abbrev pub at_union : Selects → Base → List Form → Token → Option State
at_union q b k (Key a All) = Some (On b k (WantSelect q))
at_union q b k t = None

abbrev pub at_name : Named → Base → List Form → Token → Option State
at_name n b k (Dot q) = Some (On b k (AtDot n))
at_name n b k t = None

abbrev pub at_dot : Named → Base → List Form → Token → Option State
at_dot n b k (Name r c) = Some (On b k (Have (column n c)))
at_dot n b k t = None

abbrev pub at_case : ℕ → Base → List Form → Token → Option State
at_case p b k (Key w sql.When) = Some (On b (When p ∷ k) Want)
at_case p b k t = None

abbrev pub at_exists : ℕ → Base → List Form → Token → Option State
at_exists p b k (Open o) = Some (On b (NotExists p ∷ k) (WantSelect no_selects))
at_exists p b k t = None

-- the tokens of a numbering
abbrev pub at_row : Base → List Form → Token → Option State
at_row b k (Open o) = Some (On b k AtRowOpen)
at_row b k t = None

abbrev pub at_row_open : Base → List Form → Token → Option State
at_row_open b k (Close x) = Some (On b k AtRowClose)
at_row_open b k t = None

abbrev pub at_row_close : Base → List Form → Token → Option State
at_row_close b k (Key v Over) = Some (On b k AtOver)
at_row_close b k t = None

abbrev pub at_over : Base → List Form → Token → Option State
at_over b k (Open q) = Some (On b k InOver)
at_over b k t = None

abbrev pub in_over : Base → List Form → Token → Option State
in_over b k (Close q) = Some (On b k (AtValue (numbering no_keys)))
in_over b k (Key o Order) = Some (On b k AtOrder)
in_over b k t = None

abbrev pub first_key : List Form → Base → Option State
first_key (Item g ∷ k) b = Some (On b (OrderKey no_keys g ∷ k) Want)
first_key k b = None

abbrev pub at_order : Base → List Form → Token → Option State
at_order b k (Key y By) = first_key k b
at_order b k t = None

-- behind what an item is
abbrev pub at_value : Value → Base → List Form → Token → Option State
at_value v b k (Key a As) = Some (On b k (AtAs v))
at_value v b k t = None

-- the item is whole with its name
abbrev pub named_item : List Form → Base → Value → Named → Option State
named_item (Item g ∷ k) b v n = Some (On b k (HaveItems (OfSelect (add_item g v n)) []))
named_item k b v n = None

abbrev pub at_as : Value → Base → List Form → Token → Option State
at_as v b k (Name p n) = named_item k b v (named p n)
at_as v b k t = None

-- a comma behind items or sources: another of them
abbrev pub comma_behind : List Source → Ranged → Base → List Form → Option State
comma_behind [] (OfSelect g) b k = Some (On b (Item g ∷ k) Want)
comma_behind [] (OfScalar s) b k = None
comma_behind (s ∷ ss) g b k = Some (On b k (AtSource g (s ∷ ss)))

-- FROM behind items, or behind the head of a scalar query
abbrev pub from_behind : List Source → Ranged → Base → List Form → Option State
from_behind [] g b k = Some (On b k (AtSource g []))
from_behind (s ∷ ss) g b k = None

-- behind items or the head of a scalar query, or behind sources
abbrev pub have_items : Ranged → List Source → Base → List Form → Token → Option State
have_items g from b k (Key p sql.Where) = Some (On b (Where g from ∷ k) Want)
have_items g from b k (Comma p) = comma_behind from g b k
have_items g from b k (Key p From) = from_behind from g b k
have_items g from b k t = after_ranged g from keep_all_at 0 b k t

abbrev pub at_source : Ranged → List Source → Base → List Form → Token → Option State
at_source g from b k (Name p t) = Some (On b k (AtSourceName g from (named p t)))
at_source g from b k t = None

abbrev pub at_source_name : Ranged → List Source → Named → Base → List Form → Token → Option State
at_source_name g from t b k (Key a As) = Some (On b k (AtSourceAs g from t))
at_source_name g from t b k tok = None

abbrev pub at_source_as : Ranged → List Source → Named → Base → List Form → Token → Option State
at_source_as g from t b k (Name p n) = Some (On b k (HaveItems g (add_source from t n)))
at_source_as g from t b k tok = None

-- the head of a scalar query
abbrev pub at_select : ℕ → Base → List Form → Token → Option State
at_select p b k (Key c Count) = Some (On b k (AtHead p BehindCount))
at_select p b k (Key c Coalesce) = Some (On b k (AtHead p BehindCoalesce))
at_select p b k t = None

abbrev pub at_count : ℕ → Base → List Form → Token → Option State
at_count p b k (Open o) = Some (On b k (AtHead p BehindCountOpen))
at_count p b k t = None

abbrev pub at_count_open : ℕ → Base → List Form → Token → Option State
at_count_open p b k (Oper s Mul) = Some (On b k (AtHead p BehindCountStar))
at_count_open p b k t = None

abbrev pub at_count_star : ℕ → Base → List Form → Token → Option State
at_count_star p b k (Close z) = Some (On b k (HaveItems (OfScalar (counting p)) []))
at_count_star p b k t = None

abbrev pub at_coalesce : ℕ → Base → List Form → Token → Option State
at_coalesce p b k (Open o) = Some (On b k (AtHead p BehindCoalesceOpen))
at_coalesce p b k t = None

abbrev pub at_coalesce_open : ℕ → Base → List Form → Token → Option State
at_coalesce_open p b k (Key u sql.Sum) = Some (On b k (AtHead p BehindSum))
at_coalesce_open p b k t = None

abbrev pub at_sum : ℕ → Base → List Form → Token → Option State
at_sum p b k (Open v) = Some (On b (Sum p ∷ k) Want)
at_sum p b k t = None

abbrev pub at_head : Head → ℕ → Base → List Form → Token → Option State
at_head BehindSelect p b k t = at_select p b k t
at_head BehindCount p b k t = at_count p b k t
at_head BehindCountOpen p b k t = at_count_open p b k t
at_head BehindCountStar p b k t = at_count_star p b k t
at_head BehindCoalesce p b k t = at_coalesce p b k t
at_head BehindCoalesceOpen p b k t = at_coalesce_open p b k t
at_head BehindSum p b k t = at_sum p b k t

-- behind a summed expression
abbrev pub at_sum_close : Scalar → Base → List Form → Token → Option State
at_sum_close s b k (Comma c) = Some (On b k (AtTail s BehindComma))
at_sum_close s b k t = None

abbrev pub is_zero : Token → Bool
is_zero (Constant q (sql.Number n m)) = n == 0 && m == 1
is_zero t = false

abbrev pub at_sum_comma : Scalar → Base → List Form → Token → Option State
at_sum_comma s b k t = cond (is_zero t) (Some (On b k (AtTail s BehindZero))) None

abbrev pub at_sum_zero : Scalar → Base → List Form → Token → Option State
at_sum_zero s b k (Close r) = Some (On b k (HaveItems (OfScalar s) []))
at_sum_zero s b k t = None

abbrev pub at_tail : Tail → Scalar → Base → List Form → Token → Option State
at_tail BehindClose s b k t = at_sum_close s b k t
at_tail BehindComma s b k t = at_sum_comma s b k t
at_tail BehindZero s b k t = at_sum_zero s b k t

abbrev pub at_semi : Selects → Base → List Form → Token → Option State
at_semi q b k (End e) = Some (On b k (Ready q))
at_semi q b k t = None

abbrev pub step_at : Position → Base → List Form → Token → Option State
step_at AtStart b k t = at_start b k t
step_at BehindWith b k t = behind_with b k t
step_at AtDef b k t = at_def b k t
step_at (AtDefName n) b k t = at_def_name n b k t
step_at (AtDefAs n) b k t = at_def_as n b k t
step_at (WantSelect q) b k t = start_select b k q t
step_at (AtUnion q) b k t = at_union q b k t
step_at Want b k t = start b k t
step_at (AtName n) b k t = at_name n b k t
step_at (AtDot n) b k t = at_dot n b k t
step_at (AtCase p) b k t = at_case p b k t
step_at (AtExists p) b k t = at_exists p b k t
step_at (Have s) b k t = after b k s t
step_at AtRow b k t = at_row b k t
step_at AtRowOpen b k t = at_row_open b k t
step_at AtRowClose b k t = at_row_close b k t
step_at AtOver b k t = at_over b k t
step_at InOver b k t = in_over b k t
step_at AtOrder b k t = at_order b k t
step_at (AtValue v) b k t = at_value v b k t
step_at (AtAs v) b k t = at_as v b k t
step_at (HaveItems g from) b k t = have_items g from b k t
step_at (AtSource g from) b k t = at_source g from b k t
step_at (AtSourceName g from n) b k t = at_source_name g from n b k t
step_at (AtSourceAs g from n) b k t = at_source_as g from n b k t
step_at (AtHead p h) b k t = at_head h p b k t
step_at (AtTail s z) b k t = at_tail z s b k t
step_at (AtSemi q) b k t = at_semi q b k t
step_at (Ready q) b k t = None

abbrev pub step : State → Token → Option State
step (On b k at) t = step_at at b k t
