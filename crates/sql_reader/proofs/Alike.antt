-- Tokens of one kind go on alike from each state: what is behind them is as deep.
use Rattle.std.proofs.Common.{◌≡◌, ℕ, ◌&&◌, ◌==◌, leb, Bool, true, false, cond}
use Rattle.std.proofs.Common.{List, [], ◌∷◌, refl, sym, ◌∙◌, ap, arith, Option, Some}
use Rattle.std.proofs.Common.{None}
use Rattle.std.proofs.lemmas.Bool.Decides.{nat_tests}
use Rattle.nq_model.specs.declared.term.Binary.{Binary}
use Rattle.nq_model.specs.declared.term.Binary.TheVariants.{Sub, Mul}
use Rattle.sql_profile.specs.declared.tree.Source.{Source}
use Rattle.sql_profile.specs.Grammar.{level}
use Rattle.sql_profile.specs.Machine.{binds}
use Rattle.sql_profile.specs.Tokens as sql
use Rattle.sql_profile.specs.Tokens.{Keyword, Constant, Number, Literal, Truth, Token, End}
use Rattle.sql_profile.specs.Trees.{PlacedKeep}
use Rattle.sql_reader.specs.Needs.{least_depth, fits}
use Rattle.sql_reader.specs.Parts.{Named, named, Part, Scalar, Ranged, OfSelect, OfScalar, Value}
use Rattle.sql_reader.specs.Parts.{Base}
use Rattle.sql_reader.specs.Steps.{Form, When, Then, Else, Right, Item, Where, Head, BehindSelect}
use Rattle.sql_reader.specs.Steps.{BehindCountOpen, BehindCoalesceOpen, Tail, BehindClose}
use Rattle.sql_reader.specs.Steps.{BehindComma, BehindZero, Position, AtStart, BehindWith}
use Rattle.sql_reader.specs.Steps.{AtDefName, WantSelect, AtUnion, Want, AtCase, Have, AtRowClose}
use Rattle.sql_reader.specs.Steps.{InOver, AtOrder, AtValue, AtAs, HaveItems, AtSourceName, AtHead}
use Rattle.sql_reader.specs.Steps.{Not, AtTail, State, On, asks, ends, joined, after_ranged, behind}
use Rattle.sql_reader.specs.Steps.{shift, after, start, named_item, have_items, at_head, at_tail}
use Rattle.sql_reader.specs.Steps.{is_zero, step_at, step}
use Rattle.sql_reader.specs.TokenKinds.{TokenKind, AKeyword, ATruth, AZero, ANumber, ALiteral}
use Rattle.sql_reader.specs.TokenKinds.{AName, AnOperator, AnOpening, AClosing, AComma, ADot}
use Rattle.sql_reader.specs.TokenKinds.{ASemicolon, TheEnd, token_kind}

-- how deep the least text is at a state
abbrev pub size_of : Option State → Option ℕ
size_of None = None
size_of (Some st) = Some (least_depth st)

abbrev pub Alike : Option State → Option State → Type 0
Alike o n = size_of o ≡ size_of n

if_alike : (b : Bool) (o n : Option State) → Alike o n → Alike (cond b o None) (cond b n None)
if_alike true o n e = e
if_alike false o n e = refl

either_alike : (b : Bool) (o n p q : Option State) → Alike o n → Alike p q
    → Alike (cond b o p) (cond b n q)
either_alike true o n p q e h = e
either_alike false o n p q e h = h

-- which forms end before a token says how strongly it binds
ends_alike : (f : Form) (t u : Token) → binds t ≡ binds u → ends f t ≡ ends f u
ends_alike (Not p) t u e = ap (λ n. leb n 2) e
ends_alike (Right l p op) t u e = ap (λ n. leb n (level op)) e
ends_alike f t u e = refl

after_alike : (b : Base) (k : List Form) (s : Part) (t u : Token) → binds t ≡ binds u
    → ((j : List Form) (r : Part) → Alike (shift b j r t) (shift b j r u))
    → Alike (after b k s t) (after b k s u)
after_alike b [] s t u e h = h [] s
after_alike b (f ∷ k) s t u e h =
    ap (λ z. size_of (cond z (after b k (joined f s) t) (shift b (f ∷ k) s t)))
    (ends_alike f t u e)
    ∙ either_alike (ends f u) (after b k (joined f s) t) (after b k (joined f s) u)
    (shift b (f ∷ k) s t) (shift b (f ∷ k) s u) (after_alike b k (joined f s) t u e h)
    (h (f ∷ k) s)

-- constants
ranged_value : (g : Ranged) (from : List Source) (keep : PlacedKeep) (i : ℕ) (b : Base) (k : List
    Form) (p q : ℕ) (c d : Constant) → Alike (after_ranged g from keep i b k (sql.Value p c))
    (after_ranged g from keep i b k (sql.Value q d))
ranged_value (OfSelect g) from keep i b k p q c d = refl
ranged_value (OfScalar s) from keep i b k p q c d = refl

behind_value : (f : Form) (b : Base) (k : List Form) (s : Part) (p q : ℕ) (c d : Constant)
    → Alike (behind f b k s (sql.Value p c)) (behind f b k s (sql.Value q d))
behind_value (Where g from) b k s p q c d = ranged_value g from _ s.depth b k p q c d
behind_value f b k s p q c d = refl

shift_value : (b : Base) (k : List Form) (s : Part) (p q : ℕ) (c d : Constant)
    → Alike (shift b k s (sql.Value p c)) (shift b k s (sql.Value q d))
shift_value b [] s p q c d = refl
shift_value b (f ∷ k) s p q c d = behind_value f b k s p q c d

have_value : (g : Ranged) (from : List Source) (b : Base) (k : List Form) (p q : ℕ)
    (c d : Constant)
    → Alike (have_items g from b k (sql.Value p c)) (have_items g from b k (sql.Value q d))
have_value g from b k p q c d = ranged_value g from _ 0 b k p q c d

head_value : (h : Head) (i : ℕ) (b : Base) (k : List Form) (p q : ℕ) (c d : Constant)
    → Alike (at_head h i b k (sql.Value p c)) (at_head h i b k (sql.Value q d))
head_value BehindSelect i b k p q c d = refl
head_value h i b k p q c d = refl

tail_value : (z : Tail) (s : Scalar) (b : Base) (k : List Form) (p q : ℕ) (c d : Constant)
    → is_zero (sql.Value p c) ≡ is_zero (sql.Value q d)
    → Alike (at_tail z s b k (sql.Value p c)) (at_tail z s b k (sql.Value q d))
tail_value BehindComma s b k p q c d e =
    ap (λ z. size_of (cond z (Some (On b k (AtTail s BehindZero))) None)) e
tail_value z s b k p q c d e = refl

step_value : (at : Position) (b : Base) (k : List Form) (p q : ℕ) (c d : Constant)
    → is_zero (sql.Value p c) ≡ is_zero (sql.Value q d)
    → Alike (step_at at b k (sql.Value p c)) (step_at at b k (sql.Value q d))
step_value (Have s) b k p q c d e = after_alike b k s (sql.Value p c) (sql.Value q d) refl
    (λ j r. shift_value b j r p q c d)
step_value (HaveItems g from) b k p q c d e = have_value g from b k p q c d
step_value (AtHead i h) b k p q c d e = head_value h i b k p q c d
step_value (AtTail s z) b k p q c d e = tail_value z s b k p q c d e
step_value at b k p q c d e = refl

-- names
ranged_name : (g : Ranged) (from : List Source) (keep : PlacedKeep) (i : ℕ) (b : Base) (k : List
    Form) (p q : ℕ) (n m : List ℕ) → Alike (after_ranged g from keep i b k (sql.Name p n))
    (after_ranged g from keep i b k (sql.Name q m))
ranged_name (OfSelect g) from keep i b k p q n m = refl
ranged_name (OfScalar s) from keep i b k p q n m = refl

behind_name : (f : Form) (b : Base) (k : List Form) (s : Part) (p q : ℕ) (n m : List ℕ)
    → Alike (behind f b k s (sql.Name p n)) (behind f b k s (sql.Name q m))
behind_name (Where g from) b k s p q n m = ranged_name g from _ s.depth b k p q n m
behind_name f b k s p q n m = refl

shift_name : (b : Base) (k : List Form) (s : Part) (p q : ℕ) (n m : List ℕ)
    → Alike (shift b k s (sql.Name p n)) (shift b k s (sql.Name q m))
shift_name b [] s p q n m = refl
shift_name b (f ∷ k) s p q n m = behind_name f b k s p q n m

have_name : (g : Ranged) (from : List Source) (b : Base) (k : List Form) (p q : ℕ)
    (n m : List ℕ)
    → Alike (have_items g from b k (sql.Name p n)) (have_items g from b k (sql.Name q m))
have_name g from b k p q n m = ranged_name g from _ 0 b k p q n m

head_name : (h : Head) (i : ℕ) (b : Base) (k : List Form) (p q : ℕ) (n m : List ℕ)
    → Alike (at_head h i b k (sql.Name p n)) (at_head h i b k (sql.Name q m))
head_name BehindSelect i b k p q n m = refl
head_name h i b k p q n m = refl

tail_name : (z : Tail) (s : Scalar) (b : Base) (k : List Form) (p q : ℕ) (n m : List ℕ)
    → Alike (at_tail z s b k (sql.Name p n)) (at_tail z s b k (sql.Name q m))
tail_name BehindClose s b k p q n m = refl
tail_name z s b k p q n m = refl

item_alike : (k : List Form) (b : Base) (v : Value) (n m : Named)
    → Alike (named_item k b v n) (named_item k b v m)
item_alike [] b v n m = refl
item_alike (Item g ∷ k) b v n m = refl
item_alike (f ∷ k) b v n m = refl

step_name : (at : Position) (b : Base) (k : List Form) (p q : ℕ) (n m : List ℕ)
    → Alike (step_at at b k (sql.Name p n)) (step_at at b k (sql.Name q m))
step_name (AtAs i) b k p q n m = item_alike k b i (named p n) (named q m)
step_name (Have s) b k p q n m = after_alike b k s (sql.Name p n) (sql.Name q m) refl
    (λ j r. shift_name b j r p q n m)
step_name (HaveItems g from) b k p q n m = have_name g from b k p q n m
step_name (AtHead i h) b k p q n m = head_name h i b k p q n m
step_name (AtTail s z) b k p q n m = tail_name z s b k p q n m
step_name at b k p q n m = refl

-- keywords
ranged_key : (g : Ranged) (from : List Source) (keep : PlacedKeep) (i : ℕ) (b : Base) (k : List
    Form) (p q : ℕ) (w : Keyword) → Alike (after_ranged g from keep i b k (sql.Key p w))
    (after_ranged g from keep i b k (sql.Key q w))
ranged_key (OfSelect g) from keep i b k p q sql.Union = refl
ranged_key (OfSelect g) from keep i b k p q w = refl
ranged_key (OfScalar s) from keep i b k p q w = refl

behind_key : (f : Form) (b : Base) (k : List Form) (s : Part) (p q : ℕ) (w : Keyword)
    → Alike (behind f b k s (sql.Key p w)) (behind f b k s (sql.Key q w))
behind_key (When i) b k s p q sql.Then = refl
behind_key (Then i c) b k s p q sql.Else = refl
behind_key (Else i c y) b k s p q sql.Stop = refl
behind_key (Item g) b k s p q sql.As = refl
behind_key (Where g from) b k s p q w = ranged_key g from _ s.depth b k p q w
behind_key f b k s p q w = refl

shift_key : (b : Base) (k : List Form) (s : Part) (p q : ℕ) (w : Keyword)
    → Alike (shift b k s (sql.Key p w)) (shift b k s (sql.Key q w))
shift_key b [] s p q w = refl
shift_key b (f ∷ k) s p q w = behind_key f b k s p q w

have_key : (g : Ranged) (from : List Source) (b : Base) (k : List Form) (p q : ℕ) (w : Keyword)
    → Alike (have_items g from b k (sql.Key p w)) (have_items g from b k (sql.Key q w))
have_key g from b k p q sql.Where = refl
have_key g from b k p q sql.From = refl
have_key g from b k p q w = ranged_key g from _ 0 b k p q w

head_key : (h : Head) (i : ℕ) (b : Base) (k : List Form) (p q : ℕ) (w : Keyword)
    → Alike (at_head h i b k (sql.Key p w)) (at_head h i b k (sql.Key q w))
head_key BehindSelect i b k p q sql.Count = refl
head_key BehindSelect i b k p q sql.Coalesce = refl
head_key BehindCoalesceOpen i b k p q sql.Sum = refl
head_key h i b k p q w = refl

tail_key : (z : Tail) (s : Scalar) (b : Base) (k : List Form) (p q : ℕ) (w : Keyword)
    → Alike (at_tail z s b k (sql.Key p w)) (at_tail z s b k (sql.Key q w))
tail_key BehindClose s b k p q w = refl
tail_key z s b k p q w = refl

start_key : (b : Base) (k : List Form) (p q : ℕ) (w : Keyword)
    → Alike (start b k (sql.Key p w)) (start b k (sql.Key q w))
start_key b k p q sql.Case = refl
start_key b k p q sql.Exists = refl
start_key b k p q sql.Select = refl
start_key b k p q sql.RowNumber = refl
start_key b k p q sql.Not = if_alike (leb (asks k) 3) (Some (On b (Not p ∷ k) Want)) (Some (On
    b (Not q ∷ k) Want)) refl
start_key b k p q w = refl

step_key : (at : Position) (b : Base) (k : List Form) (p q : ℕ) (w : Keyword)
    → Alike (step_at at b k (sql.Key p w)) (step_at at b k (sql.Key q w))
step_key AtStart b k p q sql.With = refl
step_key AtStart b k p q sql.Select = refl
step_key BehindWith b k p q sql.Select = refl
step_key (AtDefName i) b k p q sql.As = refl
step_key (WantSelect i) b k p q sql.Select = refl
step_key (AtUnion i) b k p q sql.All = refl
step_key (AtCase i) b k p q sql.When = refl
step_key AtRowClose b k p q sql.Over = refl
step_key InOver b k p q sql.Order = refl
step_key AtOrder b k p q sql.By = refl
step_key (AtValue i) b k p q sql.As = refl
step_key (AtSourceName g from i) b k p q sql.As = refl
step_key Want b k p q w = start_key b k p q w
step_key (Have s) b k p q w = after_alike b k s (sql.Key p w) (sql.Key q w) refl
    (λ j r. shift_key b j r p q w)
step_key (HaveItems g from) b k p q w = have_key g from b k p q w
step_key (AtHead i h) b k p q w = head_key h i b k p q w
step_key (AtTail s z) b k p q w = tail_key z s b k p q w
step_key at b k p q w = refl

-- operators
ranged_oper : (g : Ranged) (from : List Source) (keep : PlacedKeep) (i : ℕ) (b : Base) (k : List
    Form) (p q : ℕ) (op : Binary) → Alike (after_ranged g from keep i b k (sql.Oper p op))
    (after_ranged g from keep i b k (sql.Oper q op))
ranged_oper (OfSelect g) from keep i b k p q op = refl
ranged_oper (OfScalar s) from keep i b k p q op = refl

shift_oper : (b : Base) (k : List Form) (s : Part) (p q : ℕ) (op : Binary)
    → Alike (shift b k s (sql.Oper p op)) (shift b k s (sql.Oper q op))
shift_oper b k s p q op = if_alike _ (Some (On b (Right s p op ∷ k) Want))
    (Some (On b (Right s q op ∷ k) Want)) refl

have_oper : (g : Ranged) (from : List Source) (b : Base) (k : List Form) (p q : ℕ) (op : Binary)
    → Alike (have_items g from b k (sql.Oper p op)) (have_items g from b k (sql.Oper q op))
have_oper g from b k p q op = ranged_oper g from _ 0 b k p q op

head_oper : (h : Head) (i : ℕ) (b : Base) (k : List Form) (p q : ℕ) (op : Binary)
    → Alike (at_head h i b k (sql.Oper p op)) (at_head h i b k (sql.Oper q op))
head_oper BehindCountOpen i b k p q Mul = refl
head_oper h i b k p q op = refl

tail_oper : (z : Tail) (s : Scalar) (b : Base) (k : List Form) (p q : ℕ) (op : Binary)
    → Alike (at_tail z s b k (sql.Oper p op)) (at_tail z s b k (sql.Oper q op))
tail_oper BehindClose s b k p q op = refl
tail_oper z s b k p q op = refl

start_oper : (b : Base) (k : List Form) (p q : ℕ) (op : Binary)
    → Alike (start b k (sql.Oper p op)) (start b k (sql.Oper q op))
start_oper b k p q Sub = refl
start_oper b k p q op = refl

step_oper : (at : Position) (b : Base) (k : List Form) (p q : ℕ) (op : Binary)
    → Alike (step_at at b k (sql.Oper p op)) (step_at at b k (sql.Oper q op))
step_oper Want b k p q op = start_oper b k p q op
step_oper (Have s) b k p q op = after_alike b k s (sql.Oper p op) (sql.Oper q op) refl
    (λ j r. shift_oper b j r p q op)
step_oper (HaveItems g from) b k p q op = have_oper g from b k p q op
step_oper (AtHead i h) b k p q op = head_oper h i b k p q op
step_oper (AtTail s z) b k p q op = tail_oper z s b k p q op
step_oper at b k p q op = refl

-- symbols
ranged_open : (g : Ranged) (from : List Source) (keep : PlacedKeep) (i : ℕ) (b : Base) (k : List
    Form) (p q : ℕ) → Alike (after_ranged g from keep i b k (sql.Open p))
    (after_ranged g from keep i b k (sql.Open q))
ranged_open (OfSelect g) from keep i b k p q = refl
ranged_open (OfScalar s) from keep i b k p q = refl

behind_open : (f : Form) (b : Base) (k : List Form) (s : Part) (p q : ℕ)
    → Alike (behind f b k s (sql.Open p)) (behind f b k s (sql.Open q))
behind_open (Where g from) b k s p q = ranged_open g from _ s.depth b k p q
behind_open f b k s p q = refl

shift_open : (b : Base) (k : List Form) (s : Part) (p q : ℕ)
    → Alike (shift b k s (sql.Open p)) (shift b k s (sql.Open q))
shift_open b [] s p q = refl
shift_open b (f ∷ k) s p q = behind_open f b k s p q

have_open : (g : Ranged) (from : List Source) (b : Base) (k : List Form) (p q : ℕ)
    → Alike (have_items g from b k (sql.Open p)) (have_items g from b k (sql.Open q))
have_open g from b k p q = ranged_open g from _ 0 b k p q

head_open : (h : Head) (i : ℕ) (b : Base) (k : List Form) (p q : ℕ)
    → Alike (at_head h i b k (sql.Open p)) (at_head h i b k (sql.Open q))
head_open BehindSelect i b k p q = refl
head_open h i b k p q = refl

tail_open : (z : Tail) (s : Scalar) (b : Base) (k : List Form) (p q : ℕ)
    → Alike (at_tail z s b k (sql.Open p)) (at_tail z s b k (sql.Open q))
tail_open BehindClose s b k p q = refl
tail_open z s b k p q = refl

step_open : (at : Position) (b : Base) (k : List Form) (p q : ℕ)
    → Alike (step_at at b k (sql.Open p)) (step_at at b k (sql.Open q))
step_open (Have s) b k p q = after_alike b k s (sql.Open p) (sql.Open q) refl
    (λ j r. shift_open b j r p q)
step_open (HaveItems g from) b k p q = have_open g from b k p q
step_open (AtHead i h) b k p q = head_open h i b k p q
step_open (AtTail s z) b k p q = tail_open z s b k p q
step_open at b k p q = refl

ranged_close : (g : Ranged) (from : List Source) (keep : PlacedKeep) (i : ℕ) (b : Base) (k : List
    Form) (p q : ℕ) → Alike (after_ranged g from keep i b k (sql.Close p))
    (after_ranged g from keep i b k (sql.Close q))
ranged_close (OfSelect g) from keep i b k p q = refl
ranged_close (OfScalar s) from keep i b k p q = refl

behind_close : (f : Form) (b : Base) (k : List Form) (s : Part) (p q : ℕ)
    → Alike (behind f b k s (sql.Close p)) (behind f b k s (sql.Close q))
behind_close (Where g from) b k s p q = ranged_close g from _ s.depth b k p q
behind_close f b k s p q = refl

shift_close : (b : Base) (k : List Form) (s : Part) (p q : ℕ)
    → Alike (shift b k s (sql.Close p)) (shift b k s (sql.Close q))
shift_close b [] s p q = refl
shift_close b (f ∷ k) s p q = behind_close f b k s p q

have_close : (g : Ranged) (from : List Source) (b : Base) (k : List Form) (p q : ℕ)
    → Alike (have_items g from b k (sql.Close p)) (have_items g from b k (sql.Close q))
have_close g from b k p q = ranged_close g from _ 0 b k p q

head_close : (h : Head) (i : ℕ) (b : Base) (k : List Form) (p q : ℕ)
    → Alike (at_head h i b k (sql.Close p)) (at_head h i b k (sql.Close q))
head_close BehindSelect i b k p q = refl
head_close h i b k p q = refl

tail_close : (z : Tail) (s : Scalar) (b : Base) (k : List Form) (p q : ℕ)
    → Alike (at_tail z s b k (sql.Close p)) (at_tail z s b k (sql.Close q))
tail_close BehindClose s b k p q = refl
tail_close z s b k p q = refl

step_close : (at : Position) (b : Base) (k : List Form) (p q : ℕ)
    → Alike (step_at at b k (sql.Close p)) (step_at at b k (sql.Close q))
step_close (Have s) b k p q = after_alike b k s (sql.Close p) (sql.Close q) refl
    (λ j r. shift_close b j r p q)
step_close (HaveItems g from) b k p q = have_close g from b k p q
step_close (AtHead i h) b k p q = head_close h i b k p q
step_close (AtTail s z) b k p q = tail_close z s b k p q
step_close at b k p q = refl

ranged_comma : (g : Ranged) (from : List Source) (keep : PlacedKeep) (i : ℕ) (b : Base) (k : List
    Form) (p q : ℕ) → Alike (after_ranged g from keep i b k (sql.Comma p))
    (after_ranged g from keep i b k (sql.Comma q))
ranged_comma (OfSelect g) from keep i b k p q = refl
ranged_comma (OfScalar s) from keep i b k p q = refl

behind_comma : (f : Form) (b : Base) (k : List Form) (s : Part) (p q : ℕ)
    → Alike (behind f b k s (sql.Comma p)) (behind f b k s (sql.Comma q))
behind_comma (Where g from) b k s p q = ranged_comma g from _ s.depth b k p q
behind_comma f b k s p q = refl

shift_comma : (b : Base) (k : List Form) (s : Part) (p q : ℕ)
    → Alike (shift b k s (sql.Comma p)) (shift b k s (sql.Comma q))
shift_comma b [] s p q = refl
shift_comma b (f ∷ k) s p q = behind_comma f b k s p q

have_comma : (g : Ranged) (from : List Source) (b : Base) (k : List Form) (p q : ℕ)
    → Alike (have_items g from b k (sql.Comma p)) (have_items g from b k (sql.Comma q))
have_comma g from b k p q = refl

head_comma : (h : Head) (i : ℕ) (b : Base) (k : List Form) (p q : ℕ)
    → Alike (at_head h i b k (sql.Comma p)) (at_head h i b k (sql.Comma q))
head_comma BehindSelect i b k p q = refl
head_comma h i b k p q = refl

tail_comma : (z : Tail) (s : Scalar) (b : Base) (k : List Form) (p q : ℕ)
    → Alike (at_tail z s b k (sql.Comma p)) (at_tail z s b k (sql.Comma q))
tail_comma BehindClose s b k p q = refl
tail_comma z s b k p q = refl

step_comma : (at : Position) (b : Base) (k : List Form) (p q : ℕ)
    → Alike (step_at at b k (sql.Comma p)) (step_at at b k (sql.Comma q))
step_comma (Have s) b k p q = after_alike b k s (sql.Comma p) (sql.Comma q) refl
    (λ j r. shift_comma b j r p q)
step_comma (HaveItems g from) b k p q = have_comma g from b k p q
step_comma (AtHead i h) b k p q = head_comma h i b k p q
step_comma (AtTail s z) b k p q = tail_comma z s b k p q
step_comma at b k p q = refl

ranged_dot : (g : Ranged) (from : List Source) (keep : PlacedKeep) (i : ℕ) (b : Base) (k : List
    Form) (p q : ℕ) → Alike (after_ranged g from keep i b k (sql.Dot p))
    (after_ranged g from keep i b k (sql.Dot q))
ranged_dot (OfSelect g) from keep i b k p q = refl
ranged_dot (OfScalar s) from keep i b k p q = refl

behind_dot : (f : Form) (b : Base) (k : List Form) (s : Part) (p q : ℕ)
    → Alike (behind f b k s (sql.Dot p)) (behind f b k s (sql.Dot q))
behind_dot (Where g from) b k s p q = ranged_dot g from _ s.depth b k p q
behind_dot f b k s p q = refl

shift_dot : (b : Base) (k : List Form) (s : Part) (p q : ℕ)
    → Alike (shift b k s (sql.Dot p)) (shift b k s (sql.Dot q))
shift_dot b [] s p q = refl
shift_dot b (f ∷ k) s p q = behind_dot f b k s p q

have_dot : (g : Ranged) (from : List Source) (b : Base) (k : List Form) (p q : ℕ)
    → Alike (have_items g from b k (sql.Dot p)) (have_items g from b k (sql.Dot q))
have_dot g from b k p q = ranged_dot g from _ 0 b k p q

head_dot : (h : Head) (i : ℕ) (b : Base) (k : List Form) (p q : ℕ)
    → Alike (at_head h i b k (sql.Dot p)) (at_head h i b k (sql.Dot q))
head_dot BehindSelect i b k p q = refl
head_dot h i b k p q = refl

tail_dot : (z : Tail) (s : Scalar) (b : Base) (k : List Form) (p q : ℕ)
    → Alike (at_tail z s b k (sql.Dot p)) (at_tail z s b k (sql.Dot q))
tail_dot BehindClose s b k p q = refl
tail_dot z s b k p q = refl

step_dot : (at : Position) (b : Base) (k : List Form) (p q : ℕ)
    → Alike (step_at at b k (sql.Dot p)) (step_at at b k (sql.Dot q))
step_dot (Have s) b k p q = after_alike b k s (sql.Dot p) (sql.Dot q) refl
    (λ j r. shift_dot b j r p q)
step_dot (HaveItems g from) b k p q = have_dot g from b k p q
step_dot (AtHead i h) b k p q = head_dot h i b k p q
step_dot (AtTail s z) b k p q = tail_dot z s b k p q
step_dot at b k p q = refl

ranged_semi : (g : Ranged) (from : List Source) (keep : PlacedKeep) (i : ℕ) (b : Base) (k : List
    Form) (p q : ℕ) → Alike (after_ranged g from keep i b k (sql.Semi p))
    (after_ranged g from keep i b k (sql.Semi q))
ranged_semi (OfSelect g) from keep i b k p q = refl
ranged_semi (OfScalar s) from keep i b k p q = refl

behind_semi : (f : Form) (b : Base) (k : List Form) (s : Part) (p q : ℕ)
    → Alike (behind f b k s (sql.Semi p)) (behind f b k s (sql.Semi q))
behind_semi (Where g from) b k s p q = ranged_semi g from _ s.depth b k p q
behind_semi f b k s p q = refl

shift_semi : (b : Base) (k : List Form) (s : Part) (p q : ℕ)
    → Alike (shift b k s (sql.Semi p)) (shift b k s (sql.Semi q))
shift_semi b [] s p q = refl
shift_semi b (f ∷ k) s p q = behind_semi f b k s p q

have_semi : (g : Ranged) (from : List Source) (b : Base) (k : List Form) (p q : ℕ)
    → Alike (have_items g from b k (sql.Semi p)) (have_items g from b k (sql.Semi q))
have_semi g from b k p q = ranged_semi g from _ 0 b k p q

head_semi : (h : Head) (i : ℕ) (b : Base) (k : List Form) (p q : ℕ)
    → Alike (at_head h i b k (sql.Semi p)) (at_head h i b k (sql.Semi q))
head_semi BehindSelect i b k p q = refl
head_semi h i b k p q = refl

tail_semi : (z : Tail) (s : Scalar) (b : Base) (k : List Form) (p q : ℕ)
    → Alike (at_tail z s b k (sql.Semi p)) (at_tail z s b k (sql.Semi q))
tail_semi BehindClose s b k p q = refl
tail_semi z s b k p q = refl

step_semi : (at : Position) (b : Base) (k : List Form) (p q : ℕ)
    → Alike (step_at at b k (sql.Semi p)) (step_at at b k (sql.Semi q))
step_semi (Have s) b k p q = after_alike b k s (sql.Semi p) (sql.Semi q) refl
    (λ j r. shift_semi b j r p q)
step_semi (HaveItems g from) b k p q = have_semi g from b k p q
step_semi (AtHead i h) b k p q = head_semi h i b k p q
step_semi (AtTail s z) b k p q = tail_semi z s b k p q
step_semi at b k p q = refl

-- the end of the text
ranged_end : (g : Ranged) (from : List Source) (keep : PlacedKeep) (i : ℕ) (b : Base) (k : List
    Form) (p q : ℕ) → Alike (after_ranged g from keep i b k (sql.End p))
    (after_ranged g from keep i b k (sql.End q))
ranged_end (OfSelect g) from keep i b k p q = refl
ranged_end (OfScalar s) from keep i b k p q = refl

behind_end : (f : Form) (b : Base) (k : List Form) (s : Part) (p q : ℕ)
    → Alike (behind f b k s (sql.End p)) (behind f b k s (sql.End q))
behind_end (Where g from) b k s p q = ranged_end g from _ s.depth b k p q
behind_end f b k s p q = refl

shift_end : (b : Base) (k : List Form) (s : Part) (p q : ℕ)
    → Alike (shift b k s (sql.End p)) (shift b k s (sql.End q))
shift_end b [] s p q = refl
shift_end b (f ∷ k) s p q = behind_end f b k s p q

have_end : (g : Ranged) (from : List Source) (b : Base) (k : List Form) (p q : ℕ)
    → Alike (have_items g from b k (sql.End p)) (have_items g from b k (sql.End q))
have_end g from b k p q = ranged_end g from _ 0 b k p q

head_end : (h : Head) (i : ℕ) (b : Base) (k : List Form) (p q : ℕ)
    → Alike (at_head h i b k (sql.End p)) (at_head h i b k (sql.End q))
head_end BehindSelect i b k p q = refl
head_end h i b k p q = refl

tail_end : (z : Tail) (s : Scalar) (b : Base) (k : List Form) (p q : ℕ)
    → Alike (at_tail z s b k (sql.End p)) (at_tail z s b k (sql.End q))
tail_end BehindClose s b k p q = refl
tail_end z s b k p q = refl

step_end : (at : Position) (b : Base) (k : List Form) (p q : ℕ)
    → Alike (step_at at b k (sql.End p)) (step_at at b k (sql.End q))
step_end (Have s) b k p q = after_alike b k s (sql.End p) (sql.End q) refl
    (λ j r. shift_end b j r p q)
step_end (HaveItems g from) b k p q = have_end g from b k p q
step_end (AtHead i h) b k p q = head_end h i b k p q
step_end (AtTail s z) b k p q = tail_end z s b k p q
step_end at b k p q = refl

-- only a `0` in one digit stands behind a sum
zero_kind : (b c : Bool) → cond b AZero ANumber ≡ cond c AZero ANumber → b ≡ c
zero_kind true true e = refl
zero_kind false false e = refl
zero_kind true false e = absurd (cc)
zero_kind false true e = absurd (cc)

no_literal : (b : Bool) → cond b AZero ANumber ≡ ALiteral → ⊥
no_literal true e = absurd (cc)
no_literal false e = absurd (cc)

no_truth : (b c : Bool) → cond b AZero ANumber ≡ ATruth c → ⊥
no_truth true c e = absurd (cc)
no_truth false c e = absurd (cc)

zeros : (p q : ℕ) (c d : Constant) → token_kind (sql.Value p c) ≡ token_kind (sql.Value q d)
    → is_zero (sql.Value p c) ≡ is_zero (sql.Value q d)
zeros p q (Number n i) (Number m j) e = zero_kind (n == 0 && i == 1) (m == 0 && j == 1) e
zeros p q (Number n i) (Literal t) e = absurd (no_literal (n == 0 && i == 1) e)
zeros p q (Number n i) (Truth b) e = absurd (no_truth (n == 0 && i == 1) b e)
zeros p q (Literal t) (Number m j) e = absurd (no_literal (m == 0 && j == 1) (sym e))
zeros p q (Truth b) (Number m j) e = absurd (no_truth (m == 0 && j == 1) b (sym e))
zeros p q c d e = refl

-- tokens of one kind
abbrev number_of : TokenKind → ℕ
number_of (AKeyword k) = 0
number_of (ATruth b) = 1
number_of AZero = 1
number_of ANumber = 1
number_of ALiteral = 1
number_of AName = 2
number_of (AnOperator op) = 3
number_of AnOpening = 4
number_of AClosing = 5
number_of AComma = 6
number_of ADot = 7
number_of ASemicolon = 8
number_of TheEnd = 9

abbrev number_at : Token → ℕ
number_at (sql.Key p k) = 0
number_at (sql.Value p c) = 1
number_at (sql.Name p n) = 2
number_at (sql.Oper p op) = 3
number_at (sql.Open p) = 4
number_at (sql.Close p) = 5
number_at (sql.Comma p) = 6
number_at (sql.Dot p) = 7
number_at (sql.Semi p) = 8
number_at (sql.End p) = 9

one_number : (b : Bool) → number_of (cond b AZero ANumber) ≡ 1
one_number true = refl
one_number false = refl

numbered : (t : Token) → number_of (token_kind t) ≡ number_at t
numbered (sql.Value p (Number n i)) = one_number (n == 0 && i == 1)
numbered (sql.Value p (Literal s)) = refl
numbered (sql.Value p (Truth b)) = refl
numbered t = refl

apart : (n m : ℕ) → n ≡ m → (n == m) ≡ false → ⊥
apart n m e h = grind (arith, nat_tests)

pub step_alike : (st : State) (t u : Token) → token_kind t ≡ token_kind u
    → Alike (step st t) (step st u)
step_alike (On b k at) (sql.Value p c) (sql.Value q d) e = step_value at b k p q c d (zeros p q c d
    e)
step_alike (On b k at) (sql.Name p n) (sql.Name q m) e = step_name at b k p q n m
step_alike (On b k at) (sql.Key p w) (sql.Key q v) e = let i : w ≡ v = cc in ap (λ z. size_of
    (step_at at b k (sql.Key p z))) i ∙ step_key at b k p q v
step_alike (On b k at) (sql.Oper p op) (sql.Oper q o) e = let i : op ≡ o = cc in ap (λ z. size_of
    (step_at at b k (sql.Oper p z))) i ∙ step_oper at b k p q o
step_alike (On b k at) (sql.Open p) (sql.Open q) e = step_open at b k p q
step_alike (On b k at) (sql.Close p) (sql.Close q) e = step_close at b k p q
step_alike (On b k at) (sql.Comma p) (sql.Comma q) e = step_comma at b k p q
step_alike (On b k at) (sql.Dot p) (sql.Dot q) e = step_dot at b k p q
step_alike (On b k at) (sql.Semi p) (sql.Semi q) e = step_semi at b k p q
step_alike (On b k at) (sql.End p) (sql.End q) e = step_end at b k p q
step_alike st t u e = absurd (apart (number_at t) (number_at u) (sym (numbered t) ∙ ap number_of e
    ∙ numbered u) refl)

-- so if one goes on, the other does
pub goes_too : (d : ℕ) (st : State) (t u : Token) (next : State) → token_kind t ≡ token_kind u
    → step st t ≡ Some next → fits d next ≡ true
    → (other : State) × (step st u ≡ Some other) × (fits d other ≡ true)
goes_too d st t u next e s f = go (step st u) refl
  where
    same : (o : Option State) → step st u ≡ o → size_of o ≡ Some (least_depth next)
    same o i = ap size_of (sym i) ∙ sym (step_alike st t u e) ∙ ap size_of s

    fine : (other : State) → Some (least_depth other) ≡ Some (least_depth next)
        → fits d other ≡ true
    fine other i = let h : least_depth other ≡ least_depth next = cc in ap (λ n. leb n d) h ∙ f

    go : (o : Option State) → step st u ≡ o → (other : State) × (step st u ≡ Some other)
        × (fits d other ≡ true)
    go None i = let h = same None i in absurd (cc)
    go (Some other) i = (other, i, fine other (same (Some other) i))
