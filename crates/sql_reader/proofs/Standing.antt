-- A state of the machine as what the reader keeps of it. Both take the same steps, and fit the same depths.
use Rattle.std.proofs.Common.{◌≡◌, ℕ, zero, suc, max, Bool, true, false, cond, leb, ◌&&◌, ◌==◌, List, [], ◌∷◌, ◌++◌, refl, sym, ◌∙◌, ap, ap₂, arith, append_assoc, append-nil, Option, Some, None, option_map}
use Rattle.std.proofs.lemmas.Bool.Decides.{nat_tests}
use Rattle.nq_model.specs.declared.term.Binary.TheVariants.{Sub, Mul}
use Rattle.sql_profile.specs.declared.tree.Source.{Source}
use Rattle.sql_profile.specs.Tokens.{Token, Value as Constant, Name, Key, Oper, Open, Close, Comma, Dot, Semi, End, As, Union, All, Select, From, RowNumber, Over, Order, By, Exists, Case, Stop, Count, Coalesce}
use Rattle.sql_profile.specs.Tokens as sql
use Rattle.sql_profile.specs.Grammar as grammar
use Rattle.sql_profile.specs.Grammar.{SourceSyntax, OfSource, SourcesSyntax, OneSource, MoreSources, FromSyntax, NoFrom, HasFrom, ExprSyntax, OfConstant, OfColumn, OfParens, OfMinus, OfNot, OfNotExists, OfCase, OfBinary, OfScalar, ScalarSyntax, Counted, Summed, CountHead, OfCount, SumHead, OfSum, OfTail, QuerySyntax, OneSelect, MoreSelects, SelectSyntax, OfSelect, KeepSyntax, NoWhere, HasWhere, ItemsSyntax, OneItem, MoreItems, ItemSyntax, OfItem, ValueSyntax, Plain, Numbering, NoKeys, HasKeys, KeyListSyntax, OneKey, MoreKeys, WithSyntax, OfWith, WithListSyntax, OneDef, MoreDefs, WithsSyntax, NoWith, HasWith, TextSyntax, OfText, depth, selects_depth, choice_depth, items_depth, held_depth, key_list_depth, withs_depth, defs_depth, text_depth, expr_of, selects_of, select_of, value_of, key_list_of, source_of, sources_of, with_of, with_list_of, first_place, level, left_level}
use Rattle.sql_profile.specs.Machine as machine
use Rattle.sql_profile.specs.Machine.{Before, Fresh, Behind, ItemHead, AtSelect, AtComma, KeyHead, AtBy, KeyComma, SourceHead, AtFrom, SourceComma, DefHead, AtWith, DefComma, put_select, put_item, put_key, put_source, put_def, Around, InParen, InNeg, InNot, InWhen, InThen, InElse, InRight, InItem, InKey, InWhere, InSum, InScalarWhere, Outside, InMain, InDef, InExists, binds, level_of, asks}
use Rattle.sql_profile.specs.Trees.{PlacedSelect, select_at, not_exists_at, number_at, no_select_at, query_of, PlacedItem, no_item_at, item_at, items_of, PlacedExpr, none_at, exprs_of, PlacedWith}
use Rattle.sql_reader.specs.Parts as kept
use Rattle.sql_reader.specs.Parts.{Named, named, Part, Selects, Keys, Begun, Scalar, Ranged, Value, Base, no_selects, no_keys}
use Rattle.sql_reader.specs.Steps.{Form, Position, State, On}
use Rattle.sql_reader.specs.Steps as reader

abbrev pub part_of : ExprSyntax → Part
part_of s = record { tree = expr_of s; level = level_of s; depth = depth s }

-- lists that grow to the right
abbrev pub select_list : QuerySyntax → List PlacedSelect
select_list (OneSelect s) = select_of s ∷ []
select_list (MoreSelects q u a s) = select_list q ++ select_of s ∷ []

abbrev pub one_item : ItemSyntax → PlacedItem
one_item (OfItem v a q n) = item_at q n (value_of v)

abbrev pub item_list : ItemsSyntax → List PlacedItem
item_list (OneItem p i) = one_item i ∷ []
item_list (MoreItems is c i) = item_list is ++ one_item i ∷ []

abbrev pub key_list : KeyListSyntax → List PlacedExpr
key_list (OneKey o b e) = expr_of e ∷ []
key_list (MoreKeys ks c e) = key_list ks ++ expr_of e ∷ []

abbrev pub source_list : SourcesSyntax → List Source
source_list (OneSource f s) = source_of s ∷ []
source_list (MoreSources ss c s) = source_list ss ++ source_of s ∷ []

abbrev pub with_list : WithListSyntax → List PlacedWith
with_list (OneDef w d) = with_of d ∷ []
with_list (MoreDefs ds k d) = with_list ds ++ with_of d ∷ []

-- they are those of the definition
queries : (q : QuerySyntax) (xs : List PlacedSelect) → selects_of q (query_of xs) ≡ query_of (select_list q ++ xs)
queries (OneSelect s) xs = refl
queries (MoreSelects q u a s) xs = queries q (select_of s ∷ xs) ∙ ap query_of (sym (append_assoc (select_list q) (select_of s ∷ []) xs))

all_items : (is : ItemsSyntax) (xs : List PlacedItem) → grammar.items_of is (items_of xs) ≡ items_of (item_list is ++ xs)
all_items (OneItem p (OfItem v a q n)) xs = refl
all_items (MoreItems is c (OfItem v a q n)) xs = all_items is (item_at q n (value_of v) ∷ xs) ∙ ap items_of (sym (append_assoc (item_list is) (item_at q n (value_of v) ∷ []) xs))

all_keys : (ks : KeyListSyntax) (xs : List PlacedExpr) → key_list_of ks (exprs_of xs) ≡ exprs_of (key_list ks ++ xs)
all_keys (OneKey o b e) xs = refl
all_keys (MoreKeys ks c e) xs = all_keys ks (expr_of e ∷ xs) ∙ ap exprs_of (sym (append_assoc (key_list ks) (expr_of e ∷ []) xs))

all_sources : (ss : SourcesSyntax) (xs : List Source) → sources_of ss xs ≡ source_list ss ++ xs
all_sources (OneSource f s) xs = refl
all_sources (MoreSources ss c s) xs = all_sources ss (source_of s ∷ xs) ∙ sym (append_assoc (source_list ss) (source_of s ∷ []) xs)

all_withs : (ds : WithListSyntax) (xs : List PlacedWith) → with_list_of ds xs ≡ with_list ds ++ xs
all_withs (OneDef w d) xs = refl
all_withs (MoreDefs ds k d) xs = all_withs ds (with_of d ∷ xs) ∙ sym (append_assoc (with_list ds) (with_of d ∷ []) xs)

pub query_same : (q : QuerySyntax) → selects_of q no_select_at ≡ query_of (select_list q)
query_same q = queries q [] ∙ ap query_of (append-nil (select_list q))

items_same : (is : ItemsSyntax) → grammar.items_of is no_item_at ≡ items_of (item_list is)
items_same is = all_items is [] ∙ ap items_of (append-nil (item_list is))

keys_same : (ks : KeyListSyntax) → key_list_of ks none_at ≡ exprs_of (key_list ks)
keys_same ks = all_keys ks [] ∙ ap exprs_of (append-nil (key_list ks))

-- sources and WITH queries, or none
abbrev pub from_list : FromSyntax → List Source
from_list NoFrom = []
from_list (HasFrom ss) = source_list ss

from_same : (f : FromSyntax) → grammar.from_of f ≡ from_list f
from_same NoFrom = refl
from_same (HasFrom ss) = all_sources ss [] ∙ append-nil (source_list ss)

abbrev pub withs_list : WithsSyntax → List PlacedWith
withs_list NoWith = []
withs_list (HasWith ds) = with_list ds

pub withs_same : (w : WithsSyntax) → grammar.withs_of w ≡ withs_list w
withs_same NoWith = refl
withs_same (HasWith ds) = all_withs ds [] ∙ append-nil (with_list ds)

-- what stands before a part
abbrev pub selects_kept : QuerySyntax → Selects
selects_kept q = record { selects = select_list q; depth = selects_depth q }

abbrev pub before : Before → Selects
before Fresh = no_selects
before (Behind q u a) = selects_kept q

abbrev pub head_place : ItemHead → ℕ
head_place (AtSelect p) = p
head_place (AtComma is c) = first_place is

abbrev pub head_items : ItemHead → List PlacedItem
head_items (AtSelect p) = []
head_items (AtComma is c) = item_list is

abbrev pub head_depth : ItemHead → ℕ
head_depth (AtSelect p) = 0
head_depth (AtComma is c) = items_depth is

abbrev pub begun_of : ItemHead → Before → Begun
begun_of h b = record { before = before b; place = head_place h; items = head_items h; depth = head_depth h }

-- the SELECT with its items
abbrev pub whole_items : ItemsSyntax → Before → Begun
whole_items is b = record { before = before b; place = first_place is; items = item_list is; depth = items_depth is }

-- the scalar query behind its head
abbrev pub sum_place : SumHead → ℕ
sum_place (OfSum p s c o u v) = p

abbrev pub scalar_place : ScalarSyntax → ℕ
scalar_place (Counted (OfCount p s c o t z)) = p
scalar_place (Summed h e t) = sum_place h

abbrev pub summed_of : ScalarSyntax → Option PlacedExpr
summed_of (Counted c) = None
summed_of (Summed h e t) = Some (expr_of e)

abbrev pub scalar_kept : ScalarSyntax → Scalar
scalar_kept h = record { place = scalar_place h; summed = summed_of h; depth = grammar.scalar_depth h }

abbrev pub summing_kept : SumHead → ExprSyntax → Scalar
summing_kept h e = kept.summing (sum_place h) (part_of e)

abbrev pub keys_kept : KeyListSyntax → Keys
keys_kept ks = record { keys = key_list ks; depth = key_list_depth ks }

abbrev pub key_head : KeyHead → Keys
key_head (AtBy o b) = no_keys
key_head (KeyComma ks c) = keys_kept ks

abbrev pub source_head : SourceHead → List Source
source_head (AtFrom p) = []
source_head (SourceComma ss c) = source_list ss

abbrev pub base_with : List PlacedWith → ℕ → Base
base_with ws n = record { withs = ws; depth = n; name = None }

abbrev pub def_withs : DefHead → List PlacedWith
def_withs (AtWith p) = []
def_withs (DefComma ds c) = with_list ds

abbrev pub def_depths : DefHead → ℕ
def_depths (AtWith p) = 0
def_depths (DefComma ds c) = defs_depth ds

abbrev pub def_head : DefHead → Base
def_head h = base_with (def_withs h) (def_depths h)

abbrev pub def_base : DefHead → Named → Base
def_base h n = record { withs = def_withs h; depth = def_depths h; name = Some n }

abbrev pub main_base : WithsSyntax → Base
main_base w = base_with (withs_list w) (withs_depth w)

-- the WITH queries round all, and the forms
abbrev mutual
  pub base_of : Around → Base
  base_of (InParen p k) = base_of k
  base_of (InNeg p k) = base_of k
  base_of (InNot p k) = base_of k
  base_of (InWhen p w k) = base_of k
  base_of (InThen p w t h k) = base_of k
  base_of (InElse p w t h y e k) = base_of k
  base_of (InRight l p op k) = base_of k
  base_of (InItem h b c) = outer_base c
  base_of (InKey g r h b c) = outer_base c
  base_of (InWhere p i f b c) = outer_base c
  base_of (InSum h k) = base_of k
  base_of (InScalarWhere p h f k) = base_of k

  pub outer_base : Outside → Base
  outer_base (InMain w) = main_base w
  outer_base (InDef h p n a o) = def_base h (named p n)
  outer_base (InExists n e o k) = base_of k

abbrev mutual
  pub forms_of : Around → List Form
  forms_of (InParen p k) = reader.Paren p ∷ forms_of k
  forms_of (InNeg p k) = reader.Minus p ∷ forms_of k
  forms_of (InNot p k) = reader.Not p ∷ forms_of k
  forms_of (InWhen p w k) = reader.When p ∷ forms_of k
  forms_of (InThen p w t h k) = reader.Then p (part_of t) ∷ forms_of k
  forms_of (InElse p w t h y e k) = reader.Else p (part_of t) (part_of y) ∷ forms_of k
  forms_of (InRight l p op k) = reader.Right (part_of l) p op ∷ forms_of k
  forms_of (InItem h b c) = reader.Item (begun_of h b) ∷ outer_forms c
  forms_of (InKey g r h b c) = reader.OrderKey (key_head g) (begun_of h b) ∷ outer_forms c
  forms_of (InWhere p i f b c) = reader.Where (kept.OfSelect (whole_items i b)) (from_list f) ∷ outer_forms c
  forms_of (InSum h k) = reader.Sum (sum_place h) ∷ forms_of k
  forms_of (InScalarWhere p h f k) = reader.Where (kept.OfScalar (scalar_kept h)) (from_list f) ∷ forms_of k

  pub outer_forms : Outside → List Form
  outer_forms (InMain w) = []
  outer_forms (InDef h p n a o) = []
  outer_forms (InExists n e o k) = reader.NotExists n ∷ forms_of k

abbrev pub value_kept : ValueSyntax → Value
value_kept v = record { value = value_of v; depth = held_depth v }

-- where the reader stands
abbrev pub want_select : Before → Outside → State
want_select Fresh (InMain NoWith) = On (main_base NoWith) [] reader.AtStart
want_select Fresh (InMain (HasWith ds)) = On (main_base (HasWith ds)) [] reader.BehindWith
want_select b c = On (outer_base c) (outer_forms c) (reader.WantSelect (before b))

abbrev pub inside : Around → Position → State
inside k at = On (base_of k) (forms_of k) at

abbrev pub in_item : ItemHead → Before → Outside → Position → State
in_item h b c at = On (outer_base c) (reader.Item (begun_of h b) ∷ outer_forms c) at

abbrev pub in_query : Outside → Position → State
in_query c at = On (outer_base c) (outer_forms c) at

abbrev pub stand : machine.State → State
stand (machine.AtDef h) = On (def_head h) [] reader.AtDef
stand (machine.AtDefName h p n) = On (def_head h) [] (reader.AtDefName (named p n))
stand (machine.AtDefAs h p n a) = On (def_head h) [] (reader.AtDefAs (named p n))
stand (machine.WantSelect b c) = want_select b c
stand (machine.AtUnion q u c) = in_query c (reader.AtUnion (selects_kept q))
stand (machine.Want k) = inside k reader.Want
stand (machine.AtName p n k) = inside k (reader.AtName (named p n))
stand (machine.AtDot p n q k) = inside k (reader.AtDot (named p n))
stand (machine.AtCase p k) = inside k (reader.AtCase p)
stand (machine.AtExists n e k) = inside k (reader.AtExists n)
stand (machine.Have s k) = inside k (reader.Have (part_of s))
stand (machine.AtRow r h b c) = in_item h b c reader.AtRow
stand (machine.AtRowOpen r o h b c) = in_item h b c reader.AtRowOpen
stand (machine.AtRowClose r o x h b c) = in_item h b c reader.AtRowClose
stand (machine.AtOver r o x v h b c) = in_item h b c reader.AtOver
stand (machine.InOver r h b c) = in_item h b c reader.InOver
stand (machine.AtOrder o r h b c) = in_item h b c reader.AtOrder
stand (machine.AtHeld v h b c) = in_item h b c (reader.AtValue (value_kept v))
stand (machine.AtAs v a h b c) = in_item h b c (reader.AtAs (value_kept v))
stand (machine.HaveItems i f b c) = in_query c (reader.HaveItems (kept.OfSelect (whole_items i b)) (from_list f))
stand (machine.AtSource h i b c) = in_query c (reader.AtSource (kept.OfSelect (whole_items i b)) (source_head h))
stand (machine.AtSourceName h p t i b c) = in_query c (reader.AtSourceName (kept.OfSelect (whole_items i b)) (source_head h) (named p t))
stand (machine.AtSourceAs h p t a i b c) = in_query c (reader.AtSourceAs (kept.OfSelect (whole_items i b)) (source_head h) (named p t))
stand (machine.AtScalar p s k) = inside k (reader.AtHead p reader.BehindSelect)
stand (machine.AtCount p s c k) = inside k (reader.AtHead p reader.BehindCount)
stand (machine.AtCountOpen p s c o k) = inside k (reader.AtHead p reader.BehindCountOpen)
stand (machine.AtCountStar p s c o t k) = inside k (reader.AtHead p reader.BehindCountStar)
stand (machine.AtCoalesce p s c k) = inside k (reader.AtHead p reader.BehindCoalesce)
stand (machine.AtCoalesceOpen p s c o k) = inside k (reader.AtHead p reader.BehindCoalesceOpen)
stand (machine.AtSum p s c o u k) = inside k (reader.AtHead p reader.BehindSum)
stand (machine.AtSumClose h e z k) = inside k (reader.AtTail (summing_kept h e) reader.BehindClose)
stand (machine.AtSumComma h e z c k) = inside k (reader.AtTail (summing_kept h e) reader.BehindComma)
stand (machine.AtSumZero h e z c q k) = inside k (reader.AtTail (summing_kept h e) reader.BehindZero)
stand (machine.HaveScalar h f k) = inside k (reader.HaveItems (kept.OfScalar (scalar_kept h)) (from_list f))
stand (machine.AtScalarSource i h k) = inside k (reader.AtSource (kept.OfScalar (scalar_kept h)) (source_head i))
stand (machine.AtScalarSourceName i p t h k) = inside k (reader.AtSourceName (kept.OfScalar (scalar_kept h)) (source_head i) (named p t))
stand (machine.AtScalarSourceAs i p t a h k) = inside k (reader.AtSourceAs (kept.OfScalar (scalar_kept h)) (source_head i) (named p t))
stand (machine.AtSemi w q p) = On (main_base w) [] (reader.AtSemi (selects_kept q))
stand (machine.Ready (OfText w q s) e) = On (main_base w) [] (reader.Ready (selects_kept q))

no_less : (n : ℕ) → n ≡ max 0 n
no_less n = omega arith

-- lists with one more
selects_put : (b : Before) (s : SelectSyntax) → selects_kept (put_select b s)
    ≡ record { selects = (before b).selects ++ select_of s ∷ []; depth = max (before b).depth (choice_depth s) }
selects_put Fresh s = ap (λ n. record { selects = select_of s ∷ []; depth = n }) (no_less (choice_depth s))
selects_put (Behind q u a) s = refl

-- the SELECT that was begun is whole
whole_select : (i : ItemsSyntax) (f : FromSyntax) (w : KeepSyntax) (b : Before) → selects_kept (put_select b (OfSelect i f w))
    ≡ kept.add_select (whole_items i b) (from_list f) (grammar.keep_of w) (grammar.keep_depth w)
whole_select i f w b =
    let q = before b in
    let n = max (before b).depth (choice_depth (OfSelect i f w)) in
    selects_put b (OfSelect i f w)
    ∙ ap (λ is. record { selects = q.selects ++ select_at (first_place i) is (grammar.from_of f) (grammar.keep_of w) ∷ []; depth = n }) (items_same i)
    ∙ ap (λ ss. record { selects = q.selects ++ select_at (first_place i) (items_of (item_list i)) ss (grammar.keep_of w) ∷ []; depth = n }) (from_same f)

-- the scalar query that was begun is whole
scalar_same : (h : ScalarSyntax) (f : FromSyntax) (w : KeepSyntax) (z : ℕ) → expr_of (OfScalar h f w z) ≡ kept.scalar_tree (scalar_place h) (summed_of h) (grammar.from_of f) (grammar.keep_of w)
scalar_same (Counted (OfCount p s c o t y)) f w z = refl
scalar_same (Summed (OfSum p s c o u v) e t) f w z = refl

whole_scalar : (h : ScalarSyntax) (f : FromSyntax) (w : KeepSyntax) (z : ℕ) → part_of (OfScalar h f w z)
    ≡ kept.scalar (scalar_kept h) (from_list f) (grammar.keep_of w) (grammar.keep_depth w)
whole_scalar h f w z =
    let n = suc (max (grammar.scalar_depth h) (grammar.keep_depth w)) in
    ap (λ e. record { tree = e; level = 8; depth = n }) (scalar_same h f w z)
    ∙ ap (λ ss. record { tree = kept.scalar_tree (scalar_place h) (summed_of h) ss (grammar.keep_of w); level = 8; depth = n }) (from_same f)

item_put : (h : ItemHead) (b : Before) (v : ValueSyntax) (a p : ℕ) (n : List ℕ)
    → whole_items (put_item h (OfItem v a p n)) b ≡ kept.add_item (begun_of h b) (value_kept v) (named p n)
item_put (AtSelect q) b v a p n = ap (λ m. record { before = before b; place = q; items = item_at p n (value_of v) ∷ []; depth = m }) (no_less (held_depth v))
item_put (AtComma is c) b v a p n = refl

key_put : (h : KeyHead) (s : ExprSyntax) → keys_kept (put_key h s) ≡ kept.add_key (key_head h) (part_of s)
key_put (AtBy o b) s = ap (λ m. record { keys = expr_of s ∷ []; depth = m }) (no_less (depth s))
key_put (KeyComma ks c) s = refl

source_put : (h : SourceHead) (p : ℕ) (t : List ℕ) (a q : ℕ) (n : List ℕ)
    → source_list (put_source h (OfSource p t a q n)) ≡ kept.add_source (source_head h) (named p t) n
source_put (AtFrom f) p t a q n = refl
source_put (SourceComma ss c) p t a q n = refl

with_put : (h : DefHead) (p : ℕ) (n : List ℕ) (a o : ℕ) (q : QuerySyntax) (c : ℕ)
    → main_base (HasWith (put_def h (OfWith p n a o q c))) ≡ kept.add_with (def_base h (named p n)) (named p n) (selects_kept q)
with_put (AtWith w) p n a o q c =
    ap (λ m. base_with (with_of (OfWith p n a o q c) ∷ []) m) (no_less (suc (selects_depth q)))
    ∙ ap (λ t. base_with (record { name = n; place = p; query = t } ∷ []) (max 0 (suc (selects_depth q)))) (query_same q)
with_put (DefComma ds k) p n a o q c =
    ap (λ t. base_with (with_list ds ++ record { name = n; place = p; query = t } ∷ []) (max (defs_depth ds) (suc (selects_depth q)))) (query_same q)

-- One step.
either : (b : Bool) (o o' : Option machine.State) → cond b (option_map stand o) (option_map stand o') ≡ option_map stand (cond b o o')
either true o o' = refl
either false o o' = refl

query_steps : (c : Outside) (q : QuerySyntax) (t : Token)
    → reader.after_query (outer_base c) (outer_forms c) (selects_kept q) t ≡ option_map stand (machine.after_query c q t)
query_steps c q (Key u Union) = refl
query_steps (InExists n e o k) q (Close c) =
    ap (λ tree. Some (inside k (reader.Have (record { tree = not_exists_at n tree; level = 3; depth = suc (suc (selects_depth q)) })))) (sym (query_same q))
query_steps (InDef h p n a o) q (Close c) = ap (λ b. Some (On b [] reader.BehindWith)) (sym (with_put h p n a o q c))
query_steps (InMain w) q (Semi p) = refl
query_steps (InMain w) q (End p) = refl
query_steps (InMain w) q t = refl
query_steps (InDef h p n a o) q t = refl
query_steps (InExists n e o k) q t = refl

whole_steps : (i : ItemsSyntax) (f : FromSyntax) (w : KeepSyntax) (b : Before) (c : Outside) (t : Token)
    → reader.after_query (outer_base c) (outer_forms c) (kept.add_select (whole_items i b) (from_list f) (grammar.keep_of w) (grammar.keep_depth w)) t
    ≡ option_map stand (machine.after_query c (put_select b (OfSelect i f w)) t)
whole_steps i f w b c t =
    ap (λ q. reader.after_query (outer_base c) (outer_forms c) q t) (sym (whole_select i f w b)) ∙ query_steps c (put_select b (OfSelect i f w)) t

closed_scalar : (h : ScalarSyntax) (f : FromSyntax) (w : KeepSyntax) (z : ℕ) (k : Around)
    → Some (inside k (reader.Have (kept.scalar (scalar_kept h) (from_list f) (grammar.keep_of w) (grammar.keep_depth w)))) ≡ Some (inside k (reader.Have (part_of (OfScalar h f w z))))
closed_scalar h f w z k = ap (λ s. Some (inside k (reader.Have s))) (sym (whole_scalar h f w z))

key_steps : (ks : KeyListSyntax) (r : grammar.NumberingHead) (h : ItemHead) (b : Before) (c : Outside) (t : Token)
    → reader.after_key (outer_base c) (outer_forms c) (keys_kept ks) (begun_of h b) t ≡ option_map stand (machine.after_key ks r h b c t)
key_steps ks r h b c (Comma p) = refl
key_steps ks r h b c (Close q) = ap (λ es. Some (in_item h b c (reader.AtValue (record { value = number_at es; depth = key_list_depth ks })))) (sym (keys_same ks))
key_steps ks r h b c t = refl

shift_steps : (k : Around) (s : ExprSyntax) (t : Token) → reader.shift (base_of k) (forms_of k) (part_of s) t ≡ option_map stand (machine.shift k s t)
shift_steps k s (Oper p op) = either (leb (left_level op) (level_of s)) (Some (machine.Want (InRight s p op k))) None
shift_steps (InParen p k) s (Close q) = refl
shift_steps (InWhen p w k) s (Key h sql.Then) = refl
shift_steps (InThen p w t h k) s (Key e sql.Else) = refl
shift_steps (InElse p w t h y e k) s (Key z Stop) = refl
shift_steps (InItem h b c) s (Key a As) = refl
shift_steps (InKey h r i b c) s t =
    ap (λ ks. reader.after_key (outer_base c) (outer_forms c) ks (begun_of i b) t) (sym (key_put h s)) ∙ key_steps (put_key h s) r i b c t
shift_steps (InWhere p i f b c) s t = whole_steps i f (HasWhere p s) b c t
shift_steps (InSum h k) s (Close z) = refl
shift_steps (InScalarWhere p h f k) s (Close z) = closed_scalar h f (HasWhere p s) z k
shift_steps k s t = refl

after_steps : (k : Around) (s : ExprSyntax) (t : Token) → reader.after (base_of k) (forms_of k) (part_of s) t ≡ option_map stand (machine.after k s t)
after_steps (InNeg p k) s t = after_steps k (OfMinus p s) t
after_steps (InNot p k) s t =
    ap₂ (λ x y. cond (leb (binds t) 2) x y) (after_steps k (OfNot p s) t) (shift_steps (InNot p k) s t)
    ∙ either (leb (binds t) 2) (machine.after k (OfNot p s) t) (machine.shift (InNot p k) s t)
after_steps (InRight l p op k) s t =
    ap₂ (λ x y. cond (leb (binds t) (level op)) x y) (after_steps k (OfBinary l p op s) t) (shift_steps (InRight l p op k) s t)
    ∙ either (leb (binds t) (level op)) (machine.after k (OfBinary l p op s) t) (machine.shift (InRight l p op k) s t)
after_steps (InParen p k) s t = shift_steps (InParen p k) s t
after_steps (InWhen p w k) s t = shift_steps (InWhen p w k) s t
after_steps (InThen p w y h k) s t = shift_steps (InThen p w y h k) s t
after_steps (InElse p w y h z e k) s t = shift_steps (InElse p w y h z e k) s t
after_steps (InItem h b c) s t = shift_steps (InItem h b c) s t
after_steps (InKey h r i b c) s t = shift_steps (InKey h r i b c) s t
after_steps (InWhere p i f b c) s t = shift_steps (InWhere p i f b c) s t
after_steps (InSum h k) s t = shift_steps (InSum h k) s t
after_steps (InScalarWhere p h f k) s t = shift_steps (InScalarWhere p h f k) s t

asks_same : (k : Around) → reader.asks (forms_of k) ≡ machine.asks k
asks_same (InParen p k) = refl
asks_same (InNeg p k) = refl
asks_same (InNot p k) = refl
asks_same (InWhen p w k) = refl
asks_same (InThen p w t h k) = refl
asks_same (InElse p w t h y e k) = refl
asks_same (InRight l p op k) = refl
asks_same (InItem h b c) = refl
asks_same (InKey g r h b c) = refl
asks_same (InWhere p i f b c) = refl
asks_same (InSum h k) = refl
asks_same (InScalarWhere p h f k) = refl

start_steps : (k : Around) (t : Token) → reader.start (base_of k) (forms_of k) t ≡ option_map stand (machine.start k t)
start_steps k (Constant p (sql.Number n m)) = refl
start_steps k (Constant p (sql.Literal l)) = refl
start_steps k (Constant p (sql.Truth b)) = refl
start_steps k (Name p n) = refl
start_steps k (Open p) = refl
start_steps k (Oper p Sub) = refl
start_steps k (Key p Case) = refl
start_steps k (Key p sql.Not) =
    ap (λ n. cond (leb n 3) (Some (inside (InNot p k) reader.Want)) None) (asks_same k) ∙ either (leb (machine.asks k) 3) (Some (machine.Want (InNot p k))) None
start_steps (InNot p k) (Key e Exists) = refl
start_steps (InParen p k) (Key s sql.Select) = refl
start_steps (InItem h b c) (Key r RowNumber) = refl
start_steps k t = refl

select_steps : (b : Before) (c : Outside) (t : Token) → reader.step (want_select b c) t ≡ option_map stand (machine.start_select b c t)
select_steps Fresh (InMain NoWith) (Key p sql.Select) = refl
select_steps Fresh (InMain NoWith) (Key p sql.With) = refl
select_steps Fresh (InMain NoWith) t = refl
select_steps Fresh (InMain (HasWith ds)) (Key p sql.Select) = refl
select_steps Fresh (InMain (HasWith ds)) (Comma p) = refl
select_steps Fresh (InMain (HasWith ds)) t = refl
select_steps Fresh (InDef h p n a o) (Key s sql.Select) = refl
select_steps Fresh (InDef h p n a o) t = refl
select_steps Fresh (InExists n e o k) (Key s sql.Select) = refl
select_steps Fresh (InExists n e o k) t = refl
select_steps (Behind q u a) c (Key s sql.Select) = refl
select_steps (Behind q u a) c t = refl

-- sources that were read are some
some_source : (ss : SourcesSyntax) → (x : Source) × (xs : List Source) × (source_list ss ≡ x ∷ xs)
some_source (OneSource f s) = (source_of s, [], refl)
some_source (MoreSources ss c s) = let e = some_source ss in (e.0, e.1 ++ source_of s ∷ [], ap (λ l. l ++ source_of s ∷ []) e.2)

another_source : (ss : SourcesSyntax) (g : Ranged) (b : Base) (k : List Form) → reader.comma_behind (source_list ss) g b k ≡ Some (On b k (reader.AtSource g (source_list ss)))
another_source ss g b k = let e = some_source ss in ap (λ l. reader.comma_behind l g b k) e.2 ∙ ap (λ l. Some (On b k (reader.AtSource g l))) (sym e.2)

no_from : (ss : SourcesSyntax) (g : Ranged) (b : Base) (k : List Form) → reader.from_behind (source_list ss) g b k ≡ None
no_from ss g b k = let e = some_source ss in ap (λ l. reader.from_behind l g b k) e.2

no_query_from : (c : Outside) (q : QuerySyntax) (p : ℕ) → machine.after_query c q (Key p From) ≡ None
no_query_from (InMain w) q p = refl
no_query_from (InDef h p n a o) q x = refl
no_query_from (InExists n e o k) q p = refl

items_step : (i : ItemsSyntax) (f : FromSyntax) (b : Before) (c : Outside) (t : Token)
    → reader.have_items (kept.OfSelect (whole_items i b)) (from_list f) (outer_base c) (outer_forms c) t ≡ option_map stand (machine.after_items i f b c t)
items_step i f b c (Key p sql.Where) = refl
items_step i NoFrom b c (Comma p) = refl
items_step i NoFrom b c (Key p From) = refl
items_step i (HasFrom ss) b c (Comma p) = another_source ss (kept.OfSelect (whole_items i b)) (outer_base c) (outer_forms c)
items_step i (HasFrom ss) b c (Key p From) =
    no_from ss (kept.OfSelect (whole_items i b)) (outer_base c) (outer_forms c)
    ∙ sym (ap (λ (o : Option machine.State). option_map stand o) (no_query_from c (put_select b (OfSelect i (HasFrom ss) NoWhere)) p))
items_step i NoFrom b c t = whole_steps i NoFrom NoWhere b c t
items_step i (HasFrom ss) b c t = whole_steps i (HasFrom ss) NoWhere b c t

scalar_step : (h : ScalarSyntax) (f : FromSyntax) (k : Around) (t : Token)
    → reader.have_items (kept.OfScalar (scalar_kept h)) (from_list f) (base_of k) (forms_of k) t ≡ option_map stand (machine.after_scalar h f k t)
scalar_step h f k (Key p sql.Where) = refl
scalar_step h f k (Close z) = closed_scalar h f NoWhere z k
scalar_step h NoFrom k (Comma p) = refl
scalar_step h NoFrom k (Key p From) = refl
scalar_step h (HasFrom ss) k (Comma p) = another_source ss (kept.OfScalar (scalar_kept h)) (base_of k) (forms_of k)
scalar_step h (HasFrom ss) k (Key p From) = no_from ss (kept.OfScalar (scalar_kept h)) (base_of k) (forms_of k)
scalar_step h NoFrom k t = refl
scalar_step h (HasFrom ss) k t = refl

-- the number spelled `0`
no_zero : (n : ℕ) → (suc n == 0) ≡ false
no_zero n = grind (arith, nat_tests)

not_one : (n : ℕ) → (suc (suc n) == 1) ≡ false
not_one n = grind (arith, nat_tests)

zero_step : (h : SumHead) (e : ExprSyntax) (z c : ℕ) (k : Around) (q n m : ℕ)
    → cond (n == 0 && m == 1) (Some (inside k (reader.AtTail (summing_kept h e) reader.BehindZero))) None ≡ option_map stand (machine.step (machine.AtSumComma h e z c k) (Constant q (sql.Number n m)))
zero_step h e z c k q zero zero = refl
zero_step h e z c k q zero (suc zero) = refl
zero_step h e z c k q zero (suc (suc m)) = ap (λ b. cond b (Some (inside k (reader.AtTail (summing_kept h e) reader.BehindZero))) None) (not_one m)
zero_step h e z c k q (suc n) m = ap (λ b. cond (b && m == 1) (Some (inside k (reader.AtTail (summing_kept h e) reader.BehindZero))) None) (no_zero n)

pub steps : (st : machine.State) (t : Token) → reader.step (stand st) t ≡ option_map stand (machine.step st t)
steps (machine.AtDef h) (Name p n) = refl
steps (machine.AtDefName h p n) (Key a As) = refl
steps (machine.AtDefAs h p n a) (Open o) = refl
steps (machine.WantSelect b c) t = select_steps b c t
steps (machine.AtUnion q u c) (Key a All) = refl
steps (machine.Want k) t = start_steps k t
steps (machine.AtName p n k) (Dot q) = refl
steps (machine.AtDot p n q k) (Name r c) = refl
steps (machine.AtCase p k) (Key w sql.When) = refl
steps (machine.AtExists n e k) (Open o) = refl
steps (machine.Have s k) t = after_steps k s t
steps (machine.AtRow r h b c) (Open o) = refl
steps (machine.AtRowOpen r o h b c) (Close x) = refl
steps (machine.AtRowClose r o x h b c) (Key v Over) = refl
steps (machine.AtOver r o x v h b c) (Open q) = refl
steps (machine.InOver r h b c) (Close q) = refl
steps (machine.InOver r h b c) (Key o Order) = refl
steps (machine.AtOrder o r h b c) (Key y By) = refl
steps (machine.AtHeld v h b c) (Key a As) = refl
steps (machine.AtAs v a h b c) (Name p n) = ap (λ g. Some (in_query c (reader.HaveItems (kept.OfSelect g) []))) (sym (item_put h b v a p n))
steps (machine.HaveItems i f b c) t = items_step i f b c t
steps (machine.AtSource h i b c) (Name p t) = refl
steps (machine.AtSourceName h p t i b c) (Key a As) = refl
steps (machine.AtSourceAs h p t a i b c) (Name q n) = ap (λ ss. Some (in_query c (reader.HaveItems (kept.OfSelect (whole_items i b)) ss))) (sym (source_put h p t a q n))
steps (machine.AtScalar p s k) (Key c Count) = refl
steps (machine.AtScalar p s k) (Key c Coalesce) = refl
steps (machine.AtCount p s c k) (Open o) = refl
steps (machine.AtCountOpen p s c o k) (Oper t Mul) = refl
steps (machine.AtCountStar p s c o t k) (Close z) = refl
steps (machine.AtCoalesce p s c k) (Open o) = refl
steps (machine.AtCoalesceOpen p s c o k) (Key u sql.Sum) = refl
steps (machine.AtSum p s c o u k) (Open v) = refl
steps (machine.AtSumClose h e z k) (Comma c) = refl
steps (machine.AtSumComma h e z c k) (Constant q (sql.Number n m)) = zero_step h e z c k q n m
steps (machine.AtSumZero h e z c q k) (Close r) = refl
steps (machine.HaveScalar h f k) t = scalar_step h f k t
steps (machine.AtScalarSource i h k) (Name p t) = refl
steps (machine.AtScalarSourceName i p t h k) (Key a As) = refl
steps (machine.AtScalarSourceAs i p t a h k) (Name q n) = ap (λ ss. Some (inside k (reader.HaveItems (kept.OfScalar (scalar_kept h)) ss))) (sym (source_put i p t a q n))
steps (machine.AtSemi w q p) (End e) = refl
steps (machine.Ready (OfText w q s) e) t = refl
steps st t = refl
