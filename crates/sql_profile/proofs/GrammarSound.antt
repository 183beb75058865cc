-- What the machine has read, and that it can always be completed.
use Rattle.std.proofs.Common.{◌≡◌, ℕ, ◌≤◌, Bool, true, false, cond, leb, List, [], ◌∷◌, refl, ◌∙◌, ap, arith, Option, Some, None, leb-true, zero, suc}
use Rattle.std.proofs.lemmas.Bool.Decides.{nat_tests}
use Rattle.nq_model.specs.declared.term.Binary.TheVariants.{Sub, Mul}
use Rattle.sql_profile.specs.Tokens.{With, As, Union, All, Select, From, Where, RowNumber, Over, Order, By, Not, Exists, Case, When, Then, Else, Stop, Constant, Token, Value, Name, Key, Oper, Open, Close, Comma, Dot, Semi, End, Count, Sum, Coalesce, Number}
use Rattle.sql_profile.specs.Grammar.{SourceSyntax, OfSource, FromSyntax, NoFrom, HasFrom, NumberingHead, OfRowNumber, ExprSyntax, OfConstant, OfColumn, OfParens, OfMinus, OfNot, OfNotExists, OfCase, OfBinary, QuerySyntax, MoreSelects, SelectSyntax, OfSelect, NoWhere, HasWhere, ItemsSyntax, ItemSyntax, OfItem, Plain, Numbering, NoKeys, HasKeys, KeyListSyntax, OneKey, WithSyntax, OfWith, NoWith, HasWith, source_tokens, sources_tokens, froms_tokens, row_tokens, tokens, query_tokens, choice_tokens, items_tokens, item_tokens, held_tokens, key_list_tokens, def_tokens, defs_tokens, withs_tokens, text_tokens, level, left_level, Fits, QueryFits, ChoiceFits, ItemsFit, ItemFits, HeldFits, KeyListFits, DefFits, DefsFit, WithsFit, TextFits, OfScalar, ScalarSyntax, Summed, OfSum, OfTail, sum_tokens, tail_tokens, scalar_tokens, ScalarFits}
use Rattle.sql_profile.specs.Machine.{Before, Fresh, Behind, ItemHead, AtSelect, AtComma, KeyHead, AtBy, KeyComma, SourceHead, AtFrom, SourceComma, DefHead, AtWith, DefComma, put_select, put_item, put_key, put_source, put_def, Around, InParen, InNeg, InNot, InWhen, InThen, InElse, InRight, InItem, InKey, InWhere, Outside, InMain, InDef, InExists, State, AtDef, AtDefName, AtDefAs, WantSelect, AtUnion, Want, AtName, AtDot, AtCase, AtExists, Have, AtRow, AtRowOpen, AtRowClose, AtOver, InOver, AtOrder, AtHeld, AtAs, HaveItems, AtSource, AtSourceName, AtSourceAs, AtSemi, Ready, asks, binds, level_of, after_query, after_key, shift, after, start, start_select, after_items, step, one, some_name, named, numbering, some_select, some_query, close, close_query, close_items, close_want, least, InSum, InScalarWhere, AtScalar, AtCount, AtCountOpen, AtCountStar, AtCoalesce, AtCoalesceOpen, AtSum, AtSumClose, AtSumComma, AtSumZero, HaveScalar, AtScalarSource, AtScalarSourceName, AtScalarSourceAs, counted, some_tail, close_scalar, after_scalar}
use Rattle.sql_profile.proofs.GrammarComplete.{levels}

-- What was read of an unfinished form, and then x.
abbrev pub before_tokens : Before → List Token → List Token
before_tokens Fresh x = x
before_tokens (Behind q u a) x = query_tokens q (Key u Union ∷ Key a All ∷ x)

abbrev pub item_head_tokens : ItemHead → List Token → List Token
item_head_tokens (AtSelect p) x = Key p Select ∷ x
item_head_tokens (AtComma is c) x = items_tokens is (Comma c ∷ x)

abbrev pub key_head_tokens : KeyHead → List Token → List Token
key_head_tokens (AtBy o b) x = Key o Order ∷ Key b By ∷ x
key_head_tokens (KeyComma ks c) x = key_list_tokens ks (Comma c ∷ x)

abbrev pub source_head_tokens : SourceHead → List Token → List Token
source_head_tokens (AtFrom p) x = Key p From ∷ x
source_head_tokens (SourceComma ss c) x = sources_tokens ss (Comma c ∷ x)

abbrev pub def_head_tokens : DefHead → List Token → List Token
def_head_tokens (AtWith p) x = Key p With ∷ x
def_head_tokens (DefComma ds c) x = defs_tokens ds (Comma c ∷ x)

pub put_select_tokens : (b : Before) (s : SelectSyntax) (x : List Token) → query_tokens (put_select b s) x ≡ before_tokens b (choice_tokens s x)
put_select_tokens Fresh s x = refl
put_select_tokens (Behind q u a) s x = refl

pub put_item_tokens : (h : ItemHead) (i : ItemSyntax) (x : List Token) → items_tokens (put_item h i) x ≡ item_head_tokens h (item_tokens i x)
put_item_tokens (AtSelect p) i x = refl
put_item_tokens (AtComma is c) i x = refl

pub put_key_tokens : (h : KeyHead) (s : ExprSyntax) (x : List Token) → key_list_tokens (put_key h s) x ≡ key_head_tokens h (tokens s x)
put_key_tokens (AtBy o b) s x = refl
put_key_tokens (KeyComma ks c) s x = refl

pub put_source_tokens : (h : SourceHead) (s : SourceSyntax) (x : List Token) → sources_tokens (put_source h s) x ≡ source_head_tokens h (source_tokens s x)
put_source_tokens (AtFrom p) s x = refl
put_source_tokens (SourceComma ss c) s x = refl

pub put_def_tokens : (h : DefHead) (f : WithSyntax) (x : List Token) → defs_tokens (put_def h f) x ≡ def_head_tokens h (def_tokens f x)
put_def_tokens (AtWith p) f x = refl
put_def_tokens (DefComma ds c) f x = refl

abbrev mutual
  pub shown : Around → List Token → List Token
  shown (InParen p k) x = shown k (Open p ∷ x)
  shown (InNeg p k) x = shown k (Oper p Sub ∷ x)
  shown (InNot p k) x = shown k (Key p Not ∷ x)
  shown (InWhen p w k) x = shown k (Key p Case ∷ Key w When ∷ x)
  shown (InThen p w t h k) x = shown k (Key p Case ∷ Key w When ∷ tokens t (Key h Then ∷ x))
  shown (InElse p w t h y e k) x = shown k (Key p Case ∷ Key w When ∷ tokens t (Key h Then ∷ tokens y (Key e Else ∷ x)))
  shown (InRight l p op k) x = shown k (tokens l (Oper p op ∷ x))
  shown (InItem h b c) x = shown_query c (before_tokens b (item_head_tokens h x))
  shown (InKey g r h b c) x = shown_query c (before_tokens b (item_head_tokens h (row_tokens r (key_head_tokens g x))))
  shown (InWhere p i f b c) x = shown_query c (before_tokens b (items_tokens i (froms_tokens f (Key p Where ∷ x))))
  shown (InSum h k) x = shown k (sum_tokens h x)
  shown (InScalarWhere p h f k) x = shown k (scalar_tokens h (froms_tokens f (Key p Where ∷ x)))

  pub shown_query : Outside → List Token → List Token
  shown_query (InMain w) x = withs_tokens w x
  shown_query (InDef h p n a o) x = def_head_tokens h (Name p n ∷ Key a As ∷ Open o ∷ x)
  shown_query (InExists n e o k) x = shown k (Key n Not ∷ Key e Exists ∷ Open o ∷ x)

abbrev pub shown_items : Before → Outside → List Token → List Token
shown_items b c x = shown_query c (before_tokens b x)

abbrev pub shown_item : ItemHead → Before → Outside → List Token → List Token
shown_item h b c x = shown_query c (before_tokens b (item_head_tokens h x))

-- all that was read, and then x
abbrev pub read : State → List Token → List Token
read (AtDef h) x = def_head_tokens h x
read (AtDefName h p n) x = def_head_tokens h (Name p n ∷ x)
read (AtDefAs h p n a) x = def_head_tokens h (Name p n ∷ Key a As ∷ x)
read (WantSelect b c) x = shown_items b c x
read (AtUnion q u c) x = shown_query c (query_tokens q (Key u Union ∷ x))
read (Want k) x = shown k x
read (AtName p n k) x = shown k (Name p n ∷ x)
read (AtDot p n q k) x = shown k (Name p n ∷ Dot q ∷ x)
read (AtCase p k) x = shown k (Key p Case ∷ x)
read (AtExists n e k) x = shown k (Key n Not ∷ Key e Exists ∷ x)
read (Have s k) x = shown k (tokens s x)
read (AtRow r h b c) x = shown_item h b c (Key r RowNumber ∷ x)
read (AtRowOpen r o h b c) x = shown_item h b c (Key r RowNumber ∷ Open o ∷ x)
read (AtRowClose r o y h b c) x = shown_item h b c (Key r RowNumber ∷ Open o ∷ Close y ∷ x)
read (AtOver r o y v h b c) x = shown_item h b c (Key r RowNumber ∷ Open o ∷ Close y ∷ Key v Over ∷ x)
read (InOver r h b c) x = shown_item h b c (row_tokens r x)
read (AtOrder o r h b c) x = shown_item h b c (row_tokens r (Key o Order ∷ x))
read (AtHeld v h b c) x = shown_item h b c (held_tokens v x)
read (AtAs v a h b c) x = shown_item h b c (held_tokens v (Key a As ∷ x))
read (HaveItems i f b c) x = shown_items b c (items_tokens i (froms_tokens f x))
read (AtSource h i b c) x = shown_items b c (items_tokens i (source_head_tokens h x))
read (AtSourceName h p t i b c) x = shown_items b c (items_tokens i (source_head_tokens h (Name p t ∷ x)))
read (AtSourceAs h p t a i b c) x = shown_items b c (items_tokens i (source_head_tokens h (Name p t ∷ Key a As ∷ x)))
read (AtSemi w q p) x = withs_tokens w (query_tokens q (Semi p ∷ x))
read (AtScalar p s k) x = shown k (Open p ∷ Key s Select ∷ x)
read (AtCount p s c k) x = shown k (Open p ∷ Key s Select ∷ Key c Count ∷ x)
read (AtCountOpen p s c o k) x = shown k (Open p ∷ Key s Select ∷ Key c Count ∷ Open o ∷ x)
read (AtCountStar p s c o t k) x = shown k (Open p ∷ Key s Select ∷ Key c Count ∷ Open o ∷ Oper t Mul ∷ x)
read (AtCoalesce p s c k) x = shown k (Open p ∷ Key s Select ∷ Key c Coalesce ∷ x)
read (AtCoalesceOpen p s c o k) x = shown k (Open p ∷ Key s Select ∷ Key c Coalesce ∷ Open o ∷ x)
read (AtSum p s c o u k) x = shown k (Open p ∷ Key s Select ∷ Key c Coalesce ∷ Open o ∷ Key u Sum ∷ x)
read (AtSumClose h e z k) x = shown k (sum_tokens h (tokens e (Close z ∷ x)))
read (AtSumComma h e z c k) x = shown k (sum_tokens h (tokens e (Close z ∷ Comma c ∷ x)))
read (AtSumZero h e z c q k) x = shown k (sum_tokens h (tokens e (Close z ∷ Comma c ∷ Value q (Number 0 1) ∷ x)))
read (HaveScalar h f k) x = shown k (scalar_tokens h (froms_tokens f x))
read (AtScalarSource i h k) x = shown k (scalar_tokens h (source_head_tokens i x))
read (AtScalarSourceName i p t h k) x = shown k (scalar_tokens h (source_head_tokens i (Name p t ∷ x)))
read (AtScalarSourceAs i p t a h k) x = shown k (scalar_tokens h (source_head_tokens i (Name p t ∷ Key a As ∷ x)))
read (Ready s q) x = text_tokens s (End q ∷ x)

-- What stands in unfinished forms fits.
abbrev pub BeforeFits : Before → Type 0
BeforeFits Fresh = Unit {0}
BeforeFits (Behind q u a) = QueryFits q

abbrev pub ItemHeadFits : ItemHead → Type 0
ItemHeadFits (AtSelect p) = Unit {0}
ItemHeadFits (AtComma is c) = ItemsFit is

abbrev pub KeyHeadFits : KeyHead → Type 0
KeyHeadFits (AtBy o b) = Unit {0}
KeyHeadFits (KeyComma ks c) = KeyListFits ks

abbrev pub DefHeadFits : DefHead → Type 0
DefHeadFits (AtWith p) = Unit {0}
DefHeadFits (DefComma ds c) = DefsFit ds

abbrev mutual
  pub AroundFits : Around → Type 0
  AroundFits (InParen p k) = AroundFits k
  AroundFits (InNeg p k) = AroundFits k
  AroundFits (InNot p k) = (asks k ≤ 3) × AroundFits k
  AroundFits (InWhen p w k) = AroundFits k
  AroundFits (InThen p w t h k) = Fits 1 t × AroundFits k
  AroundFits (InElse p w t h y e k) = Fits 1 t × Fits 1 y × AroundFits k
  AroundFits (InRight l p op k) = (asks k ≤ level op) × Fits (left_level op) l × AroundFits k
  AroundFits (InItem h b c) = ItemHeadFits h × BeforeFits b × OutsideFits c
  AroundFits (InKey g r h b c) = KeyHeadFits g × ItemHeadFits h × BeforeFits b × OutsideFits c
  AroundFits (InWhere p i f b c) = ItemsFit i × BeforeFits b × OutsideFits c
  AroundFits (InSum h k) = AroundFits k
  AroundFits (InScalarWhere p h f k) = ScalarFits h × AroundFits k

  pub OutsideFits : Outside → Type 0
  OutsideFits (InMain w) = WithsFit w
  OutsideFits (InDef h p n a o) = DefHeadFits h
  OutsideFits (InExists n e o k) = (asks k ≤ 3) × AroundFits k

abbrev pub SpotFits : ItemHead → Before → Outside → Type 0
SpotFits h b c = ItemHeadFits h × BeforeFits b × OutsideFits c

-- What stands in a state fits.
abbrev pub IsGood : State → Type 0
IsGood (AtDef h) = DefHeadFits h
IsGood (AtDefName h p n) = DefHeadFits h
IsGood (AtDefAs h p n a) = DefHeadFits h
IsGood (WantSelect b c) = BeforeFits b × OutsideFits c
IsGood (AtUnion q u c) = QueryFits q × OutsideFits c
IsGood (Want k) = AroundFits k
IsGood (AtName p n k) = AroundFits k
IsGood (AtDot p n q k) = AroundFits k
IsGood (AtCase p k) = AroundFits k
IsGood (AtExists n e k) = (asks k ≤ 3) × AroundFits k
IsGood (Have s k) = Fits (asks k) s × AroundFits k
IsGood (AtRow r h b c) = SpotFits h b c
IsGood (AtRowOpen r o h b c) = SpotFits h b c
IsGood (AtRowClose r o y h b c) = SpotFits h b c
IsGood (AtOver r o y v h b c) = SpotFits h b c
IsGood (InOver r h b c) = SpotFits h b c
IsGood (AtOrder o r h b c) = SpotFits h b c
IsGood (AtHeld v h b c) = HeldFits v × SpotFits h b c
IsGood (AtAs v a h b c) = HeldFits v × SpotFits h b c
IsGood (HaveItems i f b c) = ItemsFit i × BeforeFits b × OutsideFits c
IsGood (AtSource h i b c) = ItemsFit i × BeforeFits b × OutsideFits c
IsGood (AtSourceName h p t i b c) = ItemsFit i × BeforeFits b × OutsideFits c
IsGood (AtSourceAs h p t a i b c) = ItemsFit i × BeforeFits b × OutsideFits c
IsGood (AtSemi w q p) = WithsFit w × QueryFits q
IsGood (AtScalar p s k) = AroundFits k
IsGood (AtCount p s c k) = AroundFits k
IsGood (AtCountOpen p s c o k) = AroundFits k
IsGood (AtCountStar p s c o t k) = AroundFits k
IsGood (AtCoalesce p s c k) = AroundFits k
IsGood (AtCoalesceOpen p s c o k) = AroundFits k
IsGood (AtSum p s c o u k) = AroundFits k
IsGood (AtSumClose h e z k) = Fits 1 e × AroundFits k
IsGood (AtSumComma h e z c k) = Fits 1 e × AroundFits k
IsGood (AtSumZero h e z c q k) = Fits 1 e × AroundFits k
IsGood (HaveScalar h f k) = ScalarFits h × AroundFits k
IsGood (AtScalarSource i h k) = ScalarFits h × AroundFits k
IsGood (AtScalarSourceName i p t h k) = ScalarFits h × AroundFits k
IsGood (AtScalarSourceAs i p t a h k) = ScalarFits h × AroundFits k
IsGood (Ready s q) = TextFits s

pub put_select_fits : (b : Before) (s : SelectSyntax) → BeforeFits b → ChoiceFits s → QueryFits (put_select b s)
put_select_fits Fresh s f g = g
put_select_fits (Behind q u a) s f g = (f, g)

pub put_item_fits : (h : ItemHead) (i : ItemSyntax) → ItemHeadFits h → ItemFits i → ItemsFit (put_item h i)
put_item_fits (AtSelect p) i f g = g
put_item_fits (AtComma is c) i f g = (f, g)

pub put_key_fits : (h : KeyHead) (s : ExprSyntax) → KeyHeadFits h → Fits 1 s → KeyListFits (put_key h s)
put_key_fits (AtBy o b) s f g = g
put_key_fits (KeyComma ks c) s f g = (f, g)

pub put_def_fits : (h : DefHead) (d : WithSyntax) → DefHeadFits h → DefFits d → DefsFit (put_def h d)
put_def_fits (AtWith p) d f g = g
put_def_fits (DefComma ds c) d f g = (f, g)

-- What holds of the next state, if there is one.
abbrev pub Holds : Option State → (State → Type 0) → Type 0
Holds None P = Unit {0}
Holds (Some st) P = P st

pub record GoesTo (from : List Token → List Token) (st : State) : Type 0 where
  pub good : IsGood st
  pub same : (x : List Token) → read st x ≡ from x

pub then_if : (b : Bool) (st : State) (P : State → Type 0) → (b ≡ true → P st) → Holds (cond b (Some st) None) P
then_if true st P h = h refl
then_if false st P h = tt

pub then_either : (b : Bool) (o o' : Option State) (P : State → Type 0) → (b ≡ true → Holds o P) → (b ≡ false → Holds o' P) → Holds (cond b o o') P
then_either true o o' P h g = h refl
then_either false o o' P h g = g refl

pub moved : (o : Option State) (from from' : List Token → List Token) → ((x : List Token) → from x ≡ from' x) → Holds o (GoesTo from) → Holds o (GoesTo from')
moved None from from' h g = tt
moved (Some st) from from' h g = record { good = g.good; same = λ x. g.same x ∙ h x }

pub asks_small : (k : Around) → asks k ≤ 7
asks_small (InRight l p op k) = let v = levels op in omega (arith, v.high)
asks_small k = omega arith

-- a tree that fits stands at each weaker level, and at its own
pub raise : (s : ExprSyntax) (n m : ℕ) → Fits n s → m ≤ level_of s → Fits m s
raise (OfConstant p c) n m f h = tt
raise (OfColumn p a q r c) n m f h = tt
raise (OfParens p e q) n m f h = f
raise (OfMinus p e) n m f h = (h, f.1)
raise (OfNot p e) n m f h = (h, f.1)
raise (OfNotExists p e o q c) n m f h = (h, f.1)
raise (OfCase p w t i y e z l) n m f h = f
raise (OfBinary l p op r) n m f h = (h, f.1, f.2)
raise (OfScalar i v w z) n m f h = f

-- Each step takes the token, and keeps that all fits.
pub query_goes : (c : Outside) (q : QuerySyntax) (t : Token) → OutsideFits c → QueryFits q → Holds (after_query c q t) (GoesTo (λ x. shown_query c (query_tokens q (t ∷ x))))
query_goes c q (Key u Union) g f = record { good = (f, g); same = λ x. refl }
query_goes (InExists n e o k) q (Close z) g f = record { good = ((g.0, f), g.1); same = λ x. refl }
query_goes (InDef h p n a o) q (Close z) g f =
    record { good = (tt, put_def_fits h (OfWith p n a o q z) g f); same = λ x. put_def_tokens h (OfWith p n a o q z) x }
query_goes (InMain w) q (Semi p) g f = record { good = (g, f); same = λ x. refl }
query_goes (InMain w) q (End p) g f = record { good = (g, f); same = λ x. refl }
query_goes c q t g f = tt

pub key_goes : (ks : KeyListSyntax) (r : NumberingHead) (h : ItemHead) (b : Before) (c : Outside) (t : Token) → KeyListFits ks → SpotFits h b c
    → Holds (after_key ks r h b c t) (GoesTo (λ x. shown_item h b c (row_tokens r (key_list_tokens ks (t ∷ x)))))
key_goes ks r h b c (Comma p) f g = record { good = (f, g.0, g.1, g.2); same = λ x. refl }
key_goes ks r h b c (Close q) f g = record { good = (f, g); same = λ x. refl }
key_goes ks r h b c t f g = tt

-- behind a whole SELECT
pub choice_goes : (s : SelectSyntax) (b : Before) (c : Outside) (t : Token) → ChoiceFits s → BeforeFits b → OutsideFits c
    → Holds (after_query c (put_select b s) t) (GoesTo (λ x. shown_items b c (choice_tokens s (t ∷ x))))
choice_goes s b c t f g g' =
    moved (after_query c (put_select b s) t) (λ x. shown_query c (query_tokens (put_select b s) (t ∷ x))) _
    (λ x. ap (λ z. shown_query c z) (put_select_tokens b s (t ∷ x)))
    (query_goes c (put_select b s) t g' (put_select_fits b s g f))

pub shift_goes : (k : Around) (s : ExprSyntax) (t : Token) → (1 ≤ binds t → asks k ≤ binds t) → Fits (asks k) s → AroundFits k
    → Holds (shift k s t) (GoesTo (λ x. shown k (tokens s (t ∷ x))))
shift_goes k s (Oper p op) h f g =
    then_if (leb (left_level op) (level_of s)) (Want (InRight s p op k)) _
    (λ e. record { good = (h ((levels op).low), raise s (asks k) (left_level op) f (leb-true _ _ e), g); same = λ x. refl })
shift_goes (InParen p k) s (Close q) h f g = record { good = (f, g); same = λ x. refl }
shift_goes (InWhen p w k) s (Key i Then) h f g = record { good = (f, g); same = λ x. refl }
shift_goes (InThen p w t i k) s (Key e Else) h f g = record { good = (g.0, f, g.1); same = λ x. refl }
shift_goes (InElse p w t i y e k) s (Key z Stop) h f g = record { good = ((g.0, g.1, f), g.2); same = λ x. refl }
shift_goes (InSum i k) s (Close z) h f g = record { good = (f, g); same = λ x. refl }
shift_goes (InScalarWhere p i v k) s (Close z) h f g = record { good = ((g.0, f), g.1); same = λ x. refl }
shift_goes (InItem i b c) s (Key a As) h f g = record { good = (f, g); same = λ x. refl }
shift_goes (InKey i r j b c) s t h f g =
    moved (after_key (put_key i s) r j b c t) (λ x. shown_item j b c (row_tokens r (key_list_tokens (put_key i s) (t ∷ x)))) _
    (λ x. ap (λ z. shown_item j b c (row_tokens r z)) (put_key_tokens i s (t ∷ x)))
    (key_goes (put_key i s) r j b c t (put_key_fits i s g.0 f) (g.1, g.2, g.3))
shift_goes (InWhere p i v b c) s t h f g = choice_goes (OfSelect i v (HasWhere p s)) b c t (g.0, f) g.1 g.2
shift_goes k s t h f g = tt

pub after_goes : (k : Around) (s : ExprSyntax) (t : Token) → Fits (asks k) s → AroundFits k
    → Holds (after k s t) (GoesTo (λ x. shown k (tokens s (t ∷ x))))
after_goes (InNeg p k) s t f g = after_goes k (OfMinus p s) t (asks_small k, f) g
after_goes (InNot p k) s t f g =
    then_either (leb (binds t) 2) (after k (OfNot p s) t) (shift (InNot p k) s t) _
    (λ e. after_goes k (OfNot p s) t (g.0, f) g.1)
    (λ e. shift_goes (InNot p k) s t (λ h. grind (arith, nat_tests, e)) f g)
after_goes (InRight l p op k) s t f g =
    then_either (leb (binds t) (level op)) (after k (OfBinary l p op s) t) (shift (InRight l p op k) s t) _
    (λ e. after_goes k (OfBinary l p op s) t (g.0, g.1, f) g.2)
    (λ e. shift_goes (InRight l p op k) s t (λ h. grind (arith, nat_tests, e)) f g)
after_goes (InParen p k) s t f g = shift_goes (InParen p k) s t (λ h. h) f g
after_goes (InWhen p w k) s t f g = shift_goes (InWhen p w k) s t (λ h. h) f g
after_goes (InThen p w y i k) s t f g = shift_goes (InThen p w y i k) s t (λ h. h) f g
after_goes (InElse p w y i z e k) s t f g = shift_goes (InElse p w y i z e k) s t (λ h. h) f g
after_goes (InSum i k) s t f g = shift_goes (InSum i k) s t (λ h. h) f g
after_goes (InScalarWhere p i v k) s t f g = shift_goes (InScalarWhere p i v k) s t (λ h. h) f g
after_goes (InItem i b c) s t f g = shift_goes (InItem i b c) s t (λ h. h) f g
after_goes (InKey i r j b c) s t f g = shift_goes (InKey i r j b c) s t (λ h. h) f g
after_goes (InWhere p i v b c) s t f g = shift_goes (InWhere p i v b c) s t (λ h. h) f g

pub start_goes : (k : Around) (t : Token) → AroundFits k → Holds (start k t) (GoesTo (λ x. shown k (t ∷ x)))
start_goes k (Value p c) g = record { good = (fits_const k p c, g); same = λ x. refl }
  where
    fits_const : (k : Around) (p : ℕ) (c : Constant) → Fits (asks k) (OfConstant p c)
    fits_const k p c = tt
start_goes k (Name p n) g = record { good = g; same = λ x. refl }
start_goes k (Open p) g = record { good = g; same = λ x. refl }
start_goes k (Oper p Sub) g = record { good = g; same = λ x. refl }
start_goes k (Key p Case) g = record { good = g; same = λ x. refl }
start_goes k (Key p Not) g = then_if (leb (asks k) 3) (Want (InNot p k)) _ (λ e. record { good = (leb-true _ _ e, g); same = λ x. refl })
start_goes (InNot p k) (Key e Exists) g = record { good = g; same = λ x. refl }
start_goes (InParen p k) (Key s Select) g = record { good = g; same = λ x. refl }
start_goes (InItem h b c) (Key r RowNumber) g = record { good = g; same = λ x. refl }
start_goes k t g = tt

pub select_goes : (b : Before) (c : Outside) (t : Token) → BeforeFits b → OutsideFits c → Holds (start_select b c t) (GoesTo (λ x. shown_items b c (t ∷ x)))
select_goes b c (Key p Select) f g = record { good = (tt, f, g); same = λ x. refl }
select_goes Fresh (InMain NoWith) (Key p With) f g = record { good = tt; same = λ x. refl }
select_goes Fresh (InMain (HasWith ds)) (Comma p) f g = record { good = g; same = λ x. refl }
select_goes b c t f g = tt

pub items_goes : (i : ItemsSyntax) (v : FromSyntax) (b : Before) (c : Outside) (t : Token) → ItemsFit i → BeforeFits b → OutsideFits c
    → Holds (after_items i v b c t) (GoesTo (λ x. shown_items b c (items_tokens i (froms_tokens v (t ∷ x)))))
items_goes i v b c (Key p Where) f g g' = record { good = (f, g, g'); same = λ x. refl }
items_goes i NoFrom b c (Comma p) f g g' = record { good = (f, g, g'); same = λ x. refl }
items_goes i NoFrom b c (Key p From) f g g' = record { good = (f, g, g'); same = λ x. refl }
items_goes i (HasFrom ss) b c (Comma p) f g g' = record { good = (f, g, g'); same = λ x. refl }
items_goes i v b c t f g g' = choice_goes (OfSelect i v NoWhere) b c t (f, tt) g g'

pub scalar_goes : (h : ScalarSyntax) (f : FromSyntax) (k : Around) (t : Token) → ScalarFits h → AroundFits k → Holds (after_scalar h f k t) (GoesTo (λ x. shown k (scalar_tokens h (froms_tokens f (t ∷ x)))))
scalar_goes h f k (Key p Where) a g = record { good = (a, g); same = λ x. refl }
scalar_goes h f k (Close z) a g = record { good = ((a, tt), g); same = λ x. refl }
scalar_goes h NoFrom k (Key p From) a g = record { good = (a, g); same = λ x. refl }
scalar_goes h (HasFrom ss) k (Comma p) a g = record { good = (a, g); same = λ x. refl }
scalar_goes h f k t a g = tt

pub goes : (st : State) (t : Token) → IsGood st → Holds (step st t) (GoesTo (λ x. read st (t ∷ x)))
goes (AtDef h) (Name p n) g = record { good = g; same = λ x. refl }
goes (AtDefName h p n) (Key a As) g = record { good = g; same = λ x. refl }
goes (AtDefAs h p n a) (Open o) g = record { good = (tt, g); same = λ x. refl }
goes (WantSelect b c) t g = select_goes b c t g.0 g.1
goes (AtUnion q u c) (Key a All) g = record { good = g; same = λ x. refl }
goes (Want k) t g = start_goes k t g
goes (AtName p n k) (Dot q) g = record { good = g; same = λ x. refl }
goes (AtDot p n q k) (Name r l) g = record { good = (tt, g); same = λ x. refl }
goes (AtCase p k) (Key w When) g = record { good = g; same = λ x. refl }
goes (AtExists n e k) (Open o) g = record { good = (tt, g); same = λ x. refl }
goes (Have s k) t g = after_goes k s t g.0 g.1
goes (AtRow r h b c) (Open o) g = record { good = g; same = λ x. refl }
goes (AtRowOpen r o h b c) (Close y) g = record { good = g; same = λ x. refl }
goes (AtRowClose r o y h b c) (Key v Over) g = record { good = g; same = λ x. refl }
goes (AtOver r o y v h b c) (Open q) g = record { good = g; same = λ x. refl }
goes (InOver r h b c) (Close q) g = record { good = (tt, g); same = λ x. refl }
goes (InOver r h b c) (Key o Order) g = record { good = g; same = λ x. refl }
goes (AtOrder o r h b c) (Key y By) g = record { good = (tt, g.0, g.1, g.2); same = λ x. refl }
goes (AtHeld v h b c) (Key a As) g = record { good = g; same = λ x. refl }
goes (AtAs v a h b c) (Name p n) g =
    record { good = (put_item_fits h (OfItem v a p n) g.1.0 g.0, g.1.1, g.1.2); same = λ x. ap (λ z. shown_items b c z) (put_item_tokens h (OfItem v a p n) x) }
goes (HaveItems i v b c) t g = items_goes i v b c t g.0 g.1 g.2
goes (AtSource h i b c) (Name p t) g = record { good = g; same = λ x. refl }
goes (AtSourceName h p t i b c) (Key a As) g = record { good = g; same = λ x. refl }
goes (AtSourceAs h p t a i b c) (Name q n) g =
    record { good = g; same = λ x. ap (λ z. shown_items b c (items_tokens i z)) (put_source_tokens h (OfSource p t a q n) x) }
goes (AtScalar p s k) (Key c Count) g = record { good = g; same = λ x. refl }
goes (AtScalar p s k) (Key c Coalesce) g = record { good = g; same = λ x. refl }
goes (AtCount p s c k) (Open o) g = record { good = g; same = λ x. refl }
goes (AtCountOpen p s c o k) (Oper t Mul) g = record { good = g; same = λ x. refl }
goes (AtCountStar p s c o t k) (Close z) g = record { good = (tt, g); same = λ x. refl }
goes (AtCoalesce p s c k) (Open o) g = record { good = g; same = λ x. refl }
goes (AtCoalesceOpen p s c o k) (Key u Sum) g = record { good = g; same = λ x. refl }
goes (AtSum p s c o u k) (Open v) g = record { good = g; same = λ x. refl }
goes (AtSumClose h e z k) (Comma c) g = record { good = g; same = λ x. refl }
goes (AtSumComma h e z c k) (Value q (Number zero (suc zero))) g = record { good = g; same = λ x. refl }
goes (AtSumZero h e z c q k) (Close r) g = record { good = g; same = λ x. refl }
goes (HaveScalar h f k) t g = scalar_goes h f k t g.0 g.1
goes (AtScalarSource i h k) (Name p t) g = record { good = g; same = λ x. refl }
goes (AtScalarSourceName i p t h k) (Key a As) g = record { good = g; same = λ x. refl }
goes (AtScalarSourceAs i p t a h k) (Name q n) g = record { good = g; same = λ x. ap (λ z. shown k (scalar_tokens h z)) (put_source_tokens i (OfSource p t a q n) x) }
goes (AtSemi w q p) (End e) g = record { good = g; same = λ x. refl }
goes st t g = tt

-- The completion of a state.
abbrev mutual
  pub missing : Around → List Token → List Token
  missing (InParen p k) x = Close 0 ∷ missing k x
  missing (InNeg p k) x = missing k x
  missing (InNot p k) x = missing k x
  missing (InWhen p w k) x = Key 0 Then ∷ tokens one (Key 0 Else ∷ tokens one (Key 0 Stop ∷ missing k x))
  missing (InThen p w t h k) x = Key 0 Else ∷ tokens one (Key 0 Stop ∷ missing k x)
  missing (InElse p w t h y e k) x = Key 0 Stop ∷ missing k x
  missing (InRight l p op k) x = missing k x
  missing (InItem h b c) x = Key 0 As ∷ Name 0 some_name ∷ missing_query c x
  missing (InKey g r h b c) x = Close 0 ∷ Key 0 As ∷ Name 0 some_name ∷ missing_query c x
  missing (InWhere p i f b c) x = missing_query c x
  missing (InSum h k) x = tail_tokens some_tail (Close 0 ∷ missing k x)
  missing (InScalarWhere p h f k) x = Close 0 ∷ missing k x

  pub missing_query : Outside → List Token → List Token
  missing_query (InMain w) x = x
  missing_query (InDef h p n a o) x = Close 0 ∷ query_tokens some_query x
  missing_query (InExists n e o k) x = Close 0 ∷ missing k x

pub item_closed : (h : ItemHead) (b : Before) (c : Outside) (i : ItemSyntax) (y : List Token)
    → shown_query c (query_tokens (put_select b (OfSelect (put_item h i) NoFrom NoWhere)) y) ≡ shown_item h b c (item_tokens i y)
item_closed h b c i y =
    ap (λ z. shown_query c z) (put_select_tokens b (OfSelect (put_item h i) NoFrom NoWhere) y)
    ∙ ap (λ z. shown_items b c z) (put_item_tokens h i y)

mutual
  pub closed : (k : Around) (s : ExprSyntax) (x : List Token) → text_tokens (close k s) x ≡ shown k (tokens s (missing k x))
  closed (InParen p k) s x = closed k (OfParens p s 0) x
  closed (InNeg p k) s x = closed k (OfMinus p s) x
  closed (InNot p k) s x = closed k (OfNot p s) x
  closed (InWhen p w k) s x = closed k (OfCase p w s 0 one 0 one 0) x
  closed (InThen p w t h k) s x = closed k (OfCase p w t h s 0 one 0) x
  closed (InElse p w t h y e k) s x = closed k (OfCase p w t h y e s 0) x
  closed (InRight l p op k) s x = closed k (OfBinary l p op s) x
  closed (InItem h b c) s x =
      query_closed c (put_select b (OfSelect (put_item h (named (Plain s))) NoFrom NoWhere)) x ∙ item_closed h b c (named (Plain s)) (missing_query c x)
  closed (InKey g r h b c) s x =
      query_closed c (put_select b (OfSelect (put_item h (named (Numbering r (HasKeys (put_key g s)) 0))) NoFrom NoWhere)) x
      ∙ item_closed h b c (named (Numbering r (HasKeys (put_key g s)) 0)) (missing_query c x)
      ∙ ap (λ z. shown_item h b c (row_tokens r z)) (put_key_tokens g s (Close 0 ∷ Key 0 As ∷ Name 0 some_name ∷ missing_query c x))
  closed (InWhere p i f b c) s x =
      query_closed c (put_select b (OfSelect i f (HasWhere p s))) x
      ∙ ap (λ z. shown_query c z) (put_select_tokens b (OfSelect i f (HasWhere p s)) (missing_query c x))
  closed (InSum h k) s x = closed k (OfScalar (Summed h s some_tail) NoFrom NoWhere 0) x
  closed (InScalarWhere p h f k) s x = closed k (OfScalar h f (HasWhere p s) 0) x

  pub query_closed : (c : Outside) (q : QuerySyntax) (x : List Token) → text_tokens (close_query c q) x ≡ shown_query c (query_tokens q (missing_query c x))
  query_closed (InMain w) q x = refl
  query_closed (InDef h p n a o) q x = put_def_tokens h (OfWith p n a o q 0) (query_tokens some_query x)
  query_closed (InExists n e o k) q x = closed k (OfNotExists n e o q 0) x

mutual
  pub closed_fits : (k : Around) (s : ExprSyntax) → AroundFits k → Fits (asks k) s → TextFits (close k s)
  closed_fits (InParen p k) s g f = closed_fits k (OfParens p s 0) g (paren k p s f)
    where
      paren : (k : Around) (p : ℕ) (s : ExprSyntax) → Fits 1 s → Fits (asks k) (OfParens p s 0)
      paren k p s f = f
  closed_fits (InNeg p k) s g f = closed_fits k (OfMinus p s) g (asks_small k, f)
  closed_fits (InNot p k) s g f = closed_fits k (OfNot p s) g.1 (g.0, f)
  closed_fits (InWhen p w k) s g f = closed_fits k (OfCase p w s 0 one 0 one 0) g (f, tt, tt)
  closed_fits (InThen p w t h k) s g f = closed_fits k (OfCase p w t h s 0 one 0) g.1 (g.0, f, tt)
  closed_fits (InElse p w t h y e k) s g f = closed_fits k (OfCase p w t h y e s 0) g.2 (g.0, g.1, f)
  closed_fits (InRight l p op k) s g f = closed_fits k (OfBinary l p op s) g.2 (g.0, g.1, f)
  closed_fits (InItem h b c) s g f =
      query_closed_fits c (put_select b (OfSelect (put_item h (named (Plain s))) NoFrom NoWhere)) g.2 (put_select_fits b (OfSelect (put_item h (named (Plain s))) NoFrom NoWhere) g.1 (put_item_fits h (named (Plain s)) g.0 f, tt))
  closed_fits (InKey i r h b c) s g f =
      let v = named (Numbering r (HasKeys (put_key i s)) 0) in
      query_closed_fits c (put_select b (OfSelect (put_item h v) NoFrom NoWhere)) g.3 (put_select_fits b (OfSelect (put_item h v) NoFrom NoWhere) g.2 (put_item_fits h v g.1 (put_key_fits i s g.0 f), tt))
  closed_fits (InWhere p i v b c) s g f = query_closed_fits c (put_select b (OfSelect i v (HasWhere p s))) g.2 (put_select_fits b (OfSelect i v (HasWhere p s)) g.1 (g.0, f))
  closed_fits (InSum h k) s g f = closed_fits k (OfScalar (Summed h s some_tail) NoFrom NoWhere 0) g (f, tt)
  closed_fits (InScalarWhere p h v k) s g f = closed_fits k (OfScalar h v (HasWhere p s) 0) g.1 (g.0, f)

  pub query_closed_fits : (c : Outside) (q : QuerySyntax) → OutsideFits c → QueryFits q → TextFits (close_query c q)
  query_closed_fits (InMain w) q g f = (g, f)
  query_closed_fits (InDef h p n a o) q g f = (put_def_fits h (OfWith p n a o q 0) g f, (tt, tt))
  query_closed_fits (InExists n e o k) q g f = closed_fits k (OfNotExists n e o q 0) g.1 (g.0, f)

-- what the least completion adds
abbrev pub last : Outside → List Token
last c = missing_query c (End 0 ∷ [])

abbrev pub as_name : Outside → List Token
as_name c = Key 0 As ∷ Name 0 some_name ∷ last c

abbrev pub last_defs : List Token
last_defs = query_tokens some_query (Close 0 ∷ query_tokens some_query (End 0 ∷ []))

abbrev pub want_left : Around → List Token
want_left (InItem h b c) = held_tokens numbering (as_name c)
want_left (InParen p k) = Key 0 Select ∷ Key 0 Count ∷ Open 0 ∷ Oper 0 Mul ∷ Close 0 ∷ Close 0 ∷ missing k (End 0 ∷ [])
want_left k = tokens one (missing k (End 0 ∷ []))

abbrev pub left : State → List Token
left (AtDef h) = Name 0 some_name ∷ Key 0 As ∷ Open 0 ∷ last_defs
left (AtDefName h p n) = Key 0 As ∷ Open 0 ∷ last_defs
left (AtDefAs h p n a) = Open 0 ∷ last_defs
left (WantSelect b c) = choice_tokens some_select (last c)
left (AtUnion q u c) = Key 0 All ∷ choice_tokens some_select (last c)
left (Want k) = want_left k
left (AtName p n k) = Dot 0 ∷ Name 0 some_name ∷ missing k (End 0 ∷ [])
left (AtDot p n q k) = Name 0 some_name ∷ missing k (End 0 ∷ [])
left (AtCase p k) = Key 0 When ∷ tokens one (Key 0 Then ∷ tokens one (Key 0 Else ∷ tokens one (Key 0 Stop ∷ missing k (End 0 ∷ []))))
left (AtExists n e k) = Open 0 ∷ query_tokens some_query (Close 0 ∷ missing k (End 0 ∷ []))
left (Have s k) = missing k (End 0 ∷ [])
left (AtRow r h b c) = Open 0 ∷ Close 0 ∷ Key 0 Over ∷ Open 0 ∷ Close 0 ∷ as_name c
left (AtRowOpen r o h b c) = Close 0 ∷ Key 0 Over ∷ Open 0 ∷ Close 0 ∷ as_name c
left (AtRowClose r o y h b c) = Key 0 Over ∷ Open 0 ∷ Close 0 ∷ as_name c
left (AtOver r o y v h b c) = Open 0 ∷ Close 0 ∷ as_name c
left (InOver r h b c) = Close 0 ∷ as_name c
left (AtOrder o r h b c) = Key 0 By ∷ tokens one (Close 0 ∷ as_name c)
left (AtHeld v h b c) = as_name c
left (AtAs v a h b c) = Name 0 some_name ∷ last c
left (HaveItems i f b c) = last c
left (AtSource h i b c) = Name 0 some_name ∷ Key 0 As ∷ Name 0 some_name ∷ last c
left (AtSourceName h p t i b c) = Key 0 As ∷ Name 0 some_name ∷ last c
left (AtSourceAs h p t a i b c) = Name 0 some_name ∷ last c
left (AtSemi w q p) = End 0 ∷ []
left (AtScalar p s k) = Key 0 Count ∷ Open 0 ∷ Oper 0 Mul ∷ Close 0 ∷ Close 0 ∷ missing k (End 0 ∷ [])
left (AtCount p s c k) = Open 0 ∷ Oper 0 Mul ∷ Close 0 ∷ Close 0 ∷ missing k (End 0 ∷ [])
left (AtCountOpen p s c o k) = Oper 0 Mul ∷ Close 0 ∷ Close 0 ∷ missing k (End 0 ∷ [])
left (AtCountStar p s c o t k) = Close 0 ∷ Close 0 ∷ missing k (End 0 ∷ [])
left (AtCoalesce p s c k) = Open 0 ∷ Key 0 Sum ∷ Open 0 ∷ tokens one (tail_tokens some_tail (Close 0 ∷ missing k (End 0 ∷ [])))
left (AtCoalesceOpen p s c o k) = Key 0 Sum ∷ Open 0 ∷ tokens one (tail_tokens some_tail (Close 0 ∷ missing k (End 0 ∷ [])))
left (AtSum p s c o u k) = Open 0 ∷ tokens one (tail_tokens some_tail (Close 0 ∷ missing k (End 0 ∷ [])))
left (AtSumClose h e z k) = Comma 0 ∷ Value 0 (Number 0 1) ∷ Close 0 ∷ Close 0 ∷ missing k (End 0 ∷ [])
left (AtSumComma h e z c k) = Value 0 (Number 0 1) ∷ Close 0 ∷ Close 0 ∷ missing k (End 0 ∷ [])
left (AtSumZero h e z c q k) = Close 0 ∷ Close 0 ∷ missing k (End 0 ∷ [])
left (HaveScalar h f k) = Close 0 ∷ missing k (End 0 ∷ [])
left (AtScalarSource i h k) = Name 0 some_name ∷ Key 0 As ∷ Name 0 some_name ∷ Close 0 ∷ missing k (End 0 ∷ [])
left (AtScalarSourceName i p t h k) = Key 0 As ∷ Name 0 some_name ∷ Close 0 ∷ missing k (End 0 ∷ [])
left (AtScalarSourceAs i p t a h k) = Name 0 some_name ∷ Close 0 ∷ missing k (End 0 ∷ [])
left (Ready s q) = []

abbrev pub end_place : State → ℕ
end_place (Ready s q) = q
end_place _ = 0

pub items_filled : (i : ItemsSyntax) (f : FromSyntax) (b : Before) (c : Outside) → text_tokens (close_items i f b c) (End 0 ∷ []) ≡ shown_items b c (items_tokens i (froms_tokens f (last c)))
items_filled i f b c =
    query_closed c (put_select b (OfSelect i f NoWhere)) (End 0 ∷ []) ∙ ap (λ z. shown_query c z) (put_select_tokens b (OfSelect i f NoWhere) (last c))

pub item_filled : (i : ItemSyntax) (h : ItemHead) (b : Before) (c : Outside) → text_tokens (close_items (put_item h i) NoFrom b c) (End 0 ∷ []) ≡ shown_item h b c (item_tokens i (last c))
item_filled i h b c = items_filled (put_item h i) NoFrom b c ∙ ap (λ z. shown_items b c z) (put_item_tokens h i (last c))

pub source_filled : (s : SourceSyntax) (h : SourceHead) (i : ItemsSyntax) (b : Before) (c : Outside)
    → text_tokens (close_items i (HasFrom (put_source h s)) b c) (End 0 ∷ []) ≡ shown_items b c (items_tokens i (source_head_tokens h (source_tokens s (last c))))
source_filled s h i b c = items_filled i (HasFrom (put_source h s)) b c ∙ ap (λ z. shown_items b c (items_tokens i z)) (put_source_tokens h s (last c))

pub want_filled : (k : Around) → text_tokens (close_want k) (End 0 ∷ []) ≡ shown k (want_left k)
want_filled (InItem h b c) = item_filled (named numbering) h b c
want_filled (InParen p k) = closed k (OfScalar (counted p 0 0 0 0 0) NoFrom NoWhere 0) (End 0 ∷ [])
want_filled k = closed k one (End 0 ∷ [])

pub scalar_filled : (h : ScalarSyntax) (f : FromSyntax) (k : Around) → text_tokens (close_scalar h f k) (End 0 ∷ []) ≡ shown k (scalar_tokens h (froms_tokens f (Close 0 ∷ missing k (End 0 ∷ []))))
scalar_filled h f k = closed k (OfScalar h f NoWhere 0) (End 0 ∷ [])

pub scalar_source_filled : (s : SourceSyntax) (i : SourceHead) (h : ScalarSyntax) (k : Around)
    → text_tokens (close_scalar h (HasFrom (put_source i s)) k) (End 0 ∷ []) ≡ shown k (scalar_tokens h (source_head_tokens i (source_tokens s (Close 0 ∷ missing k (End 0 ∷ [])))))
scalar_source_filled s i h k = scalar_filled h (HasFrom (put_source i s)) k ∙ ap (λ z. shown k (scalar_tokens h z)) (put_source_tokens i s (Close 0 ∷ missing k (End 0 ∷ [])))

pub filled : (st : State) → text_tokens (least st) (End (end_place st) ∷ []) ≡ read st (left st)
filled (AtDef h) = put_def_tokens h (OfWith 0 some_name 0 0 some_query 0) (query_tokens some_query (End 0 ∷ []))
filled (AtDefName h p n) = put_def_tokens h (OfWith p n 0 0 some_query 0) (query_tokens some_query (End 0 ∷ []))
filled (AtDefAs h p n a) = put_def_tokens h (OfWith p n a 0 some_query 0) (query_tokens some_query (End 0 ∷ []))
filled (WantSelect b c) = query_closed c (put_select b some_select) (End 0 ∷ []) ∙ ap (λ z. shown_query c z) (put_select_tokens b some_select (last c))
filled (AtUnion q u c) = query_closed c (MoreSelects q u 0 some_select) (End 0 ∷ [])
filled (Want k) = want_filled k
filled (AtName p n k) = closed k (OfColumn p n 0 0 some_name) (End 0 ∷ [])
filled (AtDot p n q k) = closed k (OfColumn p n q 0 some_name) (End 0 ∷ [])
filled (AtCase p k) = closed k (OfCase p 0 one 0 one 0 one 0) (End 0 ∷ [])
filled (AtExists n e k) = closed k (OfNotExists n e 0 some_query 0) (End 0 ∷ [])
filled (Have s k) = closed k s (End 0 ∷ [])
filled (AtRow r h b c) = item_filled (named (Numbering (OfRowNumber r 0 0 0 0) NoKeys 0)) h b c
filled (AtRowOpen r o h b c) = item_filled (named (Numbering (OfRowNumber r o 0 0 0) NoKeys 0)) h b c
filled (AtRowClose r o y h b c) = item_filled (named (Numbering (OfRowNumber r o y 0 0) NoKeys 0)) h b c
filled (AtOver r o y v h b c) = item_filled (named (Numbering (OfRowNumber r o y v 0) NoKeys 0)) h b c
filled (InOver r h b c) = item_filled (named (Numbering r NoKeys 0)) h b c
filled (AtOrder o r h b c) = item_filled (named (Numbering r (HasKeys (OneKey o 0 one)) 0)) h b c
filled (AtHeld v h b c) = item_filled (named v) h b c
filled (AtAs v a h b c) = item_filled (OfItem v a 0 some_name) h b c
filled (HaveItems i f b c) = items_filled i f b c
filled (AtSource h i b c) = source_filled (OfSource 0 some_name 0 0 some_name) h i b c
filled (AtSourceName h p t i b c) = source_filled (OfSource p t 0 0 some_name) h i b c
filled (AtSourceAs h p t a i b c) = source_filled (OfSource p t a 0 some_name) h i b c
filled (AtSemi w q p) = refl
filled (AtScalar p s k) = scalar_filled (counted p s 0 0 0 0) NoFrom k
filled (AtCount p s c k) = scalar_filled (counted p s c 0 0 0) NoFrom k
filled (AtCountOpen p s c o k) = scalar_filled (counted p s c o 0 0) NoFrom k
filled (AtCountStar p s c o t k) = scalar_filled (counted p s c o t 0) NoFrom k
filled (AtCoalesce p s c k) = scalar_filled (Summed (OfSum p s c 0 0 0) one some_tail) NoFrom k
filled (AtCoalesceOpen p s c o k) = scalar_filled (Summed (OfSum p s c o 0 0) one some_tail) NoFrom k
filled (AtSum p s c o u k) = scalar_filled (Summed (OfSum p s c o u 0) one some_tail) NoFrom k
filled (AtSumClose h e z k) = scalar_filled (Summed h e (OfTail z 0 0 0)) NoFrom k
filled (AtSumComma h e z c k) = scalar_filled (Summed h e (OfTail z c 0 0)) NoFrom k
filled (AtSumZero h e z c q k) = scalar_filled (Summed h e (OfTail z c q 0)) NoFrom k
filled (HaveScalar h f k) = scalar_filled h f k
filled (AtScalarSource i h k) = scalar_source_filled (OfSource 0 some_name 0 0 some_name) i h k
filled (AtScalarSourceName i p t h k) = scalar_source_filled (OfSource p t 0 0 some_name) i h k
filled (AtScalarSourceAs i p t a h k) = scalar_source_filled (OfSource p t a 0 some_name) i h k
filled (Ready s q) = refl

pub items_fit : (i : ItemsSyntax) (f : FromSyntax) (b : Before) (c : Outside) → ItemsFit i → BeforeFits b → OutsideFits c → TextFits (close_items i f b c)
items_fit i f b c g h k = query_closed_fits c (put_select b (OfSelect i f NoWhere)) k (put_select_fits b (OfSelect i f NoWhere) h (g, tt))

pub item_fits : (i : ItemSyntax) (h : ItemHead) (b : Before) (c : Outside) → ItemFits i → SpotFits h b c → TextFits (close_items (put_item h i) NoFrom b c)
item_fits i h b c f g = items_fit (put_item h i) NoFrom b c (put_item_fits h i g.0 f) g.1 g.2

pub want_fits : (k : Around) → AroundFits k → TextFits (close_want k)
want_fits (InItem h b c) g = item_fits (named numbering) h b c tt g
want_fits (InParen p k) g = closed_fits k (OfScalar (counted p 0 0 0 0 0) NoFrom NoWhere 0) g (tt, tt)
want_fits k g = closed_fits k one g tt

pub least_fits : (st : State) → IsGood st → TextFits (least st)
least_fits (AtDef h) g = (put_def_fits h (OfWith 0 some_name 0 0 some_query 0) g (tt, tt), (tt, tt))
least_fits (AtDefName h p n) g = (put_def_fits h (OfWith p n 0 0 some_query 0) g (tt, tt), (tt, tt))
least_fits (AtDefAs h p n a) g = (put_def_fits h (OfWith p n a 0 some_query 0) g (tt, tt), (tt, tt))
least_fits (WantSelect b c) g = query_closed_fits c (put_select b some_select) g.1 (put_select_fits b some_select g.0 (tt, tt))
least_fits (AtUnion q u c) g = query_closed_fits c (MoreSelects q u 0 some_select) g.1 (g.0, (tt, tt))
least_fits (Want k) g = want_fits k g
least_fits (AtName p n k) g = closed_fits k (OfColumn p n 0 0 some_name) g tt
least_fits (AtDot p n q k) g = closed_fits k (OfColumn p n q 0 some_name) g tt
least_fits (AtCase p k) g = closed_fits k (OfCase p 0 one 0 one 0 one 0) g (tt, tt, tt)
least_fits (AtExists n e k) g = closed_fits k (OfNotExists n e 0 some_query 0) g.1 (g.0, (tt, tt))
least_fits (Have s k) g = closed_fits k s g.1 g.0
least_fits (AtRow r h b c) g = item_fits (named (Numbering (OfRowNumber r 0 0 0 0) NoKeys 0)) h b c tt g
least_fits (AtRowOpen r o h b c) g = item_fits (named (Numbering (OfRowNumber r o 0 0 0) NoKeys 0)) h b c tt g
least_fits (AtRowClose r o y h b c) g = item_fits (named (Numbering (OfRowNumber r o y 0 0) NoKeys 0)) h b c tt g
least_fits (AtOver r o y v h b c) g = item_fits (named (Numbering (OfRowNumber r o y v 0) NoKeys 0)) h b c tt g
least_fits (InOver r h b c) g = item_fits (named (Numbering r NoKeys 0)) h b c tt g
least_fits (AtOrder o r h b c) g = item_fits (named (Numbering r (HasKeys (OneKey o 0 one)) 0)) h b c tt g
least_fits (AtHeld v h b c) g = item_fits (named v) h b c g.0 g.1
least_fits (AtAs v a h b c) g = item_fits (OfItem v a 0 some_name) h b c g.0 g.1
least_fits (HaveItems i f b c) g = items_fit i f b c g.0 g.1 g.2
least_fits (AtSource h i b c) g = items_fit i (HasFrom (put_source h (OfSource 0 some_name 0 0 some_name))) b c g.0 g.1 g.2
least_fits (AtSourceName h p t i b c) g = items_fit i (HasFrom (put_source h (OfSource p t 0 0 some_name))) b c g.0 g.1 g.2
least_fits (AtSourceAs h p t a i b c) g = items_fit i (HasFrom (put_source h (OfSource p t a 0 some_name))) b c g.0 g.1 g.2
least_fits (AtSemi w q p) g = g
least_fits (AtScalar p s k) g = closed_fits k (OfScalar (counted p s 0 0 0 0) NoFrom NoWhere 0) g (tt, tt)
least_fits (AtCount p s c k) g = closed_fits k (OfScalar (counted p s c 0 0 0) NoFrom NoWhere 0) g (tt, tt)
least_fits (AtCountOpen p s c o k) g = closed_fits k (OfScalar (counted p s c o 0 0) NoFrom NoWhere 0) g (tt, tt)
least_fits (AtCountStar p s c o t k) g = closed_fits k (OfScalar (counted p s c o t 0) NoFrom NoWhere 0) g (tt, tt)
least_fits (AtCoalesce p s c k) g = closed_fits k (OfScalar (Summed (OfSum p s c 0 0 0) one some_tail) NoFrom NoWhere 0) g (tt, tt)
least_fits (AtCoalesceOpen p s c o k) g = closed_fits k (OfScalar (Summed (OfSum p s c o 0 0) one some_tail) NoFrom NoWhere 0) g (tt, tt)
least_fits (AtSum p s c o u k) g = closed_fits k (OfScalar (Summed (OfSum p s c o u 0) one some_tail) NoFrom NoWhere 0) g (tt, tt)
least_fits (AtSumClose h e z k) g = closed_fits k (OfScalar (Summed h e (OfTail z 0 0 0)) NoFrom NoWhere 0) g.1 (g.0, tt)
least_fits (AtSumComma h e z c k) g = closed_fits k (OfScalar (Summed h e (OfTail z c 0 0)) NoFrom NoWhere 0) g.1 (g.0, tt)
least_fits (AtSumZero h e z c q k) g = closed_fits k (OfScalar (Summed h e (OfTail z c q 0)) NoFrom NoWhere 0) g.1 (g.0, tt)
least_fits (HaveScalar h f k) g = closed_fits k (OfScalar h f NoWhere 0) g.1 (g.0, tt)
least_fits (AtScalarSource i h k) g = closed_fits k (OfScalar h (HasFrom (put_source i (OfSource 0 some_name 0 0 some_name))) NoWhere 0) g.1 (g.0, tt)
least_fits (AtScalarSourceName i p t h k) g = closed_fits k (OfScalar h (HasFrom (put_source i (OfSource p t 0 0 some_name))) NoWhere 0) g.1 (g.0, tt)
least_fits (AtScalarSourceAs i p t a h k) g = closed_fits k (OfScalar h (HasFrom (put_source i (OfSource p t a 0 some_name))) NoWhere 0) g.1 (g.0, tt)
least_fits (Ready s q) g = g
