-- The least completion is a program, and begins with what was read.
use Rattle.std.proofs.Common.{◌≡◌, ℕ, true, List, [], ◌∷◌, refl, ◌∙◌, ap, codes}
use Rattle.nq_model.specs.QueryTokens.{Opening, Closing, ClosingBag, Colon, Semicolon, Assign, From, Arrow, Token, Word, Sign, End}
use Rattle.nq_model.specs.QueryGrammar.{Edition, IsAggregate, kind, aggregate_word, TypeSyntax, TNoFields, TRec, TOne, TMore, Syntax, Table, Aggregated, NoFields, Rec, Nil, For, Where, Fun, Let, Field, One, More, type_tokens, tokens, TypeFits, Fits, FieldsFit}
use Rattle.nq_parser.specs.Machine.{Frame, InParen, InBag, InAggregate, InSource, InBody, InTest, InGuarded, InIf, InThen, InElse, InFunBody, InValue, InLetBody, InPrefix, InRight, InArg, InField, TypeFrame, TInBag, TInParen, TInRight, TInField, Around, InNil, InFun, State, Want, AtWord, AtTable, AtAggregate, AtFor, AtForOpen, AtForName, AtWhere, AtFun, AtFunOpen, AtFunName, AtFunClose, AtLet, AtLetName, AtComma, AtLabel, AtDot, WantType, AtTypeWord, AtTypeComma, AtTypeLabel, HaveType, Have, Ready, asks_of, asks, unit, int_type, some_name, finish, close, finish_type, close_type, fill_around, close_around, close_want, close_type_want, least}
use Rattle.nq_parser.proofs.Sound.{pre, shown, type_pre, types_shown, around_pre, shown_type, read, FrameFits, StackFits, TypeFrameFits, TypesFit, AroundFits, IsGood, put_field_tokens, put_type_tokens, put_field_fits, put_type_fits, asks_small, type_raise, name_is}

-- what an unfinished form still asks for, and then x
abbrev pub post : Frame → List Token → List Token
post (InParen p) x = Sign 0 Closing ∷ x
post (InBag p) x = Sign 0 ClosingBag ∷ x
post (InAggregate a p o) x = Sign 0 Closing ∷ x
post (InSource p o v y a) x = Sign 0 Closing ∷ tokens unit x
post (InBody p o v y a m c) x = x
post (InTest p o) x = Sign 0 Closing ∷ tokens unit x
post (InGuarded p o i c) x = x
post (InIf p) x = Word 0 (codes "then") ∷ tokens unit (Word 0 (codes "else") ∷ tokens unit x)
post (InThen p i q) x = Word 0 (codes "else") ∷ tokens unit x
post (InElse p i q y r) x = x
post (InFunBody p o v y c i z a) x = x
post (InValue p v y a) x = Sign 0 Semicolon ∷ tokens unit x
post (InLetBody p v y a m q) x = x
post (InPrefix p u) x = x
post (InRight l p op) x = x
post (InArg e p) x = Sign 0 Closing ∷ x
post (InField h v l a) x = Sign 0 Closing ∷ x

abbrev pub missing : List Frame → List Token → List Token
missing [] x = x
missing (f ∷ k) x = post f (missing k x)

abbrev pub type_post : TypeFrame → List Token → List Token
type_post (TInBag p) x = Sign 0 ClosingBag ∷ x
type_post (TInParen p) x = Sign 0 Closing ∷ x
type_post (TInRight a p) x = x
type_post (TInField h v l c) x = Sign 0 Closing ∷ x

abbrev pub types_missing : List TypeFrame → List Token → List Token
types_missing [] x = x
types_missing (f ∷ j) x = type_post f (types_missing j x)

abbrev pub around_post : Around → List Token → List Token
around_post (InNil p c) x = Sign 0 ClosingBag ∷ x
around_post (InFun p o v y c) x = Sign 0 Closing ∷ Sign 0 Arrow ∷ tokens unit x

pub finished : (f : Frame) (s : Syntax) (x : List Token) → tokens (finish f s) x ≡ pre f (tokens s (post f x))
finished (InParen p) s x = refl
finished (InBag p) s x = refl
finished (InAggregate a p o) s x = refl
finished (InSource p o v y a) s x = refl
finished (InBody p o v y a m c) s x = refl
finished (InTest p o) s x = refl
finished (InGuarded p o i c) s x = refl
finished (InIf p) s x = refl
finished (InThen p i q) s x = refl
finished (InElse p i q y r) s x = refl
finished (InFunBody p o v y c i z a) s x = refl
finished (InValue p v y a) s x = refl
finished (InLetBody p v y a m q) s x = refl
finished (InPrefix p u) s x = refl
finished (InRight l p op) s x = refl
finished (InArg e p) s x = refl
finished (InField h v l a) s x = put_field_tokens h v l a s (Sign 0 Closing ∷ x)

pub closed : (k : List Frame) (s : Syntax) (x : List Token) → tokens (close k s) x ≡ shown k (tokens s (missing k x))
closed [] s x = refl
closed (f ∷ k) s x = closed k (finish f s) x ∙ ap (λ z. shown k z) (finished f s (missing k x))

pub type_finished : (f : TypeFrame) (t : TypeSyntax) (x : List Token) → type_tokens (finish_type f t) x ≡ type_pre f (type_tokens t (type_post f x))
type_finished (TInBag p) t x = refl
type_finished (TInParen p) t x = refl
type_finished (TInRight a p) t x = refl
type_finished (TInField h v l c) t x = put_type_tokens h v l c t (Sign 0 Closing ∷ x)

pub type_closed : (j : List TypeFrame) (t : TypeSyntax) (x : List Token) → type_tokens (close_type j t) x ≡ types_shown j (type_tokens t (types_missing j x))
type_closed [] t x = refl
type_closed (f ∷ j) t x = type_closed j (finish_type f t) x ∙ ap (λ z. types_shown j z) (type_finished f t (types_missing j x))

pub filled_around : (o : Around) (t : TypeSyntax) (x : List Token) → tokens (fill_around o t) x ≡ around_pre o (type_tokens t (around_post o x))
filled_around (InNil p c) t x = refl
filled_around (InFun p o v y c) t x = refl

pub around_closed : (j : List TypeFrame) (o : Around) (k : List Frame) (t : TypeSyntax) (x : List Token)
    → tokens (close_around j o k t) x ≡ shown_type j o k (type_tokens t (types_missing j (around_post o (missing k x))))
around_closed j o k t x =
    closed k (fill_around o (close_type j t)) x
    ∙ ap (λ z. shown k z) (filled_around o (close_type j t) (missing k x))
    ∙ ap (λ z. shown k (around_pre o z)) (type_closed j t (around_post o (missing k x)))

-- what the least completion adds
abbrev pub last : List Frame → List Token
last k = missing k (End 0 ∷ [])

abbrev pub type_last : List TypeFrame → Around → List Frame → List Token
type_last j o k = types_missing j (around_post o (last k))

abbrev pub want_left : List Frame → List Token
want_left (InParen p ∷ k) = Sign 0 Closing ∷ last k
want_left (InBag p ∷ k) = Sign 0 Colon ∷ type_tokens int_type (Sign 0 ClosingBag ∷ last k)
want_left k = tokens unit (last k)

abbrev pub want_type_left : List TypeFrame → Around → List Frame → List Token
want_type_left (TInParen p ∷ j) o k = Sign 0 Closing ∷ type_last j o k
want_type_left j o k = type_tokens int_type (type_last j o k)

abbrev pub left : State → List Token
left (Want k) = want_left k
left (AtWord p v w k) = Sign 0 Assign ∷ tokens unit (Sign 0 Closing ∷ last k)
left (AtTable p k) = Word 0 some_name ∷ last k
left (AtAggregate a p k) = Sign 0 Opening ∷ tokens unit (Sign 0 Closing ∷ last k)
left (AtFor p k) = Sign 0 Opening ∷ Word 0 some_name ∷ Sign 0 From ∷ tokens unit (Sign 0 Closing ∷ tokens unit (last k))
left (AtForOpen p o k) = Word 0 some_name ∷ Sign 0 From ∷ tokens unit (Sign 0 Closing ∷ tokens unit (last k))
left (AtForName p o v y k) = Sign 0 From ∷ tokens unit (Sign 0 Closing ∷ tokens unit (last k))
left (AtWhere p k) = Sign 0 Opening ∷ tokens unit (Sign 0 Closing ∷ tokens unit (last k))
left (AtFun p k) = Sign 0 Opening ∷ Word 0 some_name ∷ Sign 0 Colon ∷ type_tokens int_type (Sign 0 Closing ∷ Sign 0 Arrow ∷ tokens unit (last k))
left (AtFunOpen p o k) = Word 0 some_name ∷ Sign 0 Colon ∷ type_tokens int_type (Sign 0 Closing ∷ Sign 0 Arrow ∷ tokens unit (last k))
left (AtFunName p o v y k) = Sign 0 Colon ∷ type_tokens int_type (Sign 0 Closing ∷ Sign 0 Arrow ∷ tokens unit (last k))
left (AtFunClose p o v y c t z k) = Sign 0 Arrow ∷ tokens unit (last k)
left (AtLet p k) = Word 0 some_name ∷ Sign 0 Assign ∷ tokens unit (Sign 0 Semicolon ∷ tokens unit (last k))
left (AtLetName p v y k) = Sign 0 Assign ∷ tokens unit (Sign 0 Semicolon ∷ tokens unit (last k))
left (AtComma fs c k) = Word 0 some_name ∷ Sign 0 Assign ∷ tokens unit (Sign 0 Closing ∷ last k)
left (AtLabel fs c v l k) = Sign 0 Assign ∷ tokens unit (Sign 0 Closing ∷ last k)
left (AtDot s p k) = Word 0 some_name ∷ last k
left (WantType j o k) = want_type_left j o k
left (AtTypeWord p v w j o k) = Sign 0 Colon ∷ type_tokens int_type (Sign 0 Closing ∷ type_last j o k)
left (AtTypeComma fs q j o k) = Word 0 some_name ∷ Sign 0 Colon ∷ type_tokens int_type (Sign 0 Closing ∷ type_last j o k)
left (AtTypeLabel fs q v l j o k) = Sign 0 Colon ∷ type_tokens int_type (Sign 0 Closing ∷ type_last j o k)
left (HaveType t j o k) = type_last j o k
left (Have s k) = last k
left (Ready s q) = []

abbrev pub end_place : State → ℕ
end_place (Ready s q) = q
end_place st = 0

pub want_filled : (k : List Frame) → tokens (close_want k) (End 0 ∷ []) ≡ shown k (want_left k)
want_filled [] = refl
want_filled (InParen p ∷ k) = closed k (NoFields p 0) (End 0 ∷ [])
want_filled (InBag p ∷ k) = closed k (Nil p 0 int_type 0) (End 0 ∷ [])
want_filled (f ∷ k) = closed (f ∷ k) unit (End 0 ∷ [])

pub want_type_filled : (j : List TypeFrame) (o : Around) (k : List Frame) → tokens (close_type_want j o k) (End 0 ∷ []) ≡ shown_type j o k (want_type_left j o k)
want_type_filled [] o k = around_closed [] o k int_type (End 0 ∷ [])
want_type_filled (TInParen p ∷ j) o k = around_closed j o k (TNoFields p 0) (End 0 ∷ [])
want_type_filled (f ∷ j) o k = around_closed (f ∷ j) o k int_type (End 0 ∷ [])

pub filled : (st : State) → tokens (least st) (End (end_place st) ∷ []) ≡ read st (left st)
filled (Want k) = want_filled k
filled (AtWord p v w k) = closed k (Rec (One p v w 0 unit) 0) (End 0 ∷ [])
filled (AtTable p k) = closed k (Table p 0 some_name) (End 0 ∷ [])
filled (AtAggregate a p k) = closed k (Aggregated a p 0 unit 0) (End 0 ∷ [])
filled (AtFor p k) = closed k (For p 0 0 some_name 0 unit 0 unit) (End 0 ∷ [])
filled (AtForOpen p o k) = closed k (For p o 0 some_name 0 unit 0 unit) (End 0 ∷ [])
filled (AtForName p o v y k) = closed k (For p o v y 0 unit 0 unit) (End 0 ∷ [])
filled (AtWhere p k) = closed k (Where p 0 unit 0 unit) (End 0 ∷ [])
filled (AtFun p k) = closed k (Fun p 0 0 some_name 0 int_type 0 0 unit) (End 0 ∷ [])
filled (AtFunOpen p o k) = closed k (Fun p o 0 some_name 0 int_type 0 0 unit) (End 0 ∷ [])
filled (AtFunName p o v y k) = closed k (Fun p o v y 0 int_type 0 0 unit) (End 0 ∷ [])
filled (AtFunClose p o v y c t z k) = closed k (Fun p o v y c t z 0 unit) (End 0 ∷ [])
filled (AtLet p k) = closed k (Let p 0 some_name 0 unit 0 unit) (End 0 ∷ [])
filled (AtLetName p v y k) = closed k (Let p v y 0 unit 0 unit) (End 0 ∷ [])
filled (AtComma fs c k) = closed k (Rec (More fs c 0 some_name 0 unit) 0) (End 0 ∷ [])
filled (AtLabel fs c v l k) = closed k (Rec (More fs c v l 0 unit) 0) (End 0 ∷ [])
filled (AtDot s p k) = closed k (Field s p 0 some_name) (End 0 ∷ [])
filled (WantType j o k) = want_type_filled j o k
filled (AtTypeWord p v w j o k) = around_closed j o k (TRec (TOne p v w 0 int_type) 0) (End 0 ∷ [])
filled (AtTypeComma fs q j o k) = around_closed j o k (TRec (TMore fs q 0 some_name 0 int_type) 0) (End 0 ∷ [])
filled (AtTypeLabel fs q v l j o k) = around_closed j o k (TRec (TMore fs q v l 0 int_type) 0) (End 0 ∷ [])
filled (HaveType t j o k) = around_closed j o k t (End 0 ∷ [])
filled (Have s k) = closed k s (End 0 ∷ [])
filled (Ready s q) = refl

pub type_finished_fits : (f : TypeFrame) (t : TypeSyntax) → TypeFrameFits f → TypeFits true t → TypeFits true (finish_type f t)
type_finished_fits (TInBag p) t h f = f
type_finished_fits (TInParen p) t h f = f
type_finished_fits (TInRight a p) t h f = (refl, h, f)
type_finished_fits (TInField i v l c) t h f = put_type_fits i v l c t h f

module _ (ed : Edition) where
  pub finished_fits : (f : Frame) (k : List Frame) (s : Syntax) → FrameFits ed f k → Fits ed (asks_of f) s → Fits ed (asks k) (finish f s)
  finished_fits (InParen p) k s h g = g
  finished_fits (InBag p) k s h g = g
  finished_fits (InAggregate a p o) k s h g = (h, g)
  finished_fits (InSource p o v y a) k s h g = (h.0, h.1, g, tt)
  finished_fits (InBody p o v y a m c) k s h g = (h.0, h.1, h.2, g)
  finished_fits (InTest p o) k s h g = (h, g, tt)
  finished_fits (InGuarded p o i c) k s h g = (h.0, h.1, g)
  finished_fits (InIf p) k s h g = (h, g, tt, tt)
  finished_fits (InThen p i q) k s h g = (h.0, h.1, g, tt)
  finished_fits (InElse p i q y r) k s h g = (h.0, h.1, h.2, g)
  finished_fits (InFunBody p o v y c i z a) k s h g = (h.0, h.1, h.2, g)
  finished_fits (InValue p v y a) k s h g = (h.0, h.1, g, tt)
  finished_fits (InLetBody p v y a m q) k s h g = (h.0, h.1, h.2, g)
  finished_fits (InPrefix p u) k s h g = (h, g)
  finished_fits (InRight l p op) k s h g = (h.0, h.1, g)
  finished_fits (InArg e p) k s h g = (asks_small k, h, g)
  finished_fits (InField i v l a) k s h g = put_field_fits ed i v l a s h g

  pub closed_fits : (k : List Frame) (s : Syntax) → StackFits ed k → Fits ed (asks k) s → Fits ed 0 (close k s)
  closed_fits [] s h g = g
  closed_fits (f ∷ k) s h g = closed_fits k (finish f s) h.1 (finished_fits f k s h.0 g)

  pub type_closed_fits : (j : List TypeFrame) (t : TypeSyntax) → TypesFit j → TypeFits true t → TypeFits true (close_type j t)
  type_closed_fits [] t h f = f
  type_closed_fits (g ∷ j) t h f = type_closed_fits j (finish_type g t) h.1 (type_finished_fits g t h.0 f)

  pub around_fits : (o : Around) (k : List Frame) (t : TypeSyntax) → AroundFits ed o k → TypeFits true t → Fits ed (asks k) (fill_around o t)
  around_fits (InNil p c) k t h f = f
  around_fits (InFun p o v y c) k t h f = (h.0, h.1, f, tt)

  pub around_closed_fits : (j : List TypeFrame) (o : Around) (k : List Frame) (t : TypeSyntax) → TypesFit j → AroundFits ed o k → StackFits ed k → TypeFits true t
      → Fits ed 0 (close_around j o k t)
  around_closed_fits j o k t i h g f = closed_fits k (fill_around o (close_type j t)) g (around_fits o k (close_type j t) h (type_closed_fits j t i f))

  -- a tree without a condition stands anywhere
  unit_fits : (k : List Frame) → Fits ed (asks k) unit
  unit_fits k = tt

  pub want_fits : (k : List Frame) → StackFits ed k → Fits ed 0 (close_want k)
  want_fits [] g = tt
  want_fits (InParen p ∷ k) g = closed_fits k (NoFields p 0) g.1 (none k)
    where
      none : (k : List Frame) → Fits ed (asks k) (NoFields p 0)
      none k = tt
  want_fits (InBag p ∷ k) g = closed_fits k (Nil p 0 int_type 0) g.1 (none k)
    where
      none : (k : List Frame) → Fits ed (asks k) (Nil p 0 int_type 0)
      none k = tt
  want_fits (f ∷ k) g = closed_fits (f ∷ k) unit g (unit_fits (f ∷ k))

  pub want_type_fits : (j : List TypeFrame) (o : Around) (k : List Frame) → TypesFit j → AroundFits ed o k → StackFits ed k → Fits ed 0 (close_type_want j o k)
  want_type_fits [] o k i h g = around_closed_fits [] o k int_type i h g tt
  want_type_fits (TInParen p ∷ j) o k i h g = around_closed_fits j o k (TNoFields p 0) i.1 h g tt
  want_type_fits (f ∷ j) o k i h g = around_closed_fits (f ∷ j) o k int_type i h g tt

  pub least_fits : (st : State) → IsGood ed st → Fits ed 0 (least st)
  least_fits (Want k) g = want_fits k g
  least_fits (AtWord p v w k) g = closed_fits k (Rec (One p v w 0 unit) 0) g (rec k)
    where
      rec : (k : List Frame) → Fits ed (asks k) (Rec (One p v w 0 unit) 0)
      rec k = tt
  least_fits (AtTable p k) g = closed_fits k (Table p 0 some_name) g (tab k)
    where
      tab : (k : List Frame) → Fits ed (asks k) (Table p 0 some_name)
      tab k = tt
  least_fits (AtAggregate a p k) g = closed_fits k (Aggregated a p 0 unit 0) g.1 (asked k g.0)
    where
      asked : (k : List Frame) → kind ed (aggregate_word a) ≡ IsAggregate a → Fits ed (asks k) (Aggregated a p 0 unit 0)
      asked k e = (e, tt)
  least_fits (AtFor p k) g = closed_fits k (For p 0 0 some_name 0 unit 0 unit) g.1 (g.0, name_is ed, tt, tt)
  least_fits (AtForOpen p o k) g = closed_fits k (For p o 0 some_name 0 unit 0 unit) g.1 (g.0, name_is ed, tt, tt)
  least_fits (AtForName p o v y k) g = closed_fits k (For p o v y 0 unit 0 unit) g.2 (g.0, g.1, tt, tt)
  least_fits (AtWhere p k) g = closed_fits k (Where p 0 unit 0 unit) g.1 (g.0, tt, tt)
  least_fits (AtFun p k) g = closed_fits k (Fun p 0 0 some_name 0 int_type 0 0 unit) g.1 (g.0, name_is ed, tt, tt)
  least_fits (AtFunOpen p o k) g = closed_fits k (Fun p o 0 some_name 0 int_type 0 0 unit) g.1 (g.0, name_is ed, tt, tt)
  least_fits (AtFunName p o v y k) g = closed_fits k (Fun p o v y 0 int_type 0 0 unit) g.2 (g.0, g.1, tt, tt)
  least_fits (AtFunClose p o v y c t z k) g = closed_fits k (Fun p o v y c t z 0 unit) g.3 (g.0, g.1, g.2, tt)
  least_fits (AtLet p k) g = closed_fits k (Let p 0 some_name 0 unit 0 unit) g.1 (g.0, name_is ed, tt, tt)
  least_fits (AtLetName p v y k) g = closed_fits k (Let p v y 0 unit 0 unit) g.2 (g.0, g.1, tt, tt)
  least_fits (AtComma fs c k) g = closed_fits k (Rec (More fs c 0 some_name 0 unit) 0) g.1 (more k g.0)
    where
      more : (k : List Frame) → FieldsFit ed fs → Fits ed (asks k) (Rec (More fs c 0 some_name 0 unit) 0)
      more k f = (f, tt)
  least_fits (AtLabel fs c v l k) g = closed_fits k (Rec (More fs c v l 0 unit) 0) g.1 (more k g.0)
    where
      more : (k : List Frame) → FieldsFit ed fs → Fits ed (asks k) (Rec (More fs c v l 0 unit) 0)
      more k f = (f, tt)
  least_fits (AtDot s p k) g = closed_fits k (Field s p 0 some_name) g.1 (asks_small k, g.0)
  least_fits (WantType j o k) g = want_type_fits j o k g.0 g.1 g.2
  least_fits (AtTypeWord p v w j o k) g = around_closed_fits j o k (TRec (TOne p v w 0 int_type) 0) g.0 g.1 g.2 tt
  least_fits (AtTypeComma fs q j o k) g = around_closed_fits j o k (TRec (TMore fs q 0 some_name 0 int_type) 0) g.1 g.2 g.3 (g.0, tt)
  least_fits (AtTypeLabel fs q v l j o k) g = around_closed_fits j o k (TRec (TMore fs q v l 0 int_type) 0) g.1 g.2 g.3 (g.0, tt)
  least_fits (HaveType t j o k) g = around_closed_fits j o k t g.1 g.2 g.3 (type_raise t g.0)
  least_fits (Have s k) g = closed_fits k s g.1 g.0
  least_fits (Ready s q) g = g
