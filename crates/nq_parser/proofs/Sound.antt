-- What the machine has read, and that it can always be completed.
use Rattle.std.proofs.Common.{◌≡◌, ℕ, ◌≤◌, Bool, true, false, cond, leb, List, [], ◌∷◌, refl, sym, ◌∙◌, ap, subst, arith, codes, Option, Some, None, leb-true, bytes_eq}
use Rattle.std.proofs.lemmas.Bool.Decides.{nat_tests}
use Rattle.std.proofs.lemmas.Slice.Eq.{bytes_eq-Decides}
use Rattle.std.specs.Prelude.{⊤}
use Rattle.nq_model.specs.SchemaTexts.{type_word}
use Rattle.nq_model.specs.QueryTokens.{Of, Opening, Closing, OpeningBag, ClosingBag, Comma, Colon, Semicolon, Dot, Assign, From, Arrow, Bang, Token, Word, Value, Oper, Sign, End}
use Rattle.nq_model.specs.QueryGrammar.{Edition, First, Second, aggregate_word, Kind, IsFor, IsWhere, IsIf, IsThen, IsElse, IsFun, IsLet, IsTable, IsAggregate, IsTruth, IsBase, IsName, later_kind, truth_word, kind, TypeSyntax, TBase, TBag, TParen, TNoFields, TRec, TFun, Syntax, Const, Truth, Var, Table, Aggregated, Paren, NoFields, Rec, Bag, Nil, For, Where, If, Fun, Let, Prefix, Infix, Apply, Field, type_tokens, type_fields_tokens, prefix_token, tokens, fields_tokens, level, left_level, TypeFits, TypeFieldsFit, Fits, FieldsFit}
use Rattle.nq_model.specs.Terms.{Aggregate, Emptiness, Count, Sum}
use Rattle.nq_model.specs.declared.term.Unary.TheVariants.{Minus, Not}
use Rattle.nq_model.specs.declared.term.Binary.TheVariants.{Sub}
use Rattle.nq_model.specs.declared.table.ColumnType.TheVariants as column
use Rattle.nq_parser.specs.Machine.{AtFirst, AtNext, TAtFirst, TAtNext, FieldHead, TypeHead, put_field, put_type, Frame, InParen, InBag, InAggregate, InSource, InBody, InTest, InGuarded, InIf, InThen, InElse, InFunBody, InValue, InLetBody, InPrefix, InRight, InArg, InField, TypeFrame, TInBag, TInParen, TInRight, TInField, Around, InNil, InFun, State, Want, AtWord, AtTable, AtAggregate, AtFor, AtForOpen, AtForName, AtWhere, AtFun, AtFunOpen, AtFunName, AtFunClose, AtLet, AtLetName, AtComma, AtLabel, AtDot, WantType, AtTypeWord, AtTypeComma, AtTypeLabel, HaveType, Have, Ready, asks, binds, level_of, ends, joined, then_word, else_word, shift, after, begin_word, start_word, start, no_label, at_word, if_name, after_around, after_type, begin_base, start_base, start_type, no_type_label, at_type_word, step, some_name}
use Rattle.nq_parser.proofs.Complete.{levels, is_arrow}

-- What was read of an unfinished form, and then x.
abbrev pub head_tokens : FieldHead → List Token → List Token
head_tokens (AtFirst p) x = Sign p Opening ∷ x
head_tokens (AtNext fs c) x = fields_tokens fs (Sign c Comma ∷ x)

abbrev pub type_head_tokens : TypeHead → List Token → List Token
type_head_tokens (TAtFirst p) x = Sign p Opening ∷ x
type_head_tokens (TAtNext fs q) x = type_fields_tokens fs (Sign q Comma ∷ x)

pub put_field_tokens : (h : FieldHead) (v : ℕ) (l : List ℕ) (a : ℕ) (e : Syntax) (x : List Token) → fields_tokens (put_field h v l a e) x ≡ head_tokens h (Word v l ∷ Sign a Assign ∷ tokens e x)
put_field_tokens (AtFirst p) v l a e x = refl
put_field_tokens (AtNext fs c) v l a e x = refl

pub put_type_tokens : (h : TypeHead) (v : ℕ) (l : List ℕ) (c : ℕ) (t : TypeSyntax) (x : List Token) → type_fields_tokens (put_type h v l c t) x ≡ type_head_tokens h (Word v l ∷ Sign c Colon ∷ type_tokens t x)
put_type_tokens (TAtFirst p) v l c t x = refl
put_type_tokens (TAtNext fs q) v l c t x = refl

abbrev pub pre : Frame → List Token → List Token
pre (InParen p) x = Sign p Opening ∷ x
pre (InBag p) x = Sign p OpeningBag ∷ x
pre (InAggregate a p o) x = Word p (aggregate_word a) ∷ Sign o Opening ∷ x
pre (InSource p o v y a) x = Word p (codes "for") ∷ Sign o Opening ∷ Word v y ∷ Sign a From ∷ x
pre (InBody p o v y a m c) x = Word p (codes "for") ∷ Sign o Opening ∷ Word v y ∷ Sign a From ∷ tokens m (Sign c Closing ∷ x)
pre (InTest p o) x = Word p (codes "where") ∷ Sign o Opening ∷ x
pre (InGuarded p o i c) x = Word p (codes "where") ∷ Sign o Opening ∷ tokens i (Sign c Closing ∷ x)
pre (InIf p) x = Word p (codes "if") ∷ x
pre (InThen p i q) x = Word p (codes "if") ∷ tokens i (Word q (codes "then") ∷ x)
pre (InElse p i q y r) x = Word p (codes "if") ∷ tokens i (Word q (codes "then") ∷ tokens y (Word r (codes "else") ∷ x))
pre (InFunBody p o v y c i z a) x = Word p (codes "fun") ∷ Sign o Opening ∷ Word v y ∷ Sign c Colon ∷ type_tokens i (Sign z Closing ∷ Sign a Arrow ∷ x)
pre (InValue p v y a) x = Word p (codes "let") ∷ Word v y ∷ Sign a Assign ∷ x
pre (InLetBody p v y a m q) x = Word p (codes "let") ∷ Word v y ∷ Sign a Assign ∷ tokens m (Sign q Semicolon ∷ x)
pre (InPrefix p u) x = prefix_token p u ∷ x
pre (InRight l p op) x = tokens l (Oper p op ∷ x)
pre (InArg e p) x = tokens e (Sign p Opening ∷ x)
pre (InField h v l a) x = head_tokens h (Word v l ∷ Sign a Assign ∷ x)

abbrev pub shown : List Frame → List Token → List Token
shown [] x = x
shown (f ∷ k) x = shown k (pre f x)

abbrev pub type_pre : TypeFrame → List Token → List Token
type_pre (TInBag p) x = Sign p OpeningBag ∷ x
type_pre (TInParen p) x = Sign p Opening ∷ x
type_pre (TInRight a p) x = type_tokens a (Sign p Arrow ∷ x)
type_pre (TInField h v l c) x = type_head_tokens h (Word v l ∷ Sign c Colon ∷ x)

abbrev pub types_shown : List TypeFrame → List Token → List Token
types_shown [] x = x
types_shown (f ∷ j) x = types_shown j (type_pre f x)

abbrev pub around_pre : Around → List Token → List Token
around_pre (InNil p c) x = Sign p OpeningBag ∷ Sign c Colon ∷ x
around_pre (InFun p o v y c) x = Word p (codes "fun") ∷ Sign o Opening ∷ Word v y ∷ Sign c Colon ∷ x

abbrev pub shown_type : List TypeFrame → Around → List Frame → List Token → List Token
shown_type j o k x = shown k (around_pre o (types_shown j x))

-- all that was read, and then x
abbrev pub read : State → List Token → List Token
read (Want k) x = shown k x
read (AtWord p v w k) x = shown k (Sign p Opening ∷ Word v w ∷ x)
read (AtTable p k) x = shown k (Word p (codes "table") ∷ x)
read (AtAggregate a p k) x = shown k (Word p (aggregate_word a) ∷ x)
read (AtFor p k) x = shown k (Word p (codes "for") ∷ x)
read (AtForOpen p o k) x = shown k (Word p (codes "for") ∷ Sign o Opening ∷ x)
read (AtForName p o v y k) x = shown k (Word p (codes "for") ∷ Sign o Opening ∷ Word v y ∷ x)
read (AtWhere p k) x = shown k (Word p (codes "where") ∷ x)
read (AtFun p k) x = shown k (Word p (codes "fun") ∷ x)
read (AtFunOpen p o k) x = shown k (Word p (codes "fun") ∷ Sign o Opening ∷ x)
read (AtFunName p o v y k) x = shown k (Word p (codes "fun") ∷ Sign o Opening ∷ Word v y ∷ x)
read (AtFunClose p o v y c t z k) x = shown k (Word p (codes "fun") ∷ Sign o Opening ∷ Word v y ∷ Sign c Colon ∷ type_tokens t (Sign z Closing ∷ x))
read (AtLet p k) x = shown k (Word p (codes "let") ∷ x)
read (AtLetName p v y k) x = shown k (Word p (codes "let") ∷ Word v y ∷ x)
read (AtComma fs c k) x = shown k (fields_tokens fs (Sign c Comma ∷ x))
read (AtLabel fs c v l k) x = shown k (fields_tokens fs (Sign c Comma ∷ Word v l ∷ x))
read (AtDot s p k) x = shown k (tokens s (Sign p Dot ∷ x))
read (WantType j o k) x = shown_type j o k x
read (AtTypeWord p v w j o k) x = shown_type j o k (Sign p Opening ∷ Word v w ∷ x)
read (AtTypeComma fs q j o k) x = shown_type j o k (type_fields_tokens fs (Sign q Comma ∷ x))
read (AtTypeLabel fs q v l j o k) x = shown_type j o k (type_fields_tokens fs (Sign q Comma ∷ Word v l ∷ x))
read (HaveType t j o k) x = shown_type j o k (type_tokens t x)
read (Have s k) x = shown k (tokens s x)
read (Ready s q) x = tokens s (End q ∷ x)

-- What stands in unfinished forms fits.
abbrev pub HeadFits : Edition → FieldHead → Type 0
HeadFits ed (AtFirst p) = ⊤
HeadFits ed (AtNext fs c) = FieldsFit ed fs

abbrev pub TypeHeadFits : TypeHead → Type 0
TypeHeadFits (TAtFirst p) = ⊤
TypeHeadFits (TAtNext fs q) = TypeFieldsFit fs

abbrev pub FrameFits : Edition → Frame → List Frame → Type 0
FrameFits ed (InParen p) k = ⊤
FrameFits ed (InBag p) k = ⊤
FrameFits ed (InAggregate a p o) k = kind ed (aggregate_word a) ≡ IsAggregate a
FrameFits ed (InSource p o v y a) k = (asks k ≤ 1) × (kind ed y ≡ IsName)
FrameFits ed (InBody p o v y a m c) k = (asks k ≤ 1) × (kind ed y ≡ IsName) × Fits ed 1 m
FrameFits ed (InTest p o) k = asks k ≤ 1
FrameFits ed (InGuarded p o i c) k = (asks k ≤ 1) × Fits ed 1 i
FrameFits ed (InIf p) k = asks k ≤ 1
FrameFits ed (InThen p i q) k = (asks k ≤ 1) × Fits ed 1 i
FrameFits ed (InElse p i q y r) k = (asks k ≤ 1) × Fits ed 1 i × Fits ed 1 y
FrameFits ed (InFunBody p o v y c i z a) k = (asks k ≤ 1) × (kind ed y ≡ IsName) × TypeFits true i
FrameFits ed (InValue p v y a) k = (asks k ≤ 0) × (kind ed y ≡ IsName)
FrameFits ed (InLetBody p v y a m q) k = (asks k ≤ 0) × (kind ed y ≡ IsName) × Fits ed 1 m
FrameFits ed (InPrefix p u) k = asks k ≤ 8
FrameFits ed (InRight l p op) k = (asks k ≤ level op) × Fits ed (left_level op) l
FrameFits ed (InArg e p) k = Fits ed 9 e
FrameFits ed (InField h v l a) k = HeadFits ed h

abbrev pub StackFits : Edition → List Frame → Type 0
StackFits ed [] = ⊤
StackFits ed (f ∷ k) = FrameFits ed f k × StackFits ed k

abbrev pub TypeFrameFits : TypeFrame → Type 0
TypeFrameFits (TInBag p) = ⊤
TypeFrameFits (TInParen p) = ⊤
TypeFrameFits (TInRight a p) = TypeFits false a
TypeFrameFits (TInField h v l c) = TypeHeadFits h

abbrev pub TypesFit : List TypeFrame → Type 0
TypesFit [] = ⊤
TypesFit (f ∷ j) = TypeFrameFits f × TypesFit j

abbrev pub AroundFits : Edition → Around → List Frame → Type 0
AroundFits ed (InNil p c) k = ⊤
AroundFits ed (InFun p o v y c) k = (asks k ≤ 1) × (kind ed y ≡ IsName)

-- What stands in a state fits.
abbrev pub IsGood : Edition → State → Type 0
IsGood ed (Want k) = StackFits ed k
IsGood ed (AtWord p v w k) = StackFits ed k
IsGood ed (AtTable p k) = StackFits ed k
IsGood ed (AtAggregate a p k) = (kind ed (aggregate_word a) ≡ IsAggregate a) × StackFits ed k
IsGood ed (AtFor p k) = (asks k ≤ 1) × StackFits ed k
IsGood ed (AtForOpen p o k) = (asks k ≤ 1) × StackFits ed k
IsGood ed (AtForName p o v y k) = (asks k ≤ 1) × (kind ed y ≡ IsName) × StackFits ed k
IsGood ed (AtWhere p k) = (asks k ≤ 1) × StackFits ed k
IsGood ed (AtFun p k) = (asks k ≤ 1) × StackFits ed k
IsGood ed (AtFunOpen p o k) = (asks k ≤ 1) × StackFits ed k
IsGood ed (AtFunName p o v y k) = (asks k ≤ 1) × (kind ed y ≡ IsName) × StackFits ed k
IsGood ed (AtFunClose p o v y c t z k) = (asks k ≤ 1) × (kind ed y ≡ IsName) × TypeFits true t × StackFits ed k
IsGood ed (AtLet p k) = (asks k ≤ 0) × StackFits ed k
IsGood ed (AtLetName p v y k) = (asks k ≤ 0) × (kind ed y ≡ IsName) × StackFits ed k
IsGood ed (AtComma fs c k) = FieldsFit ed fs × StackFits ed k
IsGood ed (AtLabel fs c v l k) = FieldsFit ed fs × StackFits ed k
IsGood ed (AtDot s p k) = Fits ed 9 s × StackFits ed k
IsGood ed (WantType j o k) = TypesFit j × AroundFits ed o k × StackFits ed k
IsGood ed (AtTypeWord p v w j o k) = TypesFit j × AroundFits ed o k × StackFits ed k
IsGood ed (AtTypeComma fs q j o k) = TypeFieldsFit fs × TypesFit j × AroundFits ed o k × StackFits ed k
IsGood ed (AtTypeLabel fs q v l j o k) = TypeFieldsFit fs × TypesFit j × AroundFits ed o k × StackFits ed k
IsGood ed (HaveType t j o k) = TypeFits false t × TypesFit j × AroundFits ed o k × StackFits ed k
IsGood ed (Have s k) = Fits ed (asks k) s × StackFits ed k
IsGood ed (Ready s q) = Fits ed 0 s

-- what holds of the next state, if there is one
abbrev pub Holds : Option State → (State → Type 0) → Type 0
Holds None P = ⊤
Holds (Some st) P = P st

-- a keyword is spelled as itself
abbrev pub Spelled : Kind → List ℕ → Type 0
Spelled IsFor w = w ≡ codes "for"
Spelled IsWhere w = w ≡ codes "where"
Spelled IsIf w = w ≡ codes "if"
Spelled IsThen w = w ≡ codes "then"
Spelled IsElse w = w ≡ codes "else"
Spelled IsFun w = w ≡ codes "fun"
Spelled IsLet w = w ≡ codes "let"
Spelled IsTable w = w ≡ codes "table"
Spelled (IsAggregate a) w = w ≡ aggregate_word a
Spelled (IsTruth b) w = w ≡ truth_word b
Spelled (IsBase b) w = w ≡ type_word b
Spelled IsName w = ⊤

pick : (w v : List ℕ) (c c' : Kind) → (w ≡ v → Spelled c w) → Spelled c' w → Spelled (cond (bytes_eq w v) c c') w
pick w v c c' h g = go (bytes_eq w v) (λ e. h ((bytes_eq-Decides w v).0 e))
  where
    go : (b : Bool) → (b ≡ true → Spelled c w) → Spelled (cond b c c') w
    go true h = h refl
    go false h = g

later_spelled : (ed : Edition) (w : List ℕ) → Spelled (later_kind ed w) w
later_spelled First w = tt
later_spelled Second w = pick w (codes "count") (IsAggregate Count) _ (λ e. e) (pick w (codes "sum") (IsAggregate Sum) IsName (λ e. e) tt)

pub kind_spelled : (ed : Edition) (w : List ℕ) → Spelled (kind ed w) w
kind_spelled ed w =
    let b0 = pick w (codes "text") (IsBase column.Text) _ (λ e. e) (later_spelled ed w) in
    let b1 = pick w (codes "bool") (IsBase column.Bool) _ (λ e. e) b0 in
    let b2 = pick w (codes "int") (IsBase column.Int) _ (λ e. e) b1 in
    let b3 = pick w (codes "false") (IsTruth false) _ (λ e. e) b2 in
    let b4 = pick w (codes "true") (IsTruth true) _ (λ e. e) b3 in
    let b5 = pick w (codes "empty") (IsAggregate Emptiness) _ (λ e. e) b4 in
    let b6 = pick w (codes "table") IsTable _ (λ e. e) b5 in
    let b7 = pick w (codes "let") IsLet _ (λ e. e) b6 in
    let b8 = pick w (codes "fun") IsFun _ (λ e. e) b7 in
    let b9 = pick w (codes "else") IsElse _ (λ e. e) b8 in
    let b10 = pick w (codes "then") IsThen _ (λ e. e) b9 in
    let b11 = pick w (codes "if") IsIf _ (λ e. e) b10 in
    let b12 = pick w (codes "where") IsWhere _ (λ e. e) b11 in
    pick w (codes "for") IsFor _ (λ e. e) b12

pub spelled_as : (ed : Edition) (w : List ℕ) (c : Kind) → kind ed w ≡ c → Spelled c w
spelled_as ed w c e = subst (λ z. Spelled z w) e (kind_spelled ed w)

-- a word that asks something of a bag is its word
pub asked_as : (ed : Edition) (w : List ℕ) (a : Aggregate) → kind ed w ≡ IsAggregate a → kind ed (aggregate_word a) ≡ IsAggregate a
asked_as ed w a e = subst (λ z. kind ed z ≡ IsAggregate a) (spelled_as ed w (IsAggregate a) e) e

pub name_is : (ed : Edition) → kind ed some_name ≡ IsName
name_is First = refl
name_is Second = refl

pub asks_small : (k : List Frame) → asks k ≤ 9
asks_small [] = omega arith
asks_small (InRight l p op ∷ k) = let s = levels op in omega (arith, s.high)
asks_small (f ∷ k) = omega arith

pub then_if : (b : Bool) (st : State) (P : State → Type 0) → (b ≡ true → P st) → Holds (cond b (Some st) None) P
then_if true st P h = h refl
then_if false st P h = tt

pub then_either : (b : Bool) (o o' : Option State) (P : State → Type 0) → (b ≡ true → Holds o P) → (b ≡ false → Holds o' P) → Holds (cond b o o') P
then_either true o o' P h g = h refl
then_either false o o' P h g = g refl

-- a type before an arrow may stand anywhere
pub type_raise : (t : TypeSyntax) → TypeFits false t → TypeFits true t
type_raise (TBase p b) f = tt
type_raise (TBag p t q) f = f
type_raise (TParen p t q) f = f
type_raise (TNoFields p q) f = tt
type_raise (TRec fs q) f = f
type_raise (TFun a p t) f = let e : false ≡ true = f.0 in absurd (cc)

pub put_type_fits : (h : TypeHead) (v : ℕ) (l : List ℕ) (c : ℕ) (t : TypeSyntax) → TypeHeadFits h → TypeFits true t → TypeFieldsFit (put_type h v l c t)
put_type_fits (TAtFirst p) v l c t g f = f
put_type_fits (TAtNext fs q) v l c t g f = (g, f)

module _ (ed : Edition) where
  pub record GoesTo (from : List Token → List Token) (st : State) : Type 0 where
    pub good : IsGood ed st
    pub same : (x : List Token) → read st x ≡ from x

  pub moved : (o : Option State) (from from' : List Token → List Token) → ((x : List Token) → from x ≡ from' x) → Holds o (GoesTo from) → Holds o (GoesTo from')
  moved None from from' h g = tt
  moved (Some st) from from' h g = record { good = g.good; same = λ x. g.same x ∙ h x }

  -- a tree that fits stands at each weaker level, and at its own
  pub raise : (s : Syntax) (n m : ℕ) → Fits ed n s → m ≤ level_of s → Fits ed m s
  raise (Const p c) n m f h = tt
  raise (Truth p b) n m f h = tt
  raise (Var p y) n m f h = f
  raise (Table p v l) n m f h = tt
  raise (Aggregated a p o e c) n m f h = f
  raise (Paren p e q) n m f h = f
  raise (NoFields p q) n m f h = tt
  raise (Rec fs q) n m f h = f
  raise (Bag p e q) n m f h = f
  raise (Nil p c t q) n m f h = f
  raise (For p o v y a i c b) n m f h = (h, f.1, f.2, f.3)
  raise (Where p o t c b) n m f h = (h, f.1, f.2)
  raise (If p t q y r e) n m f h = (h, f.1, f.2, f.3)
  raise (Fun p o v y c t z a b) n m f h = (h, f.1, f.2, f.3)
  raise (Let p v y a i s b) n m f h = (h, f.1, f.2, f.3)
  raise (Prefix p u e) n m f h = (h, f.1)
  raise (Infix l p op r) n m f h = (h, f.1, f.2)
  raise (Apply g p a q) n m f h = (h, f.1, f.2)
  raise (Field e p v l) n m f h = (h, f.1)

  pub put_field_fits : (h : FieldHead) (v : ℕ) (l : List ℕ) (a : ℕ) (e : Syntax) → HeadFits ed h → Fits ed 1 e → FieldsFit ed (put_field h v l a e)
  put_field_fits (AtFirst p) v l a e g f = f
  put_field_fits (AtNext fs c) v l a e g f = (g, f)

  -- Each step takes the token, and keeps that all fits.
  pub then_goes : (c : Kind) (p : ℕ) (s : Syntax) (q : ℕ) (w : List ℕ) (k : List Frame) → kind ed w ≡ c → Fits ed 1 s → asks k ≤ 1 → StackFits ed k
      → Holds (then_word c p s q k) (GoesTo (λ x. shown k (Word p (codes "if") ∷ tokens s (Word q w ∷ x))))
  then_goes IsThen p s q w k e f a g = record { good = ((a, f), g); same = λ x. ap (λ z. shown k (Word p (codes "if") ∷ tokens s (Word q z ∷ x))) (sym (spelled_as ed w IsThen e)) }
  then_goes c p s q w k e f a g = tt

  pub else_goes : (c : Kind) (p : ℕ) (i : Syntax) (q : ℕ) (s : Syntax) (r : ℕ) (w : List ℕ) (k : List Frame) → kind ed w ≡ c → Fits ed 1 s → asks k ≤ 1 → Fits ed 1 i → StackFits ed k
      → Holds (else_word c p i q s r k) (GoesTo (λ x. shown k (Word p (codes "if") ∷ tokens i (Word q (codes "then") ∷ tokens s (Word r w ∷ x)))))
  else_goes IsElse p i q s r w k e f a h g = record { good = ((a, h, f), g); same = λ x. ap (λ z. shown k (Word p (codes "if") ∷ tokens i (Word q (codes "then") ∷ tokens s (Word r z ∷ x)))) (sym (spelled_as ed w IsElse e)) }
  else_goes c p i q s r w k e f a h g = tt

  pub shift_goes : (k : List Frame) (s : Syntax) (t : Token) → (2 ≤ binds t → asks k ≤ binds t) → Fits ed (asks k) s → StackFits ed k
      → Holds (shift ed k s t) (GoesTo (λ x. shown k (tokens s (t ∷ x))))
  shift_goes k s (Oper p op) h f g =
      then_if (leb (left_level op) (level_of s)) (Want (InRight s p op ∷ k)) _
      (λ e. record { good = ((h ((levels op).low), raise s (asks k) (left_level op) f (leb-true _ _ e)), g); same = λ x. refl })
  shift_goes k s (Sign p Opening) h f g =
      then_if (leb 9 (level_of s)) (Want (InArg s p ∷ k)) _ (λ e. record { good = (raise s (asks k) 9 f (leb-true _ _ e), g); same = λ x. refl })
  shift_goes k s (Sign p Dot) h f g =
      then_if (leb 9 (level_of s)) (AtDot s p k) _ (λ e. record { good = (raise s (asks k) 9 f (leb-true _ _ e), g); same = λ x. refl })
  shift_goes (InParen p ∷ k) s (Sign q Closing) h f g = record { good = (f, g.1); same = λ x. refl }
  shift_goes (InBag p ∷ k) s (Sign q ClosingBag) h f g = record { good = (f, g.1); same = λ x. refl }
  shift_goes (InAggregate a p o ∷ k) s (Sign c Closing) h f g = record { good = ((g.0, f), g.1); same = λ x. refl }
  shift_goes (InSource p o v y a ∷ k) s (Sign c Closing) h f g = record { good = ((g.0.0, g.0.1, f), g.1); same = λ x. refl }
  shift_goes (InTest p o ∷ k) s (Sign c Closing) h f g = record { good = ((g.0, f), g.1); same = λ x. refl }
  shift_goes (InIf p ∷ k) s (Word q w) h f g = then_goes (kind ed w) p s q w k refl f g.0 g.1
  shift_goes (InThen p i q ∷ k) s (Word r w) h f g = else_goes (kind ed w) p i q s r w k refl f g.0.0 g.0.1 g.1
  shift_goes (InValue p v y a ∷ k) s (Sign q Semicolon) h f g = record { good = ((g.0.0, g.0.1, f), g.1); same = λ x. refl }
  shift_goes (InArg e p ∷ k) s (Sign q Closing) h f g = record { good = ((asks_small k, g.0, f), g.1); same = λ x. refl }
  shift_goes (InField i v l a ∷ k) s (Sign q Closing) h f g = record { good = (put_field_fits i v l a s g.0 f, g.1); same = λ x. ap (λ z. shown k z) (put_field_tokens i v l a s (Sign q Closing ∷ x)) }
  shift_goes (InField i v l a ∷ k) s (Sign c Comma) h f g = record { good = (put_field_fits i v l a s g.0 f, g.1); same = λ x. ap (λ z. shown k z) (put_field_tokens i v l a s (Sign c Comma ∷ x)) }
  shift_goes [] s (End q) h f g = record { good = f; same = λ x. refl }
  shift_goes k s t h f g = tt

  pub after_goes : (k : List Frame) (s : Syntax) (t : Token) → Fits ed (asks k) s → StackFits ed k
      → Holds (after ed k s t) (GoesTo (λ x. shown k (tokens s (t ∷ x))))
  after_goes [] s t f g = shift_goes [] s t (λ h. omega arith) f g
  after_goes (InParen p ∷ k) s t f g = shift_goes (InParen p ∷ k) s t (λ h. omega arith) f g
  after_goes (InBag p ∷ k) s t f g = shift_goes (InBag p ∷ k) s t (λ h. omega arith) f g
  after_goes (InAggregate a p o ∷ k) s t f g = shift_goes (InAggregate a p o ∷ k) s t (λ h. omega arith) f g
  after_goes (InSource p o v y a ∷ k) s t f g = shift_goes (InSource p o v y a ∷ k) s t (λ h. omega arith) f g
  after_goes (InBody p o v y a m c ∷ k) s t f g =
      let all = joined (InBody p o v y a m c) s in
      then_either (ends (InBody p o v y a m c) t) (after ed k all t) (shift ed (InBody p o v y a m c ∷ k) s t) _
      (λ e. after_goes k all t (g.0.0, g.0.1, g.0.2, f) g.1)
      (λ e. shift_goes (InBody p o v y a m c ∷ k) s t (λ h. omega arith) f g)
  after_goes (InTest p o ∷ k) s t f g = shift_goes (InTest p o ∷ k) s t (λ h. omega arith) f g
  after_goes (InGuarded p o i c ∷ k) s t f g =
      let all = joined (InGuarded p o i c) s in
      then_either (ends (InGuarded p o i c) t) (after ed k all t) (shift ed (InGuarded p o i c ∷ k) s t) _
      (λ e. after_goes k all t (g.0.0, g.0.1, f) g.1)
      (λ e. shift_goes (InGuarded p o i c ∷ k) s t (λ h. omega arith) f g)
  after_goes (InIf p ∷ k) s t f g = shift_goes (InIf p ∷ k) s t (λ h. omega arith) f g
  after_goes (InThen p i q ∷ k) s t f g = shift_goes (InThen p i q ∷ k) s t (λ h. omega arith) f g
  after_goes (InElse p i q y r ∷ k) s t f g =
      let all = joined (InElse p i q y r) s in
      then_either (ends (InElse p i q y r) t) (after ed k all t) (shift ed (InElse p i q y r ∷ k) s t) _
      (λ e. after_goes k all t (g.0.0, g.0.1, g.0.2, f) g.1)
      (λ e. shift_goes (InElse p i q y r ∷ k) s t (λ h. omega arith) f g)
  after_goes (InFunBody p o v y c i z a ∷ k) s t f g =
      let all = joined (InFunBody p o v y c i z a) s in
      then_either (ends (InFunBody p o v y c i z a) t) (after ed k all t) (shift ed (InFunBody p o v y c i z a ∷ k) s t) _
      (λ e. after_goes k all t (g.0.0, g.0.1, g.0.2, f) g.1)
      (λ e. shift_goes (InFunBody p o v y c i z a ∷ k) s t (λ h. omega arith) f g)
  after_goes (InValue p v y a ∷ k) s t f g = shift_goes (InValue p v y a ∷ k) s t (λ h. omega arith) f g
  after_goes (InLetBody p v y a m q ∷ k) s t f g =
      let all = joined (InLetBody p v y a m q) s in
      then_either (ends (InLetBody p v y a m q) t) (after ed k all t) (shift ed (InLetBody p v y a m q ∷ k) s t) _
      (λ e. after_goes k all t (g.0.0, g.0.1, g.0.2, f) g.1)
      (λ e. shift_goes (InLetBody p v y a m q ∷ k) s t (λ h. omega arith) f g)
  after_goes (InPrefix p u ∷ k) s t f g =
      let all = joined (InPrefix p u) s in
      then_either (ends (InPrefix p u) t) (after ed k all t) (shift ed (InPrefix p u ∷ k) s t) _
      (λ e. after_goes k all t (g.0, f) g.1)
      (λ e. shift_goes (InPrefix p u ∷ k) s t (λ h. grind (arith, nat_tests, e)) f g)
  after_goes (InRight l p op ∷ k) s t f g =
      let all = joined (InRight l p op) s in
      then_either (ends (InRight l p op) t) (after ed k all t) (shift ed (InRight l p op ∷ k) s t) _
      (λ e. after_goes k all t (g.0.0, g.0.1, f) g.1)
      (λ e. shift_goes (InRight l p op ∷ k) s t (λ h. grind (arith, nat_tests, e)) f g)
  after_goes (InArg e p ∷ k) s t f g = shift_goes (InArg e p ∷ k) s t (λ h. omega arith) f g
  after_goes (InField h v l a ∷ k) s t f g = shift_goes (InField h v l a ∷ k) s t (λ h. omega arith) f g

  pub word_goes : (c : Kind) (k : List Frame) (p : ℕ) (w : List ℕ) → kind ed w ≡ c → StackFits ed k → Holds (begin_word c k p w) (GoesTo (λ x. shown k (Word p w ∷ x)))
  word_goes IsName k p w e g = record { good = (e, g); same = λ x. refl }
  word_goes (IsTruth b) k p w e g = record { good = (truth k p b, g); same = λ x. ap (λ z. shown k (Word p z ∷ x)) (sym (spelled_as ed w (IsTruth b) e)) }
    where
      truth : (k : List Frame) (p : ℕ) (b : Bool) → Fits ed (asks k) (Truth p b)
      truth k p b = tt
  word_goes IsTable k p w e g = record { good = g; same = λ x. ap (λ z. shown k (Word p z ∷ x)) (sym (spelled_as ed w IsTable e)) }
  word_goes (IsAggregate a) k p w e g = record { good = (asked_as ed w a e, g); same = λ x. ap (λ z. shown k (Word p z ∷ x)) (sym (spelled_as ed w (IsAggregate a) e)) }
  word_goes IsFor k p w e g = then_if (leb (asks k) 1) (AtFor p k) _ (λ h. record { good = (leb-true _ _ h, g); same = λ x. ap (λ z. shown k (Word p z ∷ x)) (sym (spelled_as ed w IsFor e)) })
  word_goes IsWhere k p w e g = then_if (leb (asks k) 1) (AtWhere p k) _ (λ h. record { good = (leb-true _ _ h, g); same = λ x. ap (λ z. shown k (Word p z ∷ x)) (sym (spelled_as ed w IsWhere e)) })
  word_goes IsIf k p w e g = then_if (leb (asks k) 1) (Want (InIf p ∷ k)) _ (λ h. record { good = (leb-true _ _ h, g); same = λ x. ap (λ z. shown k (Word p z ∷ x)) (sym (spelled_as ed w IsIf e)) })
  word_goes IsFun k p w e g = then_if (leb (asks k) 1) (AtFun p k) _ (λ h. record { good = (leb-true _ _ h, g); same = λ x. ap (λ z. shown k (Word p z ∷ x)) (sym (spelled_as ed w IsFun e)) })
  word_goes IsLet k p w e g = then_if (leb (asks k) 0) (AtLet p k) _ (λ h. record { good = (leb-true _ _ h, g); same = λ x. ap (λ z. shown k (Word p z ∷ x)) (sym (spelled_as ed w IsLet e)) })
  word_goes c k p w e g = tt

  pub start_word_goes : (k : List Frame) (p : ℕ) (w : List ℕ) → StackFits ed k → Holds (start_word ed k p w) (GoesTo (λ x. shown k (Word p w ∷ x)))
  start_word_goes (InParen q ∷ k) p w g = record { good = g.1; same = λ x. refl }
  start_word_goes [] p w g = word_goes (kind ed w) [] p w refl g
  start_word_goes (f ∷ k) p w g = word_goes (kind ed w) (f ∷ k) p w refl g

  pub start_goes : (k : List Frame) (t : Token) → StackFits ed k → Holds (start ed k t) (GoesTo (λ x. shown k (t ∷ x)))
  start_goes k (Value p c) g = record { good = (fits k, g); same = λ x. refl }
    where
      fits : (k : List Frame) → Fits ed (asks k) (Const p c)
      fits k = tt
  start_goes k (Word p w) g = start_word_goes k p w g
  start_goes k (Oper p (Of Sub)) g = then_if (leb (asks k) 8) (Want (InPrefix p Minus ∷ k)) _ (λ h. record { good = (leb-true _ _ h, g); same = λ x. refl })
  start_goes k (Sign p Bang) g = then_if (leb (asks k) 8) (Want (InPrefix p Not ∷ k)) _ (λ h. record { good = (leb-true _ _ h, g); same = λ x. refl })
  start_goes k (Sign p Opening) g = record { good = (tt, g); same = λ x. refl }
  start_goes k (Sign p OpeningBag) g = record { good = (tt, g); same = λ x. refl }
  start_goes (InParen p ∷ k) (Sign q Closing) g = record { good = (fits k, g.1); same = λ x. refl }
    where
      fits : (k : List Frame) → Fits ed (asks k) (NoFields p q)
      fits k = tt
  start_goes (InBag p ∷ k) (Sign c Colon) g = record { good = (tt, tt, g.1); same = λ x. refl }
  start_goes k t g = tt

  pub no_label_goes : (c : Kind) (p v : ℕ) (w : List ℕ) (k : List Frame) (t : Token) → kind ed w ≡ c → StackFits ed k → Holds (no_label ed c p v w k t) (GoesTo (λ x. shown k (Sign p Opening ∷ Word v w ∷ t ∷ x)))
  no_label_goes IsName p v w k t e g = after_goes (InParen p ∷ k) (Var v w) t e (tt, g)
  no_label_goes (IsTruth b) p v w k t e g =
      moved (after ed (InParen p ∷ k) (Truth v b) t) (λ x. shown k (Sign p Opening ∷ Word v (truth_word b) ∷ t ∷ x)) _ (λ x. ap (λ z. shown k (Sign p Opening ∷ Word v z ∷ t ∷ x)) (sym (spelled_as ed w (IsTruth b) e)))
      (after_goes (InParen p ∷ k) (Truth v b) t tt (tt, g))
  no_label_goes IsTable p v w k (Word q l) e g = record { good = (tt, (tt, g)); same = λ x. ap (λ z. shown k (Sign p Opening ∷ Word v z ∷ Word q l ∷ x)) (sym (spelled_as ed w IsTable e)) }
  no_label_goes (IsAggregate a) p v w k (Sign o Opening) e g = record { good = (asked_as ed w a e, (tt, g)); same = λ x. ap (λ z. shown k (Sign p Opening ∷ Word v z ∷ Sign o Opening ∷ x)) (sym (spelled_as ed w (IsAggregate a) e)) }
  no_label_goes IsFor p v w k (Sign o Opening) e g = record { good = (omega arith, (tt, g)); same = λ x. ap (λ z. shown k (Sign p Opening ∷ Word v z ∷ Sign o Opening ∷ x)) (sym (spelled_as ed w IsFor e)) }
  no_label_goes IsWhere p v w k (Sign o Opening) e g = record { good = (omega arith, (tt, g)); same = λ x. ap (λ z. shown k (Sign p Opening ∷ Word v z ∷ Sign o Opening ∷ x)) (sym (spelled_as ed w IsWhere e)) }
  no_label_goes IsIf p v w k t e g =
      moved (start ed (InIf v ∷ InParen p ∷ k) t) (λ x. shown k (Sign p Opening ∷ Word v (codes "if") ∷ t ∷ x)) _ (λ x. ap (λ z. shown k (Sign p Opening ∷ Word v z ∷ t ∷ x)) (sym (spelled_as ed w IsIf e)))
      (start_goes (InIf v ∷ InParen p ∷ k) t (omega arith, (tt, g)))
  no_label_goes IsFun p v w k (Sign o Opening) e g = record { good = (omega arith, (tt, g)); same = λ x. ap (λ z. shown k (Sign p Opening ∷ Word v z ∷ Sign o Opening ∷ x)) (sym (spelled_as ed w IsFun e)) }
  no_label_goes c p v w k t e g = tt

  pub at_word_goes : (p v : ℕ) (w : List ℕ) (k : List Frame) (t : Token) → StackFits ed k → Holds (at_word ed p v w k t) (GoesTo (λ x. shown k (Sign p Opening ∷ Word v w ∷ t ∷ x)))
  at_word_goes p v w k (Sign a Assign) g = record { good = (tt, g); same = λ x. refl }
  at_word_goes p v w k t g = no_label_goes (kind ed w) p v w k t refl g

  pub name_goes : (c : Kind) (y : List ℕ) (st : State) (from : List Token → List Token) → kind ed y ≡ c → (kind ed y ≡ IsName → GoesTo from st) → Holds (if_name c st) (GoesTo from)
  name_goes IsName y st from e h = h e
  name_goes c y st from e h = tt

  -- types
  pub around_goes : (o : Around) (t : TypeSyntax) (k : List Frame) (tok : Token) → TypeFits true t → AroundFits ed o k → StackFits ed k
      → Holds (after_around o t k tok) (GoesTo (λ x. shown k (around_pre o (type_tokens t (tok ∷ x)))))
  around_goes (InNil p c) t k (Sign q ClosingBag) f h g = record { good = (f, g); same = λ x. refl }
  around_goes (InFun p o v y c) t k (Sign z Closing) f h g = record { good = (h.0, h.1, f, g); same = λ x. refl }
  around_goes o t k tok f h g = tt

  -- behind a whole type, and where an arrow follows a type that may stand before one
  pub type_goes : (j : List TypeFrame) (t : TypeSyntax) (o : Around) (k : List Frame) (tok : Token) → TypeFits true t → (is_arrow tok ≡ true → TypeFits false t) → TypesFit j → AroundFits ed o k → StackFits ed k
      → Holds (after_type j t o k tok) (GoesTo (λ x. shown_type j o k (type_tokens t (tok ∷ x))))
  type_goes j t o k (Sign a Arrow) f n i h g = record { good = ((n refl, i), h, g); same = λ x. refl }
  type_goes (TInRight a p ∷ j) t o k tok f n i h g = type_goes j (TFun a p t) o k tok (refl, i.0, f) (λ e. absurd (cc)) i.1 h g
  type_goes (TInBag p ∷ j) t o k (Sign q ClosingBag) f n i h g = record { good = (f, i.1, h, g); same = λ x. refl }
  type_goes (TInParen p ∷ j) t o k (Sign q Closing) f n i h g = record { good = (f, i.1, h, g); same = λ x. refl }
  type_goes (TInField e v l c ∷ j) t o k (Sign q Closing) f n i h g = record { good = (put_type_fits e v l c t i.0 f, i.1, h, g); same = λ x. ap (λ z. shown_type j o k z) (put_type_tokens e v l c t (Sign q Closing ∷ x)) }
  type_goes (TInField e v l c ∷ j) t o k (Sign q Comma) f n i h g = record { good = (put_type_fits e v l c t i.0 f, i.1, h, g); same = λ x. ap (λ z. shown_type j o k z) (put_type_tokens e v l c t (Sign q Comma ∷ x)) }
  type_goes [] t o k tok f n i h g = around_goes o t k tok f h g
  type_goes j t o k tok f n i h g = tt

  pub base_goes : (c : Kind) (j : List TypeFrame) (o : Around) (k : List Frame) (p : ℕ) (w : List ℕ) → kind ed w ≡ c → TypesFit j → AroundFits ed o k → StackFits ed k
      → Holds (begin_base c j o k p) (GoesTo (λ x. shown_type j o k (Word p w ∷ x)))
  base_goes (IsBase b) j o k p w e i h g = record { good = (tt, i, h, g); same = λ x. ap (λ z. shown_type j o k (Word p z ∷ x)) (sym (spelled_as ed w (IsBase b) e)) }
  base_goes c j o k p w e i h g = tt

  pub start_base_goes : (j : List TypeFrame) (o : Around) (k : List Frame) (p : ℕ) (w : List ℕ) → TypesFit j → AroundFits ed o k → StackFits ed k
      → Holds (start_base ed j o k p w) (GoesTo (λ x. shown_type j o k (Word p w ∷ x)))
  start_base_goes (TInParen q ∷ j) o k p w i h g = record { good = (i.1, h, g); same = λ x. refl }
  start_base_goes [] o k p w i h g = base_goes (kind ed w) [] o k p w refl i h g
  start_base_goes (f ∷ j) o k p w i h g = base_goes (kind ed w) (f ∷ j) o k p w refl i h g

  pub start_type_goes : (j : List TypeFrame) (o : Around) (k : List Frame) (t : Token) → TypesFit j → AroundFits ed o k → StackFits ed k
      → Holds (start_type ed j o k t) (GoesTo (λ x. shown_type j o k (t ∷ x)))
  start_type_goes j o k (Word p w) i h g = start_base_goes j o k p w i h g
  start_type_goes j o k (Sign p Opening) i h g = record { good = ((tt, i), h, g); same = λ x. refl }
  start_type_goes j o k (Sign p OpeningBag) i h g = record { good = ((tt, i), h, g); same = λ x. refl }
  start_type_goes (TInParen p ∷ j) o k (Sign q Closing) i h g = record { good = (tt, i.1, h, g); same = λ x. refl }
  start_type_goes j o k t i h g = tt

  pub no_type_label_goes : (c : Kind) (p v : ℕ) (w : List ℕ) (j : List TypeFrame) (o : Around) (k : List Frame) (t : Token) → kind ed w ≡ c → TypesFit j → AroundFits ed o k → StackFits ed k
      → Holds (no_type_label c p v j o k t) (GoesTo (λ x. shown_type j o k (Sign p Opening ∷ Word v w ∷ t ∷ x)))
  no_type_label_goes (IsBase b) p v w j o k t e i h g =
      moved (after_type (TInParen p ∷ j) (TBase v b) o k t) (λ x. shown_type j o k (Sign p Opening ∷ Word v (type_word b) ∷ t ∷ x)) _ (λ x. ap (λ z. shown_type j o k (Sign p Opening ∷ Word v z ∷ t ∷ x)) (sym (spelled_as ed w (IsBase b) e)))
      (type_goes (TInParen p ∷ j) (TBase v b) o k t tt (λ n. tt) (tt, i) h g)
  no_type_label_goes c p v w j o k t e i h g = tt

  pub at_type_word_goes : (p v : ℕ) (w : List ℕ) (j : List TypeFrame) (o : Around) (k : List Frame) (t : Token) → TypesFit j → AroundFits ed o k → StackFits ed k
      → Holds (at_type_word ed p v w j o k t) (GoesTo (λ x. shown_type j o k (Sign p Opening ∷ Word v w ∷ t ∷ x)))
  at_type_word_goes p v w j o k (Sign c Colon) i h g = record { good = ((tt, i), h, g); same = λ x. refl }
  at_type_word_goes p v w j o k t i h g = no_type_label_goes (kind ed w) p v w j o k t refl i h g

  pub goes : (st : State) (t : Token) → IsGood ed st → Holds (step ed st t) (GoesTo (λ x. read st (t ∷ x)))
  goes (Want k) t g = start_goes k t g
  goes (AtWord p v w k) t g = at_word_goes p v w k t g
  goes (AtTable p k) (Word v l) g = record { good = (fits k v l, g); same = λ x. refl }
    where
      fits : (k : List Frame) (v : ℕ) (l : List ℕ) → Fits ed (asks k) (Table p v l)
      fits k v l = tt
  goes (AtAggregate a p k) (Sign o Opening) g = record { good = g; same = λ x. refl }
  goes (AtFor p k) (Sign o Opening) g = record { good = g; same = λ x. refl }
  goes (AtForOpen p o k) (Word v y) g = name_goes (kind ed y) y (AtForName p o v y k) _ refl (λ e. record { good = (g.0, e, g.1); same = λ x. refl })
  goes (AtForName p o v y k) (Sign a From) g = record { good = ((g.0, g.1), g.2); same = λ x. refl }
  goes (AtWhere p k) (Sign o Opening) g = record { good = (g.0, g.1); same = λ x. refl }
  goes (AtFun p k) (Sign o Opening) g = record { good = g; same = λ x. refl }
  goes (AtFunOpen p o k) (Word v y) g = name_goes (kind ed y) y (AtFunName p o v y k) _ refl (λ e. record { good = (g.0, e, g.1); same = λ x. refl })
  goes (AtFunName p o v y k) (Sign c Colon) g = record { good = (tt, (g.0, g.1), g.2); same = λ x. refl }
  goes (AtFunClose p o v y c ty z k) (Sign a Arrow) g = record { good = ((g.0, g.1, g.2), g.3); same = λ x. refl }
  goes (AtLet p k) (Word v y) g = name_goes (kind ed y) y (AtLetName p v y k) _ refl (λ e. record { good = (g.0, e, g.1); same = λ x. refl })
  goes (AtLetName p v y k) (Sign a Assign) g = record { good = ((g.0, g.1), g.2); same = λ x. refl }
  goes (AtComma fs c k) (Word v l) g = record { good = g; same = λ x. refl }
  goes (AtLabel fs c v l k) (Sign a Assign) g = record { good = g; same = λ x. refl }
  goes (AtDot s p k) (Word v l) g = record { good = ((asks_small k, g.0), g.1); same = λ x. refl }
  goes (WantType j o k) t g = start_type_goes j o k t g.0 g.1 g.2
  goes (AtTypeWord p v w j o k) t g = at_type_word_goes p v w j o k t g.0 g.1 g.2
  goes (AtTypeComma fs q j o k) (Word v l) g = record { good = g; same = λ x. refl }
  goes (AtTypeLabel fs q v l j o k) (Sign c Colon) g = record { good = ((g.0, g.1), g.2, g.3); same = λ x. refl }
  goes (HaveType ty j o k) t g = type_goes j ty o k t (type_raise ty g.0) (λ e. g.0) g.1 g.2 g.3
  goes (Have s k) t g = after_goes k s t g.0 g.1
  goes st t g = tt
