-- A part that is no deeper makes a whole that is no deeper.
use Rattle.std.proofs.Common.{◌≡◌, ℕ, ◌≤◌, max, true, List, [], ◌∷◌, arith}
use Rattle.std.proofs.lemmas.Bool.Decides.{nat_tests}
use Rattle.nq_model.specs.QueryGrammar.{TypeSyntax, TBase, TBag, TParen, TNoFields, TRec, TFun, TypeFields, TOne, TMore, Syntax, Const, Truth, Var, Table, Aggregated, Paren, NoFields, Rec, Bag, Nil, For, Where, If, Fun, Let, Prefix, Infix, Apply, Field, Fields, One, More, type_depth, type_fields_depth, depth, fields_depth, deepest, fields_deepest, Within}
use Rattle.nq_parser.specs.Machine.{FieldHead, AtFirst, AtNext, TypeHead, TAtFirst, TAtNext, put_field, put_type, Frame, InParen, InBag, InAggregate, InSource, InBody, InTest, InGuarded, InIf, InThen, InElse, InFunBody, InValue, InLetBody, InPrefix, InRight, InArg, InField, TypeFrame, TInBag, TInParen, TInRight, TInField, Around, InNil, InFun, State, unit, int_type, finish, close, finish_type, close_type, fill_around, close_around, close_want, close_type_want, least, fits}

pub record NoDeeper (s s' : Syntax) : Type 0 where
  pub tall : depth s ≤ depth s'
  pub typed : deepest s ≤ max 1 (deepest s')

pub field_mono : (h : FieldHead) (v : ℕ) (l : List ℕ) (a : ℕ) (e e' : Syntax) → NoDeeper e e'
    → (fields_depth (put_field h v l a e) ≤ fields_depth (put_field h v l a e')) × (fields_deepest (put_field h v l a e) ≤ max 1 (fields_deepest (put_field h v l a e')))
field_mono (AtFirst p) v l a e e' h = (h.tall, h.typed)
field_mono (AtNext fs c) v l a e e' h = (omega (arith, h.tall), omega (arith, h.typed))

pub type_mono : (h : TypeHead) (v : ℕ) (l : List ℕ) (c : ℕ) (t t' : TypeSyntax) → type_depth t ≤ type_depth t'
    → type_fields_depth (put_type h v l c t) ≤ type_fields_depth (put_type h v l c t')
type_mono (TAtFirst p) v l c t t' h = h
type_mono (TAtNext fs q) v l c t t' h = omega arith

pub finish_mono : (f : Frame) (s s' : Syntax) → NoDeeper s s' → NoDeeper (finish f s) (finish f s')
finish_mono (InParen p) s s' h = record { tall = omega (arith, h.tall); typed = h.typed }
finish_mono (InBag p) s s' h = record { tall = omega (arith, h.tall); typed = h.typed }
finish_mono (InAggregate a p o) s s' h = record { tall = omega (arith, h.tall); typed = h.typed }
finish_mono (InSource p o v y a) s s' h = record { tall = omega (arith, h.tall); typed = omega (arith, h.typed) }
finish_mono (InBody p o v y a m c) s s' h = record { tall = omega (arith, h.tall); typed = omega (arith, h.typed) }
finish_mono (InTest p o) s s' h = record { tall = omega (arith, h.tall); typed = omega (arith, h.typed) }
finish_mono (InGuarded p o t c) s s' h = record { tall = omega (arith, h.tall); typed = omega (arith, h.typed) }
finish_mono (InIf p) s s' h = record { tall = omega (arith, h.tall); typed = omega (arith, h.typed) }
finish_mono (InThen p t q) s s' h = record { tall = omega (arith, h.tall); typed = omega (arith, h.typed) }
finish_mono (InElse p t q y r) s s' h = record { tall = omega (arith, h.tall); typed = omega (arith, h.typed) }
finish_mono (InFunBody p o v y c t z a) s s' h = record { tall = omega (arith, h.tall); typed = omega (arith, h.typed) }
finish_mono (InValue p v y a) s s' h = record { tall = omega (arith, h.tall); typed = omega (arith, h.typed) }
finish_mono (InLetBody p v y a m q) s s' h = record { tall = omega (arith, h.tall); typed = omega (arith, h.typed) }
finish_mono (InPrefix p u) s s' h = record { tall = omega (arith, h.tall); typed = h.typed }
finish_mono (InRight l p op) s s' h = record { tall = omega (arith, h.tall); typed = omega (arith, h.typed) }
finish_mono (InArg f p) s s' h = record { tall = omega (arith, h.tall); typed = omega (arith, h.typed) }
finish_mono (InField i v l a) s s' h = let e = field_mono i v l a s s' h in record { tall = omega (arith, e.0); typed = e.1 }

pub close_mono : (k : List Frame) (s s' : Syntax) → NoDeeper s s' → NoDeeper (close k s) (close k s')
close_mono [] s s' h = h
close_mono (f ∷ k) s s' h = close_mono k (finish f s) (finish f s') (finish_mono f s s' h)

pub depth_pos : (s : Syntax) → 1 ≤ depth s
depth_pos (Const p c) = omega arith
depth_pos (Truth p b) = omega arith
depth_pos (Var p y) = omega arith
depth_pos (Table p v l) = omega arith
depth_pos (Aggregated a p o e c) = omega arith
depth_pos (Paren p e q) = omega arith
depth_pos (NoFields p q) = omega arith
depth_pos (Rec fs q) = omega arith
depth_pos (Bag p e q) = omega arith
depth_pos (Nil p c t q) = omega arith
depth_pos (For p o v y a m c n) = omega arith
depth_pos (Where p o t c n) = omega arith
depth_pos (If p t q y r n) = omega arith
depth_pos (Fun p o v y c t z a n) = omega arith
depth_pos (Let p v y a m s n) = omega arith
depth_pos (Prefix p u e) = omega arith
depth_pos (Infix l p op r) = omega arith
depth_pos (Apply f p a q) = omega arith
depth_pos (Field e p v l) = omega arith

pub fields_pos : (fs : Fields) → 1 ≤ fields_depth fs
fields_pos (One p v l a e) = depth_pos e
fields_pos (More fs c v l a e) = let h = depth_pos e in omega (arith, h)

pub type_pos : (t : TypeSyntax) → 1 ≤ type_depth t
type_pos (TBase p c) = omega arith
type_pos (TBag p t q) = omega arith
type_pos (TParen p t q) = omega arith
type_pos (TNoFields p q) = omega arith
type_pos (TRec fs q) = omega arith
type_pos (TFun a p t) = omega arith

pub type_fields_pos : (fs : TypeFields) → 1 ≤ type_fields_depth fs
type_fields_pos (TOne p v l c t) = type_pos t
type_fields_pos (TMore fs q v l c t) = let h = type_pos t in omega (arith, h)

pub within_less : (d : ℕ) (k : List Frame) (s s' : Syntax) → NoDeeper s s' → Within d (close k s') → Within d (close k s)
within_less d k s s' h w =
    let m = close_mono k s s' h in
    let o = depth_pos (close k s') in
    (omega (arith, m.tall, w.0), omega (arith, m.typed, w.1, w.0, o))

pub less : (d : ℕ) (k : List Frame) (s s' : Syntax) → depth s ≤ depth s' → deepest s ≤ max 1 (deepest s') → Within d (close k s') → Within d (close k s)
less d k s s' h g w = within_less d k s s' (record { tall = h; typed = g }) w

pub want_less : (d : ℕ) (k : List Frame) (s : Syntax) → Within d (close k s) → Within d (close_want k)
want_less d [] s w = let o = depth_pos s in less d [] unit s (omega (arith, o)) (omega arith) w
want_less d (InParen p ∷ k) s w = less d k (NoFields p 0) (Paren p s 0) (omega arith) (omega arith) w
want_less d (InBag p ∷ k) s w = less d k (Nil p 0 int_type 0) (Bag p s 0) (omega arith) (omega arith) w
want_less d (f ∷ k) s w = let o = depth_pos s in less d (f ∷ k) unit s (omega (arith, o)) (omega arith) w

pub finish_type_mono : (f : TypeFrame) (t t' : TypeSyntax) → type_depth t ≤ type_depth t' → type_depth (finish_type f t) ≤ type_depth (finish_type f t')
finish_type_mono (TInBag p) t t' h = omega arith
finish_type_mono (TInParen p) t t' h = omega arith
finish_type_mono (TInRight a p) t t' h = omega arith
finish_type_mono (TInField i v l c) t t' h = let e = type_mono i v l c t t' h in omega (arith, e)

pub close_type_mono : (j : List TypeFrame) (t t' : TypeSyntax) → type_depth t ≤ type_depth t' → type_depth (close_type j t) ≤ type_depth (close_type j t')
close_type_mono [] t t' h = h
close_type_mono (f ∷ j) t t' h = close_type_mono j (finish_type f t) (finish_type f t') (finish_type_mono f t t' h)

pub fill_mono : (o : Around) (t t' : TypeSyntax) → type_depth t ≤ type_depth t' → NoDeeper (fill_around o t) (fill_around o t')
fill_mono (InNil p c) t t' h = record { tall = omega arith; typed = omega arith }
fill_mono (InFun p o v y c) t t' h = record { tall = omega arith; typed = omega arith }

pub type_less : (d : ℕ) (j : List TypeFrame) (o : Around) (k : List Frame) (t t' : TypeSyntax) → type_depth t ≤ type_depth t'
    → Within d (close_around j o k t') → Within d (close_around j o k t)
type_less d j o k t t' h w = within_less d k _ _ (fill_mono o (close_type j t) (close_type j t') (close_type_mono j t t' h)) w

pub type_want_less : (d : ℕ) (j : List TypeFrame) (o : Around) (k : List Frame) (t : TypeSyntax) → Within d (close_around j o k t) → Within d (close_type_want j o k)
type_want_less d [] o k t w = type_less d [] o k int_type t (type_pos t) w
type_want_less d (TInParen p ∷ j) o k t w = type_less d j o k (TNoFields p 0) (TParen p t 0) (omega arith) w
type_want_less d (f ∷ j) o k t w = type_less d (f ∷ j) o k int_type t (type_pos t) w

pub fits_true : (d : ℕ) (st : State) → Within d (least st) → fits d st ≡ true
fits_true d st w = let a = w.0 in let b = w.1 in grind (arith, nat_tests)

pub fits_within : (d : ℕ) (st : State) → fits d st ≡ true → Within d (least st)
fits_within d st h = (grind (arith, nat_tests), grind (arith, nat_tests))
