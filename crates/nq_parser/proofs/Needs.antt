-- The depth of the least program, by what the unfinished forms need and what was begun inside them.
use Rattle.std.proofs.Common.{◌≡◌, ℕ, suc, ◌+◌, ◌≤◌, max, leb, ◌&&◌, List, [], ◌∷◌, length, refl, sym, ◌∙◌, ap, arith}
use Rattle.nq_model.specs.QueryGrammar.{Syntax, TypeSyntax, TNoFields, TRec, TOne, TMore, NoFields, Rec, Nil, Table, Aggregated, For, Where, Fun, Let, Field, One, More, type_depth, type_fields_depth, depth, fields_depth, deepest, fields_deepest}
use Rattle.nq_parser.specs.Machine.{FieldHead, AtFirst, AtNext, TypeHead, TAtFirst, TAtNext, put_field, put_type, Frame, InParen, InBag, InAggregate, InSource, InBody, InTest, InGuarded, InIf, InThen, InElse, InFunBody, InValue, InLetBody, InPrefix, InRight, InArg, InField, TypeFrame, TInBag, TInParen, TInRight, TInField, Around, InNil, InFun, State, Want, AtWord, AtTable, AtAggregate, AtFor, AtForOpen, AtForName, AtWhere, AtFun, AtFunOpen, AtFunName, AtFunClose, AtLet, AtLetName, AtComma, AtLabel, AtDot, WantType, AtTypeWord, AtTypeComma, AtTypeLabel, HaveType, Have, Ready, unit, int_type, some_name, finish, close, finish_type, close_type, fill_around, close_around, close_want, close_type_want, least, fits}
use Rattle.nq_parser.specs.Forms.{head_held, held, head_types, held_types, needs, needs_types, type_head_held, type_held}
use Rattle.nq_parser.specs.Needs.{open_forms, want_depth, want_types, want_type_depth, around_depth, hole, hole_types, over_types}
use Rattle.nq_parser.proofs.Depths.{depth_pos, fields_pos, type_fields_pos}

put_depth : (h : FieldHead) (v : ℕ) (l : List ℕ) (a : ℕ) (e : Syntax) → fields_depth (put_field h v l a e) ≡ max (head_held h) (depth e)
put_depth (AtFirst p) v l a e = omega arith
put_depth (AtNext fs c) v l a e = refl

put_types : (h : FieldHead) (v : ℕ) (l : List ℕ) (a : ℕ) (e : Syntax) → fields_deepest (put_field h v l a e) ≡ max (head_types h) (deepest e)
put_types (AtFirst p) v l a e = omega arith
put_types (AtNext fs c) v l a e = refl

finished : (f : Frame) (s : Syntax) → depth (finish f s) ≡ suc (max (held f) (depth s))
finished (InParen p) s = omega arith
finished (InBag p) s = omega arith
finished (InAggregate a p o) s = omega arith
finished (InSource p o v y a) s = let h = depth_pos s in omega (arith, h)
finished (InBody p o v y a m c) s = refl
finished (InTest p o) s = let h = depth_pos s in omega (arith, h)
finished (InGuarded p o t c) s = refl
finished (InIf p) s = let h = depth_pos s in omega (arith, h)
finished (InThen p t q) s = let h = depth_pos s in omega (arith, h)
finished (InElse p t q y r) s = omega arith
finished (InFunBody p o v y c t z a) s = omega arith
finished (InValue p v y a) s = let h = depth_pos s in omega (arith, h)
finished (InLetBody p v y a m q) s = refl
finished (InPrefix p u) s = omega arith
finished (InRight l p op) s = refl
finished (InArg f p) s = refl
finished (InField h v l a) s = ap suc (put_depth h v l a s)

finished_types : (f : Frame) (s : Syntax) → deepest (finish f s) ≡ max (held_types f) (deepest s)
finished_types (InParen p) s = omega arith
finished_types (InBag p) s = omega arith
finished_types (InAggregate a p o) s = omega arith
finished_types (InSource p o v y a) s = omega arith
finished_types (InBody p o v y a m c) s = refl
finished_types (InTest p o) s = omega arith
finished_types (InGuarded p o t c) s = refl
finished_types (InIf p) s = omega arith
finished_types (InThen p t q) s = omega arith
finished_types (InElse p t q y r) s = omega arith
finished_types (InFunBody p o v y c t z a) s = refl
finished_types (InValue p v y a) s = omega arith
finished_types (InLetBody p v y a m q) s = refl
finished_types (InPrefix p u) s = omega arith
finished_types (InRight l p op) s = refl
finished_types (InArg f p) s = refl
finished_types (InField h v l a) s = put_types h v l a s

pub closed_depth : (k : List Frame) (s : Syntax) → depth (close k s) ≡ max (needs k) (depth s + length k)
closed_depth [] s = omega arith
closed_depth (f ∷ k) s =
    let h = closed_depth k (finish f s) in
    let e = finished f s in
    omega (arith, h, e)

pub closed_types : (k : List Frame) (s : Syntax) → deepest (close k s) ≡ max (needs_types k) (deepest s)
closed_types [] s = omega arith
closed_types (f ∷ k) s =
    let h = closed_types k (finish f s) in
    let e = finished_types f s in
    omega (arith, h, e)

put_type_depth : (h : TypeHead) (v : ℕ) (l : List ℕ) (c : ℕ) (t : TypeSyntax) → type_fields_depth (put_type h v l c t) ≡ max (type_head_held h) (type_depth t)
put_type_depth (TAtFirst p) v l c t = omega arith
put_type_depth (TAtNext fs q) v l c t = refl

type_finished : (f : TypeFrame) (t : TypeSyntax) → type_depth (finish_type f t) ≡ suc (max (type_held f) (type_depth t))
type_finished (TInBag p) t = omega arith
type_finished (TInParen p) t = omega arith
type_finished (TInRight a p) t = refl
type_finished (TInField h v l c) t = ap suc (put_type_depth h v l c t)

pub type_closed : (j : List TypeFrame) (t : TypeSyntax) → type_depth (close_type j t) ≡ over_types j (type_depth t)
type_closed [] t = omega arith
type_closed (f ∷ j) t =
    let h = type_closed j (finish_type f t) in
    let e = type_finished f t in
    omega (arith, h, e)

around_filled : (o : Around) (t : TypeSyntax) → depth (fill_around o t) ≡ around_depth o
around_filled (InNil p c) t = refl
around_filled (InFun p o v y c) t = refl

around_types : (o : Around) (t : TypeSyntax) → deepest (fill_around o t) ≡ type_depth t
around_types (InNil p c) t = refl
around_types (InFun p o v y c) t = omega arith

over_around : (j : List TypeFrame) (o : Around) (k : List Frame) (t : TypeSyntax) → depth (close_around j o k t) ≡ max (needs k) (around_depth o + length k)
over_around j o k t =
    closed_depth k (fill_around o (close_type j t)) ∙ ap (λ n. max (needs k) (n + length k)) (around_filled o (close_type j t))

over_around_types : (j : List TypeFrame) (o : Around) (k : List Frame) (t : TypeSyntax) (n : ℕ) → type_depth t ≡ n
    → deepest (close_around j o k t) ≡ max (needs_types k) (over_types j n)
over_around_types j o k t n e =
    closed_types k (fill_around o (close_type j t)) ∙ ap (λ m. max (needs_types k) m) (around_types o (close_type j t) ∙ type_closed j t ∙ ap (over_types j) e)

want_over : (k : List Frame) → depth (close_want k) ≡ max (needs k) (want_depth k + length k)
want_over [] = refl
want_over (InParen p ∷ k) = let h = closed_depth k (NoFields p 0) in omega (arith, h)
want_over (InBag p ∷ k) = let h = closed_depth k (Nil p 0 int_type 0) in omega (arith, h)
want_over (f ∷ k) = closed_depth (f ∷ k) unit

want_over_types : (k : List Frame) → deepest (close_want k) ≡ max (needs_types k) (want_types k)
want_over_types [] = refl
want_over_types (InParen p ∷ k) = let h = closed_types k (NoFields p 0) in omega (arith, h)
want_over_types (InBag p ∷ k) = let h = closed_types k (Nil p 0 int_type 0) in omega (arith, h)
want_over_types (f ∷ k) = closed_types (f ∷ k) unit

type_want_over : (j : List TypeFrame) (o : Around) (k : List Frame) → depth (close_type_want j o k) ≡ max (needs k) (around_depth o + length k)
type_want_over [] o k = over_around [] o k int_type
type_want_over (TInParen p ∷ j) o k = over_around j o k (TNoFields p 0)
type_want_over (f ∷ j) o k = over_around (f ∷ j) o k int_type

paren_over : (j : List TypeFrame) (p : ℕ) → over_types j 1 ≡ over_types (TInParen p ∷ j) 0
paren_over j p = omega arith

type_want_over_types : (j : List TypeFrame) (o : Around) (k : List Frame) → deepest (close_type_want j o k) ≡ max (needs_types k) (over_types j (want_type_depth j))
type_want_over_types [] o k = over_around_types [] o k int_type 1 refl
type_want_over_types (TInParen p ∷ j) o k = over_around_types j o k (TNoFields p 0) 1 refl ∙ ap (λ n. max (needs_types k) n) (paren_over j p)
type_want_over_types (f ∷ j) o k = over_around_types (f ∷ j) o k int_type 1 refl

deep : (k : List Frame) (s : Syntax) (n : ℕ) → depth s ≡ n → depth (close k s) ≡ max (needs k) (n + length k)
deep k s n e = closed_depth k s ∙ ap (λ m. max (needs k) (m + length k)) e

typed : (k : List Frame) (s : Syntax) (n : ℕ) → deepest s ≡ n → deepest (close k s) ≡ max (needs_types k) n
typed k s n e = closed_types k s ∙ ap (λ m. max (needs_types k) m) e

fields_more : (n : ℕ) → 1 ≤ n → suc (max n 1) ≡ suc n
fields_more n h = omega arith

pub least_depth : (st : State) → depth (least st) ≡ max (needs (open_forms st)) (hole st + length (open_forms st))
least_depth (Want k) = want_over k
least_depth (AtWord p v w k) = deep k (Rec (One p v w 0 unit) 0) 2 refl
least_depth (AtTable p k) = deep k (Table p 0 some_name) 1 refl
least_depth (AtAggregate a p k) = deep k (Aggregated a p 0 unit 0) 2 refl
least_depth (AtFor p k) = deep k (For p 0 0 some_name 0 unit 0 unit) 2 refl
least_depth (AtForOpen p o k) = deep k (For p o 0 some_name 0 unit 0 unit) 2 refl
least_depth (AtForName p o v y k) = deep k (For p o v y 0 unit 0 unit) 2 refl
least_depth (AtWhere p k) = deep k (Where p 0 unit 0 unit) 2 refl
least_depth (AtFun p k) = deep k (Fun p 0 0 some_name 0 int_type 0 0 unit) 2 refl
least_depth (AtFunOpen p o k) = deep k (Fun p o 0 some_name 0 int_type 0 0 unit) 2 refl
least_depth (AtFunName p o v y k) = deep k (Fun p o v y 0 int_type 0 0 unit) 2 refl
least_depth (AtFunClose p o v y c t z k) = deep k (Fun p o v y c t z 0 unit) 2 refl
least_depth (AtLet p k) = deep k (Let p 0 some_name 0 unit 0 unit) 2 refl
least_depth (AtLetName p v y k) = deep k (Let p v y 0 unit 0 unit) 2 refl
least_depth (AtComma fs c k) = deep k (Rec (More fs c 0 some_name 0 unit) 0) (suc (fields_depth fs)) (fields_more (fields_depth fs) (fields_pos fs))
least_depth (AtLabel fs c v l k) = deep k (Rec (More fs c v l 0 unit) 0) (suc (fields_depth fs)) (fields_more (fields_depth fs) (fields_pos fs))
least_depth (AtDot s p k) = deep k (Field s p 0 some_name) (suc (depth s)) refl
least_depth (WantType j o k) = type_want_over j o k
least_depth (AtTypeWord p v w j o k) = over_around j o k (TRec (TOne p v w 0 int_type) 0)
least_depth (AtTypeComma fs q j o k) = over_around j o k (TRec (TMore fs q 0 some_name 0 int_type) 0)
least_depth (AtTypeLabel fs q v l j o k) = over_around j o k (TRec (TMore fs q v l 0 int_type) 0)
least_depth (HaveType t j o k) = over_around j o k t
least_depth (Have s k) = closed_depth k s
least_depth (Ready s q) = omega arith

none : (n : ℕ) → max n 0 ≡ n
none n = omega arith

pub least_types : (st : State) → deepest (least st) ≡ max (needs_types (open_forms st)) (hole_types st)
least_types (Want k) = want_over_types k
least_types (AtWord p v w k) = typed k (Rec (One p v w 0 unit) 0) 0 refl
least_types (AtTable p k) = typed k (Table p 0 some_name) 0 refl
least_types (AtAggregate a p k) = typed k (Aggregated a p 0 unit 0) 0 refl
least_types (AtFor p k) = typed k (For p 0 0 some_name 0 unit 0 unit) 0 refl
least_types (AtForOpen p o k) = typed k (For p o 0 some_name 0 unit 0 unit) 0 refl
least_types (AtForName p o v y k) = typed k (For p o v y 0 unit 0 unit) 0 refl
least_types (AtWhere p k) = typed k (Where p 0 unit 0 unit) 0 refl
least_types (AtFun p k) = typed k (Fun p 0 0 some_name 0 int_type 0 0 unit) 1 refl
least_types (AtFunOpen p o k) = typed k (Fun p o 0 some_name 0 int_type 0 0 unit) 1 refl
least_types (AtFunName p o v y k) = typed k (Fun p o v y 0 int_type 0 0 unit) 1 refl
least_types (AtFunClose p o v y c t z k) = typed k (Fun p o v y c t z 0 unit) (type_depth t) (none (type_depth t))
least_types (AtLet p k) = typed k (Let p 0 some_name 0 unit 0 unit) 0 refl
least_types (AtLetName p v y k) = typed k (Let p v y 0 unit 0 unit) 0 refl
least_types (AtComma fs c k) = typed k (Rec (More fs c 0 some_name 0 unit) 0) (fields_deepest fs) (none (fields_deepest fs))
least_types (AtLabel fs c v l k) = typed k (Rec (More fs c v l 0 unit) 0) (fields_deepest fs) (none (fields_deepest fs))
least_types (AtDot s p k) = typed k (Field s p 0 some_name) (deepest s) refl
least_types (WantType j o k) = type_want_over_types j o k
least_types (AtTypeWord p v w j o k) = over_around_types j o k (TRec (TOne p v w 0 int_type) 0) 2 refl
least_types (AtTypeComma fs q j o k) = over_around_types j o k (TRec (TMore fs q 0 some_name 0 int_type) 0) (suc (type_fields_depth fs)) (fields_more (type_fields_depth fs) (type_fields_pos fs))
least_types (AtTypeLabel fs q v l j o k) = over_around_types j o k (TRec (TMore fs q v l 0 int_type) 0) (suc (type_fields_depth fs)) (fields_more (type_fields_depth fs) (type_fields_pos fs))
least_types (HaveType t j o k) = over_around_types j o k t (type_depth t) refl
least_types (Have s k) = closed_types k s
least_types (Ready s q) = omega arith

-- what the machine asks of a state, in numbers that are kept with it
pub fits_is : (d : ℕ) (st : State) → fits d st ≡ (leb (max (needs (open_forms st)) (hole st + length (open_forms st))) d && leb (max (needs_types (open_forms st)) (hole_types st)) d)
fits_is d st = ap (λ n. leb n d && leb (deepest (least st)) d) (least_depth st) ∙ ap (λ n. leb (max (needs (open_forms st)) (hole st + length (open_forms st))) d && leb n d) (least_types st)

-- the same of two numbers that the reader keeps
pub fits_over : (d : ℕ) (st : State) (n t : ℕ) → n ≡ max (needs (open_forms st)) (hole st + length (open_forms st)) → t ≡ max (needs_types (open_forms st)) (hole_types st)
    → (leb n d && leb t d) ≡ fits d st
fits_over d st n t e h = ap (λ z. leb z d && leb t d) e ∙ ap (λ z. leb (max (needs (open_forms st)) (hole st + length (open_forms st))) d && leb z d) h ∙ sym (fits_is d st)
