-- The machine reads the tokens of each tree of the grammar, at each depth that the tree keeps.
use Rattle.std.proofs.Common.{◌≡◌, ℕ, suc, ◌≤◌, Bool, true, false, cond, leb, List, [], ◌∷◌, refl, sym, ◌∙◌, ap, arith, codes, Option, Some, None, le-leb}
use Rattle.std.proofs.lemmas.Bool.Decides.{nat_tests}
use Rattle.nq_model.specs.Machines.{Faulty}
use Rattle.nq_model.specs.OpenLists.{Deep}
use Rattle.nq_model.specs.SchemaTexts.{type_word}
use Rattle.nq_model.specs.QueryTokens.{Operator, Union, Of, Opening, Closing, OpeningBag, ClosingBag, Comma, Colon, Semicolon, Dot, Assign, From, Arrow, Bang, Token, Word, Value, Oper, Sign}
use Rattle.nq_model.specs.QueryGrammar.{Edition, aggregate_word, Kind, IsFor, IsWhere, IsIf, IsFun, IsTable, IsAggregate, IsTruth, IsBase, IsName, truth_word, kind, TypeSyntax, TBase, TBag, TParen, TNoFields, TRec, TFun, TypeFields, TOne, TMore, Syntax, Const, Truth, Var, Table, Aggregated, Paren, NoFields, Rec, Bag, Nil, For, Where, If, Fun, Let, Prefix, Infix, Apply, Field, Fields, One, More, type_tokens, type_fields_tokens, prefix_token, tokens, fields_tokens, level, left_level, TypeFits, TypeFieldsFit, Fits, FieldsFit, Within}
use Rattle.nq_model.specs.declared.term.Unary.{Unary as UnaryOp}
use Rattle.nq_model.specs.declared.term.Unary.TheVariants.{Minus, Not}
use Rattle.nq_model.specs.declared.term.Binary.TheVariants.{Add, Sub, Mul, And, Or}
use Rattle.nq_model.specs.declared.table.ColumnType.{ColumnType}
use Rattle.nq_model.specs.declared.table.ColumnType.TheVariants as column
use Rattle.nq_parser.specs.Machine.{AtFirst, AtNext, TAtFirst, TAtNext, FieldHead, TypeHead, put_field, put_type, Frame, InParen, InBag, InAggregate, InSource, InBody, InTest, InGuarded, InIf, InThen, InElse, InFunBody, InValue, InLetBody, InPrefix, InRight, InArg, InField, TypeFrame, TInBag, TInParen, TInRight, TInField, Around, InNil, InFun, State, Want, AtWord, AtTable, AtAggregate, AtFor, AtForOpen, AtForName, AtWhere, AtFun, AtFunOpen, AtFunName, AtFunClose, AtLet, AtLetName, AtComma, AtLabel, AtDot, WantType, AtTypeWord, AtTypeComma, AtTypeLabel, HaveType, Have, asks_of, asks, binds, level_of, ends, joined, shift, after, begin_word, start, no_label, at_word, if_name, after_type, begin_base, no_type_label, at_type_word, step, unit, int_type, some_name, close, close_around, least, turn, run}
use Rattle.nq_parser.proofs.Depths.{depth_pos, type_pos, type_fields_pos, less, want_less, type_less, type_want_less, fits_true}

abbrev pub is_assign : Token → Bool
is_assign (Sign p Assign) = true
is_assign _ = false

abbrev pub is_arrow : Token → Bool
is_arrow (Sign p Arrow) = true
is_arrow _ = false

abbrev pub is_colon : Token → Bool
is_colon (Sign p Colon) = true
is_colon _ = false

-- what may stand behind a field
abbrev pub is_sep : Token → Bool
is_sep (Sign p Comma) = true
is_sep (Sign p Closing) = true
is_sep _ = false

pub sep_binds : (t : Token) → is_sep t ≡ true → binds t ≤ 1
sep_binds (Sign p Comma) e = omega arith
sep_binds (Sign p Closing) e = omega arith
sep_binds t e = absurd (cc)

pub sep_assign : (t : Token) → is_sep t ≡ true → is_assign t ≡ false
sep_assign (Sign p Comma) e = refl
sep_assign (Sign p Closing) e = refl
sep_assign t e = absurd (cc)

-- what may stand behind a type
abbrev pub Follows : Bool → Token → Type 0
Follows true t = (is_colon t ≡ false) × (is_arrow t ≡ false)
Follows false t = is_colon t ≡ false

pub follows_colon : (whole : Bool) (t : Token) → Follows whole t → is_colon t ≡ false
follows_colon true t h = h.0
follows_colon false t h = h

pub sep_follows : (t : Token) → is_sep t ≡ true → Follows true t
sep_follows (Sign p Comma) e = (refl, refl)
sep_follows (Sign p Closing) e = (refl, refl)
sep_follows t e = absurd (cc)

pub record Levels (op : Operator) : Type 0 where
  pub low : 2 ≤ level op
  pub high : level op ≤ 7
  pub left_high : left_level op ≤ 9
  pub left_low : level op ≤ left_level op

pub levels : (op : Operator) → Levels op
levels Union = record { low = omega arith; high = omega arith; left_high = omega arith; left_low = omega arith }
levels (Of Or) = record { low = omega arith; high = omega arith; left_high = omega arith; left_low = omega arith }
levels (Of And) = record { low = omega arith; high = omega arith; left_high = omega arith; left_low = omega arith }
levels (Of Add) = record { low = omega arith; high = omega arith; left_high = omega arith; left_low = omega arith }
levels (Of Sub) = record { low = omega arith; high = omega arith; left_high = omega arith; left_low = omega arith }
levels (Of Mul) = record { low = omega arith; high = omega arith; left_high = omega arith; left_low = omega arith }
levels (Of b) = record { low = omega arith; high = omega arith; left_high = omega arith; left_low = omega arith }

-- no token binds 8
pub binds_gap : (t : Token) → binds t ≤ 8 → binds t ≤ 7
binds_gap (Oper p op) h = let s = levels op in s.high
binds_gap (Sign p Opening) h = absurd (omega arith)
binds_gap (Sign p Dot) h = absurd (omega arith)
binds_gap t h = omega arith

-- no form ends before a token that takes at least what the form asks for
pub ends_false : (f : Frame) (t : Token) → asks_of f ≤ binds t → 2 ≤ binds t → ends f t ≡ false
ends_false (InBody p o v y a m c) t h g = grind (arith, nat_tests)
ends_false (InGuarded p o m c) t h g = grind (arith, nat_tests)
ends_false (InElse p x q y r) t h g = grind (arith, nat_tests)
ends_false (InFunBody p o v y c ty z a) t h g = grind (arith, nat_tests)
ends_false (InLetBody p v y a m s) t h g = grind (arith, nat_tests)
ends_false (InPrefix p u) t h g = grind (arith, nat_tests)
ends_false (InRight l p op) t h g = grind (arith, nat_tests)
ends_false f t h g = refl

pub kind_truth : (ed : Edition) (b : Bool) → kind ed (truth_word b) ≡ IsTruth b
kind_truth ed true = refl
kind_truth ed false = refl

pub kind_base : (ed : Edition) (b : ColumnType) → kind ed (type_word b) ≡ IsBase b
kind_base ed column.Int = refl
kind_base ed column.Bool = refl
kind_base ed column.Text = refl

module _ (ed : Edition) where
  pub next : (d : ℕ) (st st' : State) (t : Token) (ts : List Token) → step ed st t ≡ Some st' → Within d (least st') → run ed d (t ∷ ts) st ≡ run ed d ts st'
  next d st st' t ts e w =
      ap (λ o. turn ed d t o (run ed d ts)) e ∙ ap (λ b. cond b (run ed d ts st') (Faulty t Deep)) (fits_true d st' w)

  pub settle : (d : ℕ) (st : State) (t : Token) (ts : List Token) → Within d (least st) → turn ed d t (Some st) (run ed d ts) ≡ run ed d ts st
  settle d st t ts w = ap (λ b. cond b (run ed d ts st) (Faulty t Deep)) (fits_true d st w)

  pub alike : (d : ℕ) (t : Token) (ts : List Token) (o o' : Option State) → o ≡ o' → turn ed d t o (run ed d ts) ≡ turn ed d t o' (run ed d ts)
  alike d t ts o o' e = ap (λ z. turn ed d t z (run ed d ts)) e

  -- a tree stands at each level up to its own
  pub level_enough : (s : Syntax) (m : ℕ) → m ≤ 9 → Fits ed m s → m ≤ level_of s
  level_enough (Const p c) m h f = omega arith
  level_enough (Truth p b) m h f = omega arith
  level_enough (Var p y) m h f = omega arith
  level_enough (Table p v l) m h f = omega arith
  level_enough (Aggregated a p o e c) m h f = omega arith
  level_enough (Paren p e q) m h f = omega arith
  level_enough (NoFields p q) m h f = omega arith
  level_enough (Rec fs q) m h f = omega arith
  level_enough (Bag p e q) m h f = omega arith
  level_enough (Nil p c t q) m h f = omega arith
  level_enough (For p o v y a i c n) m h f = f.0
  level_enough (Where p o t c n) m h f = f.0
  level_enough (If p t q y r n) m h f = f.0
  level_enough (Fun p o v y c t z a n) m h f = f.0
  level_enough (Let p v y a i s n) m h f = f.0
  level_enough (Prefix p u e) m h f = f.0
  level_enough (Infix l p op r) m h f = f.0
  level_enough (Apply g p a q) m h f = f.0
  level_enough (Field e p v l) m h f = f.0

  pub stays : (k : List Frame) (s : Syntax) (t : Token) → asks k ≤ binds t → 2 ≤ binds t → after ed k s t ≡ shift ed k s t
  stays [] s t h g = refl
  stays (f ∷ k) s t h g = ap (λ b. cond b (after ed k (joined f s) t) (shift ed (f ∷ k) s t)) (ends_false f t h g)

  pub closes : (f : Frame) (k : List Frame) (s : Syntax) (t : Token) → ends f t ≡ true → after ed (f ∷ k) s t ≡ after ed k (joined f s) t
  closes f k s t h = ap (λ b. cond b (after ed k (joined f s) t) (shift ed (f ∷ k) s t)) h

  pub after_oper : (k : List Frame) (l : Syntax) (p : ℕ) (op : Operator) → asks k ≤ level op → Fits ed (left_level op) l → after ed k l (Oper p op) ≡ Some (Want (InRight l p op ∷ k))
  after_oper k l p op h f =
      let s = levels op in
      let e : leb (left_level op) (level_of l) ≡ true = le-leb _ _ (level_enough l (left_level op) s.left_high f) in
      stays k l (Oper p op) h s.low ∙ ap (λ b. cond b (Some (Want (InRight l p op ∷ k))) None) e

  pub after_opening : (k : List Frame) (l : Syntax) (p : ℕ) → asks k ≤ 9 → Fits ed 9 l → after ed k l (Sign p Opening) ≡ Some (Want (InArg l p ∷ k))
  after_opening k l p h f =
      let e : leb 9 (level_of l) ≡ true = le-leb _ _ (level_enough l 9 (omega arith) f) in
      stays k l (Sign p Opening) h (omega arith) ∙ ap (λ b. cond b (Some (Want (InArg l p ∷ k))) None) e

  pub after_dot : (k : List Frame) (l : Syntax) (p : ℕ) → asks k ≤ 9 → Fits ed 9 l → after ed k l (Sign p Dot) ≡ Some (AtDot l p k)
  after_dot k l p h f =
      let e : leb 9 (level_of l) ≡ true = le-leb _ _ (level_enough l 9 (omega arith) f) in
      stays k l (Sign p Dot) h (omega arith) ∙ ap (λ b. cond b (Some (AtDot l p k)) None) e

  pub begin_prefix : (k : List Frame) (p : ℕ) (u : UnaryOp) → asks k ≤ 8 → start ed k (prefix_token p u) ≡ Some (Want (InPrefix p u ∷ k))
  begin_prefix k p Minus h = ap (λ b. cond b (Some (Want (InPrefix p Minus ∷ k))) None) (le-leb _ _ h)
  begin_prefix k p Not h = ap (λ b. cond b (Some (Want (InPrefix p Not ∷ k))) None) (le-leb _ _ h)

  some_same : (a b : State) → Some a ≡ Some b → a ≡ b
  some_same a b e = cc

  -- behind `(` a word that is no label begins an expression in parentheses
  pub settled : (c : Kind) (q p : ℕ) (w : List ℕ) (k : List Frame) (t : Token) (st : State) → begin_word c (InParen q ∷ k) p w ≡ Some st → no_label ed c q p w k t ≡ step ed st t
  settled IsName q p w k t st e = ap (λ z. step ed z t) (some_same _ _ e)
  settled (IsTruth b) q p w k t st e = ap (λ z. step ed z t) (some_same _ _ e)
  settled IsTable q p w k t st e = ap (λ z. step ed z t) (some_same _ _ e)
  settled (IsAggregate a) q p w k t st e = ap (λ z. step ed z t) (some_same _ _ e)
  settled IsFor q p w k t st e = ap (λ z. step ed z t) (some_same (AtFor p (InParen q ∷ k)) st e)
  settled IsWhere q p w k t st e = ap (λ z. step ed z t) (some_same (AtWhere p (InParen q ∷ k)) st e)
  settled IsIf q p w k t st e = ap (λ z. step ed z t) (some_same (Want (InIf p ∷ InParen q ∷ k)) st e)
  settled IsFun q p w k t st e = ap (λ z. step ed z t) (some_same (AtFun p (InParen q ∷ k)) st e)
  settled c q p w k t st e = absurd (cc)

  pub unlabelled : (p v : ℕ) (w : List ℕ) (k : List Frame) (t : Token) → is_assign t ≡ false → at_word ed p v w k t ≡ no_label ed (kind ed w) p v w k t
  unlabelled p v w k (Sign a Assign) h = absurd (cc)
  unlabelled p v w k t h = refl

  -- a word begins an expression; behind `(` this is known a token later
  pub word_begins : (d : ℕ) (k : List Frame) (p : ℕ) (w : List ℕ) (t : Token) (x : List Token) (st : State) (s : Syntax) → begin_word (kind ed w) k p w ≡ Some st
      → is_assign t ≡ false → Within d (least st) → Within d (close k s) → run ed d (Word p w ∷ t ∷ x) (Want k) ≡ run ed d (t ∷ x) st
  word_begins d (InParen q ∷ k) p w t x st s e h v u =
      let pos = depth_pos s in
      next d (Want (InParen q ∷ k)) (AtWord q p w k) (Word p w) (t ∷ x) refl (less d k (Rec (One q p w 0 unit) 0) (Paren q s 0) (omega (arith, pos)) (omega arith) u)
      ∙ alike d t x _ _ (unlabelled q p w k t h ∙ settled (kind ed w) q p w k t st e)
  word_begins d [] p w t x st s e h v u = next d (Want []) st (Word p w) (t ∷ x) e v
  word_begins d (f ∷ k) p w t x st s e h v u = next d (Want (f ∷ k)) st (Word p w) (t ∷ x) e v

  -- types
  pub ends_arrow : (j : List TypeFrame) (a : TypeSyntax) (p : ℕ) (b : TypeSyntax) (o : Around) (k : List Frame) (t : Token) → is_arrow t ≡ false
      → after_type (TInRight a p ∷ j) b o k t ≡ after_type j (TFun a p b) o k t
  ends_arrow j a p b o k (Sign q Arrow) h = absurd (cc)
  ends_arrow j a p b o k t h = refl

  pub no_colon : (p v : ℕ) (w : List ℕ) (j : List TypeFrame) (o : Around) (k : List Frame) (t : Token) → is_colon t ≡ false
      → at_type_word ed p v w j o k t ≡ no_type_label (kind ed w) p v j o k t
  no_colon p v w j o k (Sign c Colon) h = absurd (cc)
  no_colon p v w j o k t h = refl

  -- behind the fields of a record type
  abbrev pub after_type_fields : TypeFields → List TypeFrame → Around → List Frame → Token → Option State
  after_type_fields fs j o k (Sign q Closing) = Some (HaveType (TRec fs q) j o k)
  after_type_fields fs j o k (Sign q Comma) = Some (AtTypeComma fs q j o k)
  after_type_fields fs j o k _ = None

  pub field_ends : (h : TypeHead) (v : ℕ) (l : List ℕ) (c : ℕ) (ty : TypeSyntax) (j : List TypeFrame) (o : Around) (k : List Frame) (t : Token) → is_sep t ≡ true
      → after_type (TInField h v l c ∷ j) ty o k t ≡ after_type_fields (put_type h v l c ty) j o k t
  field_ends h v l c ty j o k (Sign q Closing) e = refl
  field_ends h v l c ty j o k (Sign q Comma) e = refl
  field_ends h v l c ty j o k t e = absurd (cc)

  pub base_reads : (b : ColumnType) (d v : ℕ) (j : List TypeFrame) (o : Around) (k : List Frame) (t : Token) (x : List Token) → is_colon t ≡ false
      → Within d (close_around j o k (TBase v b)) → run ed d (Word v (type_word b) ∷ t ∷ x) (WantType j o k) ≡ run ed d (t ∷ x) (HaveType (TBase v b) j o k)
  base_reads b d v (TInParen p ∷ j) o k t x h w =
      next d (WantType (TInParen p ∷ j) o k) (AtTypeWord p v (type_word b) j o k) (Word v (type_word b)) (t ∷ x) refl
      (type_less d j o k (TRec (TOne p v (type_word b) 0 int_type) 0) (TParen p (TBase v b) 0) (omega arith) w)
      ∙ alike d t x _ _ (no_colon p v (type_word b) j o k t h ∙ ap (λ c. no_type_label c p v j o k t) (kind_base ed b))
  base_reads b d v [] o k t x h w = next d (WantType [] o k) (HaveType (TBase v b) [] o k) (Word v (type_word b)) (t ∷ x) (ap (λ c. begin_base c [] o k v) (kind_base ed b)) w
  base_reads b d v (f ∷ j) o k t x h w = next d (WantType (f ∷ j) o k) (HaveType (TBase v b) (f ∷ j) o k) (Word v (type_word b)) (t ∷ x) (ap (λ c. begin_base c (f ∷ j) o k v) (kind_base ed b)) w

  mutual
    pub type_reads : (ty : TypeSyntax) (whole : Bool) (d : ℕ) (j : List TypeFrame) (o : Around) (k : List Frame) (t : Token) (x : List Token)
        → TypeFits whole ty → Follows whole t → Within d (close_around j o k ty)
        → run ed d (type_tokens ty (t ∷ x)) (WantType j o k) ≡ run ed d (t ∷ x) (HaveType ty j o k)
    type_reads (TBase p b) whole d j o k t x f s w = base_reads b d p j o k t x (follows_colon whole t s) w
    type_reads (TBag p ty q) whole d j o k t x f s w =
        let v = type_less d j o k (TBag p ty 0) (TBag p ty q) (omega arith) w in
        next d (WantType j o k) (WantType (TInBag p ∷ j) o k) (Sign p OpeningBag) (type_tokens ty (Sign q ClosingBag ∷ t ∷ x)) refl (type_want_less d (TInBag p ∷ j) o k ty v)
        ∙ type_reads ty true d (TInBag p ∷ j) o k (Sign q ClosingBag) (t ∷ x) f (refl, refl) v
        ∙ next d (HaveType ty (TInBag p ∷ j) o k) (HaveType (TBag p ty q) j o k) (Sign q ClosingBag) (t ∷ x) refl w
    type_reads (TParen p ty q) whole d j o k t x f s w =
        let v = type_less d j o k (TParen p ty 0) (TParen p ty q) (omega arith) w in
        next d (WantType j o k) (WantType (TInParen p ∷ j) o k) (Sign p Opening) (type_tokens ty (Sign q Closing ∷ t ∷ x)) refl (type_want_less d (TInParen p ∷ j) o k ty v)
        ∙ type_reads ty true d (TInParen p ∷ j) o k (Sign q Closing) (t ∷ x) f (refl, refl) v
        ∙ next d (HaveType ty (TInParen p ∷ j) o k) (HaveType (TParen p ty q) j o k) (Sign q Closing) (t ∷ x) refl w
    type_reads (TNoFields p q) whole d j o k t x f s w =
        next d (WantType j o k) (WantType (TInParen p ∷ j) o k) (Sign p Opening) (Sign q Closing ∷ t ∷ x) refl (type_less d j o k (TNoFields p 0) (TNoFields p q) (omega arith) w)
        ∙ next d (WantType (TInParen p ∷ j) o k) (HaveType (TNoFields p q) j o k) (Sign q Closing) (t ∷ x) refl w
    type_reads (TRec fs q) whole d j o k t x f s w =
        type_fields_read fs d j o k (Sign q Closing) (t ∷ x) f refl (type_less d j o k (TRec fs 0) (TRec fs q) (omega arith) w)
        ∙ settle d (HaveType (TRec fs q) j o k) (Sign q Closing) (t ∷ x) w
    type_reads (TFun a p b) true d j o k t x f s w =
        let v = type_less d j o k a (TFun a p b) (omega arith) w in
        type_reads a false d j o k (Sign p Arrow) (type_tokens b (t ∷ x)) f.1 refl v
        ∙ next d (HaveType a j o k) (WantType (TInRight a p ∷ j) o k) (Sign p Arrow) (type_tokens b (t ∷ x)) refl (type_want_less d (TInRight a p ∷ j) o k b w)
        ∙ type_reads b true d (TInRight a p ∷ j) o k t x f.2 s w
        ∙ alike d t x _ _ (ends_arrow j a p b o k t s.1)
    type_reads (TFun a p b) false d j o k t x f s w = let e : false ≡ true = f.0 in absurd (cc)

    pub type_fields_read : (fs : TypeFields) (d : ℕ) (j : List TypeFrame) (o : Around) (k : List Frame) (t : Token) (x : List Token)
        → TypeFieldsFit fs → is_sep t ≡ true → Within d (close_around j o k (TRec fs 0))
        → run ed d (type_fields_tokens fs (t ∷ x)) (WantType j o k) ≡ turn ed d t (after_type_fields fs j o k t) (run ed d x)
    type_fields_read (TOne p v l c ty) d j o k t x f s w =
        let r = type_tokens ty (t ∷ x) in
        let pos = type_pos ty in
        next d (WantType j o k) (WantType (TInParen p ∷ j) o k) (Sign p Opening) (Word v l ∷ Sign c Colon ∷ r) refl (type_less d j o k (TNoFields p 0) (TRec (TOne p v l c ty) 0) (omega arith) w)
        ∙ next d (WantType (TInParen p ∷ j) o k) (AtTypeWord p v l j o k) (Word v l) (Sign c Colon ∷ r) refl (type_less d j o k (TRec (TOne p v l 0 int_type) 0) (TRec (TOne p v l c ty) 0) (omega (arith, pos)) w)
        ∙ next d (AtTypeWord p v l j o k) (WantType (TInField (TAtFirst p) v l c ∷ j) o k) (Sign c Colon) r refl (type_want_less d (TInField (TAtFirst p) v l c ∷ j) o k ty w)
        ∙ type_reads ty true d (TInField (TAtFirst p) v l c ∷ j) o k t x f (sep_follows t s) w
        ∙ alike d t x _ _ (field_ends (TAtFirst p) v l c ty j o k t s)
    type_fields_read (TMore fs q v l c ty) d j o k t x f s w =
        let r = type_tokens ty (t ∷ x) in
        let pos = type_pos ty in
        let fpos = type_fields_pos fs in
        type_fields_read fs d j o k (Sign q Comma) (Word v l ∷ Sign c Colon ∷ r) f.0 refl (type_less d j o k (TRec fs 0) (TRec (TMore fs q v l c ty) 0) (omega arith) w)
        ∙ settle d (AtTypeComma fs q j o k) (Sign q Comma) (Word v l ∷ Sign c Colon ∷ r) (type_less d j o k (TRec (TMore fs q 0 some_name 0 int_type) 0) (TRec (TMore fs q v l c ty) 0) (omega (arith, pos)) w)
        ∙ next d (AtTypeComma fs q j o k) (AtTypeLabel fs q v l j o k) (Word v l) (Sign c Colon ∷ r) refl (type_less d j o k (TRec (TMore fs q v l 0 int_type) 0) (TRec (TMore fs q v l c ty) 0) (omega (arith, pos)) w)
        ∙ next d (AtTypeLabel fs q v l j o k) (WantType (TInField (TAtNext fs q) v l c ∷ j) o k) (Sign c Colon) r refl (type_want_less d (TInField (TAtNext fs q) v l c ∷ j) o k ty w)
        ∙ type_reads ty true d (TInField (TAtNext fs q) v l c ∷ j) o k t x f.1 (sep_follows t s) w
        ∙ alike d t x _ _ (field_ends (TAtNext fs q) v l c ty j o k t s)

  -- behind the fields of a record
  abbrev pub after_fields : Fields → List Frame → Token → Option State
  after_fields fs k (Sign q Closing) = Some (Have (Rec fs q) k)
  after_fields fs k (Sign q Comma) = Some (AtComma fs q k)
  after_fields fs k _ = None

  pub field_closes : (h : FieldHead) (v : ℕ) (l : List ℕ) (a : ℕ) (e : Syntax) (k : List Frame) (t : Token) → is_sep t ≡ true
      → after ed (InField h v l a ∷ k) e t ≡ after_fields (put_field h v l a e) k t
  field_closes h v l a e k (Sign q Closing) s = refl
  field_closes h v l a e k (Sign q Comma) s = refl
  field_closes h v l a e k t s = absurd (cc)

  pub begin_one : (k : List Frame) (n : ℕ) (st : State) → asks k ≤ n → cond (leb (asks k) n) (Some st) None ≡ Some st
  begin_one k n st h = ap (λ b. cond b (Some st) None) (le-leb _ _ h)

  -- an expression begins with a token, and not with `=`
  pub record Begins (ts : List Token) : Type 0 where
    pub head : Token
    pub tail : List Token
    pub whole : ts ≡ head ∷ tail
    pub plain : is_assign head ≡ false

  mutual
    pub begins : (s : Syntax) (x : List Token) → Begins (tokens s x)
    begins (Const p c) x = record { head = Value p c; tail = _; whole = refl; plain = refl }
    begins (Truth p b) x = record { head = Word p (truth_word b); tail = _; whole = refl; plain = refl }
    begins (Var p y) x = record { head = Word p y; tail = _; whole = refl; plain = refl }
    begins (Table p v l) x = record { head = Word p (codes "table"); tail = _; whole = refl; plain = refl }
    begins (Aggregated a p o e c) x = record { head = Word p (aggregate_word a); tail = _; whole = refl; plain = refl }
    begins (Paren p e q) x = record { head = Sign p Opening; tail = _; whole = refl; plain = refl }
    begins (NoFields p q) x = record { head = Sign p Opening; tail = _; whole = refl; plain = refl }
    begins (Bag p e q) x = record { head = Sign p OpeningBag; tail = _; whole = refl; plain = refl }
    begins (Nil p c t q) x = record { head = Sign p OpeningBag; tail = _; whole = refl; plain = refl }
    begins (For p o v y a m c n) x = record { head = Word p (codes "for"); tail = _; whole = refl; plain = refl }
    begins (Where p o t c n) x = record { head = Word p (codes "where"); tail = _; whole = refl; plain = refl }
    begins (If p t q y r n) x = record { head = Word p (codes "if"); tail = _; whole = refl; plain = refl }
    begins (Fun p o v y c t z a n) x = record { head = Word p (codes "fun"); tail = _; whole = refl; plain = refl }
    begins (Let p v y a m s n) x = record { head = Word p (codes "let"); tail = _; whole = refl; plain = refl }
    begins (Prefix p Minus e) x = record { head = Oper p (Of Sub); tail = _; whole = refl; plain = refl }
    begins (Prefix p Not e) x = record { head = Sign p Bang; tail = _; whole = refl; plain = refl }
    begins (Rec fs q) x = fields_begin fs (Sign q Closing ∷ x)
    begins (Infix l p op r) x = begins l (Oper p op ∷ tokens r x)
    begins (Apply f p a q) x = begins f (Sign p Opening ∷ tokens a (Sign q Closing ∷ x))
    begins (Field e p v l) x = begins e (Sign p Dot ∷ Word v l ∷ x)

    pub fields_begin : (fs : Fields) (x : List Token) → Begins (fields_tokens fs x)
    fields_begin (One p v l a e) x = record { head = Sign p Opening; tail = _; whole = refl; plain = refl }
    fields_begin (More fs c v l a e) x = fields_begin fs (Sign c Comma ∷ Word v l ∷ Sign a Assign ∷ tokens e x)

  -- behind `if` a test begins at once
  pub if_begins : (c : Syntax) (d : ℕ) (k : List Frame) (p : ℕ) (x : List Token) (all : Syntax) → asks k ≤ 1
      → Within d (close (InIf p ∷ k) c) → Within d (close k all)
      → run ed d (Word p (codes "if") ∷ tokens c x) (Want k) ≡ run ed d (tokens c x) (Want (InIf p ∷ k))
  if_begins c d k p x all h v w =
      let b = begins c x in
      ap (λ z. run ed d (Word p (codes "if") ∷ z) (Want k)) b.whole
      ∙ word_begins d k p (codes "if") b.head b.tail (Want (InIf p ∷ k)) all (begin_one k 1 (Want (InIf p ∷ k)) h) b.plain (want_less d (InIf p ∷ k) c v) w
      ∙ sym (ap (λ z. run ed d z (Want (InIf p ∷ k))) b.whole)

  mutual
    pub reads : (s : Syntax) (d : ℕ) (k : List Frame) (m : ℕ) (t : Token) (x : List Token)
        → Fits ed m s → asks k ≤ m → binds t ≤ m → is_assign t ≡ false → Within d (close k s)
        → run ed d (tokens s (t ∷ x)) (Want k) ≡ run ed d (t ∷ x) (Have s k)
    reads (Const p c) d k m t x f h b g w = next d (Want k) (Have (Const p c) k) (Value p c) (t ∷ x) refl w
    reads (Truth p v) d k m t x f h b g w = word_begins d k p (truth_word v) t x (Have (Truth p v) k) (Truth p v) (ap (λ c. begin_word c k p (truth_word v)) (kind_truth ed v)) g w w
    reads (Var p y) d k m t x f h b g w = word_begins d k p y t x (Have (Var p y) k) (Var p y) (ap (λ c. begin_word c k p y) f) g w w
    reads (Table p v l) d k m t x f h b g w =
        let u = less d k (Table p 0 some_name) (Table p v l) (omega arith) (omega arith) w in
        word_begins d k p (codes "table") (Word v l) (t ∷ x) (AtTable p k) (Table p v l) refl refl u w
        ∙ next d (AtTable p k) (Have (Table p v l) k) (Word v l) (t ∷ x) refl w
    reads (Aggregated a p o e c) d k m t x f h b g w =
        let pe = depth_pos e in
        let u = less d k (Aggregated a p 0 unit 0) (Aggregated a p o e c) (omega (arith, pe)) (omega arith) w in
        let v = less d k (Aggregated a p o e 0) (Aggregated a p o e c) (omega arith) (omega arith) w in
        word_begins d k p (aggregate_word a) (Sign o Opening) (tokens e (Sign c Closing ∷ t ∷ x)) (AtAggregate a p k) (Aggregated a p o e c) (ap (λ c. begin_word c k p (aggregate_word a)) f.0) refl u w
        ∙ next d (AtAggregate a p k) (Want (InAggregate a p o ∷ k)) (Sign o Opening) (tokens e (Sign c Closing ∷ t ∷ x)) refl (want_less d (InAggregate a p o ∷ k) e v)
        ∙ reads e d (InAggregate a p o ∷ k) 1 (Sign c Closing) (t ∷ x) f.1 (omega arith) (omega arith) refl v
        ∙ next d (Have e (InAggregate a p o ∷ k)) (Have (Aggregated a p o e c) k) (Sign c Closing) (t ∷ x) refl w
    reads (Paren p e q) d k m t x f h b g w =
        let v = less d k (Paren p e 0) (Paren p e q) (omega arith) (omega arith) w in
        next d (Want k) (Want (InParen p ∷ k)) (Sign p Opening) (tokens e (Sign q Closing ∷ t ∷ x)) refl (want_less d (InParen p ∷ k) e v)
        ∙ reads e d (InParen p ∷ k) 1 (Sign q Closing) (t ∷ x) f (omega arith) (omega arith) refl v
        ∙ next d (Have e (InParen p ∷ k)) (Have (Paren p e q) k) (Sign q Closing) (t ∷ x) refl w
    reads (NoFields p q) d k m t x f h b g w =
        next d (Want k) (Want (InParen p ∷ k)) (Sign p Opening) (Sign q Closing ∷ t ∷ x) refl (less d k (NoFields p 0) (NoFields p q) (omega arith) (omega arith) w)
        ∙ next d (Want (InParen p ∷ k)) (Have (NoFields p q) k) (Sign q Closing) (t ∷ x) refl w
    reads (Rec fs q) d k m t x f h b g w =
        fields_read fs d k (Sign q Closing) (t ∷ x) f refl (less d k (Rec fs 0) (Rec fs q) (omega arith) (omega arith) w)
        ∙ settle d (Have (Rec fs q) k) (Sign q Closing) (t ∷ x) w
    reads (Bag p e q) d k m t x f h b g w =
        let v = less d k (Bag p e 0) (Bag p e q) (omega arith) (omega arith) w in
        next d (Want k) (Want (InBag p ∷ k)) (Sign p OpeningBag) (tokens e (Sign q ClosingBag ∷ t ∷ x)) refl (want_less d (InBag p ∷ k) e v)
        ∙ reads e d (InBag p ∷ k) 1 (Sign q ClosingBag) (t ∷ x) f (omega arith) (omega arith) refl v
        ∙ next d (Have e (InBag p ∷ k)) (Have (Bag p e q) k) (Sign q ClosingBag) (t ∷ x) refl w
    reads (Nil p c ty q) d k m t x f h b g w =
        let pos = type_pos ty in
        let v = less d k (Nil p c ty 0) (Nil p c ty q) (omega arith) (omega arith) w in
        next d (Want k) (Want (InBag p ∷ k)) (Sign p OpeningBag) (Sign c Colon ∷ type_tokens ty (Sign q ClosingBag ∷ t ∷ x)) refl (less d k (Nil p 0 int_type 0) (Nil p c ty q) (omega arith) (omega (arith, pos)) w)
        ∙ next d (Want (InBag p ∷ k)) (WantType [] (InNil p c) k) (Sign c Colon) (type_tokens ty (Sign q ClosingBag ∷ t ∷ x)) refl (type_want_less d [] (InNil p c) k ty v)
        ∙ type_reads ty true d [] (InNil p c) k (Sign q ClosingBag) (t ∷ x) f (refl, refl) v
        ∙ next d (HaveType ty [] (InNil p c) k) (Have (Nil p c ty q) k) (Sign q ClosingBag) (t ∷ x) refl w
    reads (For p o v y a i c n) d k m t x f h b g w =
        let pi = depth_pos i in
        let pn = depth_pos n in
        let all = For p o v y a i c n in
        let r2 = tokens n (t ∷ x) in
        let r1 = tokens i (Sign c Closing ∷ r2) in
        let u = less d k (For p 0 0 some_name 0 unit 0 unit) all (omega (arith, pi)) (omega arith) w in
        word_begins d k p (codes "for") (Sign o Opening) (Word v y ∷ Sign a From ∷ r1) (AtFor p k) all (begin_one k 1 (AtFor p k) (omega (arith, f.0))) refl u w
        ∙ next d (AtFor p k) (AtForOpen p o k) (Sign o Opening) (Word v y ∷ Sign a From ∷ r1) refl (less d k (For p o 0 some_name 0 unit 0 unit) all (omega (arith, pi)) (omega arith) w)
        ∙ next d (AtForOpen p o k) (AtForName p o v y k) (Word v y) (Sign a From ∷ r1) (ap (λ z. if_name z (AtForName p o v y k)) f.1) (less d k (For p o v y 0 unit 0 unit) all (omega (arith, pi)) (omega arith) w)
        ∙ next d (AtForName p o v y k) (Want (InSource p o v y a ∷ k)) (Sign a From) r1 refl (less d k (For p o v y a unit 0 unit) all (omega (arith, pi)) (omega arith) w)
        ∙ reads i d (InSource p o v y a ∷ k) 1 (Sign c Closing) r2 f.2 (omega arith) (omega arith) refl (less d k (For p o v y a i 0 unit) all (omega (arith, pn)) (omega arith) w)
        ∙ next d (Have i (InSource p o v y a ∷ k)) (Want (InBody p o v y a i c ∷ k)) (Sign c Closing) r2 refl (want_less d (InBody p o v y a i c ∷ k) n w)
        ∙ reads n d (InBody p o v y a i c ∷ k) 1 t x f.3 (omega arith) (omega (arith, f.0, b)) g w
        ∙ alike d t x _ _ (closes (InBody p o v y a i c) k n t (le-leb _ _ (omega (arith, f.0, b))))
    reads (Where p o e c n) d k m t x f h b g w =
        let pe = depth_pos e in
        let pn = depth_pos n in
        let all = Where p o e c n in
        let r2 = tokens n (t ∷ x) in
        let r1 = tokens e (Sign c Closing ∷ r2) in
        let u = less d k (Where p 0 unit 0 unit) all (omega (arith, pe)) (omega arith) w in
        let v = less d k (Where p o e 0 unit) all (omega (arith, pn)) (omega arith) w in
        word_begins d k p (codes "where") (Sign o Opening) r1 (AtWhere p k) all (begin_one k 1 (AtWhere p k) (omega (arith, f.0))) refl u w
        ∙ next d (AtWhere p k) (Want (InTest p o ∷ k)) (Sign o Opening) r1 refl (want_less d (InTest p o ∷ k) e v)
        ∙ reads e d (InTest p o ∷ k) 1 (Sign c Closing) r2 f.1 (omega arith) (omega arith) refl v
        ∙ next d (Have e (InTest p o ∷ k)) (Want (InGuarded p o e c ∷ k)) (Sign c Closing) r2 refl (want_less d (InGuarded p o e c ∷ k) n w)
        ∙ reads n d (InGuarded p o e c ∷ k) 1 t x f.2 (omega arith) (omega (arith, f.0, b)) g w
        ∙ alike d t x _ _ (closes (InGuarded p o e c) k n t (le-leb _ _ (omega (arith, f.0, b))))
    reads (If p c q y r n) d k m t x f h b g w =
        let pc = depth_pos c in
        let py = depth_pos y in
        let pn = depth_pos n in
        let all = If p c q y r n in
        let r3 = tokens n (t ∷ x) in
        let r2 = tokens y (Word r (codes "else") ∷ r3) in
        let v = less d k (If p c 0 unit 0 unit) all (omega (arith, py, pn)) (omega arith) w in
        let u = less d k (If p c q y 0 unit) all (omega (arith, pn)) (omega arith) w in
        if_begins c d k p (Word q (codes "then") ∷ r2) all (omega (arith, f.0)) v w
        ∙ reads c d (InIf p ∷ k) 1 (Word q (codes "then")) r2 f.1 (omega arith) (omega arith) refl v
        ∙ next d (Have c (InIf p ∷ k)) (Want (InThen p c q ∷ k)) (Word q (codes "then")) r2 refl (want_less d (InThen p c q ∷ k) y u)
        ∙ reads y d (InThen p c q ∷ k) 1 (Word r (codes "else")) r3 f.2 (omega arith) (omega arith) refl u
        ∙ next d (Have y (InThen p c q ∷ k)) (Want (InElse p c q y r ∷ k)) (Word r (codes "else")) r3 refl (want_less d (InElse p c q y r ∷ k) n w)
        ∙ reads n d (InElse p c q y r ∷ k) 1 t x f.3 (omega arith) (omega (arith, f.0, b)) g w
        ∙ alike d t x _ _ (closes (InElse p c q y r) k n t (le-leb _ _ (omega (arith, f.0, b))))
    reads (Fun p o v y c ty z a n) d k m t x f h b g w =
        let pos = type_pos ty in
        let pn = depth_pos n in
        let all = Fun p o v y c ty z a n in
        let r2 = tokens n (t ∷ x) in
        let r1 = type_tokens ty (Sign z Closing ∷ Sign a Arrow ∷ r2) in
        let u = less d k (Fun p 0 0 some_name 0 int_type 0 0 unit) all (omega (arith, pn)) (omega (arith, pos)) w in
        let e = less d k (Fun p o v y c ty 0 0 unit) all (omega (arith, pn)) (omega arith) w in
        word_begins d k p (codes "fun") (Sign o Opening) (Word v y ∷ Sign c Colon ∷ r1) (AtFun p k) all (begin_one k 1 (AtFun p k) (omega (arith, f.0))) refl u w
        ∙ next d (AtFun p k) (AtFunOpen p o k) (Sign o Opening) (Word v y ∷ Sign c Colon ∷ r1) refl (less d k (Fun p o 0 some_name 0 int_type 0 0 unit) all (omega (arith, pn)) (omega (arith, pos)) w)
        ∙ next d (AtFunOpen p o k) (AtFunName p o v y k) (Word v y) (Sign c Colon ∷ r1) (ap (λ i. if_name i (AtFunName p o v y k)) f.1) (less d k (Fun p o v y 0 int_type 0 0 unit) all (omega (arith, pn)) (omega (arith, pos)) w)
        ∙ next d (AtFunName p o v y k) (WantType [] (InFun p o v y c) k) (Sign c Colon) r1 refl (type_want_less d [] (InFun p o v y c) k ty e)
        ∙ type_reads ty true d [] (InFun p o v y c) k (Sign z Closing) (Sign a Arrow ∷ r2) f.2 (refl, refl) e
        ∙ next d (HaveType ty [] (InFun p o v y c) k) (AtFunClose p o v y c ty z k) (Sign z Closing) (Sign a Arrow ∷ r2) refl (less d k (Fun p o v y c ty z 0 unit) all (omega (arith, pn)) (omega arith) w)
        ∙ next d (AtFunClose p o v y c ty z k) (Want (InFunBody p o v y c ty z a ∷ k)) (Sign a Arrow) r2 refl (want_less d (InFunBody p o v y c ty z a ∷ k) n w)
        ∙ reads n d (InFunBody p o v y c ty z a ∷ k) 1 t x f.3 (omega arith) (omega (arith, f.0, b)) g w
        ∙ alike d t x _ _ (closes (InFunBody p o v y c ty z a) k n t (le-leb _ _ (omega (arith, f.0, b))))
    reads (Let p v y a i q n) d k m t x f h b g w =
        let pi = depth_pos i in
        let pn = depth_pos n in
        let all = Let p v y a i q n in
        let r2 = tokens n (t ∷ x) in
        let r1 = tokens i (Sign q Semicolon ∷ r2) in
        let u = less d k (Let p 0 some_name 0 unit 0 unit) all (omega (arith, pi)) (omega arith) w in
        let e = less d k (Let p v y a i 0 unit) all (omega (arith, pn)) (omega arith) w in
        word_begins d k p (codes "let") (Word v y) (Sign a Assign ∷ r1) (AtLet p k) all (begin_one k 0 (AtLet p k) (omega (arith, f.0))) refl u w
        ∙ next d (AtLet p k) (AtLetName p v y k) (Word v y) (Sign a Assign ∷ r1) (ap (λ z. if_name z (AtLetName p v y k)) f.1) (less d k (Let p v y 0 unit 0 unit) all (omega (arith, pi)) (omega arith) w)
        ∙ next d (AtLetName p v y k) (Want (InValue p v y a ∷ k)) (Sign a Assign) r1 refl (want_less d (InValue p v y a ∷ k) i e)
        ∙ reads i d (InValue p v y a ∷ k) 1 (Sign q Semicolon) r2 f.2 (omega arith) (omega arith) refl e
        ∙ next d (Have i (InValue p v y a ∷ k)) (Want (InLetBody p v y a i q ∷ k)) (Sign q Semicolon) r2 refl (want_less d (InLetBody p v y a i q ∷ k) n w)
        ∙ reads n d (InLetBody p v y a i q ∷ k) 0 t x f.3 (omega arith) (omega (arith, f.0, b)) g w
        ∙ alike d t x _ _ (closes (InLetBody p v y a i q) k n t (le-leb _ _ (omega (arith, f.0, b))))
    reads (Prefix p u e) d k m t x f h b g w =
        next d (Want k) (Want (InPrefix p u ∷ k)) (prefix_token p u) (tokens e (t ∷ x)) (begin_prefix k p u (omega (arith, f.0, h))) (want_less d (InPrefix p u ∷ k) e w)
        ∙ reads e d (InPrefix p u ∷ k) 8 t x f.1 (omega arith) (omega (arith, f.0, b)) g w
        ∙ alike d t x _ _ (closes (InPrefix p u) k e t (le-leb _ _ (binds_gap t (omega (arith, f.0, b)))))
    reads (Infix l p op r) d k m t x f h b g w =
        let v = levels op in
        reads l d k (left_level op) (Oper p op) (tokens r (t ∷ x)) f.1 (omega (arith, f.0, v.left_low, h)) v.left_low refl (less d k l (Infix l p op r) (omega arith) (omega arith) w)
        ∙ next d (Have l k) (Want (InRight l p op ∷ k)) (Oper p op) (tokens r (t ∷ x)) (after_oper k l p op (omega (arith, f.0, h)) f.1) (want_less d (InRight l p op ∷ k) r w)
        ∙ reads r d (InRight l p op ∷ k) (suc (level op)) t x f.2 (omega arith) (omega (arith, f.0, b)) g w
        ∙ alike d t x _ _ (closes (InRight l p op) k r t (le-leb _ _ (omega (arith, f.0, b))))
    reads (Apply e p a q) d k m t x f h b g w =
        let v = less d k (Apply e p a 0) (Apply e p a q) (omega arith) (omega arith) w in
        reads e d k 9 (Sign p Opening) (tokens a (Sign q Closing ∷ t ∷ x)) f.1 (omega (arith, f.0, h)) (omega arith) refl (less d k e (Apply e p a q) (omega arith) (omega arith) w)
        ∙ next d (Have e k) (Want (InArg e p ∷ k)) (Sign p Opening) (tokens a (Sign q Closing ∷ t ∷ x)) (after_opening k e p (omega (arith, f.0, h)) f.1) (want_less d (InArg e p ∷ k) a v)
        ∙ reads a d (InArg e p ∷ k) 1 (Sign q Closing) (t ∷ x) f.2 (omega arith) (omega arith) refl v
        ∙ next d (Have a (InArg e p ∷ k)) (Have (Apply e p a q) k) (Sign q Closing) (t ∷ x) refl w
    reads (Field e p v l) d k m t x f h b g w =
        reads e d k 9 (Sign p Dot) (Word v l ∷ t ∷ x) f.1 (omega (arith, f.0, h)) (omega arith) refl (less d k e (Field e p v l) (omega arith) (omega arith) w)
        ∙ next d (Have e k) (AtDot e p k) (Sign p Dot) (Word v l ∷ t ∷ x) (after_dot k e p (omega (arith, f.0, h)) f.1) (less d k (Field e p 0 some_name) (Field e p v l) (omega arith) (omega arith) w)
        ∙ next d (AtDot e p k) (Have (Field e p v l) k) (Word v l) (t ∷ x) refl w

    pub fields_read : (fs : Fields) (d : ℕ) (k : List Frame) (t : Token) (x : List Token)
        → FieldsFit ed fs → is_sep t ≡ true → Within d (close k (Rec fs 0))
        → run ed d (fields_tokens fs (t ∷ x)) (Want k) ≡ turn ed d t (after_fields fs k t) (run ed d x)
    fields_read (One p v l a e) d k t x f s w =
        let r = tokens e (t ∷ x) in
        let pos = depth_pos e in
        next d (Want k) (Want (InParen p ∷ k)) (Sign p Opening) (Word v l ∷ Sign a Assign ∷ r) refl (less d k (NoFields p 0) (Rec (One p v l a e) 0) (omega arith) (omega arith) w)
        ∙ next d (Want (InParen p ∷ k)) (AtWord p v l k) (Word v l) (Sign a Assign ∷ r) refl (less d k (Rec (One p v l 0 unit) 0) (Rec (One p v l a e) 0) (omega (arith, pos)) (omega arith) w)
        ∙ next d (AtWord p v l k) (Want (InField (AtFirst p) v l a ∷ k)) (Sign a Assign) r refl (want_less d (InField (AtFirst p) v l a ∷ k) e w)
        ∙ reads e d (InField (AtFirst p) v l a ∷ k) 1 t x f (omega arith) (sep_binds t s) (sep_assign t s) w
        ∙ alike d t x _ _ (field_closes (AtFirst p) v l a e k t s)
    fields_read (More fs c v l a e) d k t x f s w =
        let r = tokens e (t ∷ x) in
        let pos = depth_pos e in
        fields_read fs d k (Sign c Comma) (Word v l ∷ Sign a Assign ∷ r) f.0 refl (less d k (Rec fs 0) (Rec (More fs c v l a e) 0) (omega arith) (omega arith) w)
        ∙ settle d (AtComma fs c k) (Sign c Comma) (Word v l ∷ Sign a Assign ∷ r) (less d k (Rec (More fs c 0 some_name 0 unit) 0) (Rec (More fs c v l a e) 0) (omega (arith, pos)) (omega arith) w)
        ∙ next d (AtComma fs c k) (AtLabel fs c v l k) (Word v l) (Sign a Assign ∷ r) refl (less d k (Rec (More fs c v l 0 unit) 0) (Rec (More fs c v l a e) 0) (omega (arith, pos)) (omega arith) w)
        ∙ next d (AtLabel fs c v l k) (Want (InField (AtNext fs c) v l a ∷ k)) (Sign a Assign) r refl (want_less d (InField (AtNext fs c) v l a ∷ k) e w)
        ∙ reads e d (InField (AtNext fs c) v l a ∷ k) 1 t x f.1 (omega arith) (sep_binds t s) (sep_assign t s) w
        ∙ alike d t x _ _ (field_closes (AtNext fs c) v l a e k t s)
