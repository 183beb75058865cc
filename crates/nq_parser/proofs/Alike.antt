-- Tokens of one kind go on alike from each state: what is behind them is as deep.
use Rattle.std.proofs.Common.{◌≡◌, ℕ, ◌+◌, ◌==◌, max, leb, ◌&&◌, Bool, true, false, cond, List, []}
use Rattle.std.proofs.Common.{◌∷◌, length, refl, sym, ◌∙◌, ap, arith, Option, Some, None}
use Rattle.std.proofs.lemmas.Bool.Decides.{nat_tests}
use Rattle.nq_model.specs.QueryTokens.{Operator, Of, Mark, Opening, Closing, OpeningBag, ClosingBag}
use Rattle.nq_model.specs.QueryTokens.{Comma, Colon, Semicolon, Dot, Assign, From, Arrow, Bang}
use Rattle.nq_model.specs.QueryTokens.{Constant, Number, Literal, Token, Word, Value, Oper, Sign}
use Rattle.nq_model.specs.QueryTokens.{End}
use Rattle.nq_model.specs.QueryGrammar.{Edition, Kind, IsFor, IsWhere, IsIf, IsThen, IsElse, IsFun}
use Rattle.nq_model.specs.QueryGrammar.{IsLet, IsAggregate, IsTruth, IsBase, IsName, kind, level}
use Rattle.nq_model.specs.QueryGrammar.{TypeSyntax, TBase, TFun, Syntax, Var, Truth}
use Rattle.nq_model.specs.declared.term.Unary.TheVariants.{Minus, Not}
use Rattle.nq_model.specs.declared.term.Binary.TheVariants.{Sub}
use Rattle.nq_parser.specs.Forms.{needs, needs_types}
use Rattle.nq_parser.specs.Needs.{open_forms, hole, hole_types}
use Rattle.nq_parser.specs.Machine.{Frame, InParen, InBag, InBody, InGuarded, InIf, InThen, InElse}
use Rattle.nq_parser.specs.Machine.{InFunBody, InValue, InLetBody, InPrefix, InRight, InArg}
use Rattle.nq_parser.specs.Machine.{InField, TypeFrame, TInParen, TInRight, Around, InNil, InFun}
use Rattle.nq_parser.specs.Machine.{State, Want, AtWord, AtAggregate, AtFor, AtForOpen, AtForName}
use Rattle.nq_parser.specs.Machine.{AtWhere, AtFun, AtFunOpen, AtFunName, AtFunClose, AtLet}
use Rattle.nq_parser.specs.Machine.{AtLetName, AtLabel, AtDot, WantType, AtTypeWord, AtTypeLabel}
use Rattle.nq_parser.specs.Machine.{HaveType, Have, asks, binds, ends, joined, then_word, else_word}
use Rattle.nq_parser.specs.Machine.{shift, after, begin_word, start, no_label, if_name}
use Rattle.nq_parser.specs.Machine.{after_around, after_type, begin_base, start_type, no_type_label}
use Rattle.nq_parser.specs.Machine.{step, fits}
use Rattle.nq_parser.specs.TokenKinds.{TokenKind, token_kind, AWord, ANumber, ALiteral, AnOperator}
use Rattle.nq_parser.specs.TokenKinds.{AMark, TheEnd}
use Rattle.nq_parser.proofs.Needs.{fits_is}

-- how deep the least program is at a state, and the deepest type in it
abbrev pub sizes : State → ℕ × ℕ
sizes st = (
  max (needs (open_forms st)) (hole st + length (open_forms st)),
  max (needs_types
      (open_forms st)) (hole_types st),
)

abbrev pub sizes_of : Option State → Option (ℕ × ℕ)
sizes_of None = None
sizes_of (Some st) = Some (sizes st)

abbrev pub Alike : Option State → Option State → Type 0
Alike o n = sizes_of o ≡ sizes_of n

if_alike : (b : Bool) (o n : Option State) → Alike o n → Alike (cond b o None) (cond b n None)
if_alike true o n e = e
if_alike false o n e = refl

either_alike : (b : Bool) (o n p q : Option State) → Alike o n → Alike p q
    → Alike (cond b o p) (cond b n q)
either_alike true o n p q e h = e
either_alike false o n p q e h = h

-- which forms end before a token says how strongly it binds
ends_alike : (f : Frame) (a b : Token) → binds a ≡ binds b → ends f a ≡ ends f b
ends_alike (InBody p o v y m s c) a b e = ap (λ n. leb n 1) e
ends_alike (InGuarded p o m c) a b e = ap (λ n. leb n 1) e
ends_alike (InElse p x q y r) a b e = ap (λ n. leb n 1) e
ends_alike (InFunBody p o v y c ty z m) a b e = ap (λ n. leb n 1) e
ends_alike (InLetBody p v y m n s) a b e = ap (λ n. leb n 0) e
ends_alike (InPrefix p u) a b e = ap (λ n. leb n 7) e
ends_alike (InRight l p op) a b e = ap (λ n. leb n (level op)) e
ends_alike f a b e = refl

module _ (ed : Edition) where
  after_alike : (k : List Frame) (s : Syntax) (a b : Token) → binds a ≡ binds b
      → ((k : List Frame) (s : Syntax) → Alike (shift ed k s a) (shift ed k s b))
      → Alike (after ed k s a) (after ed k s b)
  after_alike [] s a b e h = h [] s
  after_alike (f ∷ k) s a b e h =
      ap (λ z. sizes_of (cond z (after ed k (joined f s) a) (shift ed (f ∷ k) s a))) (ends_alike f a
      b e)
      ∙ either_alike (ends f b) (after ed k (joined f s) a) (after ed k (joined f s) b) (shift ed (f
      ∷ k) s a) (shift ed (f ∷ k) s b) (after_alike k (joined f s) a b e h) (h (f ∷ k) s)

  -- words
  then_alike : (c : Kind) (p : ℕ) (s : Syntax) (q r : ℕ) (k : List Frame)
      → Alike (then_word c p s q k) (then_word c p s r k)
  then_alike IsThen p s q r k = refl
  then_alike c p s q r k = refl

  else_alike : (c : Kind) (p : ℕ) (t : Syntax) (q : ℕ) (s : Syntax) (i j : ℕ) (k : List Frame)
      → Alike (else_word c p t q s i k) (else_word c p t q s j k)
  else_alike IsElse p t q s i j k = refl
  else_alike c p t q s i j k = refl

  shift_word : (k : List Frame) (s : Syntax) (p q : ℕ) (v w : List ℕ) → kind ed v ≡ kind ed w
      → Alike (shift ed k s (Word p v)) (shift ed k s (Word q w))
  shift_word [] s p q v w e = refl
  shift_word (InIf i ∷ k) s p q v w e = ap (λ c. sizes_of (then_word c i s p k)) e
      ∙ then_alike (kind ed w) i s p q k
  shift_word (InThen i t j ∷ k) s p q v w e = ap (λ c. sizes_of (else_word c i t j s p k)) e
      ∙ else_alike (kind ed w) i t j s p q k
  shift_word (f ∷ k) s p q v w e = refl

  after_word : (k : List Frame) (s : Syntax) (p q : ℕ) (v w : List ℕ) → kind ed v ≡ kind ed w
      → Alike (after ed k s (Word p v)) (after ed k s (Word q w))
  after_word k s p q v w e = after_alike k s (Word p v) (Word q w) refl (λ i t. shift_word i t p q v
      w e)

  begin_alike : (c : Kind) (k : List Frame) (p q : ℕ) (v w : List ℕ)
      → Alike (begin_word c k p v) (begin_word c k q w)
  begin_alike IsFor k p q v w = if_alike (leb (asks k) 1) (Some (AtFor p k)) (Some (AtFor q k)) refl
  begin_alike IsWhere k p q v w = if_alike (leb (asks k) 1) (Some (AtWhere p k)) (Some (AtWhere q
      k)) refl
  begin_alike IsIf k p q v w = if_alike (leb (asks k) 1) (Some (Want (InIf p ∷ k))) (Some (Want
      (InIf q ∷ k))) refl
  begin_alike IsFun k p q v w = if_alike (leb (asks k) 1) (Some (AtFun p k)) (Some (AtFun q k)) refl
  begin_alike IsLet k p q v w = if_alike (leb (asks k) 0) (Some (AtLet p k)) (Some (AtLet q k)) refl
  begin_alike c k p q v w = refl

  begin_words : (k : List Frame) (p q : ℕ) (v w : List ℕ) → kind ed v ≡ kind ed w
      → Alike (begin_word (kind ed v) k p v) (begin_word (kind ed w) k q w)
  begin_words k p q v w e = ap (λ c. sizes_of (begin_word c k p v)) e
      ∙ begin_alike (kind ed w) k p q v w

  start_word : (k : List Frame) (p q : ℕ) (v w : List ℕ) → kind ed v ≡ kind ed w
      → Alike (start ed k (Word p v)) (start ed k (Word q w))
  start_word [] p q v w e = begin_words [] p q v w e
  start_word (InParen i ∷ k) p q v w e = refl
  start_word (f ∷ k) p q v w e = begin_words (f ∷ k) p q v w e

  no_label_word : (c : Kind) (i j : ℕ) (x : List ℕ) (k : List Frame) (p q : ℕ) (v w : List ℕ)
      → kind ed v ≡ kind ed w → Alike (no_label ed c i j x k (Word p v)) (no_label ed c i j x k
      (Word q w))
  no_label_word IsName i j x k p q v w e = after_word (InParen i ∷ k) (Var j x) p q v w e
  no_label_word (IsTruth b) i j x k p q v w e = after_word (InParen i ∷ k) (Truth j b) p q v w e
  no_label_word IsIf i j x k p q v w e = start_word (InIf j ∷ InParen i ∷ k) p q v w e
  no_label_word c i j x k p q v w e = refl

  name_alike : (c : Kind) (st st' : State) → sizes st ≡ sizes st'
      → Alike (if_name c st) (if_name c st')
  name_alike IsName st st' e = ap (λ z. Some z) e
  name_alike c st st' e = refl

  names_alike : (v w : List ℕ) (st st' : State) → kind ed v ≡ kind ed w → sizes st ≡ sizes st'
      → Alike (if_name (kind ed v) st) (if_name (kind ed w) st')
  names_alike v w st st' e h = ap (λ c. sizes_of (if_name c st)) e ∙ name_alike (kind ed w) st st' h

  base_alike : (c : Kind) (j : List TypeFrame) (o : Around) (k : List Frame) (p q : ℕ)
      → Alike (begin_base c j o k p) (begin_base c j o k q)
  base_alike (IsBase b) j o k p q = refl
  base_alike c j o k p q = refl

  bases_alike : (j : List TypeFrame) (o : Around) (k : List Frame) (p q : ℕ) (v w : List ℕ)
      → kind ed v ≡ kind ed w → Alike (begin_base (kind ed v) j o k p) (begin_base (kind ed w) j o k
      q)
  bases_alike j o k p q v w e = ap (λ c. sizes_of (begin_base c j o k p)) e
      ∙ base_alike (kind ed w) j o k p q

  start_type_word : (j : List TypeFrame) (o : Around) (k : List Frame) (p q : ℕ) (v w : List ℕ)
      → kind ed v ≡ kind ed w → Alike (start_type ed j o k (Word p v)) (start_type ed j o k (Word q
      w))
  start_type_word [] o k p q v w e = bases_alike [] o k p q v w e
  start_type_word (TInParen i ∷ j) o k p q v w e = refl
  start_type_word (f ∷ j) o k p q v w e = bases_alike (f ∷ j) o k p q v w e

  around_word : (o : Around) (t : TypeSyntax) (k : List Frame) (p q : ℕ) (v w : List ℕ)
      → Alike (after_around o t k (Word p v)) (after_around o t k (Word q w))
  around_word (InNil i c) t k p q v w = refl
  around_word (InFun i o x y c) t k p q v w = refl

  type_word : (j : List TypeFrame) (t : TypeSyntax) (o : Around) (k : List Frame) (p q : ℕ) (v w :
      List ℕ) → Alike (after_type j t o k (Word p v)) (after_type j t o k (Word q w))
  type_word [] t o k p q v w = around_word o t k p q v w
  type_word (TInRight a i ∷ j) t o k p q v w = type_word j (TFun a i t) o k p q v w
  type_word (f ∷ j) t o k p q v w = refl

  no_type_label_word : (c : Kind) (i x : ℕ) (j : List TypeFrame) (o : Around) (k : List Frame) (p q
      : ℕ) (v w : List ℕ) → Alike (no_type_label c i x j o k (Word p v)) (no_type_label c i x j o k
      (Word q w))
  no_type_label_word (IsBase b) i x j o k p q v w = type_word (TInParen i ∷ j) (TBase x b) o k p q v
      w
  no_type_label_word c i x j o k p q v w = refl

  pub step_word : (st : State) (p q : ℕ) (v w : List ℕ) → kind ed v ≡ kind ed w
      → Alike (step ed st (Word p v)) (step ed st (Word q w))
  step_word (Want k) p q v w e = start_word k p q v w e
  step_word (AtWord i j x k) p q v w e = no_label_word (kind ed x) i j x k p q v w e
  step_word (AtForOpen i o k) p q v w e = names_alike v w (AtForName i o p v k) (AtForName i o q w
      k) e refl
  step_word (AtFunOpen i o k) p q v w e = names_alike v w (AtFunName i o p v k) (AtFunName i o q w
      k) e refl
  step_word (AtLet i k) p q v w e = names_alike v w (AtLetName i p v k) (AtLetName i q w k) e refl
  step_word (WantType j o k) p q v w e = start_type_word j o k p q v w e
  step_word (AtTypeWord i x y j o k) p q v w e = no_type_label_word (kind ed y) i x j o k p q v w
  step_word (HaveType t j o k) p q v w e = type_word j t o k p q v w
  step_word (Have s k) p q v w e = after_word k s p q v w e
  step_word st p q v w e = refl

  -- operators
  shift_oper : (k : List Frame) (s : Syntax) (p q : ℕ) (op : Operator)
      → Alike (shift ed k s (Oper p op)) (shift ed k s (Oper q op))
  shift_oper k s p q op = if_alike _ (Some (Want (InRight s p op ∷ k))) (Some (Want (InRight s q op
      ∷ k))) refl

  after_oper : (k : List Frame) (s : Syntax) (p q : ℕ) (op : Operator)
      → Alike (after ed k s (Oper p op)) (after ed k s (Oper q op))
  after_oper k s p q op = after_alike k s (Oper p op) (Oper q op) refl (λ i t. shift_oper i t p q
      op)

  start_oper : (k : List Frame) (p q : ℕ) (op : Operator)
      → Alike (start ed k (Oper p op)) (start ed k (Oper q op))
  start_oper k p q (Of Sub) = if_alike (leb (asks k) 8) (Some (Want (InPrefix p Minus ∷ k))) (Some
      (Want (InPrefix q Minus ∷ k))) refl
  start_oper k p q op = refl

  no_label_oper : (c : Kind) (i j : ℕ) (x : List ℕ) (k : List Frame) (p q : ℕ) (op : Operator)
      → Alike (no_label ed c i j x k (Oper p op)) (no_label ed c i j x k (Oper q op))
  no_label_oper IsName i j x k p q op = after_oper (InParen i ∷ k) (Var j x) p q op
  no_label_oper (IsTruth b) i j x k p q op = after_oper (InParen i ∷ k) (Truth j b) p q op
  no_label_oper IsIf i j x k p q op = start_oper (InIf j ∷ InParen i ∷ k) p q op
  no_label_oper c i j x k p q op = refl

  around_oper : (o : Around) (t : TypeSyntax) (k : List Frame) (p q : ℕ) (op : Operator)
      → Alike (after_around o t k (Oper p op)) (after_around o t k (Oper q op))
  around_oper (InNil i c) t k p q op = refl
  around_oper (InFun i o x y c) t k p q op = refl

  type_oper : (j : List TypeFrame) (t : TypeSyntax) (o : Around) (k : List Frame) (p q : ℕ) (op :
      Operator) → Alike (after_type j t o k (Oper p op)) (after_type j t o k (Oper q op))
  type_oper [] t o k p q op = around_oper o t k p q op
  type_oper (TInRight a i ∷ j) t o k p q op = type_oper j (TFun a i t) o k p q op
  type_oper (f ∷ j) t o k p q op = refl

  no_type_label_oper : (c : Kind) (i x : ℕ) (j : List TypeFrame) (o : Around) (k : List Frame) (p q
      : ℕ) (op : Operator) → Alike (no_type_label c i x j o k (Oper p op)) (no_type_label c i x j o
      k (Oper q op))
  no_type_label_oper (IsBase b) i x j o k p q op = type_oper (TInParen i ∷ j) (TBase x b) o k p q op
  no_type_label_oper c i x j o k p q op = refl

  start_type_oper : (j : List TypeFrame) (o : Around) (k : List Frame) (p q : ℕ) (op : Operator)
      → Alike (start_type ed j o k (Oper p op)) (start_type ed j o k (Oper q op))
  start_type_oper j o k p q op = refl

  pub step_oper : (st : State) (p q : ℕ) (op : Operator)
      → Alike (step ed st (Oper p op)) (step ed st (Oper q op))
  step_oper (Want k) p q op = start_oper k p q op
  step_oper (AtWord i j x k) p q op = no_label_oper (kind ed x) i j x k p q op
  step_oper (WantType j o k) p q op = start_type_oper j o k p q op
  step_oper (AtTypeWord i x y j o k) p q op = no_type_label_oper (kind ed y) i x j o k p q op
  step_oper (HaveType t j o k) p q op = type_oper j t o k p q op
  step_oper (Have s k) p q op = after_oper k s p q op
  step_oper st p q op = refl

  -- numbers and literals
  shift_value : (k : List Frame) (s : Syntax) (p q : ℕ) (c d : Constant)
      → Alike (shift ed k s (Value p c)) (shift ed k s (Value q d))
  shift_value [] s p q c d = refl
  shift_value (f ∷ k) s p q c d = refl

  after_value : (k : List Frame) (s : Syntax) (p q : ℕ) (c d : Constant)
      → Alike (after ed k s (Value p c)) (after ed k s (Value q d))
  after_value k s p q c d = after_alike k s (Value p c) (Value q d) refl (λ i t. shift_value i t p q
      c d)

  no_label_value : (h : Kind) (i j : ℕ) (x : List ℕ) (k : List Frame) (p q : ℕ) (c d : Constant)
      → Alike (no_label ed h i j x k (Value p c)) (no_label ed h i j x k (Value q d))
  no_label_value IsName i j x k p q c d = after_value (InParen i ∷ k) (Var j x) p q c d
  no_label_value (IsTruth b) i j x k p q c d = after_value (InParen i ∷ k) (Truth j b) p q c d
  no_label_value IsIf i j x k p q c d = refl
  no_label_value h i j x k p q c d = refl

  around_value : (o : Around) (t : TypeSyntax) (k : List Frame) (p q : ℕ) (c d : Constant)
      → Alike (after_around o t k (Value p c)) (after_around o t k (Value q d))
  around_value (InNil i m) t k p q c d = refl
  around_value (InFun i o x y m) t k p q c d = refl

  type_value : (j : List TypeFrame) (t : TypeSyntax) (o : Around) (k : List Frame) (p q : ℕ) (c d :
      Constant) → Alike (after_type j t o k (Value p c)) (after_type j t o k (Value q d))
  type_value [] t o k p q c d = around_value o t k p q c d
  type_value (TInRight a i ∷ j) t o k p q c d = type_value j (TFun a i t) o k p q c d
  type_value (f ∷ j) t o k p q c d = refl

  no_type_label_value : (h : Kind) (i x : ℕ) (j : List TypeFrame) (o : Around) (k : List Frame) (p q
      : ℕ) (c d : Constant) → Alike (no_type_label h i x j o k (Value p c)) (no_type_label h i x j o
      k (Value q d))
  no_type_label_value (IsBase b) i x j o k p q c d = type_value (TInParen i ∷ j) (TBase x b) o k p q
      c d
  no_type_label_value h i x j o k p q c d = refl

  pub step_value : (st : State) (p q : ℕ) (c d : Constant)
      → Alike (step ed st (Value p c)) (step ed st (Value q d))
  step_value (AtWord i j x k) p q c d = no_label_value (kind ed x) i j x k p q c d
  step_value (AtTypeWord i x y j o k) p q c d = no_type_label_value (kind ed y) i x j o k p q c d
  step_value (HaveType t j o k) p q c d = type_value j t o k p q c d
  step_value (Have s k) p q c d = after_value k s p q c d
  step_value st p q c d = refl

  -- the other symbols
  shift_sign : (k : List Frame) (s : Syntax) (p q : ℕ) (m : Mark)
      → Alike (shift ed k s (Sign p m)) (shift ed k s (Sign q m))
  shift_sign k s p q Opening = if_alike _ (Some (Want (InArg s p ∷ k))) (Some (Want (InArg s q ∷
      k))) refl
  shift_sign k s p q Dot = if_alike _ (Some (AtDot s p k)) (Some (AtDot s q k)) refl
  shift_sign (InParen i ∷ k) s p q Closing = refl
  shift_sign (InBag i ∷ k) s p q ClosingBag = refl
  shift_sign (InField h v l a ∷ k) s p q Comma = refl
  shift_sign (InValue i v y a ∷ k) s p q Semicolon = refl
  shift_sign [] s p q m = refl
  shift_sign (f ∷ k) s p q m = refl

  binds_sign : (p q : ℕ) (m : Mark) → binds (Sign p m) ≡ binds (Sign q m)
  binds_sign p q m = refl

  after_sign : (k : List Frame) (s : Syntax) (p q : ℕ) (m : Mark)
      → Alike (after ed k s (Sign p m)) (after ed k s (Sign q m))
  after_sign k s p q m = after_alike k s (Sign p m) (Sign q m) (binds_sign p q m) (λ i t. shift_sign
      i t p q m)

  start_sign : (k : List Frame) (p q : ℕ) (m : Mark)
      → Alike (start ed k (Sign p m)) (start ed k (Sign q m))
  start_sign k p q Bang = if_alike (leb (asks k) 8) (Some (Want (InPrefix p Not ∷ k))) (Some (Want
      (InPrefix q Not ∷ k))) refl
  start_sign k p q Opening = refl
  start_sign k p q OpeningBag = refl
  start_sign (InParen i ∷ k) p q Closing = refl
  start_sign (InBag i ∷ k) p q Colon = refl
  start_sign [] p q m = refl
  start_sign (f ∷ k) p q m = refl

  no_label_sign : (c : Kind) (i j : ℕ) (x : List ℕ) (k : List Frame) (p q : ℕ) (m : Mark)
      → Alike (no_label ed c i j x k (Sign p m)) (no_label ed c i j x k (Sign q m))
  no_label_sign IsName i j x k p q m = after_sign (InParen i ∷ k) (Var j x) p q m
  no_label_sign (IsTruth b) i j x k p q m = after_sign (InParen i ∷ k) (Truth j b) p q m
  no_label_sign IsIf i j x k p q m = start_sign (InIf j ∷ InParen i ∷ k) p q m
  no_label_sign IsFor i j x k p q Opening = refl
  no_label_sign IsWhere i j x k p q Opening = refl
  no_label_sign IsFun i j x k p q Opening = refl
  no_label_sign (IsAggregate a) i j x k p q Opening = refl
  no_label_sign c i j x k p q m = refl

  at_word_sign : (i j : ℕ) (x : List ℕ) (k : List Frame) (p q : ℕ) (m : Mark)
      → Alike (step ed (AtWord i j x k) (Sign p m)) (step ed (AtWord i j x k) (Sign q m))
  at_word_sign i j x k p q Assign = refl
  at_word_sign i j x k p q m = no_label_sign (kind ed x) i j x k p q m

  around_sign : (o : Around) (t : TypeSyntax) (k : List Frame) (p q : ℕ) (m : Mark)
      → Alike (after_around o t k (Sign p m)) (after_around o t k (Sign q m))
  around_sign (InNil i c) t k p q ClosingBag = refl
  around_sign (InFun i o x y c) t k p q Closing = refl
  around_sign (InNil i c) t k p q m = refl
  around_sign (InFun i o x y c) t k p q m = refl

  type_sign : (j : List TypeFrame) (t : TypeSyntax) (o : Around) (k : List Frame) (p q : ℕ) (m :
      Mark) → Alike (after_type j t o k (Sign p m)) (after_type j t o k (Sign q m))
  type_sign j t o k p q Arrow = refl
  type_sign [] t o k p q m = around_sign o t k p q m
  type_sign (TInRight a i ∷ j) t o k p q m = type_sign j (TFun a i t) o k p q m
  type_sign (f ∷ j) t o k p q m = refl

  start_type_sign : (j : List TypeFrame) (o : Around) (k : List Frame) (p q : ℕ) (m : Mark)
      → Alike (start_type ed j o k (Sign p m)) (start_type ed j o k (Sign q m))
  start_type_sign j o k p q Opening = refl
  start_type_sign (TInParen i ∷ j) o k p q Closing = refl
  start_type_sign [] o k p q m = refl
  start_type_sign (f ∷ j) o k p q m = refl

  no_type_label_sign : (c : Kind) (i x : ℕ) (j : List TypeFrame) (o : Around) (k : List Frame) (p q
      : ℕ) (m : Mark) → Alike (no_type_label c i x j o k (Sign p m)) (no_type_label c i x j o k
      (Sign q m))
  no_type_label_sign (IsBase b) i x j o k p q m = type_sign (TInParen i ∷ j) (TBase x b) o k p q m
  no_type_label_sign c i x j o k p q m = refl

  at_type_word_sign : (i x : ℕ) (y : List ℕ) (j : List TypeFrame) (o : Around) (k : List Frame) (p q
      : ℕ) (m : Mark) → Alike (step ed (AtTypeWord i x y j o k) (Sign p m)) (step ed (AtTypeWord i x
      y j o k) (Sign q m))
  at_type_word_sign i x y j o k p q Colon = refl
  at_type_word_sign i x y j o k p q m = no_type_label_sign (kind ed y) i x j o k p q m

  pub step_sign : (st : State) (p q : ℕ) (m : Mark)
      → Alike (step ed st (Sign p m)) (step ed st (Sign q m))
  step_sign (Want k) p q m = start_sign k p q m
  step_sign (AtWord i j x k) p q m = at_word_sign i j x k p q m
  step_sign (WantType j o k) p q m = start_type_sign j o k p q m
  step_sign (AtTypeWord i x y j o k) p q m = at_type_word_sign i x y j o k p q m
  step_sign (HaveType t j o k) p q m = type_sign j t o k p q m
  step_sign (Have s k) p q m = after_sign k s p q m
  step_sign (AtAggregate a i k) p q Opening = refl
  step_sign (AtFor i k) p q Opening = refl
  step_sign (AtForName i o v y k) p q From = refl
  step_sign (AtWhere i k) p q Opening = refl
  step_sign (AtFun i k) p q Opening = refl
  step_sign (AtFunName i o v y k) p q Colon = refl
  step_sign (AtFunClose i o v y c t z k) p q Arrow = refl
  step_sign (AtLetName i v y k) p q Assign = refl
  step_sign (AtLabel fs c v l k) p q Assign = refl
  step_sign (AtTypeLabel fs c v l j o k) p q Colon = refl
  step_sign st p q m = refl

  -- the end of the text
  shift_end : (k : List Frame) (s : Syntax) (p q : ℕ)
      → Alike (shift ed k s (End p)) (shift ed k s (End q))
  shift_end [] s p q = refl
  shift_end (f ∷ k) s p q = refl

  after_end : (k : List Frame) (s : Syntax) (p q : ℕ)
      → Alike (after ed k s (End p)) (after ed k s (End q))
  after_end k s p q = after_alike k s (End p) (End q) refl (λ i t. shift_end i t p q)

  no_label_end : (c : Kind) (i j : ℕ) (x : List ℕ) (k : List Frame) (p q : ℕ)
      → Alike (no_label ed c i j x k (End p)) (no_label ed c i j x k (End q))
  no_label_end IsName i j x k p q = after_end (InParen i ∷ k) (Var j x) p q
  no_label_end (IsTruth b) i j x k p q = after_end (InParen i ∷ k) (Truth j b) p q
  no_label_end c i j x k p q = refl

  around_end : (o : Around) (t : TypeSyntax) (k : List Frame) (p q : ℕ)
      → Alike (after_around o t k (End p)) (after_around o t k (End q))
  around_end (InNil i c) t k p q = refl
  around_end (InFun i o x y c) t k p q = refl

  type_end : (j : List TypeFrame) (t : TypeSyntax) (o : Around) (k : List Frame) (p q : ℕ)
      → Alike (after_type j t o k (End p)) (after_type j t o k (End q))
  type_end [] t o k p q = around_end o t k p q
  type_end (TInRight a i ∷ j) t o k p q = type_end j (TFun a i t) o k p q
  type_end (f ∷ j) t o k p q = refl

  no_type_label_end : (c : Kind) (i x : ℕ) (j : List TypeFrame) (o : Around) (k : List Frame) (p q :
      ℕ) → Alike (no_type_label c i x j o k (End p)) (no_type_label c i x j o k (End q))
  no_type_label_end (IsBase b) i x j o k p q = type_end (TInParen i ∷ j) (TBase x b) o k p q
  no_type_label_end c i x j o k p q = refl

  pub step_end : (st : State) (p q : ℕ) → Alike (step ed st (End p)) (step ed st (End q))
  step_end (AtWord i j x k) p q = no_label_end (kind ed x) i j x k p q
  step_end (AtTypeWord i x y j o k) p q = no_type_label_end (kind ed y) i x j o k p q
  step_end (HaveType t j o k) p q = type_end j t o k p q
  step_end (Have s k) p q = after_end k s p q
  step_end st p q = refl

  -- tokens of one kind
  abbrev number_of : TokenKind → ℕ
  number_of (AWord c) = 0
  number_of ANumber = 1
  number_of ALiteral = 1
  number_of (AnOperator op) = 3
  number_of (AMark m) = 4
  number_of TheEnd = 5

  abbrev number_at : Token → ℕ
  number_at (Word p w) = 0
  number_at (Value p c) = 1
  number_at (Oper p op) = 3
  number_at (Sign p m) = 4
  number_at (End p) = 5

  numbered : (t : Token) → number_of (token_kind ed t) ≡ number_at t
  numbered (Value p (Number n i)) = refl
  numbered (Value p (Literal s)) = refl
  numbered t = refl

  apart : (n m : ℕ) → n ≡ m → (n == m) ≡ false → ⊥
  apart n m e h = grind (arith, nat_tests)

  pub step_alike : (st : State) (a b : Token) → token_kind ed a ≡ token_kind ed b
      → Alike (step ed st a) (step ed st b)
  step_alike st (Word p v) (Word q w) e = let i : kind ed v ≡ kind ed w = cc in step_word st p q v w
      i
  step_alike st (Value p c) (Value q d) e = step_value st p q c d
  step_alike st (Oper p op) (Oper q o) e = let i : op ≡ o = cc in ap (λ z. sizes_of (step ed st
      (Oper p z))) i ∙ step_oper st p q o
  step_alike st (Sign p m) (Sign q n) e = let i : m ≡ n = cc in ap (λ z. sizes_of (step ed st (Sign
      p z))) i ∙ step_sign st p q n
  step_alike st (End p) (End q) e = step_end st p q
  step_alike st a b e = absurd (apart (number_at a) (number_at b) (sym (numbered a) ∙ ap number_of e
      ∙ numbered b) refl)

  -- so if one goes on, the other does
  pub goes_too : (d : ℕ) (st : State) (a b : Token) (next : State)
      → token_kind ed a ≡ token_kind ed b → step ed st a ≡ Some next → fits d next ≡ true
      → (other : State) × (step ed st b ≡ Some other) × (fits d other ≡ true)
  goes_too d st a b next e s f = go (step ed st b) refl
    where
      same : (o : Option State) → step ed st b ≡ o → sizes_of o ≡ Some (sizes next)
      same o i = ap sizes_of (sym i) ∙ sym (step_alike st a b e) ∙ ap sizes_of s

      fine : (other : State) → Some (sizes other) ≡ Some (sizes next) → fits d other ≡ true
      fine other i =
          let h : sizes other ≡ sizes next = cc in
          fits_is d other ∙ ap (λ (z : ℕ × ℕ). leb z.0 d && leb z.1 d) h ∙ sym (fits_is d next) ∙ f

      go : (o : Option State) → step ed st b ≡ o → (other : State) × (step ed st b ≡ Some other)
          × (fits d other ≡ true)
      go None i = let h = same None i in absurd (cc)
      go (Some other) i = (other, i, fine other (same (Some other) i))
