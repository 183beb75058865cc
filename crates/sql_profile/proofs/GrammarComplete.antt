-- The machine reads the tokens of each tree of the grammar, at each depth that the tree keeps.
use Rattle.std.proofs.Common.{◌≡◌, ℕ, suc, ◌≤◌, Bool, true, false, cond, leb, List, [], ◌∷◌, refl, ◌∙◌, ap, arith, Option, Some, None, le-leb}
use Rattle.std.proofs.lemmas.Bool.Decides.{nat_tests}
use Rattle.nq_model.specs.declared.term.Binary.{Binary}
use Rattle.nq_model.specs.declared.term.Binary.TheVariants.{Or, And, Add, Sub, Mul}
use Rattle.sql_profile.specs.Tokens.{With, As, Union, All, Select, From, Where, RowNumber, Over, Order, By, Not, Exists, Case, When, Then, Else, Stop, Token, Value, Name, Key, Oper, Open, Close, Comma, Dot, Semi, End, Count, Sum, Coalesce, Number}
use Rattle.sql_profile.specs.Grammar.{SourceSyntax, OfSource, SourcesSyntax, OneSource, MoreSources, FromSyntax, NoFrom, HasFrom, NumberingHead, OfRowNumber, ExprSyntax, OfConstant, OfColumn, OfParens, OfMinus, OfNot, OfNotExists, OfCase, OfBinary, QuerySyntax, OneSelect, MoreSelects, SelectSyntax, OfSelect, KeepSyntax, NoWhere, HasWhere, ItemsSyntax, OneItem, MoreItems, ItemSyntax, OfItem, ValueSyntax, Plain, Numbering, KeysSyntax, NoKeys, HasKeys, KeyListSyntax, OneKey, MoreKeys, WithSyntax, OfWith, WithListSyntax, OneDef, MoreDefs, WithsSyntax, NoWith, HasWith, SemicolonSyntax, NoSemi, HasSemi, TextSyntax, OfText, source_tokens, sources_tokens, froms_tokens, tokens, query_tokens, choice_tokens, keep_tokens, items_tokens, item_tokens, held_tokens, keys_tokens, key_list_tokens, def_tokens, defs_tokens, withs_tokens, semis_tokens, text_tokens, level, left_level, Fits, QueryFits, ChoiceFits, KeepFits, ItemsFit, ItemFits, HeldFits, KeysFit, KeyListFits, DefFits, DefsFit, WithsFit, TextFits, held_depth, def_depth, OfScalar, ScalarSyntax, Counted, Summed, OfCount, OfSum, OfTail, scalar_tokens, ScalarFits, scalar_depth, depth, keep_depth}
use Rattle.sql_profile.specs.Machine.{Before, Fresh, Behind, ItemHead, AtSelect, AtComma, KeyHead, AtBy, KeyComma, SourceHead, AtFrom, SourceComma, DefHead, AtWith, DefComma, put_select, put_item, put_key, put_source, put_def, Around, InParen, InNeg, InNot, InWhen, InThen, InElse, InRight, InItem, InKey, InWhere, Outside, InMain, InDef, InExists, State, AtDef, AtDefName, AtDefAs, WantSelect, AtUnion, Want, AtName, AtDot, AtCase, AtExists, Have, AtRow, AtRowOpen, AtRowClose, AtOver, InOver, AtOrder, AtHeld, AtAs, HaveItems, AtSource, AtSourceName, AtSourceAs, AtSemi, Ready, start_state, asks, binds, level_of, after_query, after_key, shift, after, start, after_items, step, one, some_name, named, numbering, some_select, some_query, close, close_query, close_items, close_held, least, turn, run, InSum, InScalarWhere, AtScalar, AtCount, AtCountOpen, AtCountStar, AtCoalesce, AtCoalesceOpen, AtSum, AtSumClose, AtSumComma, AtSumZero, HaveScalar, AtScalarSource, AtScalarSourceName, AtScalarSourceAs, counted, some_tail, close_scalar}
use Rattle.nq_model.specs.OpenLists.{Deep}
use Rattle.nq_model.specs.Machines.{Reached, Faulty}
use Rattle.sql_profile.proofs.GrammarDepths.{Within, depth_pos, choice_pos, selects_pos, less, query_less, choice_less, item_less, want_less, fits_true, def_mono}

pub next : (d : ℕ) (st st' : State) (t : Token) (ts : List Token) → step st t ≡ Some st' → Within d (least st') → run d (t ∷ ts) st ≡ run d ts st'
next d st st' t ts e w =
    ap (λ o. turn d t o (run d ts)) e ∙ ap (λ b. cond b (run d ts st') (Faulty t Deep)) (fits_true d st' w)

pub settle : (d : ℕ) (st : State) (t : Token) (ts : List Token) → Within d (least st) → turn d t (Some st) (run d ts) ≡ run d ts st
settle d st t ts w = ap (λ b. cond b (run d ts st) (Faulty t Deep)) (fits_true d st w)

pub alike : (d : ℕ) (t : Token) (ts : List Token) (o o' : Option State) → o ≡ o' → turn d t o (run d ts) ≡ turn d t o' (run d ts)
alike d t ts o o' e = ap (λ z. turn d t z (run d ts)) e

pub level_enough : (s : ExprSyntax) (m : ℕ) → m ≤ 7 → Fits m s → m ≤ level_of s
level_enough (OfConstant p c) m h f = omega arith
level_enough (OfColumn p a q r c) m h f = omega arith
level_enough (OfParens p e q) m h f = omega arith
level_enough (OfMinus p e) m h f = f.0
level_enough (OfNot p e) m h f = f.0
level_enough (OfNotExists p e o q c) m h f = f.0
level_enough (OfCase p w t i y e n z) m h f = omega arith
level_enough (OfBinary l p op r) m h f = f.0
level_enough (OfScalar i v w z) m h f = omega arith

pub record Levels (op : Binary) : Type 0 where
  pub low : 1 ≤ level op
  pub high : level op ≤ 6
  pub left_high : left_level op ≤ 6
  pub left_low : level op ≤ left_level op

pub levels : (op : Binary) → Levels op
levels Or = record { low = omega arith; high = omega arith; left_high = omega arith; left_low = omega arith }
levels And = record { low = omega arith; high = omega arith; left_high = omega arith; left_low = omega arith }
levels Add = record { low = omega arith; high = omega arith; left_high = omega arith; left_low = omega arith }
levels Sub = record { low = omega arith; high = omega arith; left_high = omega arith; left_low = omega arith }
levels Mul = record { low = omega arith; high = omega arith; left_high = omega arith; left_low = omega arith }
levels op = record { low = omega arith; high = omega arith; left_high = omega arith; left_low = omega arith }

-- no operator binds 3
pub level_gap : (op : Binary) → level op ≤ 3 → level op ≤ 2
level_gap Or h = omega arith
level_gap And h = omega arith
level_gap Add h = absurd (omega arith)
level_gap Sub h = absurd (omega arith)
level_gap Mul h = absurd (omega arith)
level_gap op h = absurd (omega arith)

pub binds_gap : (t : Token) → binds t ≤ 3 → binds t ≤ 2
binds_gap (Oper p op) h = level_gap op h
binds_gap t h = omega arith

-- no form ends before an operator that takes at least what the form asks for
pub stays : (k : Around) (s : ExprSyntax) (p : ℕ) (op : Binary) → asks k ≤ level op → after k s (Oper p op) ≡ shift k s (Oper p op)
stays (InNeg q k) s p op h = let l = levels op in absurd (omega (arith, l.high, h))
stays (InNot q k) s p op h =
    let e : leb (level op) 2 ≡ false = grind (arith, nat_tests) in
    ap (λ b. cond b (after k (OfNot q s) (Oper p op)) (shift (InNot q k) s (Oper p op))) e
stays (InRight l q o k) s p op h =
    let e : leb (level op) (level o) ≡ false = grind (arith, nat_tests) in
    ap (λ b. cond b (after k (OfBinary l q o s) (Oper p op)) (shift (InRight l q o k) s (Oper p op))) e
stays k s p op h = refl

pub after_oper : (k : Around) (l : ExprSyntax) (p : ℕ) (op : Binary) → asks k ≤ level op → Fits (left_level op) l → after k l (Oper p op) ≡ Some (Want (InRight l p op k))
after_oper k l p op h f =
    let v = levels op in
    let e : leb (left_level op) (level_of l) ≡ true = le-leb _ _ (level_enough l (left_level op) (omega (arith, v.left_high)) f) in
    stays k l p op h ∙ ap (λ b. cond b (Some (Want (InRight l p op k))) None) e

pub ends_right : (k : Around) (l r : ExprSyntax) (p : ℕ) (op : Binary) (t : Token) → binds t ≤ level op → after (InRight l p op k) r t ≡ after k (OfBinary l p op r) t
ends_right k l r p op t h = ap (λ b. cond b (after k (OfBinary l p op r) t) (shift (InRight l p op k) r t)) (le-leb _ _ h)

pub ends_not : (k : Around) (p : ℕ) (e : ExprSyntax) (t : Token) → binds t ≤ 3 → after (InNot p k) e t ≡ after k (OfNot p e) t
ends_not k p e t h = ap (λ b. cond b (after k (OfNot p e) t) (shift (InNot p k) e t)) (le-leb _ _ (binds_gap t h))

pub begin_not : (k : Around) (p : ℕ) → asks k ≤ 3 → start k (Key p Not) ≡ Some (Want (InNot p k))
begin_not k p h = ap (λ b. cond b (Some (Want (InNot p k))) None) (le-leb _ _ h)

-- What may stand behind a whole query, and behind an order key.
abbrev pub is_ending : Token → Bool
is_ending (Key u Union) = true
is_ending (Close q) = true
is_ending (Semi q) = true
is_ending (End q) = true
is_ending _ = false

abbrev pub is_sep : Token → Bool
is_sep (Comma c) = true
is_sep (Close q) = true
is_sep _ = false

pub ending_binds : (t : Token) → is_ending t ≡ true → binds t ≤ 1
ending_binds (Oper p op) e = absurd (cc)
ending_binds t e = omega arith

pub sep_binds : (t : Token) → is_sep t ≡ true → binds t ≤ 1
sep_binds (Oper p op) e = absurd (cc)
sep_binds t e = omega arith

pub ends_items : (t : Token) (i : ItemsSyntax) (f : FromSyntax) (b : Before) (c : Outside) → is_ending t ≡ true → after_items i f b c t ≡ after_query c (put_select b (OfSelect i f NoWhere)) t
ends_items (Key u Union) i f b c e = refl
ends_items (Close q) i f b c e = refl
ends_items (Semi q) i f b c e = refl
ends_items (End q) i f b c e = refl
ends_items t i f b c e = absurd (cc)

pub ends_where : (t : Token) (p : ℕ) (s : ExprSyntax) (i : ItemsSyntax) (f : FromSyntax) (b : Before) (c : Outside) → is_ending t ≡ true → after (InWhere p i f b c) s t ≡ after_query c (put_select b (OfSelect i f (HasWhere p s))) t
ends_where (Key u Union) p s i f b c e = refl
ends_where (Close q) p s i f b c e = refl
ends_where (Semi q) p s i f b c e = refl
ends_where (End q) p s i f b c e = refl
ends_where t p s i f b c e = absurd (cc)

pub ends_key : (t : Token) (g : KeyHead) (s : ExprSyntax) (r : NumberingHead) (h : ItemHead) (b : Before) (c : Outside) → is_sep t ≡ true → after (InKey g r h b c) s t ≡ after_key (put_key g s) r h b c t
ends_key (Comma q) g s r h b c e = refl
ends_key (Close q) g s r h b c e = refl
ends_key t g s r h b c e = absurd (cc)

-- The sources of a SELECT add no depth.
pub from_less : (d : ℕ) (i : ItemsSyntax) (f f' : FromSyntax) (b : Before) (c : Outside) → Within d (close_items i f b c) → Within d (close_items i f' b c)
from_less d i f f' b c w = choice_less d b c (OfSelect i f' NoWhere) (OfSelect i f NoWhere) (omega arith) w

pub source_read : (s : SourceSyntax) (h : SourceHead) (d : ℕ) (i : ItemsSyntax) (b : Before) (c : Outside) (x : List Token) → Within d (close_items i NoFrom b c)
    → run d (source_tokens s x) (AtSource h i b c) ≡ run d x (HaveItems i (HasFrom (put_source h s)) b c)
source_read (OfSource p t a q n) h d i b c x w =
    next d (AtSource h i b c) (AtSourceName h p t i b c) (Name p t) (Key a As ∷ Name q n ∷ x) refl (from_less d i NoFrom _ b c w)
    ∙ next d (AtSourceName h p t i b c) (AtSourceAs h p t a i b c) (Key a As) (Name q n ∷ x) refl (from_less d i NoFrom _ b c w)
    ∙ next d (AtSourceAs h p t a i b c) (HaveItems i (HasFrom (put_source h (OfSource p t a q n))) b c) (Name q n) x refl (from_less d i NoFrom _ b c w)

pub sources_read : (ss : SourcesSyntax) (d : ℕ) (i : ItemsSyntax) (b : Before) (c : Outside) (x : List Token) → Within d (close_items i NoFrom b c)
    → run d (sources_tokens ss x) (HaveItems i NoFrom b c) ≡ run d x (HaveItems i (HasFrom ss) b c)
sources_read (OneSource p s) d i b c x w =
    next d (HaveItems i NoFrom b c) (AtSource (AtFrom p) i b c) (Key p From) (source_tokens s x) refl (from_less d i NoFrom _ b c w)
    ∙ source_read s (AtFrom p) d i b c x w
sources_read (MoreSources ss p s) d i b c x w =
    sources_read ss d i b c (Comma p ∷ source_tokens s x) w
    ∙ next d (HaveItems i (HasFrom ss) b c) (AtSource (SourceComma ss p) i b c) (Comma p) (source_tokens s x) refl (from_less d i NoFrom _ b c w)
    ∙ source_read s (SourceComma ss p) d i b c x w

pub froms_read : (f : FromSyntax) (d : ℕ) (i : ItemsSyntax) (b : Before) (c : Outside) (x : List Token) → Within d (close_items i NoFrom b c)
    → run d (froms_tokens f x) (HaveItems i NoFrom b c) ≡ run d x (HaveItems i f b c)
froms_read NoFrom d i b c x w = refl
froms_read (HasFrom ss) d i b c x w = sources_read ss d i b c x w

pub scalar_less : (d : ℕ) (k : Around) (h h' : ScalarSyntax) (f f' : FromSyntax) (w w' : KeepSyntax) (z z' : ℕ) → scalar_depth h ≤ scalar_depth h' → keep_depth w ≤ keep_depth w'
    → Within d (close k (OfScalar h' f' w' z')) → Within d (close k (OfScalar h f w z))
scalar_less d k h h' f f' w w' z z' a b e = less d k (OfScalar h f w z) (OfScalar h' f' w' z') (omega arith) e

pub scalar_source_read : (s : SourceSyntax) (i : SourceHead) (d : ℕ) (h : ScalarSyntax) (k : Around) (x : List Token) → Within d (close_scalar h NoFrom k)
    → run d (source_tokens s x) (AtScalarSource i h k) ≡ run d x (HaveScalar h (HasFrom (put_source i s)) k)
scalar_source_read (OfSource p t a q n) i d h k x w =
    let lo = λ (f : FromSyntax). scalar_less d k h h f NoFrom NoWhere NoWhere 0 0 (omega arith) (omega arith) w in
    next d (AtScalarSource i h k) (AtScalarSourceName i p t h k) (Name p t) (Key a As ∷ Name q n ∷ x) refl (lo _)
    ∙ next d (AtScalarSourceName i p t h k) (AtScalarSourceAs i p t a h k) (Key a As) (Name q n ∷ x) refl (lo _)
    ∙ next d (AtScalarSourceAs i p t a h k) (HaveScalar h (HasFrom (put_source i (OfSource p t a q n))) k) (Name q n) x refl (lo _)

pub scalar_sources_read : (ss : SourcesSyntax) (d : ℕ) (h : ScalarSyntax) (k : Around) (x : List Token) → Within d (close_scalar h NoFrom k)
    → run d (sources_tokens ss x) (HaveScalar h NoFrom k) ≡ run d x (HaveScalar h (HasFrom ss) k)
scalar_sources_read (OneSource p s) d h k x w =
    next d (HaveScalar h NoFrom k) (AtScalarSource (AtFrom p) h k) (Key p From) (source_tokens s x) refl (scalar_less d k h h _ NoFrom NoWhere NoWhere 0 0 (omega arith) (omega arith) w)
    ∙ scalar_source_read s (AtFrom p) d h k x w
scalar_sources_read (MoreSources ss p s) d h k x w =
    scalar_sources_read ss d h k (Comma p ∷ source_tokens s x) w
    ∙ next d (HaveScalar h (HasFrom ss) k) (AtScalarSource (SourceComma ss p) h k) (Comma p) (source_tokens s x) refl (scalar_less d k h h _ NoFrom NoWhere NoWhere 0 0 (omega arith) (omega arith) w)
    ∙ scalar_source_read s (SourceComma ss p) d h k x w

pub scalar_froms_read : (f : FromSyntax) (d : ℕ) (h : ScalarSyntax) (k : Around) (x : List Token) → Within d (close_scalar h NoFrom k)
    → run d (froms_tokens f x) (HaveScalar h NoFrom k) ≡ run d x (HaveScalar h f k)
scalar_froms_read NoFrom d h k x w = refl
scalar_froms_read (HasFrom ss) d h k x w = scalar_sources_read ss d h k x w

mutual
  pub reads : (s : ExprSyntax) (d : ℕ) (k : Around) (m : ℕ) (t : Token) (x : List Token)
      → Fits m s → asks k ≤ m → binds t ≤ m → Within d (close k s)
      → run d (tokens s (t ∷ x)) (Want k) ≡ run d (t ∷ x) (Have s k)
  reads (OfConstant p v) d k m t x f h b w = next d (Want k) (Have (OfConstant p v) k) (Value p v) (t ∷ x) refl w
  reads (OfColumn p a q r n) d k m t x f h b w =
      next d (Want k) (AtName p a k) (Name p a) (Dot q ∷ Name r n ∷ t ∷ x) refl (less d k (OfColumn p a 0 0 some_name) (OfColumn p a q r n) (omega arith) w)
      ∙ next d (AtName p a k) (AtDot p a q k) (Dot q) (Name r n ∷ t ∷ x) refl (less d k (OfColumn p a q 0 some_name) (OfColumn p a q r n) (omega arith) w)
      ∙ next d (AtDot p a q k) (Have (OfColumn p a q r n) k) (Name r n) (t ∷ x) refl w
  reads (OfParens p e q) d k m t x f h b w =
      let v = less d k (OfParens p e 0) (OfParens p e q) (omega arith) w in
      next d (Want k) (Want (InParen p k)) (Open p) (tokens e (Close q ∷ t ∷ x)) refl (want_less d (InParen p k) e v)
      ∙ reads e d (InParen p k) 1 (Close q) (t ∷ x) f (omega arith) (omega arith) v
      ∙ next d (Have e (InParen p k)) (Have (OfParens p e q) k) (Close q) (t ∷ x) refl w
  reads (OfMinus p e) d k m t x f h b w =
      next d (Want k) (Want (InNeg p k)) (Oper p Sub) (tokens e (t ∷ x)) refl (want_less d (InNeg p k) e w)
      ∙ reads e d (InNeg p k) 7 t x f.1 (omega arith) (omega (arith, f.0)) w
  reads (OfNot p e) d k m t x f h b w =
      next d (Want k) (Want (InNot p k)) (Key p Not) (tokens e (t ∷ x)) (begin_not k p (omega (arith, f.0))) (want_less d (InNot p k) e w)
      ∙ reads e d (InNot p k) 3 t x f.1 (omega arith) (omega (arith, f.0)) w
      ∙ alike d t x (after (InNot p k) e t) (after k (OfNot p e) t) (ends_not k p e t (omega (arith, f.0)))
  reads (OfNotExists p e o q z) d k m t x f h b w =
      let v = less d k (OfNotExists p e o q 0) (OfNotExists p e o q z) (omega arith) w in
      let pos = selects_pos q in
      next d (Want k) (Want (InNot p k)) (Key p Not) (Key e Exists ∷ Open o ∷ query_tokens q (Close z ∷ t ∷ x)) (begin_not k p (omega (arith, f.0))) (less d k (OfNot p one) (OfNotExists p e o q z) (omega (arith, pos)) w)
      ∙ next d (Want (InNot p k)) (AtExists p e k) (Key e Exists) (Open o ∷ query_tokens q (Close z ∷ t ∷ x)) refl (less d k (OfNotExists p e 0 some_query 0) (OfNotExists p e o q z) (omega (arith, pos)) w)
      ∙ next d (AtExists p e k) (WantSelect Fresh (InExists p e o k)) (Open o) (query_tokens q (Close z ∷ t ∷ x)) refl (less d k (OfNotExists p e o some_query 0) (OfNotExists p e o q z) (omega (arith, pos)) w)
      ∙ query_reads q d (InExists p e o k) (Close z) (t ∷ x) f.1 refl v
      ∙ settle d (Have (OfNotExists p e o q z) k) (Close z) (t ∷ x) w
  reads (OfCase p w' a i y e n z) d k m t x f h b w =
      let pa = depth_pos a in
      let py = depth_pos y in
      let pn = depth_pos n in
      let all = OfCase p w' a i y e n z in
      let r3 = Key z Stop ∷ t ∷ x in
      let r2 = Key e Else ∷ tokens n r3 in
      let r1 = Key i Then ∷ tokens y r2 in
      next d (Want k) (AtCase p k) (Key p Case) (Key w' When ∷ tokens a r1) refl (less d k (OfCase p 0 one 0 one 0 one 0) all (omega (arith, pa, py, pn)) w)
      ∙ next d (AtCase p k) (Want (InWhen p w' k)) (Key w' When) (tokens a r1) refl (less d k (OfCase p w' one 0 one 0 one 0) all (omega (arith, pa, py, pn)) w)
      ∙ reads a d (InWhen p w' k) 1 (Key i Then) (tokens y r2) f.0 (omega arith) (omega arith) (less d k (OfCase p w' a 0 one 0 one 0) all (omega (arith, py, pn)) w)
      ∙ next d (Have a (InWhen p w' k)) (Want (InThen p w' a i k)) (Key i Then) (tokens y r2) refl (less d k (OfCase p w' a i one 0 one 0) all (omega (arith, py, pn)) w)
      ∙ reads y d (InThen p w' a i k) 1 (Key e Else) (tokens n r3) f.1 (omega arith) (omega arith) (less d k (OfCase p w' a i y 0 one 0) all (omega (arith, pn)) w)
      ∙ next d (Have y (InThen p w' a i k)) (Want (InElse p w' a i y e k)) (Key e Else) (tokens n r3) refl (less d k (OfCase p w' a i y e one 0) all (omega (arith, pn)) w)
      ∙ reads n d (InElse p w' a i y e k) 1 (Key z Stop) (t ∷ x) f.2 (omega arith) (omega arith) (less d k (OfCase p w' a i y e n 0) all (omega arith) w)
      ∙ next d (Have n (InElse p w' a i y e k)) (Have all k) (Key z Stop) (t ∷ x) refl w
  reads (OfBinary l p op r) d k m t x f h b w =
      let v = levels op in
      let pr = depth_pos r in
      reads l d k (left_level op) (Oper p op) (tokens r (t ∷ x)) f.1 (omega (arith, f.0, v.left_low)) v.left_low (less d k l (OfBinary l p op r) (omega arith) w)
      ∙ next d (Have l k) (Want (InRight l p op k)) (Oper p op) (tokens r (t ∷ x)) (after_oper k l p op (omega (arith, f.0)) f.1) (want_less d (InRight l p op k) r w)
      ∙ reads r d (InRight l p op k) (suc (level op)) t x f.2 (omega arith) (omega (arith, f.0)) w
      ∙ alike d t x (after (InRight l p op k) r t) (after k (OfBinary l p op r) t) (ends_right k l r p op t (omega (arith, f.0)))
  reads (OfScalar i f v z) d k m t x g h b w =
      let w' = scalar_less d k i i NoFrom f NoWhere v 0 z (omega arith) (omega arith) w in
      scalar_reads i d k (froms_tokens f (keep_tokens v (Close z ∷ t ∷ x))) g.0 w'
      ∙ scalar_froms_read f d i k (keep_tokens v (Close z ∷ t ∷ x)) w'
      ∙ scalar_keep_reads v d i f k z (t ∷ x) g.1 w

  pub scalar_keep_reads : (v : KeepSyntax) (d : ℕ) (i : ScalarSyntax) (f : FromSyntax) (k : Around) (z : ℕ) (x : List Token) → KeepFits v → Within d (close k (OfScalar i f v z))
      → run d (keep_tokens v (Close z ∷ x)) (HaveScalar i f k) ≡ run d x (Have (OfScalar i f v z) k)
  scalar_keep_reads NoWhere d i f k z x g w = next d (HaveScalar i f k) (Have (OfScalar i f NoWhere z) k) (Close z) x refl w
  scalar_keep_reads (HasWhere p s) d i f k z x g w =
      let w' = scalar_less d k i i f f (HasWhere p s) (HasWhere p s) 0 z (omega arith) (omega arith) w in
      next d (HaveScalar i f k) (Want (InScalarWhere p i f k)) (Key p Where) (tokens s (Close z ∷ x)) refl (want_less d (InScalarWhere p i f k) s w')
      ∙ reads s d (InScalarWhere p i f k) 1 (Close z) x g (omega arith) (omega arith) w'
      ∙ next d (Have s (InScalarWhere p i f k)) (Have (OfScalar i f (HasWhere p s) z) k) (Close z) x refl w

  pub scalar_reads : (i : ScalarSyntax) (d : ℕ) (k : Around) (x : List Token) → ScalarFits i → Within d (close_scalar i NoFrom k)
      → run d (scalar_tokens i x) (Want k) ≡ run d x (HaveScalar i NoFrom k)
  scalar_reads (Counted (OfCount p s c o t z)) d k x g w =
      let lo = λ (h : ScalarSyntax). λ (e : scalar_depth h ≤ 0). scalar_less d k h (counted p s c o t z) NoFrom NoFrom NoWhere NoWhere 0 0 e (omega arith) w in
      next d (Want k) (Want (InParen p k)) (Open p) (Key s Select ∷ Key c Count ∷ Open o ∷ Oper t Mul ∷ Close z ∷ x) refl (lo (counted p 0 0 0 0 0) (omega arith))
      ∙ next d (Want (InParen p k)) (AtScalar p s k) (Key s Select) (Key c Count ∷ Open o ∷ Oper t Mul ∷ Close z ∷ x) refl (lo (counted p s 0 0 0 0) (omega arith))
      ∙ next d (AtScalar p s k) (AtCount p s c k) (Key c Count) (Open o ∷ Oper t Mul ∷ Close z ∷ x) refl (lo (counted p s c 0 0 0) (omega arith))
      ∙ next d (AtCount p s c k) (AtCountOpen p s c o k) (Open o) (Oper t Mul ∷ Close z ∷ x) refl (lo (counted p s c o 0 0) (omega arith))
      ∙ next d (AtCountOpen p s c o k) (AtCountStar p s c o t k) (Oper t Mul) (Close z ∷ x) refl (lo (counted p s c o t 0) (omega arith))
      ∙ next d (AtCountStar p s c o t k) (HaveScalar (counted p s c o t z) NoFrom k) (Close z) x refl w
  scalar_reads (Summed (OfSum p s c o u v) e (OfTail z y q r)) d k x g w =
      let pos = depth_pos e in
      let h = OfSum p s c o u v in
      let lo = λ (i : ScalarSyntax). λ (a : scalar_depth i ≤ depth e). scalar_less d k i (Summed h e (OfTail z y q r)) NoFrom NoFrom NoWhere NoWhere 0 0 a (omega arith) w in
      let x0 = tokens e (Close z ∷ Comma y ∷ Value q (Number 0 1) ∷ Close r ∷ x) in
      let w1 = lo (Summed h e some_tail) (omega arith) in
      next d (Want k) (Want (InParen p k)) (Open p) (Key s Select ∷ Key c Coalesce ∷ Open o ∷ Key u Sum ∷ Open v ∷ x0) refl (lo (counted p 0 0 0 0 0) (omega arith))
      ∙ next d (Want (InParen p k)) (AtScalar p s k) (Key s Select) (Key c Coalesce ∷ Open o ∷ Key u Sum ∷ Open v ∷ x0) refl (lo (counted p s 0 0 0 0) (omega arith))
      ∙ next d (AtScalar p s k) (AtCoalesce p s c k) (Key c Coalesce) (Open o ∷ Key u Sum ∷ Open v ∷ x0) refl (lo (Summed (OfSum p s c 0 0 0) one some_tail) (omega (arith, pos)))
      ∙ next d (AtCoalesce p s c k) (AtCoalesceOpen p s c o k) (Open o) (Key u Sum ∷ Open v ∷ x0) refl (lo (Summed (OfSum p s c o 0 0) one some_tail) (omega (arith, pos)))
      ∙ next d (AtCoalesceOpen p s c o k) (AtSum p s c o u k) (Key u Sum) (Open v ∷ x0) refl (lo (Summed (OfSum p s c o u 0) one some_tail) (omega (arith, pos)))
      ∙ next d (AtSum p s c o u k) (Want (InSum h k)) (Open v) x0 refl (want_less d (InSum h k) e w1)
      ∙ reads e d (InSum h k) 1 (Close z) (Comma y ∷ Value q (Number 0 1) ∷ Close r ∷ x) g (omega arith) (omega arith) w1
      ∙ next d (Have e (InSum h k)) (AtSumClose h e z k) (Close z) (Comma y ∷ Value q (Number 0 1) ∷ Close r ∷ x) refl (lo (Summed h e (OfTail z 0 0 0)) (omega arith))
      ∙ next d (AtSumClose h e z k) (AtSumComma h e z y k) (Comma y) (Value q (Number 0 1) ∷ Close r ∷ x) refl (lo (Summed h e (OfTail z y 0 0)) (omega arith))
      ∙ next d (AtSumComma h e z y k) (AtSumZero h e z y q k) (Value q (Number 0 1)) (Close r ∷ x) refl (lo (Summed h e (OfTail z y q 0)) (omega arith))
      ∙ next d (AtSumZero h e z y q k) (HaveScalar (Summed h e (OfTail z y q r)) NoFrom k) (Close r) x refl w

  pub query_reads : (q : QuerySyntax) (d : ℕ) (c : Outside) (t : Token) (x : List Token) → QueryFits q → is_ending t ≡ true → Within d (close_query c q)
      → run d (query_tokens q (t ∷ x)) (WantSelect Fresh c) ≡ turn d t (after_query c q t) (run d x)
  query_reads (OneSelect s) d c t x f e w = choice_reads s d Fresh c t x f e w
  query_reads (MoreSelects q u a s) d c t x f e w =
      let p = choice_pos s in
      query_reads q d c (Key u Union) (Key a All ∷ choice_tokens s (t ∷ x)) f.0 refl (query_less d c q (MoreSelects q u a s) (omega arith) w)
      ∙ settle d (AtUnion q u c) (Key u Union) (Key a All ∷ choice_tokens s (t ∷ x)) (query_less d c (MoreSelects q u 0 some_select) (MoreSelects q u a s) (omega (arith, p)) w)
      ∙ next d (AtUnion q u c) (WantSelect (Behind q u a) c) (Key a All) (choice_tokens s (t ∷ x)) refl (query_less d c (MoreSelects q u a some_select) (MoreSelects q u a s) (omega (arith, p)) w)
      ∙ choice_reads s d (Behind q u a) c t x f.1 e w

  pub choice_reads : (s : SelectSyntax) (d : ℕ) (b : Before) (c : Outside) (t : Token) (x : List Token) → ChoiceFits s → is_ending t ≡ true → Within d (close_query c (put_select b s))
      → run d (choice_tokens s (t ∷ x)) (WantSelect b c) ≡ turn d t (after_query c (put_select b s) t) (run d x)
  choice_reads (OfSelect i f v) d b c t x g e w =
      let w' = choice_less d b c (OfSelect i NoFrom NoWhere) (OfSelect i f v) (omega arith) w in
      items_read i d b c (froms_tokens f (keep_tokens v (t ∷ x))) g.0 w'
      ∙ froms_read f d i b c (keep_tokens v (t ∷ x)) w'
      ∙ keep_reads v d i f b c t x g.1 e w

  pub keep_reads : (v : KeepSyntax) (d : ℕ) (i : ItemsSyntax) (f : FromSyntax) (b : Before) (c : Outside) (t : Token) (x : List Token) → KeepFits v → is_ending t ≡ true → Within d (close_query c (put_select b (OfSelect i f v)))
      → run d (keep_tokens v (t ∷ x)) (HaveItems i f b c) ≡ turn d t (after_query c (put_select b (OfSelect i f v)) t) (run d x)
  keep_reads NoWhere d i f b c t x g e w = alike d t x (after_items i f b c t) (after_query c (put_select b (OfSelect i f NoWhere)) t) (ends_items t i f b c e)
  keep_reads (HasWhere p s) d i f b c t x g e w =
      next d (HaveItems i f b c) (Want (InWhere p i f b c)) (Key p Where) (tokens s (t ∷ x)) refl (want_less d (InWhere p i f b c) s w)
      ∙ reads s d (InWhere p i f b c) 1 t x g (omega arith) (ending_binds t e) w
      ∙ alike d t x (after (InWhere p i f b c) s t) (after_query c (put_select b (OfSelect i f (HasWhere p s))) t) (ends_where t p s i f b c e)

  pub items_read : (i : ItemsSyntax) (d : ℕ) (b : Before) (c : Outside) (x : List Token) → ItemsFit i → Within d (close_items i NoFrom b c)
      → run d (items_tokens i x) (WantSelect b c) ≡ run d x (HaveItems i NoFrom b c)
  items_read (OneItem p i) d b c x g w =
      next d (WantSelect b c) (Want (InItem (AtSelect p) b c)) (Key p Select) (item_tokens i x) refl (item_less d (AtSelect p) b c (named numbering) i (omega arith) w)
      ∙ item_reads i d (AtSelect p) b c x g w
  items_read (MoreItems is p i) d b c x g w =
      items_read is d b c (Comma p ∷ item_tokens i x) g.0 (choice_less d b c (OfSelect is NoFrom NoWhere) (OfSelect (MoreItems is p i) NoFrom NoWhere) (omega arith) w)
      ∙ next d (HaveItems is NoFrom b c) (Want (InItem (AtComma is p) b c)) (Comma p) (item_tokens i x) refl (item_less d (AtComma is p) b c (named numbering) i (omega arith) w)
      ∙ item_reads i d (AtComma is p) b c x g.1 w

  pub item_reads : (i : ItemSyntax) (d : ℕ) (h : ItemHead) (b : Before) (c : Outside) (x : List Token) → ItemFits i → Within d (close_items (put_item h i) NoFrom b c)
      → run d (item_tokens i x) (Want (InItem h b c)) ≡ run d x (HaveItems (put_item h i) NoFrom b c)
  item_reads (OfItem v a p n) d h b c x g w =
      held_reads v d h b c a (Name p n ∷ x) g (item_less d h b c (named v) (OfItem v a p n) (omega arith) w)
      ∙ next d (AtAs v a h b c) (HaveItems (put_item h (OfItem v a p n)) NoFrom b c) (Name p n) x refl w

  pub held_reads : (v : ValueSyntax) (d : ℕ) (h : ItemHead) (b : Before) (c : Outside) (a : ℕ) (x : List Token) → HeldFits v → Within d (close_held v h b c)
      → run d (held_tokens v (Key a As ∷ x)) (Want (InItem h b c)) ≡ run d x (AtAs v a h b c)
  held_reads (Plain s) d h b c a x g w =
      reads s d (InItem h b c) 1 (Key a As) x g (omega arith) (omega arith) w
      ∙ next d (Have s (InItem h b c)) (AtAs (Plain s) a h b c) (Key a As) x refl (item_less d h b c (OfItem (Plain s) a 0 some_name) (named (Plain s)) (omega arith) w)
  held_reads (Numbering (OfRowNumber r o y u q) ks z) d h b c a x g w =
      let n = Numbering (OfRowNumber r o y u q) ks z in
      let lo = λ (v : ValueSyntax). λ (e : held_depth v ≤ 0). item_less d h b c (named v) (named n) (omega (arith, e)) w in
      let x0 = keys_tokens ks (Close z ∷ Key a As ∷ x) in
      next d (Want (InItem h b c)) (AtRow r h b c) (Key r RowNumber) (Open o ∷ Close y ∷ Key u Over ∷ Open q ∷ x0) refl (lo (Numbering (OfRowNumber r 0 0 0 0) NoKeys 0) (omega arith))
      ∙ next d (AtRow r h b c) (AtRowOpen r o h b c) (Open o) (Close y ∷ Key u Over ∷ Open q ∷ x0) refl (lo (Numbering (OfRowNumber r o 0 0 0) NoKeys 0) (omega arith))
      ∙ next d (AtRowOpen r o h b c) (AtRowClose r o y h b c) (Close y) (Key u Over ∷ Open q ∷ x0) refl (lo (Numbering (OfRowNumber r o y 0 0) NoKeys 0) (omega arith))
      ∙ next d (AtRowClose r o y h b c) (AtOver r o y u h b c) (Key u Over) (Open q ∷ x0) refl (lo (Numbering (OfRowNumber r o y u 0) NoKeys 0) (omega arith))
      ∙ next d (AtOver r o y u h b c) (InOver (OfRowNumber r o y u q) h b c) (Open q) x0 refl (lo (Numbering (OfRowNumber r o y u q) NoKeys 0) (omega arith))
      ∙ keys_read ks d (OfRowNumber r o y u q) h b c z (Key a As ∷ x) g w
      ∙ next d (AtHeld n h b c) (AtAs n a h b c) (Key a As) x refl (item_less d h b c (OfItem n a 0 some_name) (named n) (omega arith) w)

  pub keys_read : (ks : KeysSyntax) (d : ℕ) (r : NumberingHead) (h : ItemHead) (b : Before) (c : Outside) (z : ℕ) (x : List Token) → KeysFit ks → Within d (close_held (Numbering r ks z) h b c)
      → run d (keys_tokens ks (Close z ∷ x)) (InOver r h b c) ≡ run d x (AtHeld (Numbering r ks z) h b c)
  keys_read NoKeys d r h b c z x g w = next d (InOver r h b c) (AtHeld (Numbering r NoKeys z) h b c) (Close z) x refl w
  keys_read (HasKeys ks) d r h b c z x g w =
      key_list_reads ks d r h b c (Close z) x g refl (item_less d h b c (named (Numbering r (HasKeys ks) 0)) (named (Numbering r (HasKeys ks) z)) (omega arith) w)
      ∙ settle d (AtHeld (Numbering r (HasKeys ks) z) h b c) (Close z) x w

  pub key_list_reads : (ks : KeyListSyntax) (d : ℕ) (r : NumberingHead) (h : ItemHead) (b : Before) (c : Outside) (t : Token) (x : List Token) → KeyListFits ks → is_sep t ≡ true → Within d (close_held (Numbering r (HasKeys ks) 0) h b c)
      → run d (key_list_tokens ks (t ∷ x)) (InOver r h b c) ≡ turn d t (after_key ks r h b c t) (run d x)
  key_list_reads (OneKey o y e) d r h b c t x g s w =
      let p = depth_pos e in
      next d (InOver r h b c) (AtOrder o r h b c) (Key o Order) (Key y By ∷ tokens e (t ∷ x)) refl (item_less d h b c (named (Numbering r (HasKeys (OneKey o 0 one)) 0)) (named (Numbering r (HasKeys (OneKey o y e)) 0)) (omega (arith, p)) w)
      ∙ next d (AtOrder o r h b c) (Want (InKey (AtBy o y) r h b c)) (Key y By) (tokens e (t ∷ x)) refl (want_less d (InKey (AtBy o y) r h b c) e w)
      ∙ reads e d (InKey (AtBy o y) r h b c) 1 t x g (omega arith) (sep_binds t s) w
      ∙ alike d t x (after (InKey (AtBy o y) r h b c) e t) (after_key (OneKey o y e) r h b c t) (ends_key t (AtBy o y) e r h b c s)
  key_list_reads (MoreKeys ks p e) d r h b c t x g s w =
      key_list_reads ks d r h b c (Comma p) (tokens e (t ∷ x)) g.0 refl (item_less d h b c (named (Numbering r (HasKeys ks) 0)) (named (Numbering r (HasKeys (MoreKeys ks p e)) 0)) (omega arith) w)
      ∙ settle d (Want (InKey (KeyComma ks p) r h b c)) (Comma p) (tokens e (t ∷ x)) (want_less d (InKey (KeyComma ks p) r h b c) e w)
      ∙ reads e d (InKey (KeyComma ks p) r h b c) 1 t x g.1 (omega arith) (sep_binds t s) w
      ∙ alike d t x (after (InKey (KeyComma ks p) r h b c) e t) (after_key (MoreKeys ks p e) r h b c t) (ends_key t (KeyComma ks p) e r h b c s)

-- The WITH queries, with the least main query behind them.
abbrev pub with_defs : WithListSyntax → TextSyntax
with_defs ds = OfText (HasWith ds) some_query NoSemi

pub def_less : (d : ℕ) (h : DefHead) (f f' : WithSyntax) → def_depth f ≤ def_depth f' → Within d (with_defs (put_def h f')) → Within d (with_defs (put_def h f))
def_less d h f f' e w = let m = def_mono h f f' e in omega (arith, m, w)

pub def_reads : (f : WithSyntax) (d : ℕ) (h : DefHead) (x : List Token) → DefFits f → Within d (with_defs (put_def h f))
    → run d (def_tokens f x) (AtDef h) ≡ run d x (WantSelect Fresh (InMain (HasWith (put_def h f))))
def_reads (OfWith p n a o q z) d h x g w =
    let pos = selects_pos q in
    let all = OfWith p n a o q z in
    let x0 = query_tokens q (Close z ∷ x) in
    next d (AtDef h) (AtDefName h p n) (Name p n) (Key a As ∷ Open o ∷ x0) refl (def_less d h (OfWith p n 0 0 some_query 0) all (omega (arith, pos)) w)
    ∙ next d (AtDefName h p n) (AtDefAs h p n a) (Key a As) (Open o ∷ x0) refl (def_less d h (OfWith p n a 0 some_query 0) all (omega (arith, pos)) w)
    ∙ next d (AtDefAs h p n a) (WantSelect Fresh (InDef h p n a o)) (Open o) x0 refl (def_less d h (OfWith p n a o some_query 0) all (omega (arith, pos)) w)
    ∙ query_reads q d (InDef h p n a o) (Close z) x g refl (def_less d h (OfWith p n a o q 0) all (omega arith) w)
    ∙ settle d (WantSelect Fresh (InMain (HasWith (put_def h all)))) (Close z) x w

pub defs_read : (ds : WithListSyntax) (d : ℕ) (x : List Token) → DefsFit ds → Within d (with_defs ds)
    → run d (defs_tokens ds x) start_state ≡ run d x (WantSelect Fresh (InMain (HasWith ds)))
defs_read (OneDef p (OfWith n l a o q z)) d x g w =
    let pos = selects_pos q in
    let f = OfWith n l a o q z in
    next d start_state (AtDef (AtWith p)) (Key p With) (def_tokens f x) refl (def_less d (AtWith p) (OfWith 0 some_name 0 0 some_query 0) f (omega (arith, pos)) w)
    ∙ def_reads f d (AtWith p) x g w
defs_read (MoreDefs ds p (OfWith n l a o q z)) d x g w =
    let pos = selects_pos q in
    let f = OfWith n l a o q z in
    defs_read ds d (Comma p ∷ def_tokens f x) g.0 (omega (arith, w))
    ∙ next d (WantSelect Fresh (InMain (HasWith ds))) (AtDef (DefComma ds p)) (Comma p) (def_tokens f x) refl (def_less d (DefComma ds p) (OfWith 0 some_name 0 0 some_query 0) f (omega (arith, pos)) w)
    ∙ def_reads f d (DefComma ds p) x g.1 w

pub withs_read : (v : WithsSyntax) (d : ℕ) (x : List Token) → WithsFit v → Within d (OfText v some_query NoSemi)
    → run d (withs_tokens v x) start_state ≡ run d x (WantSelect Fresh (InMain v))
withs_read NoWith d x g w = refl
withs_read (HasWith ds) d x g w = defs_read ds d x g w

pub semis_read : (s : SemicolonSyntax) (d : ℕ) (v : WithsSyntax) (q : QuerySyntax) (z : ℕ) → QueryFits q → Within d (OfText v q s)
    → run d (query_tokens q (semis_tokens s (End z ∷ []))) (WantSelect Fresh (InMain v)) ≡ Reached (Ready (OfText v q s) z)
semis_read NoSemi d v q z g w = query_reads q d (InMain v) (End z) [] g refl w ∙ settle d (Ready (OfText v q NoSemi) z) (End z) [] w
semis_read (HasSemi p) d v q z g w =
    query_reads q d (InMain v) (Semi p) (End z ∷ []) g refl w
    ∙ settle d (AtSemi v q p) (Semi p) (End z ∷ []) w
    ∙ next d (AtSemi v q p) (Ready (OfText v q (HasSemi p)) z) (End z) [] refl w

-- What is spelled is read.
pub text_reads : (s : TextSyntax) (d z : ℕ) → TextFits s → Within d s → run d (text_tokens s (End z ∷ [])) start_state ≡ Reached (Ready s z)
text_reads (OfText v q s) d z g w =
    let pos = selects_pos q in
    withs_read v d (query_tokens q (semis_tokens s (End z ∷ []))) g.0 (omega (arith, pos, w))
    ∙ semis_read s d v q z g.1 w
