-- A term that a text spells is proper and closed.
use Rattle.std.proofs.Common.{◌≡◌, ℕ, suc, ◌+◌, ◌<◌, Bool, true, false, ◌||◌, if◌then◌else◌, List, [], ◌∷◌, ◌++◌, length, refl, sym, ◌∙◌, subst, arith, bytes_eq, true≢false}
use Rattle.std.proofs.lemmas.Slice.Eq.{bytes_eq-Decides}
use Rattle.std.specs.Prelude.{⊤, ◌≢◌}
use Rattle.std.specs.List.{AllByRecursion as Each}
use Rattle.std.specs.Ordering.{is_gt}
use Rattle.nq_model.specs.Orders.{label_cmp, by_label, AreDistinct, AreRising}
use Rattle.nq_model.specs.Proper.{IsQueryWord, labels_of, IsOrdered, AreOrdered, HasWords, HaveWords, IsProperType, field_labels, IsProperTerm, AreProperTerms, IsClosed, IsClosedUnder, AreClosedUnder}
use Rattle.nq_model.specs.QueryGrammar.{Edition, First, Second, Header, header_tokens, TypeSyntax, TBase, TBag, TParen, TNoFields, TRec, TFun, TypeFields, TOne, TMore, Syntax, Const, Truth, Var, Table, Aggregated, Paren, NoFields, Rec, Bag, Nil, For, Where, If, Fun, Let, Prefix, Infix, Apply, Field, Fields, One, More, type_tokens, type_fields_tokens, tokens, fields_tokens, prefix_token}
use Rattle.nq_model.specs.QueryScope.{Name, among, number_of, type_of, typed_fields, constant_node, operator_node, term_of, fields_of, if_unbound, if_twice, type_labels, labels, type_wrongs, type_fields_wrongs, wrongs, fields_wrongs}
use Rattle.nq_model.specs.QueryTexts.{edition_of, Spells}
use Rattle.nq_model.specs.QueryTokens.{Token, Word, Value, Sign, End, Constant, Number, Literal, Operator, Union, Of, Comma, Colon}
use Rattle.nq_model.specs.Tables.{base_type}
use Rattle.nq_model.specs.Terms.{PlacedTerm, PlacedFields, at, bare, bare_node, bare_fields}
use Rattle.nq_model.specs.Types.{TypeTree, FieldTypes, field_types_of}
use Rattle.nq_model.specs.Typing.{put_type}
use Rattle.nq_model.proofs.Typing.{put_type_list, cond_both}
use Rattle.nq_model.proofs.FieldOrders.{each_label_put, rising_put}
use Rattle.nq_model.specs.declared.table.ColumnType.{ColumnType}
use Rattle.nq_model.specs.declared.table.ColumnType.TheVariants as column
use Rattle.nq_model.specs.declared.term.Unary.{Unary}
use Rattle.nq_model.specs.declared.term.Unary.TheVariants.{Minus, Not}
use Rattle.nq_parser.proofs.SoundTokens.{IsSoundToken, text_sound}

left_none : {A : Type 0} (xs ys : List A) → xs ++ ys ≡ [] → xs ≡ []
left_none [] ys e = refl
left_none (x ∷ xs) ys e = absurd (cc)

right_none : {A : Type 0} (xs ys : List A) → xs ++ ys ≡ [] → ys ≡ []
right_none [] ys e = e
right_none (x ∷ xs) ys e = absurd (cc)

found : (b : Bool) (p : ℕ) → if_unbound b p ≡ [] → b ≡ true
found true p e = refl
found false p e = absurd (cc)

new : (b : Bool) (p : ℕ) → if_twice b p ≡ [] → b ≡ false
new true p e = absurd (cc)
new false p e = refl

either_false : (a b : Bool) → a || b ≡ false → (a ≡ false) × (b ≡ false)
either_false false b e = (refl, e)
either_false true b e = absurd (cc)

not_same : (x y : Name) → bytes_eq x y ≡ false → x ≡ y → ⊥
not_same x y e same = absurd (true≢false (sym ((bytes_eq-Decides x y).1 same) ∙ e))

-- a variable that has a binder among these has one of their numbers
bound_below : (x : Name) (xs : List Name) → among x xs ≡ true → number_of x xs < length xs
bound_below x [] e = absurd (cc)
bound_below x (y ∷ ys) e = go (bytes_eq x y) e (bound_below x ys)
  where
    go : (b : Bool) → b || among x ys ≡ true → (among x ys ≡ true → number_of x ys < length ys) → (if b then 0 else suc (number_of x ys)) < suc (length ys)
    go true e h = omega arith
    go false e h = let k = h e in omega (arith, k)

-- 1. types

base_proper : (c : ColumnType) → IsProperType (base_type c)
base_proper column.Int = record { ordered = tt; words = tt }
base_proper column.Bool = record { ordered = tt; words = tt }
base_proper column.Text = record { ordered = tt; words = tt }

abbrev record_fields : List (Name × TypeTree) → FieldTypes
record_fields parts = field_types_of (by_label parts)

record_more : (f : Name × TypeTree) (fs : List (Name × TypeTree)) → record_fields (f ∷ fs) ≡ put_type f.0 f.1 (record_fields fs)
record_more f fs = put_type_list f.0 f.1 (by_label fs)

ordered_put : (l : Name) (k : TypeTree) (fs : FieldTypes) → IsOrdered k → AreOrdered fs → AreOrdered (put_type l k fs)
ordered_put l k FieldTypes.none h all = (h, tt)
ordered_put l k (FieldTypes.field m j fs) h all =
    cond_both (λ x. AreOrdered x) (is_gt (label_cmp l m)) _ _ (all.0, ordered_put l k fs h all.1) (h, all)

words_put : (l : Name) (k : TypeTree) (fs : FieldTypes) → IsQueryWord l → HasWords k → HaveWords fs → HaveWords (put_type l k fs)
words_put l k FieldTypes.none w h all = (w, h, tt)
words_put l k (FieldTypes.field m j fs) w h all =
    cond_both (λ x. HaveWords x) (is_gt (label_cmp l m)) _ _ (all.0, all.1, words_put l k fs w h all.2) (w, h, all)

-- the parts of a record type: words as labels, which differ, and proper types
abbrev AreParts : List (Name × TypeTree) → Type 0
AreParts [] = ⊤
AreParts (f ∷ fs) = IsQueryWord f.0 × IsProperType f.1 × Each (λ g. f.0 ≡ g.0 → ⊥) fs × AreParts fs

each_part : (l : Name) (fs : List (Name × TypeTree)) → Each (λ g. l ≡ g.0 → ⊥) fs → Each (λ m. l ≡ m → ⊥) (labels_of (record_fields fs))
each_part l [] h = tt
each_part l (f ∷ fs) h =
    let P : FieldTypes → Type 0 = λ x. Each (λ m. l ≡ m → ⊥) (labels_of x) in
    subst P (sym (record_more f fs)) (each_label_put (λ m. l ≡ m → ⊥) f.0 f.1 (record_fields fs) h.0 (each_part l fs h.1))

record IsProperRecord (fs : FieldTypes) : Type 0 where
  rising : AreRising (labels_of fs)
  ordered : AreOrdered fs
  words : HaveWords fs

record_proper : (fs : List (Name × TypeTree)) → AreParts fs → IsProperRecord (record_fields fs)
record_proper [] h = record { rising = tt; ordered = tt; words = tt }
record_proper (f ∷ fs) h =
    let rest = record_proper fs h.3 in
    subst IsProperRecord (sym (record_more f fs)) (record {
      rising = rising_put f.0 f.1 (record_fields fs) (each_part f.0 fs h.2) rest.rising;
      ordered = ordered_put f.0 f.1 (record_fields fs) h.1.ordered rest.ordered;
      words = words_put f.0 f.1 (record_fields fs) h.0 h.1.words rest.words;
    })

-- none of these is a label so far
abbrev TypesApart : TypeFields → List (Name × TypeTree) → Type 0
TypesApart fs rest = Each (λ g. among g.0 (type_labels fs) ≡ false) rest

each_apart : (l : Name) (ls : List Name) (rest : List (Name × TypeTree)) → Each (λ g. among g.0 (l ∷ ls) ≡ false) rest → Each (λ g. among g.0 ls ≡ false) rest × Each (λ g. l ≡ g.0 → ⊥) rest
each_apart l ls [] h = (tt, tt)
each_apart l ls (g ∷ rest) h =
    let e = either_false (bytes_eq g.0 l) (among g.0 ls) h.0 in
    let i = each_apart l ls rest h.1 in
    ((e.1, i.0), (λ same. not_same g.0 l e.0 (sym same), i.1))

-- what stands behind tokens of a type is sound where all are
mutual
  behind_type : (t : TypeSyntax) (x : List Token) → Each IsSoundToken (type_tokens t x) → Each IsSoundToken x
  behind_type (TBase p c) x s = s.1
  behind_type (TBag p t q) x s = (behind_type t _ s.1).1
  behind_type (TParen p t q) x s = (behind_type t _ s.1).1
  behind_type (TNoFields p q) x s = s.1.1
  behind_type (TRec fs q) x s = (earlier_sound fs _ s).1
  behind_type (TFun a p t) x s = behind_type t x (behind_type a _ s).1

  earlier_sound : (fs : TypeFields) (x : List Token) → Each IsSoundToken (type_fields_tokens fs x) → Each IsSoundToken x
  earlier_sound (TOne p v l c t) x s = behind_type t x s.1.1.1
  earlier_sound (TMore fs q v l c t) x s = behind_type t x (earlier_sound fs _ s).1.1.1

mutual
  type_proper : (t : TypeSyntax) (x : List Token) → type_wrongs t ≡ [] → Each IsSoundToken (type_tokens t x) → IsProperType (type_of t) × Each IsSoundToken x
  type_proper (TBase p c) x e s = (base_proper c, s.1)
  type_proper (TBag p t q) x e s =
      let i = type_proper t _ e s.1 in (record { ordered = i.0.ordered; words = i.0.words }, i.1.1)
  type_proper (TParen p t q) x e s = let i = type_proper t _ e s.1 in (i.0, i.1.1)
  type_proper (TNoFields p q) x e s = (record { ordered = (tt, tt); words = tt }, s.1.1)
  type_proper (TRec fs q) x e s =
      let i = parts_proper fs [] _ e s tt tt in
      let r = record_proper (typed_fields fs []) i.0 in
      (record { ordered = (r.rising, r.ordered); words = r.words }, i.1.1)
  type_proper (TFun a p t) x e s =
      let i = type_proper a _ (left_none (type_wrongs a) (type_wrongs t) e) s in
      let j = type_proper t x (right_none (type_wrongs a) (type_wrongs t) e) i.1.1 in
      (record { ordered = (i.0.ordered, j.0.ordered); words = (i.0.words, j.0.words) }, j.1)

  parts_proper : (fs : TypeFields) (rest : List (Name × TypeTree)) (x : List Token) → type_fields_wrongs fs ≡ [] → Each IsSoundToken (type_fields_tokens fs x) →
      TypesApart fs rest → AreParts rest → AreParts (typed_fields fs rest) × Each IsSoundToken x
  parts_proper (TOne p v l c t) rest x e s apart parts =
      let i = type_proper t x e s.1.1.1 in
      ((s.1.0, i.0, (each_apart l [] rest apart).1, parts), i.1)
  parts_proper (TMore fs q v l c t) rest x e s apart parts =
      let later = right_none (type_fields_wrongs fs) (if_twice (among l (type_labels fs)) v ++ type_wrongs t) e in
      let twice = new (among l (type_labels fs)) v (left_none (if_twice (among l (type_labels fs)) v) (type_wrongs t) later) in
      let inner = right_none (if_twice (among l (type_labels fs)) v) (type_wrongs t) later in
      let behind = each_apart l (type_labels fs) rest apart in
      let before = earlier_sound fs (Sign q Comma ∷ Word v l ∷ Sign c Colon ∷ type_tokens t x) s in
      let i = type_proper t x inner before.1.1.1 in
      let j = parts_proper fs ((l, type_of t) ∷ rest) (Sign q Comma ∷ Word v l ∷ Sign c Colon ∷ type_tokens t x)
      (left_none (type_fields_wrongs fs) _ e) s (twice, behind.0) (before.1.0, i.0, behind.1, parts) in
      (j.0, i.1)

-- 2. expressions

constant_proper : (p : ℕ) (c : Constant) (x : List Token) → Each IsSoundToken (Value p c ∷ x) → IsProperTerm (bare_node (constant_node c))
constant_proper p (Number n digits) x s = record { digits = n; value = refl; small = s.0 }
constant_proper p (Literal spelled) x s = tt

constant_closed : (n : ℕ) (c : Constant) → IsClosedUnder n (bare_node (constant_node c))
constant_closed n (Number m digits) = tt
constant_closed n (Literal spelled) = tt

-- a term under so many binders, proper and closed
record IsGood (n : ℕ) (t : PlacedTerm) : Type 0 where
  proper : IsProperTerm (bare t)
  closed : IsClosedUnder n (bare t)

-- the same of fields
record AreGood (n : ℕ) (fs : PlacedFields) : Type 0 where
  differ : AreDistinct (field_labels (bare_fields fs))
  proper : AreProperTerms (bare_fields fs)
  closed : AreClosedUnder n (bare_fields fs)

operator_good : (n p : ℕ) (op : Operator) (l r : PlacedTerm) → IsGood n l → IsGood n r → IsGood n (at p (operator_node op l r))
operator_good n p Union l r g h = record { proper = (g.proper, h.proper); closed = (g.closed, h.closed) }
operator_good n p (Of b) l r g h = record { proper = (g.proper, h.proper); closed = (g.closed, h.closed) }

-- the same depth, written in two ways
one_more : (n : ℕ) (t : PlacedTerm) → IsClosedUnder (suc n) (bare t) → IsClosedUnder (n + 1) (bare t)
one_more n t h =
    let e : suc n ≡ n + 1 = omega arith in
    let P : ℕ → Type 0 = λ m. IsClosedUnder m (bare t) in
    subst P e h

prefix_sound : (p : ℕ) (u : Unary) (x : List Token) → Each IsSoundToken (prefix_token p u ∷ x) → Each IsSoundToken x
prefix_sound p Minus x s = s.1
prefix_sound p Not x s = s.1

-- none of these is a label so far
abbrev Apart : Fields → PlacedFields → Type 0
Apart fs rest = Each (λ m. among m (labels fs) ≡ false) (field_labels (bare_fields rest))

each_label_apart : (l : Name) (ls ms : List Name) → Each (λ m. among m (l ∷ ls) ≡ false) ms → Each (λ m. among m ls ≡ false) ms × Each (λ m. l ≢ m) ms
each_label_apart l ls [] h = (tt, tt)
each_label_apart l ls (m ∷ ms) h =
    let e = either_false (bytes_eq m l) (among m ls) h.0 in
    let i = each_label_apart l ls ms h.1 in
    ((e.1, i.0), (λ same. not_same m l e.0 (sym same), i.1))

mutual
  -- what stands behind the tokens of an expression is sound where all are
  behind : (e : Syntax) (x : List Token) → Each IsSoundToken (tokens e x) → Each IsSoundToken x
  behind (Const p c) x s = s.1
  behind (Truth p b) x s = s.1
  behind (Var p y) x s = s.1
  behind (Table p v l) x s = s.1.1
  behind (Aggregated a p o e c) x s = (behind e _ s.1.1).1
  behind (Paren p e q) x s = (behind e _ s.1).1
  behind (NoFields p q) x s = s.1.1
  behind (Rec fs q) x s = (behind_fields fs _ s).1
  behind (Bag p e q) x s = (behind e _ s.1).1
  behind (Nil p c t q) x s = (behind_type t _ s.1.1).1
  behind (For p o v y a m c n) x s = behind n x (behind m _ s.1.1.1.1).1
  behind (Where p o t c n) x s = behind n x (behind t _ s.1.1).1
  behind (If p t q y r n) x s = behind n x (behind y _ (behind t _ s.1).1).1
  behind (Fun p o v y c t z a n) x s = behind n x (behind_type t _ s.1.1.1.1).1.1
  behind (Let p v y a m s n) x h = behind n x (behind m _ h.1.1.1).1
  behind (Prefix p u e) x s = behind e x (prefix_sound p u _ s)
  behind (Infix l p op r) x s = behind r x (behind l _ s).1
  behind (Apply f p a q) x s = (behind a _ (behind f _ s).1).1
  behind (Field e p v l) x s = (behind e _ s).1.1

  behind_fields : (fs : Fields) (x : List Token) → Each IsSoundToken (fields_tokens fs x) → Each IsSoundToken x
  behind_fields (One p v l a e) x s = behind e x s.1.1.1
  behind_fields (More fs c v l a e) x s = behind e x (behind_fields fs _ s).1.1.1

mutual
  good : (e : Syntax) (xs : List Name) (x : List Token) → wrongs e xs ≡ [] → Each IsSoundToken (tokens e x) → IsGood (length xs) (term_of e xs)
  good (Const p c) xs x w s = record { proper = constant_proper p c x s; closed = constant_closed (length xs) c }
  good (Truth p b) xs x w s = record { proper = tt; closed = tt }
  good (Var p y) xs x w s = record { proper = tt; closed = bound_below y xs (found (among y xs) p w) }
  good (Table p v l) xs x w s = record { proper = s.1.0; closed = tt }
  good (Aggregated a p o e c) xs x w s = let g = good e xs _ w s.1.1 in record { proper = g.proper; closed = g.closed }
  good (Paren p e q) xs x w s = good e xs _ w s.1
  good (NoFields p q) xs x w s = record { proper = (tt, tt); closed = tt }
  good (Rec fs q) xs x w s =
      let g = good_fields fs xs PlacedFields.none _ w s tt (record { differ = tt; proper = tt; closed = tt }) in
      record { proper = (g.differ, g.proper); closed = g.closed }
  good (Bag p e q) xs x w s = let g = good e xs _ w s.1 in record { proper = g.proper; closed = g.closed }
  good (Nil p c t q) xs x w s = record { proper = (type_proper t _ w s.1.1).0; closed = tt }
  good (For p o v y a m c n) xs x w s =
      let g = good m xs _ (left_none (wrongs m xs) _ w) s.1.1.1.1 in
      let h = good n (y ∷ xs) x (right_none (wrongs m xs) _ w) (behind m _ s.1.1.1.1).1 in
      record { proper = (g.proper, h.proper); closed = (g.closed, one_more (length xs) (term_of n (y ∷ xs)) h.closed) }
  good (Where p o t c n) xs x w s =
      let g = good t xs _ (left_none (wrongs t xs) _ w) s.1.1 in
      let h = good n xs x (right_none (wrongs t xs) _ w) (behind t _ s.1.1).1 in
      record { proper = (g.proper, h.proper); closed = (g.closed, h.closed) }
  good (If p t q y r n) xs x w s =
      let later = right_none (wrongs t xs) _ w in
      let behind_test = (behind t _ s.1).1 in
      let f = good t xs _ (left_none (wrongs t xs) _ w) s.1 in
      let g = good y xs _ (left_none (wrongs y xs) _ later) behind_test in
      let h = good n xs x (right_none (wrongs y xs) _ later) (behind y _ behind_test).1 in
      record { proper = (f.proper, g.proper, h.proper); closed = (f.closed, g.closed, h.closed) }
  good (Fun p o v y c t z a n) xs x w s =
      let k = type_proper t _ (left_none (type_wrongs t) _ w) s.1.1.1.1 in
      let h = good n (y ∷ xs) x (right_none (type_wrongs t) _ w) k.1.1.1 in
      record { proper = (k.0, h.proper); closed = one_more (length xs) (term_of n (y ∷ xs)) h.closed }
  good (Let p v y a m s n) xs x w h =
      let g = good m xs _ (left_none (wrongs m xs) _ w) h.1.1.1 in
      let i = good n (y ∷ xs) x (right_none (wrongs m xs) _ w) (behind m _ h.1.1.1).1 in
      record { proper = (g.proper, i.proper); closed = (g.closed, one_more (length xs) (term_of n (y ∷ xs)) i.closed) }
  good (Prefix p u e) xs x w s = let g = good e xs x w (prefix_sound p u _ s) in record { proper = g.proper; closed = g.closed }
  good (Infix l p op r) xs x w s =
      operator_good (length xs) p op (term_of l xs) (term_of r xs)
      (good l xs _ (left_none (wrongs l xs) _ w) s) (good r xs x (right_none (wrongs l xs) _ w) (behind l _ s).1)
  good (Apply f p a q) xs x w s =
      let g = good f xs _ (left_none (wrongs f xs) _ w) s in
      let h = good a xs _ (right_none (wrongs f xs) _ w) (behind f _ s).1 in
      record { proper = (g.proper, h.proper); closed = (g.closed, h.closed) }
  good (Field e p v l) xs x w s =
      let g = good e xs _ w s in record { proper = (g.proper, (behind e _ s).1.0); closed = g.closed }

  good_fields : (fs : Fields) (xs : List Name) (rest : PlacedFields) (x : List Token) → fields_wrongs fs xs ≡ [] → Each IsSoundToken (fields_tokens fs x) →
      Apart fs rest → AreGood (length xs) rest → AreGood (length xs) (fields_of fs xs rest)
  good_fields (One p v l a e) xs rest x w s apart all =
      let g = good e xs x w s.1.1.1 in
      record {
        differ = ((each_label_apart l [] (field_labels (bare_fields rest)) apart).1, all.differ);
        proper = (s.1.0, g.proper, all.proper);
        closed = (g.closed, all.closed);
      }
  good_fields (More fs c v l a e) xs rest x w s apart all =
      let later = right_none (fields_wrongs fs xs) _ w in
      let twice = new (among l (labels fs)) v (left_none (if_twice (among l (labels fs)) v) _ later) in
      let before = behind_fields fs _ s in
      let g = good e xs x (right_none (if_twice (among l (labels fs)) v) _ later) before.1.1.1 in
      let label = each_label_apart l (labels fs) (field_labels (bare_fields rest)) apart in
      good_fields fs xs (PlacedFields.with_field l (term_of e xs) rest) _ (left_none (fields_wrongs fs xs) _ w) s (twice, label.0) (record {
        differ = (label.1, all.differ);
        proper = (before.1.0, g.proper, all.proper);
        closed = (g.closed, all.closed);
      })

body_sound : (ed : Edition) (h : Header ed) (x : List Token) → Each IsSoundToken (header_tokens ed h x) → Each IsSoundToken x
body_sound First h x s = s
body_sound Second h x s = s.1.1.1

spelled : (d : ℕ) (text : List ℕ) (t : PlacedTerm) (s : Spells d text t) → IsGood 0 t
spelled d text t s =
    let program = s.derived.program in
    let body = program.3 in
    let all = text_sound text s.tokens s.cut.1 in
    let P : List Token → Type 0 = λ z. Each IsSoundToken z in
    let Q : PlacedTerm → Type 0 = λ u. IsGood 0 u in
    let behind = body_sound (edition_of s.tokens) program.0 program.1 (subst P program.2 all) in
    subst Q (sym s.same) (good s.syntax_tree [] (End body.1 ∷ []) s.bound (subst P body.2 behind))

pub spelled_proper : (d : ℕ) (text : List ℕ) (t : PlacedTerm) → Spells d text t → IsProperTerm (bare t)
spelled_proper d text t s = (spelled d text t s).proper

pub spelled_closed : (d : ℕ) (text : List ℕ) (t : PlacedTerm) → Spells d text t → IsClosed (bare t)
spelled_closed d text t s = (spelled d text t s).closed
