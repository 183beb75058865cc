-- The text of a legible term spells it.
use Rattle.std.proofs.Common.{◌≡◌, ℕ, suc, ◌+◌, ◌≤◌, ℤ, Bool, true, false, ◌||◌, cond, max, nat_le, List, [], ◌∷◌, ◌++◌, length, codes, refl, sym, ap, ap₂, ◌∙◌, subst, append_assoc, append-nil, arith}
use Rattle.std.specs.Prelude.{⊤}
use Rattle.std.specs.Fmt.{decimal, digits, signed_decimal}
use Rattle.std.specs.Str.{IsUtf8}
use Rattle.std.proofs.lemmas.Bool.Decides.{nat_tests}
use Rattle.nq_model.specs.Canonical.{doubled_quotes}
use Rattle.nq_model.specs.NamedRows.{Label}
use Rattle.nq_model.specs.Orders.{by_label}
use Rattle.nq_model.specs.Proper.{IsQueryWord, labels_of}
use Rattle.nq_model.specs.QueryGrammar.{Edition, First, Second, TypeSyntax, TBase, TBag, TNoFields, TRec, TypeFields, TOne, TMore, Syntax, Const, Truth, Var, Table, Aggregated, Paren, NoFields, Rec, Bag, Nil, For, Where, If, Prefix, Infix, Field, Fields, One, More, type_tokens, type_fields_tokens, tokens, fields_tokens, TypeFits, TypeFieldsFit, IsName, IsAggregate, kind, aggregate_word, Fits, FieldsFit, IsProgram, depth, deepest, level as operator_level, left_level as operator_left}
use Rattle.nq_model.specs.QueryScope.{Name, among, term_of, fields_of, type_of, typed_fields, type_labels, labels, Wrong, wrongs, fields_wrongs, type_wrongs, type_fields_wrongs, if_twice, if_unbound}
use Rattle.nq_model.specs.QueryTexts.{edition_of, Spells}
use Rattle.nq_model.specs.QueryTokens.{Token, Word, Value, Oper, Sign, End, Union, Of, Number, Literal, Closing, Comma, Colon, Semicolon, Assign}
use Rattle.nq_model.specs.Terms.{Aggregate, Emptiness, Count, Sum, TermTree, TermFields, PlacedTerm, PlacedFields, bare, bare_fields}
use Rattle.nq_model.specs.Types.{TypeTree, FieldTypes, field_types_of}
use Rattle.nq_model.specs.declared.table.Cell.TheVariants as cell
use Rattle.nq_model.specs.declared.table.ColumnType.TheVariants as column
use Rattle.nq_model.specs.declared.term.Binary.{Binary}
use Rattle.nq_model.specs.declared.term.Binary.TheVariants.{Add, Sub, Mul, Eq, Ne, Lt, Le, Gt, Ge, And, Or}
use Rattle.nq_model.specs.declared.term.Unary.TheVariants.{Minus, Not}
use Rattle.nq_ir.specs.WellFormed.{IsLiteral}
use Rattle.nq_ir.specs.Printed.{NamedTerm, var, constant, unary, binary, choose, table, rec, field, single, nil, union, for, guard, aggregate, NamedFields, no_field, with_field, bound, bound_fields, level, level_of, left_level, word_of, name_text, text_of, has_total, have_total}
use Rattle.nq_model.proofs.QueryHeaders.{keeps_first, program_of}
use Rattle.query_syntax.proofs.Lengths.{depth_tokens}
use Rattle.query_syntax.proofs.Reading.{Reads, Parts, Operand, operator_bytes, read_end, read_all, read_token, read_space, read_open, read_close, read_open_bag, read_close_bag, read_comma, read_colon, read_dot, read_assign, read_from, read_union, read_operator, read_minus, read_not, read_word, read_number, read_literal, number_operand, numbered_word, undoubled_doubled}
use Rattle.normal_printer.proofs.Laid.{fence, type_then, types_then, text_then, fields_then, text_laid}
use Rattle.normal_printer.proofs.Legible.{Apart, AreSmall, Legible, LegibleFields, LegibleType, LegibleTypes, bound_name, bound_place, field_list, listed_fields, named_labels, names, rising_apart, rising_sorted}

-- a type is read as a syntax tree, from a place on; and then come more bytes
record TypeSpelling (a : TypeTree) (place : ℕ) (bytes rest : List ℕ) : Type 0 where
  tree : TypeSyntax
  behind : ℕ
  fits : TypeFits true tree
  same : type_of tree ≡ a
  right : type_wrongs tree ≡ []
  reads : (ts : List Token) → Reads behind rest ts → Reads place bytes (type_tokens tree ts)

-- fields of a type behind those that were read, and the `)`
record TypeFieldsSpelling (start : TypeFields) (fs : FieldTypes) (place : ℕ) (bytes rest : List ℕ) : Type 0 where
  tree : TypeFields
  close : ℕ
  fits : TypeFieldsFit tree
  same : typed_fields tree [] ≡ typed_fields start (field_list fs)
  right : type_fields_wrongs tree ≡ []
  tail : List Token → List Token
  split : (ts : List Token) → type_fields_tokens tree ts ≡ type_fields_tokens start (tail ts)
  reads : (ts : List Token) → Reads (close + 1) rest ts → Reads place bytes (tail (Sign close Closing ∷ ts))

both_none : (xs ys : List Wrong) → xs ≡ [] → ys ≡ [] → xs ++ ys ≡ []
both_none xs ys e f = ap (λ (l : List Wrong). l ++ ys) e ∙ f

none_twice : (b : Bool) (v : ℕ) (xs ys : List Wrong) → xs ≡ [] → b ≡ false → ys ≡ [] → xs ++ (if_twice b v ++ ys) ≡ []
none_twice b v xs ys e f g = both_none xs (if_twice b v ++ ys) e (ap (λ t. if_twice t v ++ ys) f ∙ g)

int_word : IsQueryWord (codes "int")
int_word = record { word = (refl, (refl, (refl, tt))); short = omega arith }

bool_word : IsQueryWord (codes "bool")
bool_word = record { word = (refl, (refl, (refl, (refl, tt)))); short = omega arith }

text_word : IsQueryWord (codes "text")
text_word = record { word = (refl, (refl, (refl, (refl, tt)))); short = omega arith }

types_parts : (fs : FieldTypes) (x : List ℕ) → Parts (types_then fs x)
types_parts FieldTypes.none x = (refl, refl, refl)
types_parts (FieldTypes.field l a fs) x = (refl, refl, refl)

mutual
  type_spelled : (a : TypeTree) (place : ℕ) (rest : List ℕ) → LegibleType a → Parts rest → TypeSpelling a place (type_then a rest) rest
  type_spelled TypeTree.int place rest h parts =
      record { tree = TBase place column.Int; behind = place + 3; fits = tt; same = refl; right = refl; reads = λ ts r. read_word place (codes "int") rest ts int_word parts r }
  type_spelled TypeTree.bool place rest h parts =
      record { tree = TBase place column.Bool; behind = place + 4; fits = tt; same = refl; right = refl; reads = λ ts r. read_word place (codes "bool") rest ts bool_word parts r }
  type_spelled TypeTree.text place rest h parts =
      record { tree = TBase place column.Text; behind = place + 4; fits = tt; same = refl; right = refl; reads = λ ts r. read_word place (codes "text") rest ts text_word parts r }
  type_spelled (TypeTree.rec FieldTypes.none) place rest h parts =
      record { tree = TNoFields place (place + 1); behind = place + 1 + 1; fits = tt; same = refl; right = refl; reads = λ ts r. read_open place _ _ (read_close (place + 1) _ _ r) }
  type_spelled (TypeTree.rec (FieldTypes.field l a fs)) place rest h parts =
      let v = place + 1 in
      let c = v + length l in
      let m = type_spelled a (c + 1 + 1) (types_then fs rest) h.1.1 (types_parts fs rest) in
      let start = TOne place v l c m.tree in
      let n = types_spelled fs start m.behind rest h.1.2 (rising_apart (labels_of fs) (l ∷ []) (h.0.0, tt) h.0.1) m.fits m.right in
      record {
        tree = TRec n.tree n.close;
        behind = n.close + 1;
        fits = n.fits;
        same = in_order (typed_fields n.tree []) (n.same ∙ ap (λ (t : TypeTree). (l, t) ∷ field_list fs) m.same);
        right = n.right;
        reads = λ ts r.
            subst (λ (z : List Token). Reads place (40 ∷ (l ++ 58 ∷ 32 ∷ type_then a (types_then fs rest))) z) (sym (n.split (Sign n.close Closing ∷ ts)))
            (read_open place _ _ (read_word v l _ _ h.1.0 (refl, refl, refl) (read_colon c _ _ (read_space (c + 1) _ _ (m.reads _ (n.reads ts r))))));
      }
    where
      in_order : (xs : List (Name × TypeTree)) → xs ≡ field_list (FieldTypes.field l a fs) → TypeTree.rec (field_types_of (by_label xs)) ≡ TypeTree.rec (FieldTypes.field l a fs)
      in_order xs e =
          ap (λ (z : List (Name × TypeTree)). TypeTree.rec (field_types_of (by_label z))) e
          ∙ ap (λ (z : List (Name × TypeTree)). TypeTree.rec (field_types_of z)) (rising_sorted (FieldTypes.field l a fs) h.0)
          ∙ ap TypeTree.rec (listed_fields (FieldTypes.field l a fs))
  type_spelled (TypeTree.bag a) place rest h parts =
      let m = type_spelled a (place + 1) (93 ∷ rest) h (refl, refl, refl) in
      record {
        tree = TBag place m.tree m.behind;
        behind = m.behind + 1;
        fits = m.fits;
        same = ap TypeTree.bag m.same;
        right = m.right;
        reads = λ ts r. read_open_bag place _ _ (m.reads _ (read_close_bag m.behind _ _ r));
      }
  type_spelled (TypeTree.fun a b) place rest h parts = absurd h

  types_spelled : (fs : FieldTypes) (start : TypeFields) (place : ℕ) (rest : List ℕ) → LegibleTypes fs → Apart (type_labels start) (labels_of fs) → TypeFieldsFit start → type_fields_wrongs start ≡ []
      → TypeFieldsSpelling start fs place (types_then fs rest) rest
  types_spelled FieldTypes.none start place rest h apart fit right =
      record { tree = start; close = place; fits = fit; same = refl; right = right; tail = λ ts. ts; split = λ ts. refl; reads = λ ts r. read_close place _ _ r }
  types_spelled (FieldTypes.field l a fs) start place rest h apart fit right =
      let v = place + 1 + 1 in
      let c = v + length l in
      let m = type_spelled a (c + 1 + 1) (types_then fs rest) h.1 (types_parts fs rest) in
      let one = TMore start place v l c m.tree in
      let n = types_spelled fs one m.behind rest h.2 apart.1 (fit, m.fits) (none_twice (among l (type_labels start)) v (type_fields_wrongs start) (type_wrongs m.tree) right apart.0 m.right) in
      record {
        tree = n.tree;
        close = n.close;
        fits = n.fits;
        same = n.same ∙ ap (λ (t : TypeTree). typed_fields start ((l, t) ∷ field_list fs)) m.same;
        right = n.right;
        tail = λ ts. Sign place Comma ∷ Word v l ∷ Sign c Colon ∷ type_tokens m.tree (n.tail ts);
        split = n.split;
        reads = λ ts r. read_comma place _ _ (read_space (place + 1) _ _ (read_word v l _ _ h.0 (refl, refl, refl) (read_colon c _ _ (read_space (c + 1) _ _ (m.reads _ (n.reads ts r))))));
      }

-- a term is read as a syntax tree that fits
record Spelling (Fit : Syntax → Type 0) (m : NamedTerm) (sc : List ℕ) (place : ℕ) (bytes rest : List ℕ) : Type 0 where
  tree : Syntax
  behind : ℕ
  fits : Fit tree
  same : bare (term_of tree (names sc)) ≡ bound sc m
  right : wrongs tree (names sc) ≡ []
  reads : (ts : List Token) → Reads behind rest ts → Reads place bytes (tokens tree ts)

-- counts and sums stand in the second edition alone
abbrev Allows : Edition → Bool → Type 0
Allows First b = b ≡ false
Allows Second b = ⊤

allows_left : (ed : Edition) (a b : Bool) → Allows ed (a || b) → Allows ed a
allows_left First true b h = h
allows_left First false b h = refl
allows_left Second a b h = tt

allows_right : (ed : Edition) (a b : Bool) → Allows ed (a || b) → Allows ed b
allows_right First true b h = absurd (cc)
allows_right First false b h = h
allows_right Second a b h = tt

-- it fits in each edition that allows the term, where this level is asked for
abbrev FitsAt : ℕ → NamedTerm → Syntax → Type 0
FitsAt n m s = (ed : Edition) → Allows ed (has_total m) → Fits ed n s

-- it may stand where no stronger level than its own is asked for
abbrev Stands : NamedTerm → Syntax → Type 0
Stands m s = (n : ℕ) → n ≤ level m → FitsAt n m s

-- fields behind those that were read, and the `)`
record FieldsSpelling (start : Fields) (fs : NamedFields) (sc : List ℕ) (place : ℕ) (bytes rest : List ℕ) : Type 0 where
  tree : Fields
  close : ℕ
  fits : (ed : Edition) → Allows ed (have_total fs) → FieldsFit ed start → FieldsFit ed tree
  more : PlacedFields
  same : fields_of tree (names sc) PlacedFields.none ≡ fields_of start (names sc) more
  is : bare_fields more ≡ bound_fields sc fs
  right : fields_wrongs tree (names sc) ≡ []
  tail : List Token → List Token
  split : (ts : List Token) → fields_tokens tree ts ≡ fields_tokens start (tail ts)
  reads : (ts : List Token) → Reads (close + 1) rest ts → Reads place bytes (tail (Sign close Closing ∷ ts))

level_some : (m : NamedTerm) → 1 ≤ level m
level_some (var k) = omega arith
level_some (constant c) = omega arith
level_some (unary o a) = omega arith
level_some (binary Add a b) = omega arith
level_some (binary Sub a b) = omega arith
level_some (binary Mul a b) = omega arith
level_some (binary Eq a b) = omega arith
level_some (binary Ne a b) = omega arith
level_some (binary Lt a b) = omega arith
level_some (binary Le a b) = omega arith
level_some (binary Gt a b) = omega arith
level_some (binary Ge a b) = omega arith
level_some (binary And a b) = omega arith
level_some (binary Or a b) = omega arith
level_some (choose t a b) = omega arith
level_some (table t) = omega arith
level_some (rec fs) = omega arith
level_some (field a l) = omega arith
level_some (single a) = omega arith
level_some (nil a) = omega arith
level_some (union a b) = omega arith
level_some (for k a b) = omega arith
level_some (guard t a) = omega arith
level_some (aggregate g a) = omega arith

-- a part where a level is asked for
part_spelled : (asked : ℕ) (m : NamedTerm) (sc : List ℕ) (place : ℕ) (rest : List ℕ) → Parts rest
    → ((p : ℕ) (r : List ℕ) → Parts r → Spelling (Stands m) m sc p (text_then m r) r)
    → Spelling (FitsAt asked m) m sc place (fence (nat_le asked (level m)) (λ y. text_then m y) rest) rest
part_spelled asked m sc place rest parts spelled = go (nat_le asked (level m)) refl
  where
    go : (b : Bool) → nat_le asked (level m) ≡ b → Spelling (FitsAt asked m) m sc place (fence b (λ y. text_then m y) rest) rest
    go true e =
        let s = spelled place rest parts in
        record { tree = s.tree; behind = s.behind; fits = s.fits asked (let h : asked ≤ level m = grind (arith, nat_tests, e) in h); same = s.same; right = s.right; reads = s.reads }
    go false e =
        let s = spelled (place + 1) (41 ∷ rest) (refl, refl, refl) in
        record {
          tree = Paren place s.tree s.behind;
          behind = s.behind + 1;
          fits = s.fits 1 (level_some m);
          same = s.same;
          right = s.right;
          reads = λ ts r. read_open place _ _ (s.reads _ (read_close s.behind _ _ r));
        }

fence_operand : (b : Bool) (f : List ℕ → List ℕ) (x : List ℕ) → ((y : List ℕ) → Operand (f y)) → Operand (fence b f x)
fence_operand true f x h = h x
fence_operand false f x h = (refl, refl)

number_there : (n : ℤ) (x : List ℕ) → IsLiteral (cell.Int n) → Operand (signed_decimal n ++ x)
number_there n x h = subst (λ z. Operand (signed_decimal z ++ x)) (sym h.value) (number_operand h.digits x h.small)

-- what may stand behind `-` and `!`
operand : (m : NamedTerm) (sc : List ℕ) (x : List ℕ) → Legible sc m → Operand (text_then m x)
operand (var k) sc x h = (refl, refl)
operand (constant (cell.Int n)) sc x h = number_there n x h
operand (constant (cell.Bool true)) sc x h = (refl, refl)
operand (constant (cell.Bool false)) sc x h = (refl, refl)
operand (constant (cell.Text t)) sc x h = (refl, refl)
operand (unary Minus a) sc x h = (refl, refl)
operand (unary Not a) sc x h = (refl, refl)
operand (binary o a b) sc x h = fence_operand (nat_le (left_level o) (level a)) (λ y. text_then a y) _ (λ y. operand a sc y h.0)
operand (choose t a b) sc x h = (refl, refl)
operand (table t) sc x h = (refl, refl)
operand (rec no_field) sc x h = (refl, refl)
operand (rec (with_field l a fs)) sc x h = (refl, refl)
operand (field a l) sc x h = fence_operand (nat_le 9 (level a)) (λ y. text_then a y) _ (λ y. operand a sc y h.0)
operand (single a) sc x h = (refl, refl)
operand (nil a) sc x h = (refl, refl)
operand (union a b) sc x h = fence_operand (nat_le 2 (level a)) (λ y. text_then a y) _ (λ y. operand a sc y h.0)
operand (for k a b) sc x h = (refl, refl)
operand (guard t a) sc x h = (refl, refl)
operand (aggregate Emptiness a) sc x h = (refl, refl)
operand (aggregate Count a) sc x h = (refl, refl)
operand (aggregate Sum a) sc x h = (refl, refl)

word_parts : (o : Binary) (x : List ℕ) → Parts (word_of o ++ x)
word_parts Add x = (refl, refl, refl)
word_parts Sub x = (refl, refl, refl)
word_parts Mul x = (refl, refl, refl)
word_parts Eq x = (refl, refl, refl)
word_parts Ne x = (refl, refl, refl)
word_parts Lt x = (refl, refl, refl)
word_parts Le x = (refl, refl, refl)
word_parts Gt x = (refl, refl, refl)
word_parts Ge x = (refl, refl, refl)
word_parts And x = (refl, refl, refl)
word_parts Or x = (refl, refl, refl)

fields_parts : (fs : NamedFields) (x : List ℕ) → Parts (fields_then fs x)
fields_parts no_field x = (refl, refl, refl)
fields_parts (with_field l a fs) x = (refl, refl, refl)

-- an operator between spaces
read_spaced : (o : Binary) (place : ℕ) (rest : List ℕ) (ts : List Token) → Reads (place + 1 + length (operator_bytes o) + 1) rest ts → Reads place (word_of o ++ rest) (Oper (place + 1) (Of o) ∷ ts)
read_spaced Add place rest ts r = read_space place _ _ (read_operator Add (place + 1) rest ts (read_space (place + 1 + 1) _ _ r))
read_spaced Sub place rest ts r = read_space place _ _ (read_operator Sub (place + 1) rest ts (read_space (place + 1 + 1) _ _ r))
read_spaced Mul place rest ts r = read_space place _ _ (read_operator Mul (place + 1) rest ts (read_space (place + 1 + 1) _ _ r))
read_spaced Eq place rest ts r = read_space place _ _ (read_operator Eq (place + 1) rest ts (read_space (place + 1 + 2) _ _ r))
read_spaced Ne place rest ts r = read_space place _ _ (read_operator Ne (place + 1) rest ts (read_space (place + 1 + 2) _ _ r))
read_spaced Lt place rest ts r = read_space place _ _ (read_operator Lt (place + 1) rest ts (read_space (place + 1 + 1) _ _ r))
read_spaced Le place rest ts r = read_space place _ _ (read_operator Le (place + 1) rest ts (read_space (place + 1 + 2) _ _ r))
read_spaced Gt place rest ts r = read_space place _ _ (read_operator Gt (place + 1) rest ts (read_space (place + 1 + 1) _ _ r))
read_spaced Ge place rest ts r = read_space place _ _ (read_operator Ge (place + 1) rest ts (read_space (place + 1 + 2) _ _ r))
read_spaced And place rest ts r = read_space place _ _ (read_operator And (place + 1) rest ts (read_space (place + 1 + 2) _ _ r))
read_spaced Or place rest ts r = read_space place _ _ (read_operator Or (place + 1) rest ts (read_space (place + 1 + 2) _ _ r))

-- the printed levels are those of the grammar
same_levels : (o : Binary) → (level_of o ≡ operator_level (Of o)) × (left_level o ≡ operator_left (Of o))
same_levels Add = (refl, refl)
same_levels Sub = (refl, refl)
same_levels Mul = (refl, refl)
same_levels Eq = (refl, refl)
same_levels Ne = (refl, refl)
same_levels Lt = (refl, refl)
same_levels Le = (refl, refl)
same_levels Gt = (refl, refl)
same_levels Ge = (refl, refl)
same_levels And = (refl, refl)
same_levels Or = (refl, refl)

infix_fits : (ed : Edition) (o : Binary) (s t : Syntax) (p n : ℕ) → n ≤ level_of o → Fits ed (left_level o) s → Fits ed (suc (level_of o)) t → Fits ed n (Infix s p (Of o) t)
infix_fits ed o s t p n h f g =
    let e = same_levels o in
    (subst (λ k. n ≤ k) e.0 h, subst (λ k. Fits ed k s) e.1 f, subst (λ k. Fits ed (suc k) t) e.0 g)

-- names of generators are variables in both editions
name_kind : (ed : Edition) (k : ℕ) → kind ed (name_text k) ≡ IsName
name_kind First k = refl
name_kind Second k = refl

-- what is asked of a bag is spelled by a word of the edition, and its part is allowed
asked_kind : (ed : Edition) (g : Aggregate) (a : NamedTerm) → Allows ed (has_total (aggregate g a)) → kind ed (aggregate_word g) ≡ IsAggregate g
asked_kind First Emptiness a h = refl
asked_kind First Count a h = absurd (cc)
asked_kind First Sum a h = absurd (cc)
asked_kind Second Emptiness a h = refl
asked_kind Second Count a h = refl
asked_kind Second Sum a h = refl

asked_part : (ed : Edition) (g : Aggregate) (a : NamedTerm) → Allows ed (has_total (aggregate g a)) → Allows ed (has_total a)
asked_part First Emptiness a h = h
asked_part First Count a h = absurd (cc)
asked_part First Sum a h = absurd (cc)
asked_part Second g a h = tt

keyword : (w : List ℕ) → IsQueryWord w → (place : ℕ) (rest : List ℕ) (ts : List Token) → Reads (place + length w + 1) rest ts → Reads place (w ++ 32 ∷ rest) (Word place w ∷ ts)
keyword w is place rest ts r = read_word place w (32 ∷ rest) ts is (refl, refl, refl) (read_space (place + length w) rest ts r)

for_word : IsQueryWord (codes "for")
for_word = record { word = (refl, (refl, (refl, tt))); short = omega arith }

where_word : IsQueryWord (codes "where")
where_word = record { word = (refl, (refl, (refl, (refl, (refl, tt))))); short = omega arith }

if_word : IsQueryWord (codes "if")
if_word = record { word = (refl, (refl, tt)); short = omega arith }

then_word : IsQueryWord (codes "then")
then_word = record { word = (refl, (refl, (refl, (refl, tt)))); short = omega arith }

else_word : IsQueryWord (codes "else")
else_word = record { word = (refl, (refl, (refl, (refl, tt)))); short = omega arith }

table_word : IsQueryWord (codes "table")
table_word = record { word = (refl, (refl, (refl, (refl, (refl, tt))))); short = omega arith }

asked_word : (g : Aggregate) → IsQueryWord (aggregate_word g)
asked_word Emptiness = record { word = (refl, (refl, (refl, (refl, (refl, tt))))); short = omega arith }
asked_word Count = record { word = (refl, (refl, (refl, (refl, (refl, tt))))); short = omega arith }
asked_word Sum = record { word = (refl, (refl, (refl, tt))); short = omega arith }

header_word : IsQueryWord (codes "nq")
header_word = record { word = (refl, (refl, tt)); short = omega arith }

true_word : IsQueryWord (codes "true")
true_word = record { word = (refl, (refl, (refl, (refl, tt)))); short = omega arith }

false_word : IsQueryWord (codes "false")
false_word = record { word = (refl, (refl, (refl, (refl, (refl, tt))))); short = omega arith }

unbound_none : (b : Bool) (p : ℕ) → b ≡ true → if_unbound b p ≡ []
unbound_none b p e = ap (λ t. if_unbound t p) e

three_same : (x y z u v w : TermTree) → x ≡ u → y ≡ v → z ≡ w → TermTree.choose x y z ≡ TermTree.choose u v w
three_same x y z u v w e f g = cc

fields_same : (l : Label) (x y : TermTree) (fs gs : TermFields) → x ≡ y → fs ≡ gs → TermFields.with_field l x fs ≡ TermFields.with_field l y gs
fields_same l x y fs gs e f = cc

number_spelled : (n : ℤ) (sc : List ℕ) (place : ℕ) (rest : List ℕ) → IsLiteral (cell.Int n) → Parts rest → Spelling (Stands (constant (cell.Int n))) (constant (cell.Int n)) sc place (signed_decimal n ++ rest) rest
number_spelled n sc place rest h parts =
    subst (λ z. Spelling (Stands (constant (cell.Int z))) (constant (cell.Int z)) sc place (signed_decimal z ++ rest) rest) (sym h.value)
    (record {
      tree = Const place (Number h.digits (length (decimal h.digits)));
      behind = place + length (decimal h.digits);
      fits = λ n k ed t. tt;
      same = refl;
      right = refl;
      reads = λ ts r. read_number place h.digits rest ts h.small parts r;
    })

mutual
  spelled : (m : NamedTerm) (sc : List ℕ) (place : ℕ) (rest : List ℕ) → AreSmall sc → Legible sc m → Parts rest → Spelling (Stands m) m sc place (text_then m rest) rest
  spelled (var k) sc place rest small h parts =
      let b = bound_name sc k small h in
      record {
        tree = Var place (name_text k);
        behind = place + suc (length (decimal k));
        fits = λ n e ed t. name_kind ed k;
        same = ap TermTree.var (bound_place sc k small h);
        right = unbound_none (among (name_text k) (names sc)) place b.0;
        reads = λ ts r. read_word place (name_text k) rest ts (numbered_word k b.1) parts r;
      }
  spelled (constant (cell.Int n)) sc place rest small h parts = number_spelled n sc place rest h parts
  spelled (constant (cell.Bool true)) sc place rest small h parts =
      record { tree = Truth place true; behind = place + 4; fits = λ n e ed t. tt; same = refl; right = refl; reads = λ ts r. read_word place (codes "true") rest ts true_word parts r }
  spelled (constant (cell.Bool false)) sc place rest small h parts =
      record { tree = Truth place false; behind = place + 5; fits = λ n e ed t. tt; same = refl; right = refl; reads = λ ts r. read_word place (codes "false") rest ts false_word parts r }
  spelled (constant (cell.Text t)) sc place rest small h parts =
      record {
        tree = Const place (Literal (doubled_quotes t));
        behind = place + suc (suc (length (doubled_quotes t)));
        fits = λ n e ed t. tt;
        same = ap TermTree.text (undoubled_doubled t);
        right = refl;
        reads = λ ts r. literal_there ts (read_literal place t rest ts parts r);
      }
    where
      literal_there : (ts : List Token) → Reads place (39 ∷ (doubled_quotes t ++ 39 ∷ rest)) (tokens (Const place (Literal (doubled_quotes t))) ts) → Reads place (text_then (constant (cell.Text t)) rest) (tokens (Const place (Literal (doubled_quotes t))) ts)
      literal_there ts r = subst (λ (l : List ℕ). Reads place (39 ∷ l) (tokens (Const place (Literal (doubled_quotes t))) ts)) (sym (append_assoc (doubled_quotes t) (codes "'") rest)) r
  spelled (unary Minus a) sc place rest small h parts =
      let s = part_spelled 8 a sc (place + 1) rest parts (λ p r k. spelled a sc p r small h k) in
      record {
        tree = Prefix place Minus s.tree;
        behind = s.behind;
        fits = λ n e ed t. (e, s.fits ed t);
        same = ap (TermTree.unary Minus) s.same;
        right = s.right;
        reads = λ ts r. read_minus place _ _ (fence_operand (nat_le 8 (level a)) (λ y. text_then a y) rest (λ y. operand a sc y h)) (s.reads _ r);
      }
  spelled (unary Not a) sc place rest small h parts =
      let s = part_spelled 8 a sc (place + 1) rest parts (λ p r k. spelled a sc p r small h k) in
      record {
        tree = Prefix place Not s.tree;
        behind = s.behind;
        fits = λ n e ed t. (e, s.fits ed t);
        same = ap (TermTree.unary Not) s.same;
        right = s.right;
        reads = λ ts r. read_not place _ _ (fence_operand (nat_le 8 (level a)) (λ y. text_then a y) rest (λ y. operand a sc y h)) (s.reads _ r);
      }
  spelled (binary o a b) sc place rest small h parts =
      let x = fence (nat_le (suc (level_of o)) (level b)) (λ y. text_then b y) rest in
      let s = part_spelled (left_level o) a sc place (word_of o ++ x) (word_parts o x) (λ p r k. spelled a sc p r small h.0 k) in
      let t = part_spelled (suc (level_of o)) b sc (s.behind + 1 + length (operator_bytes o) + 1) rest parts (λ p r k. spelled b sc p r small h.1 k) in
      record {
        tree = Infix s.tree (s.behind + 1) (Of o) t.tree;
        behind = t.behind;
        fits = λ n e ed u. infix_fits ed o s.tree t.tree (s.behind + 1) n e (s.fits ed (allows_left ed (has_total a) (has_total b) u)) (t.fits ed (allows_right ed (has_total a) (has_total b) u));
        same = ap₂ (TermTree.binary o) s.same t.same;
        right = both_none (wrongs s.tree (names sc)) (wrongs t.tree (names sc)) s.right t.right;
        reads = λ ts r. s.reads _ (read_spaced o s.behind x _ (t.reads _ r));
      }
  spelled (choose c a b) sc place rest small h parts =
      let s = spelled c sc (place + 2 + 1) (codes " then " ++ text_then a (codes " else " ++ text_then b rest)) small h.0 (refl, refl, refl) in
      let q = s.behind + 1 in
      let t = spelled a sc (q + 4 + 1) (codes " else " ++ text_then b rest) small h.1 (refl, refl, refl) in
      let z = t.behind + 1 in
      let u = spelled b sc (z + 4 + 1) rest small h.2 parts in
      record {
        tree = If place s.tree q t.tree z u.tree;
        behind = u.behind;
        fits = λ n e ed v. let w = allows_right ed (has_total c) (has_total a || has_total b) v in (
          e,
          s.fits 1 (level_some c) ed (allows_left ed (has_total c) (has_total a || has_total b) v),
          t.fits 1 (level_some a) ed (allows_left ed (has_total a) (has_total b) w),
          u.fits 1 (level_some b) ed (allows_right ed (has_total a) (has_total b) w),
        );
        same = three_same _ _ _ _ _ _ s.same t.same u.same;
        right = both_none (wrongs s.tree (names sc)) (wrongs t.tree (names sc) ++ wrongs u.tree (names sc)) s.right (both_none (wrongs t.tree (names sc)) (wrongs u.tree (names sc)) t.right u.right);
        reads = λ ts r.
            keyword (codes "if") if_word place _ _ (s.reads _ (read_space s.behind _ _ (keyword (codes "then") then_word q _ _ (t.reads _ (read_space t.behind _ _ (keyword (codes "else") else_word z _ _ (u.reads _ r)))))));
      }
  spelled (table t) sc place rest small h parts =
      record {
        tree = Table place (place + 5 + 1) t;
        behind = place + 5 + 1 + length t;
        fits = λ n e ed u. tt;
        same = refl;
        right = refl;
        reads = λ ts r. keyword (codes "table") table_word place _ _ (read_word (place + 5 + 1) t rest ts h parts r);
      }
  spelled (rec no_field) sc place rest small h parts =
      record { tree = NoFields place (place + 1); behind = place + 1 + 1; fits = λ n e ed t. tt; same = refl; right = refl; reads = λ ts r. read_open place _ _ (read_close (place + 1) _ _ r) }
  spelled (rec (with_field l a fs)) sc place rest small h parts =
      let v = place + 1 in
      let c = v + length l + 1 in
      let s = spelled a sc (c + 1 + 1) (fields_then fs rest) small h.1.1 (fields_parts fs rest) in
      let start = One place v l c s.tree in
      let n = fields_spelled fs start sc s.behind rest small h.1.2 h.0.1 s.right in
      record {
        tree = Rec n.tree n.close;
        behind = n.close + 1;
        fits = λ k e ed t. n.fits ed (allows_right ed (has_total a) (have_total fs) t) (s.fits 1 (level_some a) ed (allows_left ed (has_total a) (have_total fs) t));
        same = ap (λ (fs : PlacedFields). TermTree.rec (bare_fields fs)) n.same ∙ ap TermTree.rec (fields_same l _ _ _ _ s.same n.is);
        right = n.right;
        reads = λ ts r.
            subst (λ (z : List Token). Reads place (40 ∷ (l ++ 32 ∷ 61 ∷ 32 ∷ text_then a (fields_then fs rest))) z) (sym (n.split (Sign n.close Closing ∷ ts)))
            (read_open place _ _ (read_word v l _ _ h.1.0 (refl, refl, refl) (read_space (v + length l) _ _ (read_assign c _ _ (read_space (c + 1) _ _ (s.reads _ (n.reads ts r)))))));
      }
  spelled (field a l) sc place rest small h parts =
      let s = part_spelled 9 a sc place (46 ∷ (l ++ rest)) (refl, refl, refl) (λ p r k. spelled a sc p r small h.0 k) in
      record {
        tree = Field s.tree s.behind (s.behind + 1) l;
        behind = s.behind + 1 + length l;
        fits = λ n e ed t. (e, s.fits ed t);
        same = ap (λ t. TermTree.field t l) s.same;
        right = s.right;
        reads = λ ts r. s.reads _ (read_dot s.behind _ _ (read_word (s.behind + 1) l rest ts h.1 parts r));
      }
  spelled (single a) sc place rest small h parts =
      let s = spelled a sc (place + 1) (93 ∷ rest) small h (refl, refl, refl) in
      record {
        tree = Bag place s.tree s.behind;
        behind = s.behind + 1;
        fits = λ n e ed t. s.fits 1 (level_some a) ed t;
        same = ap TermTree.single s.same;
        right = s.right;
        reads = λ ts r. read_open_bag place _ _ (s.reads _ (read_close_bag s.behind _ _ r));
      }
  spelled (nil a) sc place rest small h parts =
      let s = type_spelled a (place + 1 + 1 + 1) (93 ∷ rest) h (refl, refl, refl) in
      record {
        tree = Nil place (place + 1) s.tree s.behind;
        behind = s.behind + 1;
        fits = λ n e ed t. s.fits;
        same = ap TermTree.nil s.same;
        right = s.right;
        reads = λ ts r. read_open_bag place _ _ (read_colon (place + 1) _ _ (read_space (place + 1 + 1) _ _ (s.reads _ (read_close_bag s.behind _ _ r))));
      }
  spelled (union a b) sc place rest small h parts =
      let x = fence (nat_le 3 (level b)) (λ y. text_then b y) rest in
      let s = part_spelled 2 a sc place (codes " ++ " ++ x) (refl, refl, refl) (λ p r k. spelled a sc p r small h.0 k) in
      let t = part_spelled 3 b sc (s.behind + 1 + 2 + 1) rest parts (λ p r k. spelled b sc p r small h.1 k) in
      record {
        tree = Infix s.tree (s.behind + 1) Union t.tree;
        behind = t.behind;
        fits = λ n e ed u. (e, s.fits ed (allows_left ed (has_total a) (has_total b) u), t.fits ed (allows_right ed (has_total a) (has_total b) u));
        same = ap₂ TermTree.union s.same t.same;
        right = both_none (wrongs s.tree (names sc)) (wrongs t.tree (names sc)) s.right t.right;
        reads = λ ts r. s.reads _ (read_space s.behind _ _ (read_union (s.behind + 1) _ _ (read_space (s.behind + 1 + 2) _ _ (t.reads _ r))));
      }
  spelled (for k a b) sc place rest small h parts =
      let o = place + 3 + 1 in
      let v = o + 1 in
      let f = v + suc (length (decimal k)) + 1 in
      let s = spelled a sc (f + 2 + 1) (41 ∷ 32 ∷ text_then b rest) small h.1 (refl, refl, refl) in
      let t = spelled b (k ∷ sc) (s.behind + 1 + 1) rest (h.0, small) h.2 parts in
      record {
        tree = For place o v (name_text k) f s.tree s.behind t.tree;
        behind = t.behind;
        fits = λ n e ed u. (e, name_kind ed k, s.fits 1 (level_some a) ed (allows_left ed (has_total a) (has_total b) u), t.fits 1 (level_some b) ed (allows_right ed (has_total a) (has_total b) u));
        same = ap₂ TermTree.for s.same t.same;
        right = both_none (wrongs s.tree (names sc)) (wrongs t.tree (names (k ∷ sc))) s.right t.right;
        reads = λ ts r.
            keyword (codes "for") for_word place _ _ (read_open o _ _ (read_word v (name_text k) _ _ (numbered_word k h.0) (refl, refl, refl) (read_space (v + suc (length (decimal k))) _ _
            (read_from f _ _ (read_space (f + 2) _ _ (s.reads _ (read_close s.behind _ _ (read_space (s.behind + 1) _ _ (t.reads _ r)))))))));
      }
  spelled (guard c a) sc place rest small h parts =
      let o = place + 5 + 1 in
      let s = spelled c sc (o + 1) (41 ∷ 32 ∷ text_then a rest) small h.0 (refl, refl, refl) in
      let t = spelled a sc (s.behind + 1 + 1) rest small h.1 parts in
      record {
        tree = Where place o s.tree s.behind t.tree;
        behind = t.behind;
        fits = λ n e ed u. (e, s.fits 1 (level_some c) ed (allows_left ed (has_total c) (has_total a) u), t.fits 1 (level_some a) ed (allows_right ed (has_total c) (has_total a) u));
        same = ap₂ TermTree.guard s.same t.same;
        right = both_none (wrongs s.tree (names sc)) (wrongs t.tree (names sc)) s.right t.right;
        reads = λ ts r. keyword (codes "where") where_word place _ _ (read_open o _ _ (s.reads _ (read_close s.behind _ _ (read_space (s.behind + 1) _ _ (t.reads _ r)))));
      }
  spelled (aggregate g a) sc place rest small h parts =
      let o = place + length (aggregate_word g) in
      let s = spelled a sc (o + 1) (41 ∷ rest) small h (refl, refl, refl) in
      record {
        tree = Aggregated g place o s.tree s.behind;
        behind = s.behind + 1;
        fits = λ n e ed t. (asked_kind ed g a t, s.fits 1 (level_some a) ed (asked_part ed g a t));
        same = ap (λ x. TermTree.aggregate g x) s.same;
        right = s.right;
        reads = λ ts r. read_word place (aggregate_word g) _ _ (asked_word g) (refl, refl, refl) (read_open o _ _ (s.reads _ (read_close s.behind _ _ r)));
      }

  fields_spelled : (fs : NamedFields) (start : Fields) (sc : List ℕ) (place : ℕ) (rest : List ℕ) → AreSmall sc → LegibleFields sc fs → Apart (labels start) (named_labels fs) → fields_wrongs start (names sc) ≡ []
      → FieldsSpelling start fs sc place (fields_then fs rest) rest
  fields_spelled no_field start sc place rest small h apart right =
      record { tree = start; close = place; fits = λ ed t f. f; more = PlacedFields.none; same = refl; is = refl; right = right; tail = λ ts. ts; split = λ ts. refl; reads = λ ts r. read_close place _ _ r }
  fields_spelled (with_field l a fs) start sc place rest small h apart right =
      let v = place + 1 + 1 in
      let c = v + length l + 1 in
      let s = spelled a sc (c + 1 + 1) (fields_then fs rest) small h.1 (fields_parts fs rest) in
      let one = More start place v l c s.tree in
      let n = fields_spelled fs one sc s.behind rest small h.2 apart.1 (none_twice (among l (labels start)) v (fields_wrongs start (names sc)) (wrongs s.tree (names sc)) right apart.0 s.right) in
      record {
        tree = n.tree;
        close = n.close;
        fits = λ ed t f. n.fits ed (allows_right ed (has_total a) (have_total fs) t) (f, s.fits 1 (level_some a) ed (allows_left ed (has_total a) (have_total fs) t));
        more = PlacedFields.with_field l (term_of s.tree (names sc)) n.more;
        same = n.same;
        is = fields_same l _ _ _ _ s.same n.is;
        right = n.right;
        tail = λ ts. Sign place Comma ∷ Word v l ∷ Sign c Assign ∷ tokens s.tree (n.tail ts);
        split = n.split;
        reads = λ ts r.
            read_comma place _ _ (read_space (place + 1) _ _ (read_word v l _ _ h.0 (refl, refl, refl) (read_space (v + length l) _ _ (read_assign c _ _ (read_space (c + 1) _ _ (s.reads _ (n.reads ts r)))))));
      }

-- the header, and then more bytes
read_header : (rest : List ℕ) (ts : List Token) → Reads 6 rest ts → Reads 0 (codes "nq 2; " ++ rest) (Word 0 (codes "nq") ∷ Value 3 (Number 2 1) ∷ Sign 4 Semicolon ∷ ts)
unfolding digits
read_header rest ts r =
    keyword (codes "nq") header_word 0 _ _
    (read_number 3 2 (59 ∷ 32 ∷ rest) (Sign 4 Semicolon ∷ ts) (omega arith) (refl, refl, refl)
    (read_token 4 59 (32 ∷ rest) ts 1 (λ p. Sign p Semicolon) refl (omega arith) (read_space 5 rest ts r)))

-- a text that is read as these tokens, which are those of a program, spells its term at a depth of its own bytes
program_spelled : (m : NamedTerm) (text : List ℕ) (ts : List Token) (tree : Syntax) → Reads 0 text ts → IsUtf8 text → IsProgram (edition_of ts) ts tree → suc (max (depth tree) (deepest tree)) ≤ length ts
    → wrongs tree [] ≡ [] → bare (term_of tree []) ≡ bound [] m → (placed : PlacedTerm) × Spells (length text) text placed × (bare placed ≡ bound [] m)
program_spelled m text ts tree read utf8 program deep right same =
    let few = read.few in (
      term_of tree [],
      record {
        tokens = ts;
        cut = (utf8, read_all text ts read);
        syntax_tree = tree;
        derived = record { program = program; within = (omega (arith, few, deep), omega (arith, few, deep)) };
        bound = right;
        same = refl;
      },
      same,
    )

-- The text of a legible term spells it, behind the header where a total stands in it.
pub text_spelled : (m : NamedTerm) → Legible [] m → IsUtf8 (cond (has_total m) (codes "nq 2; ") [] ++ text_of m)
    → (tree : PlacedTerm) × Spells (length (cond (has_total m) (codes "nq 2; ") [] ++ text_of m)) (cond (has_total m) (codes "nq 2; ") [] ++ text_of m) tree × (bare tree ≡ bound [] m)
text_spelled m h utf8 = go (has_total m) refl utf8
  where
    e : text_of m ≡ text_then m []
    e = sym (append-nil (text_of m)) ∙ text_laid m []

    go : (b : Bool) → has_total m ≡ b → IsUtf8 (cond b (codes "nq 2; ") [] ++ text_of m)
        → (tree : PlacedTerm) × Spells (length (cond b (codes "nq 2; ") [] ++ text_of m)) (cond b (codes "nq 2; ") [] ++ text_of m) tree × (bare tree ≡ bound [] m)
    go false none utf8 =
        let s = spelled m [] 0 [] tt h tt in
        let ts : List Token = tokens s.tree (End s.behind ∷ []) in
        let deep = depth_tokens s.tree (End s.behind ∷ []) in
        let program : IsProgram First ts s.tree = program_of First tt ts s.tree (s.fits 0 (omega arith) First none, s.behind, refl) in
        program_spelled m (text_of m) ts s.tree (subst (λ (l : List ℕ). Reads 0 l ts) (sym e) (s.reads _ (read_end s.behind))) utf8
        (subst (λ ed. IsProgram ed ts s.tree) (sym (keeps_first ts s.tree program)) program) (omega (arith, deep)) s.right s.same
    go true some utf8 =
        let s = spelled m [] 6 [] tt h tt in
        let ts : List Token = tokens s.tree (End s.behind ∷ []) in
        let deep = depth_tokens s.tree (End s.behind ∷ []) in
        program_spelled m (codes "nq 2; " ++ text_of m) (Word 0 (codes "nq") ∷ Value 3 (Number 2 1) ∷ Sign 4 Semicolon ∷ ts) s.tree
        (read_header (text_of m) ts (subst (λ (l : List ℕ). Reads 6 l ts) (sym e) (s.reads _ (read_end s.behind)))) utf8
        (program_of Second (0, 3, 4) ts s.tree (s.fits 0 (omega arith) Second tt, s.behind, refl)) (omega (arith, deep)) s.right s.same
