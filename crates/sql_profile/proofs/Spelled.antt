-- The text of a tree spells it.
use Rattle.std.proofs.Common.{◌≡◌, ℕ, suc, ◌+◌, ◌≤◌, Bool, true, false, ◌==◌, List, [], ◌∷◌, ◌++◌, map, length, codes, Contains, if◌then◌else◌, ℤ, Ok, refl, sym, ap, ◌∙◌, subst, arith}
use Rattle.std.specs.List.{AllByRecursion as Each}
use Rattle.std.specs.Fmt.{decimal, signed_decimal}
use Rattle.std.specs.Str.{IsUtf8}
use Rattle.std.proofs.lemmas.Bool.Decides.{nat_tests}
use Rattle.nq_model.specs.Canonical.{doubled_quotes}
use Rattle.nq_model.specs.Totals.{Total, HowMany, SumOf}
use Rattle.nq_model.specs.declared.term.Binary.{Binary}
use Rattle.nq_model.specs.declared.term.Binary.TheVariants.{Or, And, Add, Sub, Mul, Eq, Ne, Lt, Le, Gt, Ge}
use Rattle.nq_model.specs.declared.term.Unary.TheVariants as one_operand
use Rattle.sql_profile.specs.declared.tree.Source.{Source}
use Rattle.sql_profile.specs.Tokens.{First, Token, Number, Literal, Truth, Name, Key, Open, Close, Comma, End, With, As, Union, All, Select, Where, RowNumber, Over, Order, By, Not, Exists, Case, When, Then, Else, Count, Sum, Coalesce, is_name_byte, tokens_of}
use Rattle.sql_profile.specs.Grammar.{SourceSyntax, OfSource, SourcesSyntax, OneSource, MoreSources, FromSyntax, NoFrom, HasFrom, OfRowNumber, ExprSyntax, OfConstant, OfColumn, OfParens, OfMinus, OfNot, OfNotExists, OfCase, OfBinary, OfScalar, Counted, Summed, OfCount, OfSum, OfTail, QuerySyntax, OneSelect, MoreSelects, SelectSyntax, OfSelect, KeepSyntax, NoWhere, HasWhere, ItemsSyntax, OneItem, MoreItems, OfItem, ValueSyntax, Plain, Numbering, KeysSyntax, NoKeys, HasKeys, KeyListSyntax, OneKey, MoreKeys, WithSyntax, OfWith, WithListSyntax, OneDef, MoreDefs, WithsSyntax, NoWith, HasWith, NoSemi, TextSyntax, OfText, sources_tokens, froms_tokens, tokens, query_tokens, choice_tokens, keep_tokens, items_tokens, held_tokens, keys_tokens, key_list_tokens, defs_tokens, withs_tokens, text_tokens, level, left_level, Fits, QueryFits, ChoiceFits, KeepFits, ItemsFit, HeldFits, KeysFit, KeyListFits, DefsFit, WithsFit, text_depth, tree_of, expr_of, selects_of, select_of, items_of, value_of, keys_of, key_list_of, source_of, sources_of, from_of, with_list_of, withs_of}
use Rattle.sql_profile.specs.Grammar as grammar
use Rattle.sql_profile.specs.Trees.{SourceTree, ExprTree, int, bool, text, column, unary, binary, choose, not_exists, total, ExprTrees, no_expr, then_expr, QueryTree, no_select, then_select, SelectTree, select, KeepTree, keep_all, keep_if, ItemTrees, no_item, then_item, ValueTree, plain, number, WithTree, SqlTree, none_at, then_at, no_select_at, then_select_at, PlacedItems, no_item_at, then_item_at, item_at, PlacedWith, PlacedSql, bare_source, bare_expr, bare_exprs, bare_query, bare_select, bare_keep, bare_items, bare_value, bare_with, bare}
use Rattle.sql_profile.specs.Texts.{Spells}
use Rattle.sql_profile.specs.Printed.{between_operands, printed}
use Rattle.sql_profile.specs.Spellable.{HasWritableNames, IsSpellableExpr, IsSpellableQuery, AreSpellableSelects, IsSpellableSelect, IsSpellableKeep, AreSpellableItems, IsSpellableValue, AreSpellableKeys, IsSpellableWith, IsSpellable}
use Rattle.sql_profile.specs.WritableNames.{IsWritableName}
use Rattle.sql_profile.proofs.Laid.{sources_then, from_then, expr_then, query_then, selects_then, select_then, keep_then, further_items, value_then, keys_then, further_keys, further_withs, withs_then, text_laid}
use Rattle.sql_profile.proofs.Lexed.{Reads, IsWritable, read_end, read_token, read_name, read_comma, read_dot, read_space, read_as, read_from, read_all}
use Rattle.sql_profile.proofs.TextLaws.{bytes_are_deep}
use Rattle.sql_profile.proofs.Words.{Parts, read_open, read_close, read_star, read_zero, read_minus, oper_len, read_oper, read_true, read_false, read_stop, read_number, read_literal, unquoted_doubled}

-- a name that holds no quote
plain_name : (name : List ℕ) → (Contains name 34 → ⊥) → Each (λ b. is_name_byte b ≡ true) name
plain_name [] none = tt
plain_name (b ∷ bs) none = (first (b == 34) refl, plain_name bs (λ c. none (suc c.0, omega (arith, c.1), c.2)))
  where
    first : (t : Bool) → (b == 34) ≡ t → (if t then false else true) ≡ true
    first true e = absurd (none (0, omega arith, let h : b ≡ 34 = grind (arith, nat_tests, e) in h))
    first false e = refl

writable : (name : List ℕ) → IsWritableName name → IsWritable name
writable name w = record { some = w.some; few = w.few; plain = plain_name name w.no_quote }

-- a part of a text is read as a syntax tree of this kind, from a place on; and then come more bytes
record Spelling {T : Type 0} (toks : T → List Token → List Token) (Is : T → Type 0) (place : ℕ) (bytes rest : List ℕ) : Type 0 where
  tree : T
  behind : ℕ
  is : Is tree
  reads : (ts : List Token) → Reads behind rest ts → Reads place bytes (toks tree ts)

-- a list that begins so is read on
record Longer {T P : Type 0} (toks : T → List Token → List Token) (of : T → P → P) (none : P) (Fit : T → Type 0) (Is : P → Type 0) (start : T) (place : ℕ) (bytes rest : List ℕ) : Type 0 where
  tree : T
  behind : ℕ
  fit : Fit tree
  more : P
  same : of tree none ≡ of start more
  is : Is more
  tail : List Token → List Token
  split : (ts : List Token) → toks tree ts ≡ toks start (tail ts)
  reads : (ts : List Token) → Reads behind rest ts → Reads place bytes (tail ts)

moved : {T P : Type 0} {toks : T → List Token → List Token} {of : T → P → P} {none : P} {Fit : T → Type 0} {Is : P → Type 0} {start : T} {place : ℕ} {bytes rest : List ℕ}
    (m : Longer toks of none Fit Is start place bytes rest) (at : ℕ) (all : List ℕ) (ts : List Token) → Reads at all (toks start (m.tail ts)) → Reads at all (toks m.tree ts)
moved m at all ts r = subst (λ (l : List Token). Reads at all l) (sym (m.split ts)) r

abbrev IsExpr : ExprTree → ExprSyntax → Type 0
IsExpr e s = ((n : ℕ) → Fits n s) × (bare_expr (expr_of s) ≡ e)

abbrev IsQuery : QueryTree → QuerySyntax → Type 0
IsQuery q s = QueryFits s × (bare_query (selects_of s no_select_at) ≡ q)

abbrev IsSelect : SelectTree → SelectSyntax → Type 0
IsSelect t s = ChoiceFits s × (bare_select (select_of s) ≡ t)

abbrev IsKeep : KeepTree → KeepSyntax → Type 0
IsKeep k s = KeepFits s × (bare_keep (grammar.keep_of s) ≡ k)

abbrev IsValue : ValueTree → ValueSyntax → Type 0
IsValue v s = HeldFits s × (bare_value (value_of s) ≡ v)

abbrev AreKeys : ExprTrees → KeysSyntax → Type 0
AreKeys es s = KeysFit s × (bare_exprs (keys_of s) ≡ es)

abbrev IsFrom : List SourceTree → FromSyntax → Type 0
IsFrom ss s = map bare_source (from_of s) ≡ ss

abbrev AreWiths : List WithTree → WithsSyntax → Type 0
AreWiths ws s = WithsFit s × (map bare_with (withs_of s) ≡ ws)

abbrev LongerSources : SourcesSyntax → ℕ → List SourceTree → List ℕ → Type 0
LongerSources start place ss rest = Longer sources_tokens sources_of [] (λ t. Unit {0}) (λ (l : List Source). map bare_source l ≡ ss) start place (sources_then ss rest) rest

sources_spelled : (ss : List SourceTree) (start : SourcesSyntax) (place : ℕ) (rest : List ℕ) → Each HasWritableNames ss → LongerSources start place ss rest
sources_spelled [] start place rest h = record { tree = start; behind = place; fit = tt; more = []; same = refl; is = refl; tail = λ ts. ts; split = λ ts. refl; reads = λ ts r. r }
sources_spelled (s ∷ ss) start place rest h =
    let t = place + 1 + 1 in
    let a = t + (length s.table + 2) + 1 in
    let n = a + 2 + 1 in
    let b = n + (length s.alias + 2) in
    let one = OfSource t s.table a n s.alias in
    let m = sources_spelled ss (MoreSources start place one) b rest h.1 in
    record {
      tree = m.tree;
      behind = m.behind;
      fit = tt;
      more = source_of one ∷ m.more;
      same = m.same;
      is = ap (λ (l : List SourceTree). s ∷ l) m.is;
      tail = λ ts. Comma place ∷ Name t s.table ∷ Key a As ∷ Name n s.alias ∷ m.tail ts;
      split = m.split;
      reads = λ ts r.
          read_comma place _ _ (read_space (place + 1) _ _ (read_name t s.table _ _ (writable s.table h.0.0) (read_space (t + (length s.table + 2)) _ _ (read_as a _ _ (read_space (a + 2) _ _
          (read_name n s.alias _ _ (writable s.alias h.0.1) (m.reads ts r)))))));
    }

from_spelled : (ss : List SourceTree) (place : ℕ) (rest : List ℕ) → Each HasWritableNames ss → Spelling froms_tokens (IsFrom ss) place (from_then ss rest) rest
from_spelled [] place rest h = record { tree = NoFrom; behind = place; is = refl; reads = λ ts r. r }
from_spelled (s ∷ ss) place rest h =
    let f = place + 1 in
    let t = f + 4 + 1 in
    let a = t + (length s.table + 2) + 1 in
    let n = a + 2 + 1 in
    let b = n + (length s.alias + 2) in
    let start = OneSource f (OfSource t s.table a n s.alias) in
    let m = sources_spelled ss start b rest h.1 in
    record {
      tree = HasFrom m.tree;
      behind = m.behind;
      is = ap (map bare_source) m.same ∙ ap (λ (l : List SourceTree). s ∷ l) m.is;
      reads = λ ts r. moved m place _ ts
          (read_space place _ _ (read_from f _ _ (read_space (f + 4) _ _ (read_name t s.table _ _ (writable s.table h.0.0) (read_space (t + (length s.table + 2)) _ _ (read_as a _ _ (read_space (a + 2) _ _
          (read_name n s.alias _ _ (writable s.alias h.0.1) (m.reads ts r)))))))));
    }

levels : (op : Binary) → 1 ≤ level op
levels Or = omega arith
levels And = omega arith
levels Add = omega arith
levels Sub = omega arith
levels Mul = omega arith
levels Eq = omega arith
levels Ne = omega arith
levels Lt = omega arith
levels Le = omega arith
levels Gt = omega arith
levels Ge = omega arith

oper_parts : (op : Binary) (x : List ℕ) → Parts (between_operands op ++ x)
oper_parts Or x = (refl, refl, refl)
oper_parts And x = (refl, refl, refl)
oper_parts Add x = (refl, refl, refl)
oper_parts Sub x = (refl, refl, refl)
oper_parts Mul x = (refl, refl, refl)
oper_parts Eq x = (refl, refl, refl)
oper_parts Ne x = (refl, refl, refl)
oper_parts Lt x = (refl, refl, refl)
oper_parts Le x = (refl, refl, refl)
oper_parts Gt x = (refl, refl, refl)
oper_parts Ge x = (refl, refl, refl)

selects_parts : (q : QueryTree) (x : List ℕ) → Parts x → Parts (selects_then q x)
selects_parts no_select x h = h
selects_parts (then_select s q) x h = (refl, refl, refl)

keys_parts : (es : ExprTrees) (x : List ℕ) → Parts x → Parts (further_keys es x)
keys_parts no_expr x h = h
keys_parts (then_expr e es) x h = (refl, refl, refl)

number_spelled : (n : ℤ) (place : ℕ) (rest : List ℕ) → IsSpellableExpr (int n) → Parts rest → Spelling tokens (IsExpr (int n)) place (signed_decimal n ++ rest) rest
number_spelled n place rest (k, is, small) parts =
    subst (λ z. Spelling tokens (IsExpr (int z)) place (signed_decimal z ++ rest) rest) (sym is)
    (record { tree = OfConstant place (Number k (length (decimal k))); behind = place + length (decimal k); is = (λ n. tt, refl); reads = λ ts r. read_number place k rest ts small parts r })

abbrev LongerItems : ItemsSyntax → ℕ → ItemTrees → List ℕ → Type 0
LongerItems start place is rest = Longer items_tokens items_of no_item_at ItemsFit (λ l. bare_items l ≡ is) start place (further_items is rest) rest

abbrev LongerKeys : KeyListSyntax → ℕ → ExprTrees → List ℕ → Type 0
LongerKeys start place es rest = Longer key_list_tokens key_list_of none_at KeyListFits (λ l. bare_exprs l ≡ es) start place (further_keys es rest) rest

abbrev LongerQuery : QuerySyntax → ℕ → QueryTree → List ℕ → Type 0
LongerQuery start place q rest = Longer query_tokens selects_of no_select_at QueryFits (λ l. bare_query l ≡ q) start place (selects_then q rest) rest

select_same : (js : PlacedItems) (is : ItemTrees) (from : List Source) (ss : List SourceTree) (k : KeepTree) (l : KeepTree) → bare_items js ≡ is → map bare_source from ≡ ss → k ≡ l
    → select (bare_items js) (map bare_source from) k ≡ select is ss l
select_same js is from ss k l a b c = cc

binary_same : (op : Binary) (a b c d : ExprTree) → a ≡ c → b ≡ d → binary op a b ≡ binary op c d
binary_same op a b c d e f = cc

choose_same : (a b c x y z : ExprTree) → a ≡ x → b ≡ y → c ≡ z → choose a b c ≡ choose x y z
choose_same a b c x y z e f g = cc

total_same : (g : Total) (a b : List SourceTree) (k l : KeepTree) (d e : ExprTree) → a ≡ b → k ≡ l → d ≡ e → total g a k d ≡ total g b l e
total_same g a b k l d e x y z = cc

then_same : (s t : SelectTree) (q r : QueryTree) → s ≡ t → q ≡ r → then_select s q ≡ then_select t r
then_same s t q r e f = cc

item_same : (n : List ℕ) (v w : ValueTree) (is js : ItemTrees) → v ≡ w → is ≡ js → then_item n v is ≡ then_item n w js
item_same n v w is js e f = cc

exprs_same : (a b : ExprTree) (es fs : ExprTrees) → a ≡ b → es ≡ fs → then_expr a es ≡ then_expr b fs
exprs_same a b es fs e f = cc

mutual
  expr_spelled : (e : ExprTree) (place : ℕ) (rest : List ℕ) → IsSpellableExpr e → Parts rest → Spelling tokens (IsExpr e) place (expr_then e rest) rest
  expr_spelled (int n) place rest h parts = number_spelled n place rest h parts
  expr_spelled (bool true) place rest h parts = record { tree = OfConstant place (Truth true); behind = place + 4; is = (λ n. tt, refl); reads = λ ts r. read_true place rest ts parts r }
  expr_spelled (bool false) place rest h parts = record { tree = OfConstant place (Truth false); behind = place + 5; is = (λ n. tt, refl); reads = λ ts r. read_false place rest ts parts r }
  expr_spelled (text t) place rest h parts =
      record { tree = OfConstant place (Literal (doubled_quotes t)); behind = place + suc (suc (length (doubled_quotes t))); is = (λ n. tt, ap text (unquoted_doubled t)); reads = λ ts r. read_literal place t rest ts parts r }
  expr_spelled (column a c) place rest h parts =
      let d = place + (length a + 2) in
      record {
        tree = OfColumn place a d (d + 1) c;
        behind = d + 1 + (length c + 2);
        is = (λ n. tt, refl);
        reads = λ ts r. read_name place a _ _ (writable a h.0) (read_dot d _ _ (read_name (d + 1) c _ _ (writable c h.1) r));
      }
  expr_spelled (unary one_operand.Minus e) place rest h parts =
      let m = expr_spelled e (place + 1 + 1 + 1) (41 ∷ rest) h (refl, refl, refl) in
      record {
        tree = OfParens place (OfMinus (place + 1) m.tree) m.behind;
        behind = m.behind + 1;
        is = (λ n. (omega arith, m.is.0 7), ap (unary one_operand.Minus) m.is.1);
        reads = λ ts r. read_open place _ _ (read_minus (place + 1) _ _ (read_space (place + 1 + 1) _ _ (m.reads _ (read_close m.behind _ _ r))));
      }
  expr_spelled (unary one_operand.Not e) place rest h parts =
      let m = expr_spelled e (place + 1 + 3 + 1) (41 ∷ rest) h (refl, refl, refl) in
      record {
        tree = OfParens place (OfNot (place + 1) m.tree) m.behind;
        behind = m.behind + 1;
        is = (λ n. (omega arith, m.is.0 3), ap (unary one_operand.Not) m.is.1);
        reads = λ ts r. read_open place _ _ (read_token (place + 1) 78 _ _ 3 (λ p. Key p Not) refl (omega arith) (read_space (place + 1 + 3) _ _ (m.reads _ (read_close m.behind _ _ r))));
      }
  expr_spelled (binary op l r) place rest h parts =
      let x = expr_then r (41 ∷ rest) in
      let m = expr_spelled l (place + 1) (between_operands op ++ x) h.0 (oper_parts op x) in
      let n = expr_spelled r (m.behind + 1 + oper_len op + 1) (41 ∷ rest) h.1 (refl, refl, refl) in
      record {
        tree = OfParens place (OfBinary m.tree (m.behind + 1) op n.tree) n.behind;
        behind = n.behind + 1;
        is = (λ k. (levels op, m.is.0 (left_level op), n.is.0 (suc (level op))), binary_same op _ _ _ _ m.is.1 n.is.1);
        reads = λ ts z. read_open place _ _ (m.reads _ (read_oper op m.behind x _ (n.reads _ (read_close n.behind _ _ z))));
      }
  expr_spelled (choose t y n) place rest h parts =
      let w = place + 4 + 1 in
      let a = expr_spelled t (w + 4 + 1) (codes " THEN " ++ expr_then y (codes " ELSE " ++ expr_then n (codes " END" ++ rest))) h.0 (refl, refl, refl) in
      let b = expr_spelled y (a.behind + 1 + 4 + 1) (codes " ELSE " ++ expr_then n (codes " END" ++ rest)) h.1 (refl, refl, refl) in
      let c = expr_spelled n (b.behind + 1 + 4 + 1) (codes " END" ++ rest) h.2 (refl, refl, refl) in
      record {
        tree = OfCase place w a.tree (a.behind + 1) b.tree (b.behind + 1) c.tree (c.behind + 1);
        behind = c.behind + 1 + 3;
        is = (λ k. (a.is.0 1, b.is.0 1, c.is.0 1), choose_same _ _ _ _ _ _ a.is.1 b.is.1 c.is.1);
        reads = λ ts z.
            read_token place 67 _ _ 4 (λ p. Key p Case) refl (omega arith) (read_space (place + 4) _ _ (read_token w 87 _ _ 4 (λ p. Key p When) refl (omega arith) (read_space (w + 4) _ _ (a.reads _
            (read_space a.behind _ _ (read_token (a.behind + 1) 84 _ _ 4 (λ p. Key p Then) refl (omega arith) (read_space (a.behind + 1 + 4) _ _ (b.reads _
            (read_space b.behind _ _ (read_token (b.behind + 1) 69 _ _ 4 (λ p. Key p Else) refl (omega arith) (read_space (b.behind + 1 + 4) _ _ (c.reads _
            (read_space c.behind _ _ (read_stop (c.behind + 1) rest _ parts z))))))))))))));
      }
  expr_spelled (not_exists q) place rest h parts =
      let n = place + 1 in
      let x = n + 3 + 1 in
      let o = x + 6 + 1 in
      let m = query_spelled q (o + 1) (41 ∷ 41 ∷ rest) h (refl, refl, refl) in
      record {
        tree = OfParens place (OfNotExists n x o m.tree m.behind) (m.behind + 1);
        behind = m.behind + 1 + 1;
        is = (λ k. (omega arith, m.is.0), ap not_exists m.is.1);
        reads = λ ts z.
            read_open place _ _ (read_token n 78 _ _ 3 (λ p. Key p Not) refl (omega arith) (read_space (n + 3) _ _ (read_token x 69 _ _ 6 (λ p. Key p Exists) refl (omega arith) (read_space (x + 6) _ _
            (read_open o _ _ (m.reads _ (read_close m.behind _ _ (read_close (m.behind + 1) _ _ z))))))));
      }
  expr_spelled (total HowMany from keep e) place rest h parts =
      let s = place + 1 in
      let c = s + 6 + 1 in
      let o = c + 5 in
      let t = o + 1 in
      let z = t + 1 in
      let f = from_spelled from (z + 1) (keep_then keep (41 ∷ rest)) h.0 in
      let k = keep_spelled keep f.behind (41 ∷ rest) h.1 (refl, refl, refl) in
      record {
        tree = OfScalar (Counted (OfCount place s c o t z)) f.tree k.tree k.behind;
        behind = k.behind + 1;
        is = (λ n. (tt, k.is.0), total_same HowMany _ _ _ _ _ _ f.is k.is.1 (sym h.2));
        reads = λ ts r.
            read_open place _ _ (read_token s 83 _ _ 6 (λ p. Key p Select) refl (omega arith) (read_space (s + 6) _ _ (read_token c 67 _ _ 5 (λ p. Key p Count) refl (omega arith) (read_open o _ _ (read_star t _ _ (read_close z _ _
            (f.reads _ (k.reads _ (read_close k.behind _ _ r)))))))));
      }
  expr_spelled (total SumOf from keep e) place rest h parts =
      let s = place + 1 in
      let c = s + 6 + 1 in
      let o = c + 8 in
      let u = o + 1 in
      let v = u + 3 in
      let m = expr_spelled e (v + 1) (codes "), 0)" ++ from_then from (keep_then keep (41 ∷ rest))) h.2 (refl, refl, refl) in
      let y = m.behind + 1 in
      let q = y + 1 + 1 in
      let z = q + 1 in
      let f = from_spelled from (z + 1) (keep_then keep (41 ∷ rest)) h.0 in
      let k = keep_spelled keep f.behind (41 ∷ rest) h.1 (refl, refl, refl) in
      record {
        tree = OfScalar (Summed (OfSum place s c o u v) m.tree (OfTail m.behind y q z)) f.tree k.tree k.behind;
        behind = k.behind + 1;
        is = (λ n. (m.is.0 1, k.is.0), total_same SumOf _ _ _ _ _ _ f.is k.is.1 m.is.1);
        reads = λ ts r.
            read_open place _ _ (read_token s 83 _ _ 6 (λ p. Key p Select) refl (omega arith) (read_space (s + 6) _ _ (read_token c 67 _ _ 8 (λ p. Key p Coalesce) refl (omega arith) (read_open o _ _ (read_token u 83 _ _ 3 (λ p. Key p Sum) refl (omega arith) (read_open v _ _ (m.reads _
            (read_close m.behind _ _ (read_comma y _ _ (read_space (y + 1) _ _ (read_zero q _ _ (read_close z _ _ (f.reads _ (k.reads _ (read_close k.behind _ _ r)))))))))))))));
      }

  query_spelled : (q : QueryTree) (place : ℕ) (rest : List ℕ) → IsSpellableQuery q → Parts rest → Spelling query_tokens (IsQuery q) place (query_then q rest) rest
  query_spelled no_select place rest h parts = absurd h
  query_spelled (then_select s q) place rest h parts =
      let a = select_spelled s place (selects_then q rest) h.0 (selects_parts q rest parts) in
      let m = selects_spelled q (OneSelect a.tree) a.behind rest h.1 parts a.is.0 in
      record {
        tree = m.tree;
        behind = m.behind;
        is = (m.fit, ap bare_query m.same ∙ then_same _ _ _ _ a.is.1 m.is);
        reads = λ ts r. moved m place _ ts (a.reads _ (m.reads ts r));
      }

  selects_spelled : (q : QueryTree) (start : QuerySyntax) (place : ℕ) (rest : List ℕ) → AreSpellableSelects q → Parts rest → QueryFits start → LongerQuery start place q rest
  selects_spelled no_select start place rest h parts f = record { tree = start; behind = place; fit = f; more = no_select_at; same = refl; is = refl; tail = λ ts. ts; split = λ ts. refl; reads = λ ts r. r }
  selects_spelled (then_select s q) start place rest h parts f =
      let u = place + 1 in
      let l = u + 5 + 1 in
      let a = select_spelled s (l + 3 + 1) (selects_then q rest) h.0 (selects_parts q rest parts) in
      let m = selects_spelled q (MoreSelects start u l a.tree) a.behind rest h.1 parts (f, a.is.0) in
      record {
        tree = m.tree;
        behind = m.behind;
        fit = m.fit;
        more = then_select_at (select_of a.tree) m.more;
        same = m.same;
        is = then_same _ _ _ _ a.is.1 m.is;
        tail = λ ts. Key u Union ∷ Key l All ∷ choice_tokens a.tree (m.tail ts);
        split = m.split;
        reads = λ ts r.
            read_space place _ _ (read_token u 85 _ _ 5 (λ p. Key p Union) refl (omega arith) (read_space (u + 5) _ _ (read_token l 65 _ _ 3 (λ p. Key p All) refl (omega arith) (read_space (l + 3) _ _
            (a.reads _ (m.reads ts r))))));
      }

  select_spelled : (s : SelectTree) (place : ℕ) (rest : List ℕ) → IsSpellableSelect s → Parts rest → Spelling choice_tokens (IsSelect s) place (select_then s rest) rest
  select_spelled (select no_item from keep) place rest h parts = absurd h.0
  select_spelled (select (then_item n v is) from keep) place rest h parts =
      let x = from_then from (keep_then keep rest) in
      let w = value_spelled v (place + 6 + 1) (32 ∷ 65 ∷ 83 ∷ 32 ∷ 34 ∷ (n ++ 34 ∷ further_items is x)) h.0.1 (refl, refl, refl) in
      let a = w.behind + 1 in
      let k = a + 2 + 1 in
      let m = items_spelled is (OneItem place (OfItem w.tree a k n)) (k + (length n + 2)) x h.0.2 w.is.0 in
      let f = from_spelled from m.behind (keep_then keep rest) h.1 in
      let c = keep_spelled keep f.behind rest h.2 parts in
      record {
        tree = OfSelect m.tree f.tree c.tree;
        behind = c.behind;
        is = ((m.fit, c.is.0), select_same _ _ _ _ _ _ (ap bare_items m.same ∙ item_same n _ _ _ _ w.is.1 m.is) f.is c.is.1);
        reads = λ ts r. moved m place _ _
            (read_token place 83 _ _ 6 (λ p. Key p Select) refl (omega arith) (read_space (place + 6) _ _ (w.reads _ (read_space w.behind _ _ (read_as a _ _ (read_space (a + 2) _ _ (read_name k n _ _ (writable n h.0.0)
            (m.reads _ (f.reads _ (c.reads ts r))))))))));
      }

  keep_spelled : (k : KeepTree) (place : ℕ) (rest : List ℕ) → IsSpellableKeep k → Parts rest → Spelling keep_tokens (IsKeep k) place (keep_then k rest) rest
  keep_spelled keep_all place rest h parts = record { tree = NoWhere; behind = place; is = (tt, refl); reads = λ ts r. r }
  keep_spelled (keep_if e) place rest h parts =
      let w = place + 1 in
      let m = expr_spelled e (w + 5 + 1) rest h parts in
      record {
        tree = HasWhere w m.tree;
        behind = m.behind;
        is = (m.is.0 1, ap keep_if m.is.1);
        reads = λ ts r. read_space place _ _ (read_token w 87 _ _ 5 (λ p. Key p Where) refl (omega arith) (read_space (w + 5) _ _ (m.reads ts r)));
      }

  items_spelled : (is : ItemTrees) (start : ItemsSyntax) (place : ℕ) (rest : List ℕ) → AreSpellableItems is → ItemsFit start → LongerItems start place is rest
  items_spelled no_item start place rest h f = record { tree = start; behind = place; fit = f; more = no_item_at; same = refl; is = refl; tail = λ ts. ts; split = λ ts. refl; reads = λ ts r. r }
  items_spelled (then_item n v is) start place rest h f =
      let w = value_spelled v (place + 1 + 1) (32 ∷ 65 ∷ 83 ∷ 32 ∷ 34 ∷ (n ++ 34 ∷ further_items is rest)) h.1 (refl, refl, refl) in
      let a = w.behind + 1 in
      let k = a + 2 + 1 in
      let m = items_spelled is (MoreItems start place (OfItem w.tree a k n)) (k + (length n + 2)) rest h.2 (f, w.is.0) in
      record {
        tree = m.tree;
        behind = m.behind;
        fit = m.fit;
        more = then_item_at (item_at k n (value_of w.tree)) m.more;
        same = m.same;
        is = item_same n _ _ _ _ w.is.1 m.is;
        tail = λ ts. Comma place ∷ held_tokens w.tree (Key a As ∷ Name k n ∷ m.tail ts);
        split = m.split;
        reads = λ ts r.
            read_comma place _ _ (read_space (place + 1) _ _ (w.reads _ (read_space w.behind _ _ (read_as a _ _ (read_space (a + 2) _ _ (read_name k n _ _ (writable n h.0) (m.reads ts r)))))));
      }

  value_spelled : (v : ValueTree) (place : ℕ) (rest : List ℕ) → IsSpellableValue v → Parts rest → Spelling held_tokens (IsValue v) place (value_then v rest) rest
  value_spelled (plain e) place rest h parts =
      let m = expr_spelled e place rest h parts in
      record { tree = Plain m.tree; behind = m.behind; is = (m.is.0 1, ap plain m.is.1); reads = m.reads }
  value_spelled (number es) place rest h parts =
      let o = place + 10 in
      let c = o + 1 in
      let v = c + 1 + 1 in
      let q = v + 4 + 1 in
      let m = keys_spelled es (q + 1) (41 ∷ rest) h (refl, refl, refl) in
      record {
        tree = Numbering (OfRowNumber place o c v q) m.tree m.behind;
        behind = m.behind + 1;
        is = (m.is.0, ap number m.is.1);
        reads = λ ts r.
            read_token place 82 _ _ 10 (λ p. Key p RowNumber) refl (omega arith) (read_open o _ _ (read_close c _ _ (read_space (c + 1) _ _ (read_token v 79 _ _ 4 (λ p. Key p Over) refl (omega arith) (read_space (v + 4) _ _
            (read_open q _ _ (m.reads _ (read_close m.behind _ _ r))))))));
      }

  keys_spelled : (es : ExprTrees) (place : ℕ) (rest : List ℕ) → AreSpellableKeys es → Parts rest → Spelling keys_tokens (AreKeys es) place (keys_then es rest) rest
  keys_spelled no_expr place rest h parts = record { tree = NoKeys; behind = place; is = (tt, refl); reads = λ ts r. r }
  keys_spelled (then_expr e es) place rest h parts =
      let b = place + 5 + 1 in
      let m = expr_spelled e (b + 2 + 1) (further_keys es rest) h.0 (keys_parts es rest parts) in
      let n = more_keys_spelled es (OneKey place b m.tree) m.behind rest h.1 parts (m.is.0 1) in
      record {
        tree = HasKeys n.tree;
        behind = n.behind;
        is = (n.fit, ap bare_exprs n.same ∙ exprs_same _ _ _ _ m.is.1 n.is);
        reads = λ ts r. moved n place _ ts (read_token place 79 _ _ 5 (λ p. Key p Order) refl (omega arith) (read_space (place + 5) _ _ (read_token b 66 _ _ 2 (λ p. Key p By) refl (omega arith) (read_space (b + 2) _ _ (m.reads _ (n.reads ts r))))));
      }

  more_keys_spelled : (es : ExprTrees) (start : KeyListSyntax) (place : ℕ) (rest : List ℕ) → AreSpellableKeys es → Parts rest → KeyListFits start → LongerKeys start place es rest
  more_keys_spelled no_expr start place rest h parts f = record { tree = start; behind = place; fit = f; more = none_at; same = refl; is = refl; tail = λ ts. ts; split = λ ts. refl; reads = λ ts r. r }
  more_keys_spelled (then_expr e es) start place rest h parts f =
      let m = expr_spelled e (place + 1 + 1) (further_keys es rest) h.0 (keys_parts es rest parts) in
      let n = more_keys_spelled es (MoreKeys start place m.tree) m.behind rest h.1 parts (f, m.is.0 1) in
      record {
        tree = n.tree;
        behind = n.behind;
        fit = n.fit;
        more = then_at (expr_of m.tree) n.more;
        same = n.same;
        is = exprs_same _ _ _ _ m.is.1 n.is;
        tail = λ ts. Comma place ∷ tokens m.tree (n.tail ts);
        split = n.split;
        reads = λ ts r. read_comma place _ _ (read_space (place + 1) _ _ (m.reads _ (n.reads ts r)));
      }

abbrev LongerWiths : WithListSyntax → ℕ → List WithTree → List ℕ → Type 0
LongerWiths start place ws rest = Longer defs_tokens with_list_of [] DefsFit (λ (l : List PlacedWith). map bare_with l ≡ ws) start place (further_withs ws rest) rest

with_same : (n : List ℕ) (w : PlacedWith) (q : QueryTree) (l : List PlacedWith) (ws : List WithTree) → w.name ≡ n → bare_query w.query ≡ q → map bare_with l ≡ ws → bare_with w ∷ map bare_with l ≡ record { name = n; query = q } ∷ ws
with_same n w q l ws e f g = cc

withs_spelled : (ws : List WithTree) (start : WithListSyntax) (place : ℕ) (rest : List ℕ) → Each IsSpellableWith ws → DefsFit start → LongerWiths start place ws rest
withs_spelled [] start place rest h f = record { tree = start; behind = place + 1; fit = f; more = []; same = refl; is = refl; tail = λ ts. ts; split = λ ts. refl; reads = λ ts r. read_space place rest ts r }
withs_spelled (w ∷ ws) start place rest h f =
    let n = place + 1 + 1 in
    let a = n + (length w.name + 2) + 1 in
    let o = a + 2 + 1 in
    let q = query_spelled w.query (o + 1) (41 ∷ further_withs ws rest) h.0.1 (refl, refl, refl) in
    let one = OfWith n w.name a o q.tree q.behind in
    let m = withs_spelled ws (MoreDefs start place one) (q.behind + 1) rest h.1 (f, q.is.0) in
    record {
      tree = m.tree;
      behind = m.behind;
      fit = m.fit;
      more = grammar.with_of one ∷ m.more;
      same = m.same;
      is = with_same w.name (grammar.with_of one) w.query m.more ws refl q.is.1 m.is;
      tail = λ ts. Comma place ∷ Name n w.name ∷ Key a As ∷ Open o ∷ query_tokens q.tree (Close q.behind ∷ m.tail ts);
      split = m.split;
      reads = λ ts r.
          read_comma place _ _ (read_space (place + 1) _ _ (read_name n w.name _ _ (writable w.name h.0.0) (read_space (n + (length w.name + 2)) _ _ (read_as a _ _ (read_space (a + 2) _ _
          (read_open o _ _ (q.reads _ (read_close q.behind _ _ (m.reads ts r)))))))));
    }

all_withs : (ws : List WithTree) (rest : List ℕ) → Each IsSpellableWith ws → Spelling withs_tokens (AreWiths ws) 0 (withs_then ws rest) rest
all_withs [] rest h = record { tree = NoWith; behind = 0; is = (tt, refl); reads = λ ts r. r }
all_withs (w ∷ ws) rest h =
    let n : ℕ = 5 in
    let a : ℕ = n + (length w.name + 2) + 1 in
    let o = a + 2 + 1 in
    let q = query_spelled w.query (o + 1) (41 ∷ further_withs ws rest) h.0.1 (refl, refl, refl) in
    let one = OfWith n w.name a o q.tree q.behind in
    let m = withs_spelled ws (OneDef 0 one) (q.behind + 1) rest h.1 q.is.0 in
    record {
      tree = HasWith m.tree;
      behind = m.behind;
      is = (m.fit, ap (map bare_with) m.same ∙ with_same w.name (grammar.with_of one) w.query m.more ws refl q.is.1 m.is);
      reads = λ ts r. moved m 0 _ ts
          (read_token 0 87 _ _ 4 (λ p. Key p With) refl (omega arith) (read_space 4 _ _ (read_name n w.name _ _ (writable w.name h.0.0) (read_space (n + (length w.name + 2)) _ _ (read_as a _ _ (read_space (a + 2) _ _
          (read_open o _ _ (q.reads _ (read_close q.behind _ _ (m.reads ts r))))))))));
    }

sql_same : (ws vs : List WithTree) (q r : QueryTree) → ws ≡ vs → q ≡ r → ◌≡◌ {A = SqlTree} (record { withs = ws; main = q }) (record { withs = vs; main = r })
sql_same ws vs q r e f = cc

-- The text of a tree spells it, at a depth of its own bytes.
pub printed_spelled : (t : SqlTree) → IsSpellable t → IsUtf8 (printed t) → (tree : PlacedSql) × Spells First (length (printed t)) (printed t) tree × (bare tree ≡ t)
printed_spelled t h utf8 =
    let w = all_withs t.withs (query_then t.main []) h.0 in
    let q = query_spelled t.main w.behind [] h.1 tt in
    let s = OfText w.tree q.tree NoSemi in
    let laid = withs_then t.withs (query_then t.main []) in
    let ts : List Token = text_tokens s (End q.behind ∷ []) in
    let read : Reads 0 laid ts = w.reads _ (q.reads _ (read_end q.behind)) in
    let e = text_laid t in (
      tree_of s,
      bytes_are_deep First (text_depth s) (printed t) (tree_of s) (record {
        tokens = ts;
        cut = (utf8, subst (λ (l : List ℕ). tokens_of First l ≡ Ok ts) (sym e) (read_all laid ts read));
        syntax_tree = s;
        derived = ((w.is.0, q.is.0), q.behind, refl);
        within = omega arith;
        same = refl;
      }),
      sql_same (map bare_with (withs_of w.tree)) t.withs (bare_query (selects_of q.tree no_select_at)) t.main w.is.1 q.is.1,
    )
