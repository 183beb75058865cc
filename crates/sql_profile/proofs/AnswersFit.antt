-- Each answer that a well-scoped tree allows, over tables whose rows fit, has the types of its columns.
use Rattle.std.proofs.Common.{◌≡◌, ℕ, List, [], ◌∷◌, ◌++◌, map, refl, sym, ap, ap₂, ◌∙◌, subst, Bool, true, false, cond, zip, pos, filter, flat_map, append-nil, All, Some}
use Rattle.std.specs.List.{AllByRecursion as Each}
use Rattle.std.specs.Str.{bytes_eq}
use Rattle.std.proofs.lemmas.List.Elements.{All-nil, All-cons, All-head, All-tail}
use Rattle.nq_model.specs.Cells.{RowFits, column_type_of}
use Rattle.nq_model.specs.Operators.{is_true, unary_value, binary_value, unary_type, binary_type, both_int, both_bool, same_base}
use Rattle.nq_model.specs.Totals.{Total, HowMany, SumOf, total_of}
use Rattle.nq_model.specs.Tables.{Columns, names_of, types_of}
use Rattle.nq_model.specs.declared.term.Unary.{Unary}
use Rattle.nq_model.specs.declared.term.Unary.TheVariants.{Minus, Not}
use Rattle.nq_model.specs.declared.term.Binary.{Binary}
use Rattle.nq_model.specs.declared.term.Binary.TheVariants.{Add, Sub, Mul, Eq, Ne, Lt, Le, Gt, Ge, And, Or}
use Rattle.nq_model.specs.declared.table.Cell.{Cell}
use Rattle.nq_model.specs.declared.table.Cell.TheVariants as cell
use Rattle.nq_model.specs.declared.table.ColumnType.{ColumnType}
use Rattle.nq_model.specs.declared.table.ColumnType.TheVariants.{Int, Bool as Truth, Text}
use Rattle.nq_model.proofs.Bags.{reordered_sym}
use Rattle.nq_model.proofs.Numberings.{each_reordered}
use Rattle.sql_profile.specs.declared.server.Loaded.{Loaded}
use Rattle.sql_profile.specs.Trees.{SourceTree, ExprTree, int, bool, text, column, unary, binary, choose, not_exists, total, QueryTree, no_select, then_select, SelectTree, select, ItemTrees, no_item, then_item, ValueTree, plain, number, WithTree, SqlTree}
use Rattle.nq_model.specs.NamedRows.{NamedTables, Row, cell_under, named, rows_named}
use Rattle.sql_profile.specs.AllowedAnswers.{Scope, row_at, combinations, expr_value, keeps, kept_combinations, ValueGives, beside, ItemsGive, SelectGives, SelectsGive, QueryGives, item_names, select_names, query_names, WithsAllow, tables_of, TreeAllows}
use Rattle.sql_profile.specs.Scope.{Shapes, Aliases, found, SourcesHave, HasType, QueryHas, OthersHave, SelectHas, ItemsHave, ValueHas, WithsHave, IsWellScoped, shapes_of}

-- a row has the columns' names and cells of their types
abbrev RowHas : Columns → Row → Type 0
RowHas [] [] = Unit {0}
RowHas [] (c ∷ row) = ⊥
RowHas (k ∷ ks) [] = ⊥
RowHas (k ∷ ks) (c ∷ row) = (k.0 ≡ c.0) × (column_type_of c.1 ≡ k.1) × RowHas ks row

-- the tables are those of the shapes, in order
abbrev TablesHave : Shapes → NamedTables → Type 0
TablesHave [] [] = Unit {0}
TablesHave [] (t ∷ ts) = ⊥
TablesHave (s ∷ ss) [] = ⊥
TablesHave (s ∷ ss) (t ∷ ts) = (s.0 ≡ t.0) × Each (RowHas s.1) t.1 × TablesHave ss ts

-- each alias stands at a row of its columns
abbrev ScopeHas : Aliases → Scope → Type 0
ScopeHas [] [] = Unit {0}
ScopeHas [] (b ∷ bs) = ⊥
ScopeHas (a ∷ env) [] = ⊥
ScopeHas (a ∷ env) (b ∷ sc) = (a.0 ≡ b.0) × RowHas a.1 b.1 × ScopeHas env sc

some_same : {A : Type 0} (x y : A) → Some x ≡ Some y → x ≡ y
some_same x y e = cc

unary_has : (op : Unary) (c : Cell) (i k : ColumnType) → unary_type op i ≡ Some k → column_type_of (unary_value op c) ≡ k
unary_has Minus c Int k e = some_same Int k e
unary_has Minus c Truth k e = absurd (cc)
unary_has Minus c Text k e = absurd (cc)
unary_has Not c Int k e = absurd (cc)
unary_has Not c Truth k e = some_same Truth k e
unary_has Not c Text k e = absurd (cc)

ints : (i j k : ColumnType) → both_int i j ≡ Some k → Int ≡ k
ints Int Int k e = some_same Int k e
ints i j k e = absurd (cc)

truths : (i j k : ColumnType) → both_bool i j ≡ Some k → Truth ≡ k
truths Truth Truth k e = some_same Truth k e
truths i j k e = absurd (cc)

compared : (i j k : ColumnType) → same_base i j ≡ Some k → Truth ≡ k
compared Int Int k e = some_same Truth k e
compared Truth Truth k e = some_same Truth k e
compared Text Text k e = some_same Truth k e
compared i j k e = absurd (cc)

binary_has : (op : Binary) (c d : Cell) (i j k : ColumnType) → binary_type op i j ≡ Some k → column_type_of (binary_value op c d) ≡ k
binary_has Add c d i j k e = ints i j k e
binary_has Sub c d i j k e = ints i j k e
binary_has Mul c d i j k e = ints i j k e
binary_has Eq c d i j k e = compared i j k e
binary_has Ne c d i j k e = compared i j k e
binary_has Lt c d i j k e = compared i j k e
binary_has Le c d i j k e = compared i j k e
binary_has Gt c d i j k e = compared i j k e
binary_has Ge c d i j k e = compared i j k e
binary_has And c d i j k e = truths i j k e
binary_has Or c d i j k e = truths i j k e

found_row : (a : List ℕ) (env : Aliases) (sc : Scope) (columns : Columns) → ScopeHas env sc → found a env ≡ Some columns → RowHas columns (row_at a sc)
found_row a [] sc columns h e = absurd (cc)
found_row a (k ∷ env) [] columns h e = absurd h
found_row a (k ∷ env) (b ∷ sc) columns h e =
    subst (λ n. RowHas columns (cond (bytes_eq a n) b.1 (row_at a sc))) h.0 (go (bytes_eq a k.0) e (found_row a env sc columns h.2))
  where
    go : (t : Bool) → cond t (Some k.1) (found a env) ≡ Some columns → (found a env ≡ Some columns → RowHas columns (row_at a sc)) → RowHas columns (cond t b.1 (row_at a sc))
    go true e i = subst (λ (z : Columns). RowHas z b.1) (some_same k.1 columns e) h.1
    go false e i = i e

found_cell : (c : List ℕ) (columns : Columns) (row : Row) (k : ColumnType) → RowHas columns row → found c columns ≡ Some k → column_type_of (cell_under c row) ≡ k
found_cell c [] row k h e = absurd (cc)
found_cell c (x ∷ xs) [] k h e = absurd h
found_cell c (x ∷ xs) (f ∷ row) k h e =
    subst (λ n. column_type_of (cond (bytes_eq c n) f.1 (cell_under c row)) ≡ k) h.0 (go (bytes_eq c x.0) e (found_cell c xs row k h.2))
  where
    go : (t : Bool) → cond t (Some x.1) (found c xs) ≡ Some k → (found c xs ≡ Some k → column_type_of (cell_under c row) ≡ k) → column_type_of (cond t f.1 (cell_under c row)) ≡ k
    go true e i = h.1 ∙ some_same x.1 k e
    go false e i = i e

found_rows : (name : List ℕ) (ss : Shapes) (ts : NamedTables) (columns : Columns) → TablesHave ss ts → found name ss ≡ Some columns → Each (RowHas columns) (rows_named name ts)
found_rows name [] ts columns h e = absurd (cc)
found_rows name (s ∷ ss) [] columns h e = absurd h
found_rows name (s ∷ ss) (t ∷ ts) columns h e =
    subst (λ n. Each (RowHas columns) (cond (bytes_eq name n) t.1 (rows_named name ts))) h.0 (go (bytes_eq name s.0) e (found_rows name ss ts columns h.2))
  where
    go : (b : Bool) → cond b (Some s.1) (found name ss) ≡ Some columns → (found name ss ≡ Some columns → Each (RowHas columns) (rows_named name ts)) → Each (RowHas columns) (cond b t.1 (rows_named name ts))
    go true e i = subst (λ (z : Columns). Each (RowHas z) t.1) (some_same s.1 columns e) h.1
    go false e i = i e

total_has : (g : Total) (cells : List Cell) → column_type_of (total_of g cells) ≡ Int
total_has HowMany cells = refl
total_has SumOf cells = refl

expr_has : (ss : Shapes) (ts : NamedTables) (env : Aliases) (e : ExprTree) (k : ColumnType) (sc : Scope) → HasType ss env e k → ScopeHas env sc → column_type_of (expr_value ts e sc) ≡ k
expr_has ss ts env (int n) k sc h f = sym h
expr_has ss ts env (bool b) k sc h f = sym h
expr_has ss ts env (text t) k sc h f = sym h
expr_has ss ts env (column a c) k sc h f = found_cell c h.0 (row_at a sc) k (found_row a env sc h.0 f h.1) h.2
expr_has ss ts env (unary op e) k sc h f = unary_has op (expr_value ts e sc) h.0 k h.2
expr_has ss ts env (binary op l r) k sc h f = binary_has op (expr_value ts l sc) (expr_value ts r sc) h.0 h.1 k h.4
expr_has ss ts env (choose t y n) k sc h f = pick (is_true (expr_value ts t sc)) (expr_has ss ts env y k sc h.1 f) (expr_has ss ts env n k sc h.2 f)
  where
    pick : (b : Bool) → column_type_of (expr_value ts y sc) ≡ k → column_type_of (expr_value ts n sc) ≡ k → column_type_of (cond b (expr_value ts y sc) (expr_value ts n sc)) ≡ k
    pick true g h = g
    pick false g h = h
expr_has ss ts env (not_exists q) k sc h f = sym h.2
expr_has ss ts env (total g from keep e) k sc h f = total_has g _ ∙ sym h.4

each_join : {A : Type 0} (P : A → Type 0) (xs ys : List A) → Each P xs → Each P ys → Each P (xs ++ ys)
each_join P [] ys e f = f
each_join P (x ∷ xs) ys e f = (e.0, each_join P xs ys e.1 f)

each_kept : {A : Type 0} (P : A → Type 0) (q : A → Bool) (xs : List A) → Each P xs → Each P (filter q xs)
each_kept P q [] e = tt
each_kept P q (x ∷ xs) e = go (q x) (each_kept P q xs e.1)
  where
    go : (b : Bool) → Each P (filter q xs) → Each P (cond b (x ∷ filter q xs) (filter q xs))
    go true r = (e.0, r)
    go false r = r

-- the choices with one more source in front
chosen : (alias : List ℕ) (columns : Columns) (own : Aliases) (choices : List Scope) → Each (ScopeHas own) choices → (rows : List Row) → Each (RowHas columns) rows
    → Each (ScopeHas ((alias, columns) ∷ own)) (flat_map (λ row. map (λ choice. (alias, row) ∷ choice) choices) rows)
chosen alias columns own choices e [] f = tt
chosen alias columns own choices e (r ∷ rs) f = each_join (ScopeHas ((alias, columns) ∷ own)) _ _ (under r f.0 choices e) (chosen alias columns own choices e rs f.1)
  where
    under : (r : Row) → RowHas columns r → (choices : List Scope) → Each (ScopeHas own) choices → Each (ScopeHas ((alias, columns) ∷ own)) (map (λ choice. (alias, r) ∷ choice) choices)
    under r h [] e = tt
    under r h (c ∷ cs) e = ((refl, h, e.0), under r h cs e.1)

sources_have : (ss : Shapes) (ts : NamedTables) → TablesHave ss ts → (seen : List (List ℕ)) (from : List SourceTree) (own : Aliases) → SourcesHave ss seen from own → Each (ScopeHas own) (combinations ts from)
sources_have ss ts fit seen [] own h = subst (λ (z : Aliases). Each (ScopeHas z) ([] ∷ [])) (sym h) (tt, tt)
sources_have ss ts fit seen (s ∷ from) own (columns, rest, is, new, h, own_is) =
    subst (λ (z : Aliases). Each (ScopeHas z) (combinations ts (s ∷ from))) (sym own_is)
    (chosen s.alias columns rest (combinations ts from) (sources_have ss ts fit (s.alias ∷ seen) from rest h) (rows_named s.table ts) (found_rows s.table ss ts columns fit is))

values_have : (ss : Shapes) (ts : NamedTables) (env : Aliases) (e : ExprTree) (k : ColumnType) → HasType ss env e k → (kept : List Scope) → Each (ScopeHas env) kept → Each (λ c. column_type_of c ≡ k) (map (λ c. expr_value ts e c) kept)
values_have ss ts env e k h [] f = tt
values_have ss ts env e k h (c ∷ cs) f = (expr_has ss ts env e k c h f.0, values_have ss ts env e k h cs f.1)

numbers_have : (ns : List ℕ) → Each (λ c. column_type_of c ≡ Int) (map (λ n. cell.Int (pos n)) ns)
numbers_have [] = tt
numbers_have (n ∷ ns) = (refl, numbers_have ns)

cells_have : (ss : Shapes) (ts : NamedTables) (env : Aliases) (v : ValueTree) (k : ColumnType) (kept : List Scope) (cells : List Cell) → ValueHas ss env v k → Each (ScopeHas env) kept → ValueGives ts kept v cells → Each (λ c. column_type_of c ≡ k) cells
cells_have ss ts env (plain e) k kept cells h f g = subst (λ (z : List Cell). Each (λ c. column_type_of c ≡ k) z) (sym g) (values_have ss ts env e k h kept f)
cells_have ss ts env (number keys) k kept cells h f g =
    subst (λ z. Each (λ c. column_type_of c ≡ z) cells) (sym h.1) (subst (λ (z : List Cell). Each (λ c. column_type_of c ≡ Int) z) (sym g.3) (numbers_have g.0))

beside_fits : (k : ColumnType) (types : List ColumnType) (cells : List Cell) (rows : List (List Cell)) → Each (λ c. column_type_of c ≡ k) cells → Each (RowFits types) rows → Each (RowFits (k ∷ types)) (beside cells rows)
beside_fits k types [] rows e f = tt
beside_fits k types (c ∷ cs) [] e f = tt
beside_fits k types (c ∷ cs) (r ∷ rows) e f = (ap₂ (λ x (l : List ColumnType). x ∷ l) e.0 f.0, beside_fits k types cs rows e.1 f.1)

empty_rows : (kept : List Scope) → Each (RowFits []) (map (λ c. []) kept)
empty_rows [] = tt
empty_rows (c ∷ cs) = (refl, empty_rows cs)

items_fit : (ss : Shapes) (ts : NamedTables) (env : Aliases) (kept : List Scope) → Each (ScopeHas env) kept → (seen : List (List ℕ)) (is : ItemTrees) (columns : Columns) (rows : List (List Cell)) → ItemsHave ss env seen is columns → ItemsGive ts kept is rows → Each (RowFits (types_of columns)) rows × (names_of columns ≡ item_names is)
items_fit ss ts env kept f seen no_item columns rows h g =
    (subst (λ (z : Columns). Each (RowFits (types_of z)) rows) (sym h) (subst (λ (z : List (List Cell)). Each (RowFits []) z) (sym g) (empty_rows kept)), ap names_of h)
items_fit ss ts env kept f seen (then_item n v is) columns rows (k, rest, value, new, h, columns_are) (cells, others, gives, g, rows_are) =
    let r = items_fit ss ts env kept f (n ∷ seen) is rest others h g in
    let fits : Each (RowFits (k ∷ types_of rest)) (beside cells others) = beside_fits k (types_of rest) cells others (cells_have ss ts env v k kept cells value f gives) r.0 in (
      subst (λ (z : Columns). Each (RowFits (types_of z)) rows) (sym columns_are) (subst (λ (z : List (List Cell)). Each (RowFits (k ∷ types_of rest)) z) (sym rows_are) fits),
      ap names_of columns_are ∙ ap (λ (l : List (List ℕ)). n ∷ l) r.1,
    )

select_fits : (ss : Shapes) (ts : NamedTables) → TablesHave ss ts → (s : SelectTree) (columns : Columns) (rows : List (List Cell)) → SelectHas ss [] s columns → SelectGives ts s rows → Each (RowFits (types_of columns)) rows × (names_of columns ≡ select_names s)
select_fits ss ts fit (select is from keep) columns rows (own, sources, kept, items) g =
    let all : Each (ScopeHas (own ++ [])) (combinations ts from) = subst (λ (z : Aliases). Each (ScopeHas z) (combinations ts from)) (sym (append-nil own)) (sources_have ss ts fit [] from own sources) in
    items_fit ss ts (own ++ []) (kept_combinations ts from keep) (each_kept (ScopeHas (own ++ [])) (λ c. keeps ts keep c) (combinations ts from) all) [] is columns rows items g

others_fit : (ss : Shapes) (ts : NamedTables) → TablesHave ss ts → (q : QueryTree) (types : List ColumnType) (rows : List (List Cell)) → OthersHave ss [] q types → SelectsGive ts q rows → Each (RowFits types) rows
others_fit ss ts fit no_select types rows h g = subst (λ (z : List (List Cell)). Each (RowFits types) z) (sym g) tt
others_fit ss ts fit (then_select s q) types rows (columns, one, same, more) (here, rest, gives, g, rows_are) =
    subst (λ (z : List (List Cell)). Each (RowFits types) z) (sym rows_are)
    (each_join (RowFits types) here rest (subst (λ (z : List ColumnType). Each (RowFits z) here) same (select_fits ss ts fit s columns here one gives).0) (others_fit ss ts fit q types rest more g))

query_fits : (ss : Shapes) (ts : NamedTables) → TablesHave ss ts → (q : QueryTree) (columns : Columns) (rows : List (List Cell)) → QueryHas ss [] q columns → QueryGives ts q rows → Each (RowFits (types_of columns)) rows × (names_of columns ≡ query_names q)
query_fits ss ts fit no_select columns rows h g = absurd h
query_fits ss ts fit (then_select s q) columns rows (one, more) (all, (here, rest, gives, g, all_are), arranged) =
    let first = select_fits ss ts fit s columns here one gives in
    let joined : Each (RowFits (types_of columns)) all = subst (λ (z : List (List Cell)). Each (RowFits (types_of columns)) z) (sym all_are) (each_join (RowFits (types_of columns)) here rest first.0 (others_fit ss ts fit q (types_of columns) rest more g)) in
    (each_reordered (RowFits (types_of columns)) all rows (reordered_sym rows all arranged) joined, first.1)

row_named : (columns : Columns) (row : List Cell) → RowFits (types_of columns) row → RowHas columns (zip (names_of columns) row)
row_named [] [] h = tt
row_named [] (c ∷ cs) h = absurd (cc)
row_named (k ∷ ks) [] h = absurd (cc)
row_named (k ∷ ks) (c ∷ cs) h = let here : column_type_of c ≡ k.1 = cc in let rest : RowFits (types_of ks) cs = cc in (refl, here, row_named ks cs rest)

rows_have : (columns : Columns) (rows : List (List Cell)) → Each (RowFits (types_of columns)) rows → Each (RowHas columns) (named (names_of columns) rows)
rows_have columns [] e = tt
rows_have columns (r ∷ rs) e = (row_named columns r e.0, rows_have columns rs e.1)

withs_fit : (ss : Shapes) (ts : NamedTables) → TablesHave ss ts → (ws : List WithTree) (all : Shapes) → WithsHave ss ws all → (main : QueryTree) (columns : Columns) → QueryHas all [] main columns → (rows : List (List Cell)) → WithsAllow ts ws main rows → Each (RowFits (types_of columns)) rows
withs_fit ss ts fit [] all h main columns q rows g = (query_fits ss ts fit main columns rows (subst (λ (z : Shapes). QueryHas z [] main columns) h q) g).0
withs_fit ss ts fit (w ∷ ws) all (columns, new, has, h) main others q rows (list, gives, g) =
    let one = query_fits ss ts fit w.query columns list has gives in
    let listed : Each (RowHas columns) (named (query_names w.query) list) = subst (λ (n : List (List ℕ)). Each (RowHas columns) (named n list)) one.1 (rows_have columns list one.0) in
    withs_fit ((w.name, columns) ∷ ss) ((w.name, named (query_names w.query) list) ∷ ts) (refl, listed, fit) ws all h main others q rows g

from_all : {A : Type 0} (P : A → Type 0) (xs : List A) → All P xs → Each P xs
from_all P [] all = tt
from_all P (x ∷ xs) all = (All-head P x xs all, from_all P xs (All-tail P x xs all))

to_all : {A : Type 0} (P : A → Type 0) (xs : List A) → Each P xs → All P xs
to_all P [] e = All-nil P
to_all P (x ∷ xs) e = All-cons P x xs e.0 (to_all P xs e.1)

-- each row fits the columns of its table
abbrev HeldFits : Loaded → Type 0
HeldFits table = All (RowFits (types_of table.columns)) table.rows

held_have : (held : List Loaded) → All HeldFits held → TablesHave (shapes_of held) (tables_of held)
held_have [] all = tt
held_have (t ∷ ts) all =
    (refl, rows_have t.columns t.rows (from_all (RowFits (types_of t.columns)) t.rows (All-head HeldFits t ts all)), held_have ts (All-tail HeldFits t ts all))

pub answer_fits : (held : List Loaded) (tree : SqlTree) (columns : Columns) (rows : List (List Cell)) → All HeldFits held → IsWellScoped (shapes_of held) tree columns → TreeAllows held tree rows → All (RowFits (types_of columns)) rows
answer_fits held tree columns rows fit (all, withs, main) allowed =
    to_all (RowFits (types_of columns)) rows (withs_fit (shapes_of held) (tables_of held) (held_have held fit) tree.withs all withs tree.main columns main rows allowed)
