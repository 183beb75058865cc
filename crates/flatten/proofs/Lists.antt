-- Lists of parts that are built, as trees.
use Rattle.std.proofs.Common.{◌≡◌, ℕ, zero, suc, ◌+◌, ◌-◌, IfOk, Result, Ok, Err, get_or, ◌<◌, ◌≤◌, pos, Bool, List, [], ◌∷◌, ◌++◌, map, length, refl, sym, ap, ap₂, ◌∙◌, Box, Global, arith}
use Rattle.std.proofs.lemmas.List.{map-append}
use Rattle.std.proofs.lemmas.Grind.{flat_map-append}
use Rattle.nq_model.specs.NamedRows.{Label}
use Rattle.nq_model.specs.Tables.{Columns}
use Rattle.nq_model.specs.declared.table.ColumnType.{ColumnType}
use Rattle.nq_model.specs.declared.table.TableShape.{TableShape}
use Rattle.nq_model.proofs.Numberings.{length_map}
use Rattle.nq_ir.specs.declared.base.Gen.{Gen}
use Rattle.nq_model.specs.declared.memory.Memory.{Memory}
use Rattle.nq_ir.specs.declared.lets.LetPart.{LetPart}
use Rattle.nq_ir.specs.declared.lets.LetQuery.{LetQuery}
use Rattle.nq_ir.specs.Lets.{LetTree, PartTree, columns_in, let_tree, part_tree, let_of, no_let}
use Rattle.nq_ir.specs.Trees.{BaseTree, TestPart, tests_of}
use Rattle.nq_ir.specs.WellFormed.{table_columns, column_names}
use Rattle.sql_profile.specs.declared.tree.Expr.{Expr}
use Rattle.sql_profile.specs.declared.tree.Item.{Item}
use Rattle.sql_profile.specs.declared.tree.ItemValue.{ItemValue}
use Rattle.sql_profile.specs.declared.tree.ItemValue.TheVariants as value
use Rattle.sql_profile.specs.declared.tree.ExprNode.TheVariants as node
use Rattle.sql_profile.specs.declared.tree.Query.{Query, out-Query, fold-roll-Query, roll-Query}
use Rattle.sql_profile.specs.declared.tree.Select.{Select, out-Select}
use Rattle.sql_profile.specs.declared.tree.With.{With}
use Rattle.sql_profile.specs.Trees.{SourceTree, WithTree, bare_with, placed_with, with_tree, PlacedExpr, PlacedItem, PlacedLink, PlacedPicked, link_layer, picked_layer, PlacedQuery, PlacedSelect, PlacedValue, node_layer, value_layer, expr_layer, item_layer, query_layer, select_layer, query_of, placed_query, placed_select, ExprTree, ExprTrees, then_expr, then_select, select, no_item, then_item, ValueTree, plain, number, bare_query, bare_select, bare_items, bare_source, bare_value, expr_tree, query_tree, select_tree, items_of, placed_item}
use Rattle.sql_profile.proofs.Trees.{query_placed, select_placed, item_placed, value_plain, value_number}
use Rattle.flatten.specs.Names.{one_name, outer_column, number_name, answer_name, let_alias, with_name}
use Rattle.flatten.specs.Exprs.{column_expr, one_item, tests_query, base_expr, order_keys}
use Rattle.flatten.specs.Emitted.{in_gens, none_outer, let_items, answer_items, around_number, after_let, parts_query, main_query, empty_query}
use Rattle.flatten.specs.Views.{keys_tree, keep_tree, value_tree, NamedValue, item_view, items_tree, selects_tree, query_from, items_from, test_select, column_exprs, column_items, gens_exprs, gens_items, answer_views, part_strand_select}
use Rattle.flatten.proofs.Built.{not_exists_built}

pub selects_listed : (ss : List Select) → selects_tree ss ≡ query_from (map select_tree ss)
selects_listed [] = refl
selects_listed (s ∷ ss) = ap (λ q. then_select (select_tree s) q) (selects_listed ss)

pub query_listed : (q : Query) → query_tree q ≡ query_from (map select_tree (out-Query q).selects)
query_listed q = ap bare_query (query_placed q) ∙ selects_listed (out-Query q).selects

tests_listed : (outer : ℕ → Bool) (ts : List TestPart) → tests_query outer (tests_of ts) ≡ query_from (map (test_select outer) ts)
tests_listed outer [] = refl
tests_listed outer (t ∷ ts) = ap (λ q. then_select (test_select outer t) q) (tests_listed outer ts)

-- an emptiness test of none, and of some
pub no_tests : (outer : ℕ → Bool) (ts : List TestPart) → ts ≡ [] → base_expr outer (BaseTree.empty (tests_of ts)) ≡ ExprTree.bool Bool.true
no_tests outer [] e = refl
no_tests outer (t ∷ ts) e = absurd (cc)

pub some_tests : {A : Type 0} (outer : ℕ → Bool) (f : A → TestPart) (ts : List A) → (ts ≡ [] → ⊥) → base_expr outer (BaseTree.empty (tests_of (map f ts))) ≡ ExprTree.not_exists (query_from (map (test_select outer) (map f ts)))
some_tests outer f [] h = absurd (h refl)
some_tests outer f (t ∷ ts) h = ap (λ q. ExprTree.not_exists (then_select (test_select outer (f t)) q)) (tests_listed outer (map f ts))

pub select_built : (s : Select) → select_tree s ≡ select (items_tree (out-Select s).items) (map bare_source (out-Select s).from) (keep_tree (out-Select s).keep)
select_built s = ap bare_select (select_placed s)

-- items by their names and values
pub item_seen : (i : Item) (is : List Item) → items_tree (i ∷ is) ≡ then_item i.name (value_tree i.value) (items_tree is)
item_seen i is = ap (λ p. bare_items (items_of (p ∷ map placed_item is))) (item_placed i)

pub items_listed : (is : List Item) → items_tree is ≡ items_from (map item_view is)
items_listed [] = refl
items_listed (i ∷ is) = item_seen i is ∙ ap (then_item i.name (value_tree i.value)) (items_listed is)

pub plain_seen : (e : Expr) → value_tree (value.Plain e) ≡ plain (expr_tree e)
plain_seen e = ap bare_value (value_plain e)

pub number_seen : (es : List Expr) → value_tree (value.Number es) ≡ number (keys_tree es)
number_seen es = ap bare_value (value_number es)

-- columns of generators as order keys
exprs_from : List ExprTree → ExprTrees
exprs_from [] = ExprTrees.no_expr
exprs_from (e ∷ es) = then_expr e (exprs_from es)

keys_from : (es : List Expr) → keys_tree es ≡ exprs_from (map expr_tree es)
unfolding exprs_from
keys_from [] = refl
keys_from (e ∷ es) = ap (then_expr (expr_tree e)) (keys_from es)

order_from : (outer : ℕ → Bool) (ps : List (ℕ × Label)) → order_keys outer ps ≡ exprs_from (map (λ p. column_expr outer p.0 p.1) ps)
unfolding exprs_from
order_from outer [] = refl
order_from outer (p ∷ ps) = ap (then_expr (column_expr outer p.0 p.1)) (order_from outer ps)

columns_exprs : (S : List TableShape) (outer : ℕ → Bool) (gens : List Gen) → map (λ (p : ℕ × Label). column_expr outer p.0 p.1) (columns_in (column_names S) gens) ≡ gens_exprs S outer gens
columns_exprs S outer [] = refl
columns_exprs S outer (g ∷ gens) =
    map-append (λ (p : ℕ × Label). column_expr outer p.0 p.1) (map (λ c. (g.number, c)) (column_names S g.table)) (columns_in (column_names S) gens)
    ∙ ap₂ (λ (x y : List ExprTree). x ++ y) (one (table_columns S g.table)) (columns_exprs S outer gens)
  where
    one : (cs : Columns) → map (λ (p : ℕ × Label). column_expr outer p.0 p.1) (map (λ c. (g.number, c)) (map (λ c. c.0) cs)) ≡ column_exprs outer g.number cs
    one [] = refl
    one (c ∷ cs) = ap (λ (l : List ExprTree). column_expr outer g.number c.0 ∷ l) (one cs)

pub keys_listed : (S : List TableShape) (outer : ℕ → Bool) (gens : List Gen) (es : List Expr) → map expr_tree es ≡ gens_exprs S outer gens → keys_tree es ≡ order_keys outer (columns_in (column_names S) gens)
keys_listed S outer gens es h = keys_from es ∙ ap exprs_from (h ∙ sym (columns_exprs S outer gens)) ∙ sym (order_from outer (columns_in (column_names S) gens))

pub gens_more : (S : List TableShape) (outer : ℕ → Bool) (xs ys : List Gen) → gens_exprs S outer (xs ++ ys) ≡ gens_exprs S outer xs ++ gens_exprs S outer ys
gens_more S outer xs ys = flat_map-append (λ (g : Gen). column_exprs outer g.number (table_columns S g.table)) xs ys

-- the items of a WITH query
let_from : (keys : ExprTrees) (ps : List (ℕ × Label)) → let_items keys ps ≡ items_from (map {B = NamedValue} (λ p. (outer_column p.0 p.1, plain (column_expr none_outer p.0 p.1))) ps ++ (number_name, number keys) ∷ [])
let_from keys [] = refl
let_from keys (p ∷ ps) = ap (then_item (outer_column p.0 p.1) (plain (column_expr none_outer p.0 p.1))) (let_from keys ps)

columns_items : (S : List TableShape) (gens : List Gen) → map {B = NamedValue} (λ (p : ℕ × Label). (outer_column p.0 p.1, plain (column_expr none_outer p.0 p.1))) (columns_in (column_names S) gens) ≡ gens_items S gens
columns_items S [] = refl
columns_items S (g ∷ gens) =
    map-append {B = NamedValue} (λ (p : ℕ × Label). (outer_column p.0 p.1, plain (column_expr none_outer p.0 p.1))) (map (λ c. (g.number, c)) (column_names S g.table)) (columns_in (column_names S) gens)
    ∙ ap₂ (λ (x y : List NamedValue). x ++ y) (one (table_columns S g.table)) (columns_items S gens)
  where
    one : (cs : Columns) → map {B = NamedValue} (λ (p : ℕ × Label). (outer_column p.0 p.1, plain (column_expr none_outer p.0 p.1))) (map (λ c. (g.number, c)) (map (λ c. c.0) cs)) ≡ column_items g.number cs
    one [] = refl
    one (c ∷ cs) = ap (λ (l : List NamedValue). (outer_column g.number c.0, plain (column_expr none_outer g.number c.0)) ∷ l) (one cs)

pub let_listed : (S : List TableShape) (gens : List Gen) (keys : ExprTrees) (is : List Item) → map item_view is ≡ gens_items S gens ++ (number_name, number keys) ∷ [] → items_tree is ≡ let_items keys (columns_in (column_names S) gens)
let_listed S gens keys is h =
    items_listed is ∙ ap items_from (h ∙ ap (λ (l : List NamedValue). l ++ (number_name, number keys) ∷ []) (sym (columns_items S gens))) ∙ sym (let_from keys (columns_in (column_names S) gens))

-- the items of an answer
answer_from : (k : ℕ) (vs : List ValueTree) → answer_items k vs ≡ items_from (answer_views k vs)
answer_from k [] = refl
answer_from k (v ∷ vs) = ap (then_item (answer_name k) v) (answer_from (suc k) vs)

pub answer_listed : (vs : List ValueTree) (is : List Item) → map item_view is ≡ answer_views 0 vs → items_tree is ≡ answer_items 0 vs
answer_listed vs is h = items_listed is ∙ ap items_from h ∙ sym (answer_from 0 vs)

views_more : (k : ℕ) (vs : List ValueTree) (v : ValueTree) → answer_views k (vs ++ v ∷ []) ≡ answer_views k vs ++ (answer_name (k + length vs), v) ∷ []
views_more k [] v = ap (λ n. (answer_name n, v) ∷ []) (let e : k ≡ k + 0 = omega arith in e)
views_more k (w ∷ vs) v = ap (λ (l : List NamedValue). (answer_name k, w) ∷ l) (views_more (suc k) vs v ∙ ap (λ n. answer_views (suc k) vs ++ (answer_name n, v) ∷ []) (let e : suc k + length vs ≡ k + suc (length vs) = omega arith in e))

views_many : (k : ℕ) (vs : List ValueTree) → length (answer_views k vs) ≡ length vs
views_many k [] = refl
views_many k (v ∷ vs) = ap suc (views_many (suc k) vs)

-- one more item, under the next name
pub named_more : (is js : List Item) (vs : List ItemValue) (v : ItemValue) → map item_view is ≡ answer_views 0 (map value_tree vs) → map item_view js ≡ map item_view is ++ (answer_name (length is), value_tree v) ∷ [] → map item_view js ≡ answer_views 0 (map value_tree (vs ++ v ∷ []))
named_more is js vs v h e =
    let many : length is ≡ length (map value_tree vs) = sym (length_map item_view is) ∙ ap length h ∙ views_many 0 (map value_tree vs) in
    let from_none : length (map value_tree vs) ≡ 0 + length (map value_tree vs) = omega arith in
    e ∙ ap₂ (λ (l : List NamedValue) n. l ++ (answer_name n, value_tree v) ∷ []) h (many ∙ from_none) ∙ sym (views_more 0 (map value_tree vs) (value_tree v)) ∙ ap (answer_views 0) (sym (map-append value_tree vs (v ∷ [])))

pub one_built : (e : Expr) → expr_tree e ≡ ExprTree.int (pos 1) → items_tree (record { name = one_name; place = 0; value = value.Plain e } ∷ []) ≡ one_item
one_built e h = item_seen (record { name = one_name; place = 0; value = value.Plain e }) [] ∙ ap (λ v. then_item one_name v no_item) (plain_seen e ∙ ap plain h)

-- the items of a WITH query, once the number is put behind its columns
pub let_done : (S : List TableShape) (gens : List Gen) (es : List Expr) (is : List Item) → keys_tree es ≡ order_keys (in_gens []) (columns_in (column_names S) ([] ++ gens)) → map item_view is ≡ gens_items S gens ++ (number_name, number (keys_tree es)) ∷ [] → items_tree is ≡ let_items (order_keys none_outer (columns_in (column_names S) gens)) (columns_in (column_names S) gens)
let_done S gens es is k h = let_listed S gens (order_keys none_outer (columns_in (column_names S) gens)) is (h ∙ ap (λ e. gens_items S gens ++ (number_name, number e) ∷ []) k)

query_made : (ss : List Select) → placed_query (roll-Query (record { selects = ss })) ≡ query_of (map placed_select ss)
query_made ss = fold-roll-Query (ℕ → PlacedExpr) PlacedValue PlacedExpr PlacedItem PlacedLink PlacedPicked PlacedQuery PlacedSelect node_layer value_layer expr_layer item_layer link_layer picked_layer query_layer select_layer (record { selects = ss })

pub not_exists_of : (p : ℕ) (q : Box Query Global) (ss : List Select) → q.value ≡ roll-Query (record { selects = ss }) → expr_tree (record { place = p; node = node.NotExists q }) ≡ ExprTree.not_exists (query_from (map select_tree ss))
not_exists_of p q ss e = not_exists_built p q ∙ ap (λ (z : Query). ExprTree.not_exists (query_tree z)) e ∙ ap (λ z. ExprTree.not_exists (bare_query z)) (query_made ss) ∙ ap ExprTree.not_exists (selects_listed ss)

pub query_seen : (ss : List Select) → query_tree (roll-Query (record { selects = ss })) ≡ query_from (map select_tree ss)
query_seen ss = ap bare_query (query_made ss) ∙ selects_listed ss

-- the number around, and the sources, at the empty path and below
pub around_first : (from : ℕ) → from ≡ 0 → around_number from ≡ ExprTree.int (pos 1)
around_first zero e = refl
around_first (suc k) e = absurd (omega (arith, e))

pub around_later : (from : ℕ) → (from ≡ 0 → ⊥) → around_number from ≡ ExprTree.column let_alias number_name
around_later zero h = absurd (h refl)
around_later (suc k) h = refl

pub after_first : (from : ℕ) (ss : List SourceTree) → from ≡ 0 → after_let from ss ≡ ss
after_first zero ss e = refl
after_first (suc k) ss e = absurd (omega (arith, e))

pub after_later : (from : ℕ) (ss : List SourceTree) → (from ≡ 0 → ⊥) → after_let from ss ≡ record { table = with_name from; alias = let_alias } ∷ ss
after_later zero ss h = absurd (h refl)
after_later (suc k) ss h = refl

-- the parts of a let form
parts_listed : (cols : Label → List Label) (lets : List LetTree) (ps : List PartTree) → parts_query cols lets ps ≡ query_from (map (part_strand_select cols lets) ps)
parts_listed cols lets [] = refl
parts_listed cols lets (p ∷ ps) = ap (then_select (part_strand_select cols lets p)) (parts_listed cols lets ps)

pub some_parts : (cols : Label → List Label) (columns : List ColumnType) (lets : List LetTree) (ps : List PartTree) → (ps ≡ [] → ⊥) → main_query cols columns lets ps ≡ query_from (map (part_strand_select cols lets) ps)
some_parts cols columns lets [] h = absurd (h refl)
some_parts cols columns lets (p ∷ ps) h = parts_listed cols lets (p ∷ ps)

pub no_parts : (cols : Label → List Label) (columns : List ColumnType) (lets : List LetTree) (ps : List PartTree) → ps ≡ [] → main_query cols columns lets ps ≡ empty_query columns
no_parts cols columns lets [] e = refl
no_parts cols columns lets (p ∷ ps) e = absurd (cc)

pub withs_seen : (ws : List With) → map bare_with (map placed_with ws) ≡ map with_tree ws
withs_seen [] = refl
withs_seen (w ∷ ws) = ap (λ (l : List WithTree). with_tree w ∷ l) (withs_seen ws)

-- the SELECTs of some parts are the main query
pub main_done : (cols : Label → List Label) (columns : List ColumnType) (lets : List LetTree) (ps : List LetPart) (made : Result (List Select) Memory) → (ps ≡ [] → ⊥)
    → IfOk made (λ ss. map select_tree ss ≡ map (part_strand_select cols lets) (map part_tree ps)) → IfOk made (λ ss. query_from (map select_tree ss) ≡ main_query cols columns lets (map part_tree ps))
main_done cols columns lets [] made h i = absurd (h refl)
main_done cols columns lets (p ∷ ps) made h i = go made i
  where
    go : (made : Result (List Select) Memory) → IfOk made (λ ss. map select_tree ss ≡ map (part_strand_select cols lets) (map part_tree (p ∷ ps))) → IfOk made (λ ss. query_from (map select_tree ss) ≡ main_query cols columns lets (map part_tree (p ∷ ps)))
    go (Ok ss) e = ap query_from e ∙ sym (parts_listed cols lets (map part_tree (p ∷ ps)))
    go (Err x) e = tt

-- the let with a number
pub let_found : (lets : List LetQuery) (n : ℕ) (l : LetQuery) → 0 < n → n - 1 < length lets → l ≡ get_or lets (n - 1) l → let_tree l ≡ let_of (map let_tree lets) n
let_found lets zero l h b e = absurd (omega arith)
let_found lets (suc k) l h b e =
    let s : suc k - 1 ≡ k = omega arith in
    go lets k (omega (arith, b, s)) (e ∙ ap (λ j. get_or lets j l) s)
  where
    go : (xs : List LetQuery) (k : ℕ) → k < length xs → l ≡ get_or xs k l → let_tree l ≡ get_or (map let_tree xs) k no_let
    go [] k b e = absurd (omega arith)
    go (x ∷ xs) zero b e = ap let_tree e
    go (x ∷ xs) (suc k) b e = go xs k (omega arith) e

pub let_missing : (lets : List LetQuery) (n : ℕ) → length lets ≤ n - 1 → let_of (map let_tree lets) n ≡ no_let
let_missing lets zero e = refl
let_missing lets (suc k) e = let s : suc k - 1 ≡ k = omega arith in go lets k (omega (arith, e, s))
  where
    go : (xs : List LetQuery) (k : ℕ) → length xs ≤ k → get_or (map let_tree xs) k no_let ≡ no_let
    go [] k e = refl
    go (x ∷ xs) zero e = absurd (omega arith)
    go (x ∷ xs) (suc k) e = go xs k (omega arith)
