-- Which SQL trees are well scoped, with which columns; and the first broken rule with its place.
--
-- The rules: 1 a source names a table or an earlier WITH query; 2 the aliases of one FROM differ; 3 the
-- alias of a column is seen; 4 its source has the column; 5 operands have the types of their operator;
-- 6 WHERE and the test of a CASE are truth values and the two arms of a CASE have one type; 7 the item
-- names of one SELECT differ; 8 the SELECTs of a query have as many items of the same types in order;
-- 9 the names of the WITH queries differ from each other and from the tables; 10 the summed expression is an int.
use Rattle.std.specs.Prelude.{◌≡◌, ℕ, Bool, true, false, cond, ◌||◌, List, [], ◌∷◌, ◌++◌, map, Option, Some, None}
use Rattle.std.specs.Str.{bytes_eq}
use Rattle.nq_model.specs.Operators.{unary_type, binary_type}
use Rattle.nq_model.specs.Tables.{Columns, types_of}
use Rattle.nq_model.specs.declared.table.ColumnType.{ColumnType}
use Rattle.nq_model.specs.declared.table.ColumnType.TheVariants.{Int, Bool as Truth, Text}
use Rattle.nq_model.specs.declared.table.TableShape.{TableShape}
use Rattle.sql_profile.specs.declared.server.Loaded.{Loaded}
use Rattle.sql_profile.specs.declared.tree.Source.{Source}
use Rattle.sql_profile.specs.Trees.{SourceTree, ExprTree, int, bool, text, column, unary, binary, choose, not_exists, total, ExprTrees, no_expr, then_expr, QueryTree, no_select, then_select, SelectTree, select, KeepTree, keep_all, keep_if, ItemTrees, no_item, then_item, ValueTree, plain, number, WithTree, SqlTree, PlacedExpr, int_at, bool_at, text_at, column_at, unary_at, binary_at, choose_at, not_exists_at, total_at, PlacedExprs, none_at, then_at, PlacedQuery, no_select_at, then_select_at, PlacedSelect, select_at, PlacedKeep, keep_all_at, keep_if_at, PlacedItems, no_item_at, then_item_at, item_at, PlacedValue, plain_at, number_at, PlacedWith, PlacedSql}

-- the tables and the earlier WITH queries, each with its columns
abbrev pub Shapes : Type 0
Shapes = List (List ℕ × Columns)

-- the aliases that are seen, the innermost first, each with the columns of its source
abbrev pub Aliases : Type 0
Aliases = List (List ℕ × Columns)

abbrev pub names_in : {A : Type 0} → List (List ℕ × A) → List (List ℕ)
names_in xs = map (λ x. x.0) xs

-- what stands first under the name
abbrev pub found : {A : Type 0} → List ℕ → List (List ℕ × A) → Option A
found name [] = None
found name (x ∷ xs) = cond (bytes_eq name x.0) (Some x.1) (found name xs)

abbrev pub among : List ℕ → List (List ℕ) → Bool
among name [] = false
among name (n ∷ ns) = bytes_eq name n || among name ns

-- these sources have these aliases, none of which is among the earlier ones of the same FROM
abbrev pub SourcesHave : Shapes → List (List ℕ) → List SourceTree → Aliases → Type 0
SourcesHave ts seen [] own = own ≡ []
SourcesHave ts seen (s ∷ ss) own =
    (columns : Columns) × (rest : Aliases) × (found s.table ts ≡ Some columns) × (among s.alias seen ≡ false) × SourcesHave ts (s.alias ∷ seen) ss rest × (own ≡ (s.alias, columns) ∷ rest)

-- the parts of a tree over these tables, where these aliases are seen: their types and their columns
abbrev mutual
  pub HasType : Shapes → Aliases → ExprTree → ColumnType → Type 0
  HasType ts env (int n) k = k ≡ Int
  HasType ts env (bool b) k = k ≡ Truth
  HasType ts env (text t) k = k ≡ Text
  HasType ts env (column a c) k = (columns : Columns) × (found a env ≡ Some columns) × (found c columns ≡ Some k)
  HasType ts env (unary op e) k = (i : ColumnType) × HasType ts env e i × (unary_type op i ≡ Some k)
  HasType ts env (binary op l r) k = (i : ColumnType) × (j : ColumnType) × HasType ts env l i × HasType ts env r j × (binary_type op i j ≡ Some k)
  HasType ts env (choose t y n) k = HasType ts env t Truth × HasType ts env y k × HasType ts env n k
  HasType ts env (not_exists q) k = (columns : Columns) × QueryHas ts env q columns × (k ≡ Truth)
  HasType ts env (total g from keep e) k =
      (own : Aliases) × SourcesHave ts [] from own × KeepHas ts (own ++ env) keep × HasType ts (own ++ env) e Int × (k ≡ Int)

  -- the columns of a query have the names of its first SELECT
  pub QueryHas : Shapes → Aliases → QueryTree → Columns → Type 0
  QueryHas ts env no_select columns = ⊥
  QueryHas ts env (then_select s q) columns = SelectHas ts env s columns × OthersHave ts env q (types_of columns)

  pub OthersHave : Shapes → Aliases → QueryTree → List ColumnType → Type 0
  OthersHave ts env no_select types = Unit {0}
  OthersHave ts env (then_select s q) types = (columns : Columns) × SelectHas ts env s columns × (types_of columns ≡ types) × OthersHave ts env q types

  pub SelectHas : Shapes → Aliases → SelectTree → Columns → Type 0
  SelectHas ts env (select is from keep) columns =
      (own : Aliases) × SourcesHave ts [] from own × KeepHas ts (own ++ env) keep × ItemsHave ts (own ++ env) [] is columns

  pub KeepHas : Shapes → Aliases → KeepTree → Type 0
  KeepHas ts env keep_all = Unit {0}
  KeepHas ts env (keep_if e) = HasType ts env e Truth

  -- no name is among the earlier ones of the same SELECT
  pub ItemsHave : Shapes → Aliases → List (List ℕ) → ItemTrees → Columns → Type 0
  ItemsHave ts env seen no_item columns = columns ≡ []
  ItemsHave ts env seen (then_item n v is) columns =
      (k : ColumnType) × (rest : Columns) × ValueHas ts env v k × (among n seen ≡ false) × ItemsHave ts env (n ∷ seen) is rest × (columns ≡ (n, k) ∷ rest)

  pub ValueHas : Shapes → Aliases → ValueTree → ColumnType → Type 0
  ValueHas ts env (plain e) k = HasType ts env e k
  ValueHas ts env (number keys) k = KeysHave ts env keys × (k ≡ Int)

  -- order keys may have any type
  pub KeysHave : Shapes → Aliases → ExprTrees → Type 0
  KeysHave ts env no_expr = Unit {0}
  KeysHave ts env (then_expr e es) = (k : ColumnType) × HasType ts env e k × KeysHave ts env es

-- the WITH queries, in order, have new names; with them there are all these
abbrev pub WithsHave : Shapes → List WithTree → Shapes → Type 0
WithsHave ts [] all = all ≡ ts
WithsHave ts (w ∷ ws) all =
    (columns : Columns) × (among w.name (names_in ts) ≡ false) × QueryHas ts [] w.query columns × WithsHave ((w.name, columns) ∷ ts) ws all

-- the tree is well scoped over the tables, with these columns
abbrev pub IsWellScoped : Shapes → SqlTree → Columns → Type 0
IsWellScoped ts tree columns = (all : Shapes) × WithsHave ts tree.withs all × QueryHas all [] tree.main columns

-- the tables that a server holds
abbrev pub shapes_of : List Loaded → Shapes
shapes_of held = map (λ table. (table.name, table.columns)) held

-- the tables of a schema
abbrev pub shapes_of_schema : List TableShape → Shapes
shapes_of_schema shapes = map (λ shape. (shape.name, shape.columns)) shapes

-- The walk in the order of judging. It gives what it is asked for, or the first broken rule and its place.
pub data Verdict (A : Type 0) : Type 0 where
  Fine : A → Verdict A
  Broken : ℕ → ℕ → Verdict A

abbrev pub and_then : {A B : Type 0} → Verdict A → (A → Verdict B) → Verdict B
and_then (Fine a) f = f a
and_then (Broken rule place) f = Broken rule place

abbrev pub or_broken : {A : Type 0} → ℕ → ℕ → Option A → Verdict A
or_broken rule place (Some a) = Fine a
or_broken rule place None = Broken rule place

-- the rule is broken where the test holds
abbrev pub unless : {A : Type 0} → Bool → ℕ → ℕ → Verdict A → Verdict A
unless true rule place v = Broken rule place
unless false rule place v = v

abbrev pub same_type : ColumnType → ColumnType → Bool
same_type Int Int = true
same_type Truth Truth = true
same_type Text Text = true
same_type _ _ = false

abbrev pub same_types : List ColumnType → List ColumnType → Bool
same_types [] [] = true
same_types (i ∷ is) (j ∷ js) = cond (same_type i j) (same_types is js) false
same_types _ _ = false

-- the wanted type, or the rule is broken
abbrev pub wants : ColumnType → ColumnType → ℕ → ℕ → Verdict ColumnType
wants k i rule place = cond (same_type i k) (Fine k) (Broken rule place)

abbrev pub column_type : ℕ → Option Columns → List ℕ → Verdict ColumnType
column_type place None c = Broken 3 place
column_type place (Some columns) c = or_broken 4 place (found c columns)

abbrev pub choose_type : ℕ → ColumnType → ColumnType → ColumnType → Verdict ColumnType
choose_type place Truth j k = wants k j 6 place
choose_type place _ j k = Broken 6 place

abbrev pub expr_place : PlacedExpr → ℕ
expr_place (int_at p n) = p
expr_place (bool_at p b) = p
expr_place (text_at p t) = p
expr_place (column_at p a c) = p
expr_place (unary_at p op e) = p
expr_place (binary_at p op l r) = p
expr_place (choose_at p t y n) = p
expr_place (not_exists_at p q) = p
expr_place (total_at p g from keep e) = p

abbrev pub select_place : PlacedSelect → ℕ
select_place (select_at p is from keep) = p

-- each source by rule 1 and then by rule 2
abbrev pub judge_sources : Shapes → List (List ℕ) → List Source → Verdict Aliases
judge_sources ts seen [] = Fine []
judge_sources ts seen (s ∷ ss) =
    and_then (or_broken 1 s.place (found s.table ts)) (λ columns. unless (among s.alias seen) 2 s.place (and_then (judge_sources ts (s.alias ∷ seen) ss) (λ own. Fine ((s.alias, columns) ∷ own))))

abbrev mutual
  pub judge_expr : Shapes → Aliases → PlacedExpr → Verdict ColumnType
  judge_expr ts env (int_at p n) = Fine Int
  judge_expr ts env (bool_at p b) = Fine Truth
  judge_expr ts env (text_at p t) = Fine Text
  judge_expr ts env (column_at p a c) = column_type p (found a env) c
  judge_expr ts env (unary_at p op e) = and_then (judge_expr ts env e) (λ i. or_broken 5 p (unary_type op i))
  judge_expr ts env (binary_at p op l r) = and_then (judge_expr ts env l) (λ i. and_then (judge_expr ts env r) (λ j. or_broken 5 p (binary_type op i j)))
  judge_expr ts env (choose_at p t y n) = and_then (judge_expr ts env t) (λ i. and_then (judge_expr ts env y) (λ j. and_then (judge_expr ts env n) (λ k. choose_type p i j k)))
  judge_expr ts env (not_exists_at p q) = and_then (judge_query ts env q) (λ columns. Fine Truth)
  judge_expr ts env (total_at p g from keep e) =
      and_then (judge_sources ts [] from) (λ own. and_then (judge_keep ts (own ++ env) keep) (λ k. and_then (judge_expr ts (own ++ env) e) (λ i. wants Int i 10 (expr_place e))))

  -- no query is without SELECT, so no caller sees rule 0
  pub judge_query : Shapes → Aliases → PlacedQuery → Verdict Columns
  judge_query ts env no_select_at = Broken 0 0
  judge_query ts env (then_select_at s q) = and_then (judge_select ts env s) (λ columns. judge_others ts env columns q)

  -- the further SELECTs, each by rule 8 after its own rules
  pub judge_others : Shapes → Aliases → Columns → PlacedQuery → Verdict Columns
  judge_others ts env columns no_select_at = Fine columns
  judge_others ts env columns (then_select_at s q) =
      and_then (judge_select ts env s) (λ others. cond (same_types (types_of others) (types_of columns)) (judge_others ts env columns q) (Broken 8 (select_place s)))

  -- the sources, then WHERE, then the items
  pub judge_select : Shapes → Aliases → PlacedSelect → Verdict Columns
  judge_select ts env (select_at p is from keep) =
      and_then (judge_sources ts [] from) (λ own. and_then (judge_keep ts (own ++ env) keep) (λ k. judge_items ts (own ++ env) [] is))

  pub judge_keep : Shapes → Aliases → PlacedKeep → Verdict ColumnType
  judge_keep ts env keep_all_at = Fine Truth
  judge_keep ts env (keep_if_at e) = and_then (judge_expr ts env e) (λ i. wants Truth i 6 (expr_place e))

  -- each item by its expressions and then by rule 7
  pub judge_items : Shapes → Aliases → List (List ℕ) → PlacedItems → Verdict Columns
  judge_items ts env seen no_item_at = Fine []
  judge_items ts env seen (then_item_at (item_at p n v) is) =
      and_then (judge_value ts env v) (λ k. unless (among n seen) 7 p (and_then (judge_items ts env (n ∷ seen) is) (λ columns. Fine ((n, k) ∷ columns))))

  pub judge_value : Shapes → Aliases → PlacedValue → Verdict ColumnType
  judge_value ts env (plain_at e) = judge_expr ts env e
  judge_value ts env (number_at keys) = judge_keys ts env keys

  pub judge_keys : Shapes → Aliases → PlacedExprs → Verdict ColumnType
  judge_keys ts env none_at = Fine Int
  judge_keys ts env (then_at e es) = and_then (judge_expr ts env e) (λ k. judge_keys ts env es)

-- a WITH query by rule 9 and then by its query
abbrev pub judge_withs : Shapes → List PlacedWith → Verdict Shapes
judge_withs ts [] = Fine ts
judge_withs ts (w ∷ ws) =
    unless (among w.name (names_in ts)) 9 w.place (and_then (judge_query ts [] w.query) (λ columns. judge_withs ((w.name, columns) ∷ ts) ws))

-- the columns of the tree over the tables, or the first broken rule and its place
abbrev pub judge : Shapes → PlacedSql → Verdict Columns
judge ts tree = and_then (judge_withs ts tree.withs) (λ all. judge_query all [] tree.main)
