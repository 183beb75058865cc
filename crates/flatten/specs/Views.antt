-- Lists of the program's parts as the trees that stand for them.
use Rattle.std.specs.Prelude.{ℕ, suc, List, [], ◌∷◌, map, flat_map, Option, Bool}
use Rattle.std.specs.Option.{option_map}
use Rattle.nq_model.specs.NamedRows.{Label}
use Rattle.nq_model.specs.Tables.{Columns}
use Rattle.nq_model.specs.declared.table.TableShape.{TableShape}
use Rattle.nq_ir.specs.declared.base.Gen.{Gen}
use Rattle.nq_ir.specs.Lets.{LetTree, PartTree, strand_of}
use Rattle.nq_ir.specs.Trees.{TestPart}
use Rattle.nq_ir.specs.WellFormed.{table_columns}
use Rattle.sql_profile.specs.declared.tree.Expr.{Expr}
use Rattle.sql_profile.specs.declared.tree.Item.{Item}
use Rattle.sql_profile.specs.declared.tree.ItemValue.{ItemValue}
use Rattle.sql_profile.specs.declared.tree.Picked.{Picked}
use Rattle.sql_profile.specs.declared.tree.Select.{Select}
use Rattle.sql_profile.specs.Trees.{ExprTree, ExprTrees, KeepTree, ItemTrees, no_item, then_item, ValueTree, plain, QueryTree, no_select, then_select, SelectTree, select, bare_exprs, bare_keep, bare_items, bare_value, bare_query, exprs_of, keep_of, items_of, query_of, placed_expr, placed_item, placed_value, placed_select, SourceTree, bare_source, placed_picked}
use Rattle.flatten.specs.Names.{outer_column, answer_name}
use Rattle.flatten.specs.Exprs.{column_expr, one_item, source_of, conds_keep}
use Rattle.flatten.specs.Emitted.{none_outer, strand_select}

abbrev pub keys_tree : List Expr → ExprTrees
keys_tree es = bare_exprs (exprs_of (map placed_expr es))

abbrev pub keep_tree : Option Expr → KeepTree
keep_tree e = bare_keep (keep_of (option_map placed_expr e))

abbrev pub value_tree : ItemValue → ValueTree
value_tree v = bare_value (placed_value v)

-- an item's name and its value
abbrev pub NamedValue : Type 0
NamedValue = Label × ValueTree

abbrev pub item_view : Item → NamedValue
item_view i = (i.name, value_tree i.value)

abbrev pub items_tree : List Item → ItemTrees
items_tree is = bare_items (items_of (map placed_item is))

abbrev pub selects_tree : List Select → QueryTree
selects_tree ss = bare_query (query_of (map placed_select ss))

-- the sources and the condition of a scalar query
abbrev pub picked_tree : Picked → List SourceTree × KeepTree
picked_tree k = (map bare_source (placed_picked k).from, bare_keep (placed_picked k).keep)

-- those of a comprehension that is counted or summed
abbrev pub test_picked : (ℕ → Bool) → TestPart → List SourceTree × KeepTree
test_picked outer t = (map source_of t.gens, conds_keep outer t.conds)

-- lists of trees as one tree
abbrev pub query_from : List SelectTree → QueryTree
query_from [] = no_select
query_from (s ∷ ss) = then_select s (query_from ss)

abbrev pub items_from : List NamedValue → ItemTrees
items_from [] = no_item
items_from (i ∷ is) = then_item i.0 i.1 (items_from is)

-- the SELECT of a comprehension of a test
abbrev pub test_select : (ℕ → Bool) → TestPart → SelectTree
test_select outer t = select one_item (map source_of t.gens) (conds_keep outer t.conds)

-- the columns of a generator, as expressions and as items of a WITH query
abbrev pub column_exprs : (ℕ → Bool) → ℕ → Columns → List ExprTree
column_exprs outer g columns = map (λ c. column_expr outer g c.0) columns

abbrev pub column_items : ℕ → Columns → List NamedValue
column_items g columns = map {B = NamedValue} (λ c. (outer_column g c.0, plain (column_expr none_outer g c.0))) columns

abbrev pub gens_exprs : List TableShape → (ℕ → Bool) → List Gen → List ExprTree
gens_exprs S outer gens = flat_map (λ g. column_exprs outer g.number (table_columns S g.table)) gens

abbrev pub gens_items : List TableShape → List Gen → List NamedValue
gens_items S gens = flat_map (λ g. column_items g.number (table_columns S g.table)) gens

-- values under the names of an answer's columns
abbrev pub answer_views : ℕ → List ValueTree → List NamedValue
answer_views k [] = []
answer_views k (v ∷ vs) = (answer_name k, v) ∷ answer_views (suc k) vs

-- the SELECT of a part on these lets
abbrev pub part_strand_select : (Label → List Label) → List LetTree → PartTree → SelectTree
part_strand_select cols lets p = strand_select cols p.from (strand_of lets p)
