-- The SQL tree of a let form.
--
-- After Cheney, Lindley and Wadler, "Query Shredding", SIGMOD 2014, where let-inserted queries become SQL.
use Rattle.std.specs.Prelude.{ℕ, zero, suc, pos, Bool, true, false, cond, nat_eq, List, [], ◌∷◌, ◌++◌, map}
use Rattle.nq_model.specs.NamedRows.{Label}
use Rattle.nq_model.specs.Tables.{Columns}
use Rattle.nq_model.specs.declared.table.ColumnType.{ColumnType}
use Rattle.nq_model.specs.declared.table.ColumnType.TheVariants as column_type
use Rattle.nq_model.specs.declared.table.Schema.{Schema}
use Rattle.nq_ir.specs.declared.base.Gen.{Gen}
use Rattle.nq_ir.specs.Trees.{ShapeTree, plain_shape, rec_shape, index_shape, Shapes, no_shape, with_shape}
use Rattle.nq_ir.specs.Spots.{StrandTree}
use Rattle.nq_ir.specs.Lets.{LetTree, PartTree, LetFormTree, strand_of, columns_in}
use Rattle.nq_ir.specs.WellFormed.{column_names}
use Rattle.shred_types.specs.Columns.{answer_columns}
use Rattle.sql_profile.specs.Trees.{SourceTree, ExprTree, int, bool, text, column, ExprTrees, QueryTree, no_select, then_select, SelectTree, select, keep_if, ItemTrees, no_item, then_item, ValueTree, plain, number, WithTree, SqlTree}
use Rattle.flatten.specs.Names.{with_name, let_alias, outer_column, number_name, answer_name}
use Rattle.flatten.specs.Exprs.{source_of, column_expr, base_expr, conds_keep, order_keys}

-- whether the generator is one of these
abbrev pub in_gens : List Gen → ℕ → Bool
in_gens [] g = false
in_gens (h ∷ gens) g = cond (nat_eq g h.number) true (in_gens gens g)

-- no generator stands outside a WITH query
abbrev pub none_outer : ℕ → Bool
none_outer g = false

-- the items of a WITH query: these columns, and then the number by these keys
abbrev pub let_items : ExprTrees → List (ℕ × Label) → ItemTrees
let_items keys [] = then_item number_name (number keys) no_item
let_items keys (p ∷ ps) = then_item (outer_column p.0 p.1) (plain (column_expr none_outer p.0 p.1)) (let_items keys ps)

-- the SELECT of a let: every column of its generators, and a number by all of them
abbrev pub let_select : (Label → List Label) → LetTree → SelectTree
let_select cols l =
    select (let_items (order_keys none_outer (columns_in cols l.gens)) (columns_in cols l.gens)) (map source_of l.gens) (conds_keep none_outer l.conds)

-- one WITH query for each let, from q.k on
abbrev pub withs_from : (Label → List Label) → ℕ → List LetTree → List WithTree
withs_from cols k [] = []
withs_from cols k (l ∷ lets) = record { name = with_name k; query = then_select (let_select cols l) no_select } ∷ withs_from cols (suc k) lets

-- the values of the element columns of a shape; those of an index are the tag and a number by the keys
abbrev mutual
  pub shape_values : (ℕ → Bool) → ℕ → ExprTrees → ShapeTree → List ValueTree
  shape_values outer tag keys (plain_shape b) = plain (base_expr outer b) ∷ []
  shape_values outer tag keys (rec_shape fs) = shapes_values outer tag keys fs
  shape_values outer tag keys index_shape = plain (int (pos tag)) ∷ number keys ∷ []

  pub shapes_values : (ℕ → Bool) → ℕ → ExprTrees → Shapes → List ValueTree
  shapes_values outer tag keys no_shape = []
  shapes_values outer tag keys (with_shape l s fs) = shape_values outer tag keys s ++ shapes_values outer tag keys fs

-- values under the names of an answer's columns, from the place k on
abbrev pub answer_items : ℕ → List ValueTree → ItemTrees
answer_items k [] = no_item
answer_items k (v ∷ vs) = then_item (answer_name k) v (answer_items (suc k) vs)

-- the number of the spot around: 1 at the empty path, else that of the let's row
abbrev pub around_number : ℕ → ExprTree
around_number zero = int (pos 1)
around_number (suc k) = column let_alias number_name

-- the WITH query before other sources; at the empty path there is none
abbrev pub after_let : ℕ → List SourceTree → List SourceTree
after_let zero ss = ss
after_let (suc k) ss = record { table = with_name (suc k); alias = let_alias } ∷ ss

-- the values of a strand's SELECT: tag and number of the spot around, then those of the element. Inner bags are
-- numbered by all columns of all generators in scope.
abbrev pub strand_values : (Label → List Label) → ExprTree → StrandTree → List ValueTree
strand_values cols n c =
    plain (int (pos c.parent)) ∷ plain n ∷ shape_values (in_gens c.outer_gens) c.tag (order_keys (in_gens c.outer_gens) (columns_in cols (c.outer_gens ++ c.gens))) c.shape

-- the SELECT of a strand that ranges over the let with this number
abbrev pub strand_select : (Label → List Label) → ℕ → StrandTree → SelectTree
strand_select cols from c =
    select (answer_items 0 (strand_values cols (around_number from) c)) (after_let from (map source_of c.gens)) (conds_keep (in_gens c.outer_gens) c.conds)

-- one SELECT for each part
abbrev pub parts_query : (Label → List Label) → List LetTree → List PartTree → QueryTree
parts_query cols lets [] = no_select
parts_query cols lets (p ∷ ps) = then_select (strand_select cols p.from (strand_of lets p)) (parts_query cols lets ps)

-- 0, FALSE or the empty text
abbrev pub zero_value : ColumnType → ValueTree
zero_value column_type.Int = plain (int (pos 0))
zero_value column_type.Bool = plain (bool false)
zero_value column_type.Text = plain (text [])

-- one SELECT without a row
abbrev pub empty_query : List ColumnType → QueryTree
empty_query columns = then_select (select (answer_items 0 (map zero_value columns)) [] (keep_if (bool false))) no_select

abbrev pub main_query : (Label → List Label) → List ColumnType → List LetTree → List PartTree → QueryTree
main_query cols columns lets [] = empty_query columns
main_query cols columns lets (p ∷ ps) = parts_query cols lets (p ∷ ps)

-- the tree of a let form whose answer has these columns; cols gives the columns of each table
abbrev pub emitted : (Label → List Label) → List ColumnType → LetFormTree → SqlTree
emitted cols columns f = record { withs = withs_from cols 1 f.lets; main = main_query cols columns f.lets f.parts }

-- the tree of a let form over a schema
abbrev pub flattened : Schema → LetFormTree → SqlTree
flattened schema f = emitted (column_names schema.tables) (answer_columns f.element) f

-- the columns of an answer with these types, from the place k on
abbrev pub answer_shape_from : ℕ → List ColumnType → Columns
answer_shape_from k [] = []
answer_shape_from k (t ∷ ts) = (answer_name k, t) ∷ answer_shape_from (suc k) ts

abbrev pub answer_shape : List ColumnType → Columns
answer_shape types = answer_shape_from 0 types
