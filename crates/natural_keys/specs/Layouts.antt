-- Key columns of generators, and layouts: how many cells of each type an index has.
--
-- After the natural indexes of Cheney, Lindley and Wadler, "Query Shredding", SIGMOD 2014.
use Rattle.std.specs.Prelude.{ℕ, ◌+◌, ◌-◌, max, List, [], ◌∷◌, ◌++◌, map, filter, flat_map, get_or, length, replicate, Option, Some, None}
use Rattle.std.specs.Option.{unwrap_or}
use Rattle.nq_model.specs.NamedRows.{Label}
use Rattle.nq_model.specs.Tables.{Columns}
use Rattle.nq_model.specs.Types.{bag}
use Rattle.nq_model.specs.Typing.{shape_named}
use Rattle.nq_model.specs.declared.table.ColumnType.{ColumnType}
use Rattle.nq_model.specs.declared.table.ColumnType.TheVariants.{Int, Bool as Truth, Text}
use Rattle.nq_model.specs.declared.table.TableShape.{TableShape}
use Rattle.nq_ir.specs.declared.base.Gen.{Gen}
use Rattle.nq_ir.specs.Paths.{paths}
use Rattle.nq_ir.specs.Spots.{StrandTree, strands_at}
use Rattle.nq_ir.specs.Trees.{FormTree}
use Rattle.nq_ir.specs.WellFormed.{column_type_in, table_columns}
use Rattle.sql_profile.specs.Scope.{same_type}
use Rattle.stitcher.specs.Linked.{Home, homes}
use Rattle.natural_keys.specs.declared.layout.KeyColumn.{KeyColumn}
use Rattle.natural_keys.specs.declared.layout.Layout.{Layout}

-- the columns of the key of a table, in key order; a table that is not there has none
abbrev pub key_or_none : Option TableShape → List Label
key_or_none None = []
key_or_none (Some shape) = shape.key

abbrev pub table_key : List TableShape → Label → List Label
table_key S name = key_or_none (shape_named name S)

-- the type of a column; int where it is not there
abbrev pub type_in : Label → Columns → ColumnType
type_in l columns = unwrap_or (column_type_in l columns) Int

-- the key columns of a generator, in key order
abbrev pub gen_key : List TableShape → Gen → List KeyColumn
gen_key S g = map (λ k. record {
  generator = g.number;
  name = k;
  of = type_in k (table_columns S g.table);
}) (table_key S g.table)

-- those of generators, outermost first
abbrev pub key_columns : List TableShape → List Gen → List KeyColumn
key_columns S gens = flat_map (gen_key S) gens

-- those of all generators in scope of a comprehension
abbrev pub scope_key : List TableShape → StrandTree → List KeyColumn
scope_key S d = key_columns S (d.outer_gens ++ d.gens)

-- those of one type, in the same order
abbrev pub of_type : ColumnType → List KeyColumn → List KeyColumn
of_type t ks = filter (λ k. same_type k.of t) ks

-- the greatest number of key columns of a type that one of these comprehensions has; 0 where there
-- is none
abbrev pub most : List TableShape → ColumnType → List StrandTree → ℕ
most S t [] = 0
most S t (d ∷ ds) = max (length (of_type t (scope_key S d))) (most S t ds)

-- the layout of the indexes of these comprehensions
abbrev pub layout_of : List TableShape → List StrandTree → Layout
layout_of S ds = record { ints = most S Int ds; bools = most S Truth ds; texts = most S Text ds }

-- no cell
abbrev pub no_layout : Layout
no_layout = record { ints = 0; bools = 0; texts = 0 }

-- a layout that these key columns fit into too
abbrev pub raised : Layout → List KeyColumn → Layout
raised l ks = record {
  ints = max l.ints (length (of_type Int ks));
  bools = max l.bools (length (of_type Truth ks));
  texts = max l.texts (length (of_type Text ks));
}

abbrev pub layout_at : List Layout → ℕ → Layout
layout_at layouts q = get_or layouts q no_layout

-- the comprehensions at each path, in path order, each path's in the order of their tags
abbrev pub strands_by_path : FormTree → List (List StrandTree)
strands_by_path form = map (strands_at form.element form.comps) (paths (bag form.element))

-- by path, the layout of the indexes that its rows give for inner bags: the indexes name the
-- comprehensions there
abbrev pub inner_layouts : List TableShape → FormTree → List Layout
inner_layouts S form = map (layout_of S) (strands_by_path form)

-- by path, the layout of the indexes of the bags in which its rows stand: no cell at the empty
-- path, else as the rows of the enclosing path give them
abbrev pub outer_by : List Layout → List Home → List Layout
outer_by inners [] = []
outer_by inners (h ∷ homes) = no_layout ∷ map (λ home. layout_at inners home.0) homes

abbrev pub outer_layouts : List TableShape → FormTree → List Layout
outer_layouts S form = outer_by (inner_layouts S form) (homes (bag form.element))

-- how many cells of a type, and of all
abbrev pub count_in : Layout → ColumnType → ℕ
count_in l Int = l.ints
count_in l Truth = l.bools
count_in l Text = l.texts

abbrev pub width : Layout → ℕ
width l = l.ints + (l.bools + l.texts)

-- n things: those given, and then this one as often as they are fewer
abbrev pub filled : {A : Type 0} → ℕ → List A → A → List A
filled n xs z = xs ++ replicate (n - length xs) z

-- what stands for the key columns of one type in a layout, each by f, filled up
abbrev pub group : {A : Type 0} → (KeyColumn → A) → (ColumnType → A) → Layout → List KeyColumn
    → ColumnType → List A
group f zero l ks t = filled (count_in l t) (map f (of_type t ks)) (zero t)

-- what stands for all of them: first int, then bool, then text
abbrev pub in_layout : {A : Type 0} → (KeyColumn → A) → (ColumnType → A) → Layout → List KeyColumn
    → List A
in_layout f zero l ks = group f zero l ks Int ++ (group f zero l ks Truth ++ group f zero l ks Text)

-- the types of the key columns of a layout
abbrev pub layout_types : Layout → List ColumnType
layout_types l = replicate l.ints Int ++ (replicate l.bools Truth ++ replicate l.texts Text)
