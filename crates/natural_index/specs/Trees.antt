-- The natural SQL trees of a normal form: a SELECT for each comprehension, in which all generators
-- in scope are sources, and bags are named by tags and keys.
--
-- After the natural indexes of Cheney, Lindley and Wadler, "Query Shredding", SIGMOD 2014.
use Rattle.std.specs.Prelude.{◌<◌, ◌^◌, ℕ, suc, pos, false, List, [], ◌∷◌, ◌++◌, map, get_or, length}
use Rattle.nq_model.specs.NamedRows.{Label}
use Rattle.nq_model.specs.Numberings.{count_from}
use Rattle.nq_model.specs.Types.{TypeTree, bag}
use Rattle.nq_model.specs.declared.table.ColumnType.{ColumnType}
use Rattle.nq_model.specs.declared.table.ColumnType.TheVariants as column_type
use Rattle.nq_model.specs.declared.table.TableShape.{TableShape}
use Rattle.nq_ir.specs.declared.shredded.Shredded.{Shredded}
use Rattle.nq_ir.specs.Parts.{bags, element_types}
use Rattle.nq_ir.specs.Shredded.{shredded_tree}
use Rattle.nq_ir.specs.Spots.{StrandTree, both}
use Rattle.nq_ir.specs.Trees.{FormTree, ShapeTree, plain_shape, rec_shape, index_shape, Shapes, no_shape, with_shape}
use Rattle.sql_profile.specs.Trees.{ExprTree, int, bool, text, SelectTree, select, keep_if}
use Rattle.sql_profile.specs.Trees.{ValueTree, plain, SqlTree}
use Rattle.flatten.specs.Names.{number_text}
use Rattle.flatten.specs.Exprs.{source_of, column_expr, base_expr, conds_keep}
use Rattle.flatten.specs.Emitted.{none_outer}
use Rattle.flatten.specs.Views.{items_from, query_from}
use Rattle.stitcher.specs.Schemes.{element_of}
use Rattle.natural_keys.specs.declared.layout.KeyColumn.{KeyColumn}
use Rattle.natural_keys.specs.declared.layout.Layout.{Layout}
use Rattle.natural_keys.specs.Layouts.{key_columns, scope_key, group, in_layout, layout_at, strands_by_path, inner_layouts, outer_layouts}
use Rattle.natural_keys.specs.NaturalKeys.{element_columns, index_columns}

-- things under a word and their number, from k on
abbrev pub numbered : {A : Type 0} → Label → ℕ → List A → List (Label × A)
numbered word k [] = []
numbered word k (x ∷ xs) = (word ++ number_text k, x) ∷ numbered word (suc k) xs

-- ot; and ki, kb, kt and c, before numbers
abbrev pub tag_name : Label
tag_name = 111 ∷ 116 ∷ []

abbrev pub int_word : Label
int_word = 107 ∷ 105 ∷ []

abbrev pub bool_word : Label
bool_word = 107 ∷ 98 ∷ []

abbrev pub text_word : Label
text_word = 107 ∷ 116 ∷ []

abbrev pub part_word : Label
part_word = 99 ∷ []

-- what stands in the columns of an answer, under their names: the tag, the key cells of each type,
-- and the parts of the element
abbrev pub in_columns : {A : Type 0} → A → (ints bools texts parts : List A) → List (Label × A)
in_columns tag ints bools texts parts =
    (tag_name, tag) ∷ (numbered int_word 1 ints ++ (numbered bool_word 1 bools
    ++ (numbered text_word 1 texts ++ numbered part_word 1 parts)))

-- a key column, and 0, FALSE or the empty text
abbrev pub key_expr : KeyColumn → ExprTree
key_expr k = column_expr none_outer k.generator k.name

abbrev pub zero_expr : ColumnType → ExprTree
zero_expr column_type.Int = int (pos 0)
zero_expr column_type.Bool = bool false
zero_expr column_type.Text = text []

-- the expressions of an index: a tag, and the key columns by the layout
abbrev pub index_exprs : Layout → ℕ → List KeyColumn → List ExprTree
index_exprs l tag ks = int (pos tag) ∷ in_layout key_expr zero_expr l ks

-- those of a shape, with these for an inner bag
abbrev mutual
  pub shape_exprs : List ExprTree → ShapeTree → List ExprTree
  shape_exprs index (plain_shape b) = base_expr none_outer b ∷ []
  shape_exprs index (rec_shape fs) = shapes_exprs index fs
  shape_exprs index index_shape = index

  pub shapes_exprs : List ExprTree → Shapes → List ExprTree
  shapes_exprs index no_shape = []
  shapes_exprs index (with_shape l s fs) = shape_exprs index s ++ shapes_exprs index fs

-- the columns of the SELECT of a comprehension: the index of the bag around, and the element
abbrev pub natural_columns : List TableShape → Layout → Layout → StrandTree
    → List (Label × ExprTree)
natural_columns S outer inner d =
    let around = group key_expr zero_expr outer (key_columns S d.outer_gens) in
    in_columns (int (pos d.parent)) (around column_type.Int) (around column_type.Bool)
    (around column_type.Text)
    (shape_exprs (index_exprs inner d.tag (scope_key S d)) d.shape)

-- columns as items
abbrev pub as_items : List (Label × ExprTree) → List (Label × ValueTree)
as_items columns = map (λ c. (c.0, plain c.1)) columns

-- the SELECT of a comprehension: all generators in scope, outermost first, and all conditions in
-- scope, from outside in
abbrev pub natural_select : List TableShape → Layout → Layout → StrandTree → SelectTree
natural_select S outer inner d =
    select (items_from (as_items (natural_columns S outer inner d)))
    (map source_of (d.outer_gens ++ d.gens)) (conds_keep none_outer
    (both d.outer_conds d.conds))

-- the SELECT where there is no comprehension: one without a row
abbrev pub empty_select : Layout → Layout → TypeTree → SelectTree
empty_select outer inner a =
    let zeros = group key_expr zero_expr outer [] in
    select (items_from (as_items (in_columns (int (pos 0)) (zeros column_type.Int)
    (zeros column_type.Bool) (zeros column_type.Text)
    (map zero_expr (element_columns (index_columns inner) a))))) [] (keep_if (bool false))

-- the SELECTs of the comprehensions at a path
abbrev pub natural_selects : List TableShape → Layout → Layout → TypeTree → List StrandTree
    → List SelectTree
natural_selects S outer inner a [] = empty_select outer inner a ∷ []
natural_selects S outer inner a (d ∷ ds) = map (natural_select S outer inner) (d ∷ ds)

-- their tree: the SELECTs joined by UNION ALL, and no WITH query
abbrev pub union_tree : List SelectTree → SqlTree
union_tree selects = record { withs = []; main = query_from selects }

-- the tree at a path, where the paths have these layouts, element types and comprehensions
abbrev pub tree_in : List TableShape → (outers inners : List Layout) → List TypeTree
    → List (List StrandTree) → ℕ → SqlTree
tree_in S outers inners elements strands q =
    union_tree (natural_selects S (layout_at outers q) (layout_at inners q) (element_of elements q)
    (get_or strands q []))

-- the tree of a form at a path
abbrev pub natural_tree : List TableShape → FormTree → ℕ → SqlTree
natural_tree S form q = tree_in S (outer_layouts S form) (inner_layouts S form)
    (element_types (bag form.element)) (strands_by_path form) q

-- the trees of a form, in path order
abbrev pub natural_trees : List TableShape → FormTree → List SqlTree
natural_trees S form = map (natural_tree S form) (count_from 0 (bags (bag form.element)))

-- the element types and the comprehensions of shredded forms
abbrev pub elements_of : List Shredded → List TypeTree
elements_of forms = map (λ form. form.element) (map shredded_tree forms)

abbrev pub parts_of : List Shredded → List (List StrandTree)
parts_of forms = map (λ form. form.parts) (map shredded_tree forms)

-- there are numbers for the names of all columns at a path: of key cells, and of the element
pub record HasNumbers (outer : Layout) (columns : List ColumnType) : Type 0 where
  pub ints : outer.ints < 2 ^ 63
  pub bools : outer.bools < 2 ^ 63
  pub texts : outer.texts < 2 ^ 63
  pub parts : length columns < 2 ^ 63
