-- The rows that SQL allows to a natural tree: one for each comprehension and each choice that it
-- keeps, in any order.
use Rattle.std.proofs.Common.{◌≡◌, ℕ, zero, suc, ◌-◌, pos, List, [], ◌∷◌, ◌++◌, map, refl, sym, ap, ap₂, ◌∙◌, subst, length, flat_map, get_or, append_assoc}
use Rattle.std.specs.Prelude.{replicate}
use Rattle.std.specs.Ordering.{nat_cmp}
use Rattle.std.proofs.lemmas.List.{map-append}
use Rattle.nq_model.specs.Bags.{Reordered}
use Rattle.nq_model.specs.Databases.{database}
use Rattle.nq_model.specs.NamedRows.{Label, NamedTables, cell_under, named_table}
use Rattle.nq_model.specs.Types.{TypeTree, bag}
use Rattle.nq_model.specs.declared.table.Cell.{Cell}
use Rattle.nq_model.specs.declared.table.Cell.TheVariants as cell
use Rattle.nq_model.specs.declared.table.ColumnType.{ColumnType}
use Rattle.nq_model.specs.declared.table.ColumnType.TheVariants as column_type
use Rattle.nq_model.specs.declared.table.TableShape.{TableShape}
use Rattle.nq_model.proofs.Bags.{matched_flat_map, reordered_refl, reordered_sym, reordered_trans}
use Rattle.nq_model.proofs.Canonical.{reordered_sorted}
use Rattle.nq_model.proofs.Numberings.{length_map}
use Rattle.nq_ir.specs.Meanings.{Env, rows_in}
use Rattle.nq_ir.specs.Parts.{element_types}
use Rattle.nq_ir.specs.Spots.{StrandTree, both, by_tag, strands}
use Rattle.nq_ir.specs.Trees.{BaseTree, FormTree, ShapeTree, Shapes, plain_shape, rec_shape, index_shape, no_shape, with_shape, and_cond, no_cond}
use Rattle.nq_ir.proofs.Nested.{map_of_map, map_same}
use Rattle.nq_ir.proofs.Spots.{get_or_map}
use Rattle.sql_profile.specs.AllowedAnswers.{Scope, expr_value, ItemsGive, SelectGives, SelectsGive, QueryGives, TreeAllows, WithsAllow, beside}
use Rattle.sql_profile.specs.Servers.{held_of}
use Rattle.sql_profile.specs.Trees.{ExprTree}
use Rattle.sql_profile.proofs.HeldTables.{held_filled}
use Rattle.flatten.specs.Emitted.{none_outer}
use Rattle.flatten.specs.Views.{items_from, query_from}
use Rattle.flatten.proofs.Exprs.{Inner, by_name, scoped, row_shown, expr_is}
use Rattle.flatten.proofs.LetQuery.{kept_scoped}
use Rattle.flatten.proofs.Withs.{inner_conds}
use Rattle.stitcher.specs.Schemes.{element_of}
use Rattle.natural_keys.specs.declared.layout.KeyColumn.{KeyColumn}
use Rattle.natural_keys.specs.declared.layout.Layout.{Layout}
use Rattle.natural_keys.specs.Layouts.{key_columns, scope_key, of_type, count_in, group, in_layout, layout_at, strands_by_path, inner_layouts, outer_layouts}
use Rattle.natural_keys.specs.Indexes.{key_cell, zero_cell, index_cells}
use Rattle.natural_index.proofs.NaturalRows.{shape_cells, shapes_cells, inner_cells, natural_row, natural_rows, scope_choices}
use Rattle.natural_keys.specs.NaturalKeys.{element_columns, index_columns}
use Rattle.natural_index.specs.Trees.{numbered, int_word, bool_word, text_word, part_word, in_columns, key_expr, zero_expr, index_exprs, shape_exprs, shapes_exprs, natural_columns, as_items, natural_select, natural_selects, natural_tree}

beside_mapped : {A : Type 0} (f : A → Cell) (g : A → List Cell) (xs : List A)
    → beside (map f xs) (map g xs) ≡ map (λ x. f x ∷ g x) xs
beside_mapped f g [] = refl
beside_mapped f g (x ∷ xs) = ap (λ (l : List (List Cell)). (f x ∷ g x) ∷ l) (beside_mapped f g xs)

map_replicate : {A B : Type 0} (f : A → B) (n : ℕ) (x : A) → map f (replicate n x)
    ≡ replicate n (f x)
map_replicate f zero x = refl
map_replicate f (suc n) x = ap (λ (l : List _). f x ∷ l) (map_replicate f n x)

numbered_values : {A B : Type 0} (f : A → B) (word : Label) (k : ℕ) (xs : List A) → map {A = Label
    × A} (λ c. f c.1) (numbered word k xs) ≡ map f xs
numbered_values f word k [] = refl
numbered_values f word k (x ∷ xs) = ap (λ (l : List _). f x ∷ l) (numbered_values f word (suc k) xs)

-- what stands in the columns, without their names
columns_values : {A B : Type 0} (f : A → B) (tag : A) (ints bools texts parts : List A) → map {A
    = Label × A} (λ c. f c.1) (in_columns tag ints bools texts parts) ≡ f tag
    ∷ ((map f ints ++ (map f bools ++ map f texts)) ++ map f parts)
columns_values {A = A} f tag ints bools texts parts =
    let v : Label × A → _ = λ c. f c.1 in
    let i : List (Label × A) = numbered int_word 1 ints in
    let b : List (Label × A) = numbered bool_word 1 bools in
    let t : List (Label × A) = numbered text_word 1 texts in
    let c : List (Label × A) = numbered part_word 1 parts in
    ap (λ (l : List _). f tag ∷ l)
    (map-append v i (b ++ (t ++ c)) ∙ ap₂ (λ (x y : List _). x ++ y)
    (numbered_values f int_word 1 ints)
    (map-append v b (t ++ c) ∙ ap₂ (λ (x y : List _). x ++ y) (numbered_values f bool_word 1 bools)
    (map-append v t c ∙ ap₂ (λ (x y : List _). x ++ y) (numbered_values f text_word 1 texts)
    (numbered_values f part_word 1 parts)))
    ∙ sym (append_assoc (map f ints) (map f bools ++ map f texts) (map f parts)
    ∙ ap (λ (l : List _). map f ints ++ l) (append_assoc (map f bools) (map f texts)
    (map f parts))))

module _ (us : NamedTables) where
  items_rows : (columns : List (Label × ExprTree)) (at : List Scope) (rows : List (List Cell))
      → ItemsGive us at (items_from (as_items columns)) rows → rows
      ≡ map (λ sc. map (λ c. expr_value us c.1 sc) columns) at
  items_rows [] at rows h = h
  items_rows (c ∷ columns) at rows h =
      h.4 ∙ ap₂ (λ (x : List Cell) (y : List (List Cell)). beside x y) h.2
      (items_rows columns at h.1 h.3) ∙ beside_mapped (λ sc. expr_value us c.1 sc)
      (λ sc. map (λ c. expr_value us c.1 sc) columns) at

  key_shown : (e : Env) (k : KeyColumn) → expr_value us (key_expr k) (scoped e) ≡ key_cell e k
  key_shown e k = ap (cell_under k.name) (row_shown k.generator e)

  zero_shown : (sc : Scope) (t : ColumnType) → expr_value us (zero_expr t) sc ≡ zero_cell t
  zero_shown sc column_type.Int = refl
  zero_shown sc column_type.Bool = refl
  zero_shown sc column_type.Text = refl

  group_shown : (l : Layout) (ks : List KeyColumn) (t : ColumnType) (e : Env)
      → map (λ x. expr_value us x (scoped e)) (group key_expr zero_expr l ks t)
      ≡ group (key_cell e) zero_cell l ks t
  group_shown l ks t e =
      let v : ExprTree → Cell = λ x. expr_value us x (scoped e) in
      let own : List ExprTree = map key_expr (of_type t ks) in
      let n : ℕ = count_in l t - length own in
      let shown : map v own ≡ map (key_cell e) (of_type t ks) = map_of_map v key_expr (of_type t ks)
      ∙ map_same (λ k. v (key_expr k)) (key_cell e) (key_shown e) (of_type t ks) in
      let long : length own ≡ length (map (key_cell e) (of_type t ks))
      = length_map key_expr (of_type t ks) ∙ sym (length_map (key_cell e) (of_type t ks)) in
      map-append v own (replicate n (zero_expr t))
      ∙ ap₂ (λ (x y : List Cell). x ++ y) shown (map_replicate v n (zero_expr t)
      ∙ ap₂ (λ m z. replicate m z) (ap (λ m. count_in l t - m) long) (zero_shown (scoped e) t))

  index_shown : (l : Layout) (ks : List KeyColumn) (e : Env)
      → map (λ x. expr_value us x (scoped e)) (in_layout key_expr zero_expr l ks)
      ≡ index_cells l ks e
  index_shown l ks e =
      let v : ExprTree → Cell = λ x. expr_value us x (scoped e) in
      let g : ColumnType → List ExprTree = group key_expr zero_expr l ks in
      map-append v (g column_type.Int) (g column_type.Bool ++ g column_type.Text)
      ∙ ap₂ (λ (x y : List Cell). x ++ y) (group_shown l ks column_type.Int e)
      (map-append v (g column_type.Bool) (g column_type.Text)
      ∙ ap₂ (λ (x y : List Cell). x ++ y) (group_shown l ks column_type.Bool e)
      (group_shown l ks column_type.Text e))

  base_inner : (b : BaseTree) → Inner none_outer b
  base_inner b = (inner_conds (and_cond b no_cond)).0

  mutual
    shape_shown : (index : List ExprTree) (cells : List Cell) (e : Env)
        → map (λ x. expr_value us x (scoped e)) index ≡ cells → (s : ShapeTree)
        → map (λ x. expr_value us x (scoped e)) (shape_exprs index s)
        ≡ shape_cells (by_name us) cells s e
    shape_shown index cells e h (plain_shape b) = ap (λ c. c ∷ [])
        (expr_is us none_outer b (scoped e) e (base_inner b)
        (λ g l. ap (cell_under l) (row_shown g e)))
    shape_shown index cells e h (rec_shape fs) = shapes_shown index cells e h fs
    shape_shown index cells e h index_shape = h

    shapes_shown : (index : List ExprTree) (cells : List Cell) (e : Env)
        → map (λ x. expr_value us x (scoped e)) index ≡ cells → (fs : Shapes)
        → map (λ x. expr_value us x (scoped e)) (shapes_exprs index fs)
        ≡ shapes_cells (by_name us) cells fs e
    shapes_shown index cells e h no_shape = refl
    shapes_shown index cells e h (with_shape l s fs) =
        map-append (λ x. expr_value us x (scoped e)) (shape_exprs index s) (shapes_exprs index fs)
        ∙ ap₂ (λ (x y : List Cell). x ++ y) (shape_shown index cells e h s)
        (shapes_shown index cells e h fs)

  module _ (S : List TableShape) (outer inner : Layout) where
    row_is : (d : StrandTree) (e : Env) → map (λ c. expr_value us c.1 (scoped e))
        (natural_columns S outer inner d) ≡ natural_row S (by_name us) outer inner d e
    row_is d e =
        let v : ExprTree → Cell = λ x. expr_value us x (scoped e) in
        let around : ColumnType → List ExprTree = group key_expr zero_expr outer
        (key_columns S d.outer_gens) in
        let shown : ColumnType → List Cell = group (key_cell e) zero_cell outer
        (key_columns S d.outer_gens) in
        let g : (t : ColumnType) → map v (around t) ≡ shown t
        = λ t. group_shown outer (key_columns S d.outer_gens) t e in
        let index : List ExprTree = index_exprs inner d.tag (scope_key S d) in
        let own : map v index ≡ inner_cells S inner d e = ap
        (λ (l : List Cell). cell.Int (pos d.tag) ∷ l) (index_shown inner (scope_key S d) e) in
        columns_values v (ExprTree.int (pos d.parent)) (around column_type.Int)
        (around column_type.Bool) (around column_type.Text) (shape_exprs index d.shape)
        ∙ ap (λ (l : List Cell). cell.Int (pos d.parent) ∷ l)
        (ap₂ (λ (x y : List Cell). x ++ y) (ap₂ (λ (x y : List Cell). x ++ y)
        (g column_type.Int) (ap₂ (λ (x y : List Cell). x ++ y) (g column_type.Bool)
        (g column_type.Text))) (shape_shown index (inner_cells S inner d e) e own d.shape))

    select_rows : (d : StrandTree) (rows : List (List Cell))
        → SelectGives us (natural_select S outer inner d) rows → rows
        ≡ map (natural_row S (by_name us) outer inner d) (scope_choices (by_name us) d)
    select_rows d rows h =
        let gens = d.outer_gens ++ d.gens in
        let conds = both d.outer_conds d.conds in
        let columns = natural_columns S outer inner d in
        let es : List Env = scope_choices (by_name us) d in
        let at : ItemsGive us (map scoped es) (items_from (as_items columns)) rows
        = subst (λ (l : List Scope). ItemsGive us l (items_from (as_items columns)) rows)
        (kept_scoped us gens conds (inner_conds conds)) h in
        items_rows columns (map scoped es) rows at
        ∙ map_of_map (λ sc. map (λ c. expr_value us c.1 sc) columns) scoped es
        ∙ map_same (λ e. map (λ c. expr_value us c.1 (scoped e)) columns)
        (natural_row S (by_name us) outer inner d) (row_is d) es

    selects_rows : (ds : List StrandTree) (rows : List (List Cell))
        → SelectsGive us (query_from (map (natural_select S outer inner) ds)) rows → rows
        ≡ natural_rows S (by_name us) outer inner ds
    selects_rows [] rows h = h
    selects_rows (d ∷ ds) rows h = h.4 ∙ ap₂ (λ (x y : List (List Cell)). x ++ y)
        (select_rows d h.0 h.2) (selects_rows ds h.1 h.3)

    -- where there is no comprehension there is no row
    query_rows : (a : TypeTree) (ds : List StrandTree) (rows : List (List Cell))
        → QueryGives us (query_from (natural_selects S outer inner a ds)) rows
        → Reordered rows (natural_rows S (by_name us) outer inner ds)
    query_rows a [] rows h =
        let zeros : ColumnType → List ExprTree = group key_expr zero_expr outer [] in
        let columns : List (Label × ExprTree) = in_columns (ExprTree.int (pos 0))
        (zeros column_type.Int) (zeros column_type.Bool) (zeros column_type.Text)
        (map zero_expr (element_columns (index_columns inner) a)) in
        let none : h.0 ≡ [] = h.1.4 ∙ ap₂ (λ (x y : List (List Cell)). x ++ y)
        (items_rows columns [] h.1.0 h.1.2) h.1.3 in
        subst (λ (l : List (List Cell)). Reordered rows l) none h.2
    query_rows a (d ∷ ds) rows h = subst (λ (l : List (List Cell)). Reordered rows l)
        (selects_rows (d ∷ ds) h.0 h.1) h.2

-- the rows at a path, over the tables of a schema
pub tree_rows : (S : List TableShape) (form : FormTree) (tables : List (List (List Cell))) (q : ℕ)
    (rows : List (List Cell)) → strands_by_path form ≡ map by_tag (strands form.element form.comps)
    → TreeAllows (held_of S tables) (natural_tree S form q) rows
    → Reordered rows (natural_rows S (rows_in (database S tables))
    (layout_at (outer_layouts S form) q) (layout_at (inner_layouts S form) q)
    (get_or (strands form.element form.comps) q []))
tree_rows S form tables q rows sorted allowed =
    let us : NamedTables = map named_table (database S tables) in
    let outer : Layout = layout_at (outer_layouts S form) q in
    let inner : Layout = layout_at (inner_layouts S form) q in
    let a : TypeTree = element_of (element_types (bag form.element)) q in
    let tree = natural_tree S form q in
    let here : List StrandTree = get_or (strands form.element form.comps) q [] in
    let same : WithsAllow us tree.withs tree.main rows = subst
    (λ (ts : NamedTables). WithsAllow ts tree.withs tree.main rows)
    (ap (map named_table) (held_filled S tables)) allowed in
    let at : get_or (strands_by_path form) q [] ≡ by_tag here
    = ap (λ (l : List (List StrandTree)). get_or l q []) sorted
    ∙ get_or_map by_tag (strands form.element form.comps) q [] in
    let given : Reordered rows (natural_rows S (by_name us) outer inner (by_tag here))
    = query_rows us S outer inner a (by_tag here) rows
    (subst (λ (l : List StrandTree). QueryGives us
    (query_from (natural_selects S outer inner a l)) rows) at same) in
    let f : StrandTree → List (List Cell) = λ d. map (natural_row S (by_name us) outer inner d)
    (scope_choices (by_name us) d) in
    let mixed : Reordered (by_tag here) here = reordered_sym here (by_tag here)
    (reordered_sorted (λ (d e : StrandTree). nat_cmp d.tag e.tag) here) in
    reordered_trans rows (flat_map f (by_tag here)) (flat_map f here) given
    (matched_flat_map (λ x y. x ≡ y) (λ x y. x ≡ y) f f
    (λ x y e. subst (λ z. Reordered (f x) (f z)) e (reordered_refl (f x)))
    (by_tag here) here mixed)
