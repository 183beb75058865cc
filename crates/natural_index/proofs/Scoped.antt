-- Natural trees keep the scope rules, with the columns of the scheme.
use Rattle.std.proofs.Common.{◌≡◌, ℕ, suc, List, [], ◌∷◌, ◌++◌, map, refl, sym, ap, ◌∙◌, subst}
use Rattle.std.proofs.Common.{replicate, append_assoc, pos, false, arith}
use Rattle.std.specs.List.{AllByRecursion as Each}
use Rattle.std.proofs.lemmas.List.Elements.{recursion_from_All}
use Rattle.nq_model.specs.NamedRows.{Label}
use Rattle.nq_model.specs.Tables.{Columns, IsProperSchema, IsProperShape, types_of}
use Rattle.nq_model.specs.Types.{TypeTree}
use Rattle.nq_model.specs.declared.table.ColumnType.{ColumnType}
use Rattle.nq_model.specs.declared.table.ColumnType.TheVariants.{Int, Bool as Truth, Text}
use Rattle.nq_model.specs.declared.table.Schema.{Schema}
use Rattle.nq_model.specs.declared.table.TableShape.{TableShape}
use Rattle.nq_ir.specs.declared.base.Gen.{Gen}
use Rattle.nq_ir.specs.Meanings.{EachBoth}
use Rattle.nq_ir.specs.Spots.{StrandTree, both}
use Rattle.nq_ir.proofs.Distinct.{each_left}
use Rattle.nq_ir.proofs.LevelTypes.{both_append}
use Rattle.sql_profile.specs.Scope.{Shapes, Aliases, HasType, ItemsHave, OthersHave, QueryHas, SelectHas, shapes_of_schema}
use Rattle.sql_profile.specs.Trees.{ExprTree}
use Rattle.flatten.specs.Emitted.{none_outer}
use Rattle.flatten.specs.Views.{items_from, query_from}
use Rattle.flatten.proofs.ScopeExprs.{Extends, ShowsTypes, own_aliases, sources_have, none_seen, keep_typed}
use Rattle.flatten.proofs.ScopeLets.{own_shows}
use Rattle.flatten.proofs.ScopeTree.{schema_extends}
use Rattle.flatten.proofs.Withs.{inner_conds}
use Rattle.natural_keys.specs.declared.layout.KeyColumn.{KeyColumn}
use Rattle.natural_keys.specs.declared.layout.Layout.{Layout}
use Rattle.natural_keys.specs.Layouts.{key_columns, scope_key, group}
use Rattle.natural_keys.specs.NaturalKeys.{answer_columns, element_columns, index_columns}
use Rattle.natural_keys.proofs.KeyColumns.{scope_made}
use Rattle.natural_index.specs.Reading.{IsScopedTree}
use Rattle.natural_index.specs.Trees.{int_word, bool_word, text_word, part_word, numbered}
use Rattle.natural_index.specs.Trees.{in_columns, as_items, natural_columns, natural_select}
use Rattle.natural_index.specs.Trees.{natural_selects, union_tree, key_expr, zero_expr, index_exprs}
use Rattle.natural_index.specs.Trees.{shape_exprs}
use Rattle.natural_index.proofs.Names.{Apart, all_apart, names_of}
use Rattle.natural_index.proofs.Typed.{FitsIn, KeyTyped, keys_shown, ints_both, bools_both, texts_both, index_both, zeros_both, zero_typed, key_typed, shape_typed}
use Rattle.natural_index.proofs.Ready.{Ready}

-- names with types
abbrev pub with_types : List (Label × ExprTree) → List ColumnType → Columns
with_types [] ts = []
with_types (c ∷ cs) [] = []
with_types (c ∷ cs) (t ∷ ts) = (c.0, t) ∷ with_types cs ts

types_named : (P : ExprTree → ColumnType → Type 0) (cs : List (Label × ExprTree))
    (ts : List ColumnType) → EachBoth (λ c t. P c.1 t) cs ts → types_of (with_types cs ts) ≡ ts
types_named P [] ts h = sym h
types_named P (c ∷ cs) [] h = absurd h
types_named P (c ∷ cs) (t ∷ ts) h = ap (λ (l : List ColumnType). t ∷ l) (types_named P cs ts h.1)

numbered_both : (P : ExprTree → ColumnType → Type 0) (word : Label) (k : ℕ) (xs : List ExprTree)
    (ts : List ColumnType) → EachBoth P xs ts → EachBoth (λ c t. P c.1 t) (numbered word k xs) ts
numbered_both P word k [] ts h = h
numbered_both P word k (x ∷ xs) [] h = absurd h
numbered_both P word k (x ∷ xs) (t ∷ ts) h = (h.0, numbered_both P word (suc k) xs ts h.1)

-- the columns of an answer pair off with their types
pub columns_both : (P : ExprTree → ColumnType → Type 0) (l : Layout) (tag : ExprTree)
    (ints bools texts parts : List ExprTree) (ts : List ColumnType) → P tag Int
    → EachBoth P ints (replicate l.ints Int) → EachBoth P bools (replicate l.bools Truth)
    → EachBoth P texts (replicate l.texts Text) → EachBoth P parts ts
    → EachBoth (λ c t. P c.1 t) (in_columns tag ints bools texts parts) (index_columns l ++ ts)
columns_both P l tag ints bools texts parts ts p i b t e =
    let Q : Label × ExprTree → ColumnType → Type 0 = λ c u. P c.1 u in
    let A = replicate l.ints Int in
    let B = replicate l.bools Truth in
    let C = replicate l.texts Text in
    let same : A ++ (B ++ (C ++ ts)) ≡ (A ++ (B ++ C)) ++ ts
    = ap (λ (z : List ColumnType). A ++ z) (sym (append_assoc B C ts))
    ∙ sym (append_assoc A (B ++ C) ts) in (
      p,
      subst (λ (z : List ColumnType). EachBoth Q (numbered int_word 1 ints
          ++ (numbered bool_word 1 bools ++ (numbered text_word 1 texts
          ++ numbered part_word 1 parts))) z) same
          (both_append Q (numbered int_word 1 ints) (numbered bool_word 1 bools
          ++ (numbered text_word 1 texts ++ numbered part_word 1 parts)) A (B ++ (C ++ ts))
          (numbered_both P int_word 1 ints A i)
          (both_append Q (numbered bool_word 1 bools) (numbered text_word 1 texts
          ++ numbered part_word 1 parts) B (C ++ ts) (numbered_both P bool_word 1 bools B b)
          (both_append Q (numbered text_word 1 texts) (numbered part_word 1 parts) C ts
          (numbered_both P text_word 1 texts C t) (numbered_both P part_word 1 parts ts e)))),
    )

module _ (R : Shapes) (env : Aliases) where
  items_have : (seen : List Label) (cs : List (Label × ExprTree)) (ts : List ColumnType)
      → EachBoth (λ c t. HasType R env c.1 t) cs ts → Apart seen (names_of cs)
      → ItemsHave R env seen (items_from (as_items cs)) (with_types cs ts)
  items_have seen [] ts h n = refl
  items_have seen (c ∷ cs) [] h n = absurd h
  items_have seen (c ∷ cs) (t ∷ ts) h n = (
    t,
    with_types cs ts,
    h.0,
    n.0,
    items_have
        (c.0 ∷ seen) cs ts h.1 n.1,
    refl,
  )

no_outer : (gens : List Gen) → Each (λ (g : Gen). none_outer g.number ≡ false) gens
no_outer [] = tt
no_outer (g ∷ gens) = (refl, no_outer gens)

module _ (S : List TableShape) (proper : Each IsProperShape S) (R : Shapes) (x : Extends S R)
    (outer inner : Layout) (a : TypeTree) where
  abbrev types : List ColumnType
  types = answer_columns outer inner a

  -- the columns of a SELECT have the types of the scheme
  select_types : (d : StrandTree) → Ready S outer inner a d
      → EachBoth (λ c t. HasType R (own_aliases S (d.outer_gens ++ d.gens) ++ []) c.1 t)
      (natural_columns S outer inner d) types
  select_types d r =
      let sc = d.outer_gens ++ d.gens in
      let env = own_aliases S sc ++ [] in
      let P : ExprTree → ColumnType → Type 0 = HasType R env in
      let shows : ShowsTypes S R x none_outer env sc = own_shows S R x none_outer sc
      (no_outer sc) in
      let zeros = zero_typed S R x env sc shows in
      let all = keys_shown S proper sc r.fine.facts.differ in
      let keys = key_typed S R x env sc shows (scope_key S d) all in
      let left : Each (KeyTyped S proper sc) (key_columns S d.outer_gens)
      = each_left (KeyTyped S proper sc) (key_columns S d.outer_gens) (key_columns S d.gens)
      (subst (λ (z : List KeyColumn). Each (KeyTyped S proper sc) z)
      (scope_made S d.outer_gens d.gens) all) in
      let around = key_typed S R x env sc shows (key_columns S d.outer_gens) left in
      let index = index_both P zeros inner (scope_key S d) r.own keys d.tag refl in
      columns_both P outer (ExprTree.int (pos d.parent)) _ _ _ _
      (element_columns (index_columns inner) a) refl
      (ints_both P zeros outer (key_columns S d.outer_gens) r.around around)
      (bools_both P zeros outer (key_columns S d.outer_gens) r.around around)
      (texts_both P zeros outer (key_columns S d.outer_gens) r.around around)
      (shape_typed S R x env sc shows (index_exprs inner d.tag (scope_key S d))
      (index_columns inner) index d.shape a r.fine.shape r.fine.facts.leaves_tests)

  abbrev columns_of : StrandTree → Columns
  columns_of d = with_types (natural_columns S outer inner d) types

  select_has : (d : StrandTree) → Ready S outer inner a d
      → SelectHas R [] (natural_select S outer inner d) (columns_of d)
  select_has d r =
      let sc = d.outer_gens ++ d.gens in
      let env = own_aliases S sc ++ [] in
      let f = r.fine.facts.inside in
      let shows : ShowsTypes S R x none_outer env sc = own_shows S R x none_outer sc
      (no_outer sc) in (
        own_aliases S sc,
        sources_have S R x [] sc f.tables f.differ (none_seen S R x sc),
        keep_typed S R x none_outer (both d.outer_conds d.conds) env sc f.typed
            (inner_conds (both d.outer_conds d.conds)) f.tests shows,
        items_have R env [] (natural_columns S outer inner d) types (select_types d r)
            (all_apart {A = ExprTree} (ExprTree.int (pos d.parent))
            (group key_expr zero_expr outer (key_columns S d.outer_gens) Int)
            (group key_expr zero_expr outer (key_columns S d.outer_gens) Truth)
            (group key_expr zero_expr outer (key_columns S d.outer_gens) Text)
            (shape_exprs (index_exprs inner d.tag (scope_key S d)) d.shape)),
      )

  named : (d : StrandTree) → Ready S outer inner a d → types_of (columns_of d) ≡ types
  named d r = types_named (HasType R (own_aliases S (d.outer_gens ++ d.gens) ++ []))
      (natural_columns S outer inner d) types (select_types d r)

  others_have : (ds : List StrandTree) (ts : List ColumnType) → ts ≡ types
      → Each (Ready S outer inner a) ds → OthersHave R []
      (query_from (map (natural_select S outer inner) ds)) ts
  others_have [] ts e r = tt
  others_have (d ∷ ds) ts e r = (
    columns_of d,
    select_has d r.0,
    named d r.0
        ∙ sym e,
    others_have ds ts e r.1,
  )

  -- the zeros where there is no comprehension
  abbrev zero_columns : List (Label × ExprTree)
  zero_columns =
      in_columns (ExprTree.int (pos 0)) (group key_expr zero_expr outer [] Int)
      (group key_expr zero_expr outer [] Truth) (group key_expr zero_expr outer [] Text)
      (map zero_expr (element_columns (index_columns inner) a))

  nothing : FitsIn outer []
  nothing = record { ints = omega arith; bools = omega arith; texts = omega arith }

  zero_types : EachBoth (λ c t. HasType R [] c.1 t) zero_columns types
  zero_types =
      let P : ExprTree → ColumnType → Type 0 = HasType R [] in
      let zeros : (t : ColumnType) → P (zero_expr t) t = zero_has in
      columns_both P outer (ExprTree.int (pos 0)) _ _ _ _
      (element_columns (index_columns inner) a) refl
      (ints_both P zeros outer [] nothing tt) (bools_both P zeros outer [] nothing tt)
      (texts_both P zeros outer [] nothing tt)
      (zeros_both P zeros (element_columns (index_columns inner) a))
    where
      zero_has : (t : ColumnType) → HasType R [] (zero_expr t) t
      zero_has Int = refl
      zero_has Truth = refl
      zero_has Text = refl

  query_has : (ds : List StrandTree) → Each (Ready S outer inner a) ds → (columns : Columns)
      × QueryHas R [] (query_from (natural_selects S outer inner a ds)) columns
      × (types_of columns ≡ types)
  query_has [] r = (
    with_types zero_columns types,
    (
      (
        [],
        refl,
        refl,
        items_have R [] [] zero_columns types zero_types
            (all_apart {A = ExprTree} (ExprTree.int (pos 0)) (group key_expr zero_expr outer [] Int)
            (group key_expr zero_expr outer [] Truth) (group key_expr zero_expr outer [] Text)
            (map zero_expr (element_columns (index_columns inner) a))),
      ),
      tt,
    ),
    types_named
        (HasType R []) zero_columns types zero_types,
  )
  query_has (d ∷ ds) r = (
    columns_of d,
    (
      select_has d r.0,
      others_have ds (types_of (columns_of d))
          (named d r.0) r.1,
    ),
    named d r.0,
  )

-- the tree of comprehensions that are ready
pub tree_scoped : (schema : Schema) → IsProperSchema schema
    → (outer inner : Layout) (a : TypeTree) (ds : List StrandTree)
    → Each (Ready schema.tables outer inner a) ds → IsScopedTree schema
    (answer_columns outer inner a) (union_tree (natural_selects schema.tables outer inner a ds))
tree_scoped schema proper outer inner a ds r =
    let R = shapes_of_schema schema.tables in
    let q = query_has schema.tables (recursion_from_All IsProperShape schema.tables proper.proper) R
    (schema_extends schema.tables) outer inner a ds r in
    record { columns = q.0; scoped = (R, refl, q.1); typed = q.2 }
