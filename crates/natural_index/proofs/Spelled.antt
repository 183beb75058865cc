-- A text can spell a natural tree.
use Rattle.std.proofs.Common.{◌≡◌, ◌≢◌, ℕ, suc, ◌+◌, ◌≤◌, ◌<◌, ◌^◌, List, [], ◌∷◌, ◌++◌, map, refl}
use Rattle.std.proofs.Common.{sym, ap, subst, length, replicate, arith, pos}
use Rattle.std.specs.List.{AllByRecursion as Each}
use Rattle.std.proofs.lemmas.List.{length-replicate}
use Rattle.std.proofs.lemmas.List.Elements.{recursion_from_All}
use Rattle.nq_model.specs.NamedRows.{Label}
use Rattle.nq_model.specs.Tables.{IsProperSchema, IsProperShape}
use Rattle.nq_model.specs.Types.{TypeTree, int, bool, text, rec, bag, fun, FieldTypes, none, field}
use Rattle.nq_model.specs.declared.table.ColumnType.{ColumnType}
use Rattle.nq_model.specs.declared.table.ColumnType.TheVariants.{Int, Bool as Truth, Text}
use Rattle.nq_model.specs.declared.table.Schema.{Schema}
use Rattle.nq_model.specs.declared.table.TableShape.{TableShape}
use Rattle.nq_model.proofs.Numberings.{each_map}
use Rattle.nq_ir.specs.declared.base.Gen.{Gen}
use Rattle.nq_ir.specs.Meanings.{EachBoth}
use Rattle.nq_ir.specs.Spots.{StrandTree, both, shape_leaves, shape_leaves_in}
use Rattle.nq_ir.specs.Trees.{BaseTree, ShapeTree, plain_shape, rec_shape, index_shape, Shapes, no_shape, with_shape}
use Rattle.nq_ir.specs.WellFormed.{IsNumber, base_numbers}
use Rattle.nq_ir.proofs.Distinct.{each_join, each_left, each_right}
use Rattle.nq_ir.proofs.LevelTypes.{both_append}
use Rattle.sql_profile.specs.Spellable.{IsSpellableExpr, IsSpellableQuery, AreSpellableSelects}
use Rattle.sql_profile.specs.Spellable.{IsSpellableSelect, HasSpellableItems, AreSpellableItems}
use Rattle.sql_profile.specs.Spellable.{IsSpellable}
use Rattle.sql_profile.specs.Trees.{ExprTree}
use Rattle.sql_profile.specs.WritableNames.{IsWritableName}
use Rattle.flatten.specs.Emitted.{none_outer}
use Rattle.flatten.specs.Names.{number_text}
use Rattle.flatten.specs.Views.{items_from, query_from}
use Rattle.flatten.proofs.Facts.{ShapeHas, ShapesHave}
use Rattle.flatten.proofs.Spellable.{ScopeFits, fits_all, sources_spelled, base_spelled, keep_spelled, column_spelled}
use Rattle.flatten.proofs.WrittenNames.{number_short, number_plain, plain_cons}
use Rattle.natural_keys.specs.declared.layout.KeyColumn.{KeyColumn}
use Rattle.natural_keys.specs.declared.layout.Layout.{Layout}
use Rattle.natural_keys.specs.Layouts.{key_columns, scope_key}
use Rattle.natural_keys.specs.NaturalKeys.{element_columns, fields_columns, index_columns}
use Rattle.natural_keys.proofs.KeyColumns.{scope_made}
use Rattle.natural_index.specs.Trees.{HasNumbers, numbered, in_columns, as_items, natural_select}
use Rattle.natural_index.specs.Trees.{natural_selects, union_tree, key_expr, zero_expr, index_exprs}
use Rattle.natural_index.specs.Trees.{shape_exprs, shapes_exprs, tag_name, int_word, bool_word}
use Rattle.natural_index.specs.Trees.{text_word, part_word}
use Rattle.natural_index.proofs.Ready.{Ready}
use Rattle.natural_index.proofs.Scoped.{columns_both}
use Rattle.natural_index.proofs.Typed.{FitsIn, KeyTyped, keys_shown, ints_both, bools_both, texts_both, index_both, zeros_both}

-- a text can spell the expression, whatever its type
abbrev Spelled : ExprTree → ColumnType → Type 0
Spelled e t = IsSpellableExpr e

zero_spelled : (t : ColumnType) → Spelled (zero_expr t) t
zero_spelled Int = (0, refl, omega arith)
zero_spelled Truth = tt
zero_spelled Text = tt

-- names that can be written
abbrev Written : List (Label × ExprTree) → Type 0
Written cs = Each (λ c. IsWritableName c.0) cs

tag_writable : IsWritableName tag_name
tag_writable = record {
  some = omega arith;
  few = omega arith;
  no_quote = plain_cons 111 (116 ∷ []) (λ (e : 111 ≡ 34). omega (arith, e)) (plain_cons 116 [] (λ (e : 116 ≡ 34). omega (arith, e)) (λ m. let w = m.1 in absurd (omega (arith, w))));
}

two_writable : (b k : ℕ) → b ≢ 34 → k < 2 ^ 63 → IsWritableName ((107 ∷ b ∷ []) ++ number_text k)
two_writable b k h s = record {
  some = omega arith;
  few = omega (arith, number_short k s);
  no_quote = plain_cons 107 (b ∷ number_text k) (λ (e : 107 ≡ 34). omega (arith, e))
      (plain_cons b (number_text k) h (number_plain k));
}

part_writable : (k : ℕ) → k < 2 ^ 63 → IsWritableName (part_word ++ number_text k)
part_writable k s = record {
  some = omega arith;
  few = omega (arith, number_short k s);
  no_quote = plain_cons 99 (number_text k) (λ (e : 99 ≡ 34). omega (arith, e)) (number_plain k);
}

run_written : (word : Label) → ((k : ℕ) → k < 2 ^ 63 → IsWritableName (word ++ number_text k))
    → (k : ℕ) (xs : List ExprTree) → k + length xs ≤ 2 ^ 63 → Written (numbered word k xs)
run_written word w k [] few = tt
run_written word w k (x ∷ xs) few = (
  w k (omega (arith, few)),
  run_written word w (suc k) xs
      (omega (arith, few)),
)

both_long : {A B : Type 0} (P : A → B → Type 0) (xs : List A) (ys : List B) → EachBoth P xs ys
    → length xs ≡ length ys
both_long P [] ys h = ap length (sym h)
both_long P (x ∷ xs) [] h = absurd h
both_long P (x ∷ xs) (y ∷ ys) h = ap suc (both_long P xs ys h.1)

all_written : (tag : ExprTree) (ints bools texts parts : List ExprTree) → length ints < 2 ^ 63
    → length bools < 2 ^ 63 → length texts < 2 ^ 63 → length parts < 2 ^ 63
    → Written (in_columns tag ints bools texts parts)
all_written tag ints bools texts parts i b t p =
    let W : Label × ExprTree → Type 0 = λ c. IsWritableName c.0 in (
      tag_writable,
      each_join W (numbered int_word 1 ints) (numbered bool_word 1 bools
          ++ (numbered text_word 1 texts ++ numbered part_word 1 parts))
          (run_written int_word (λ k s. two_writable 105 k
          (λ (e : 105 ≡ 34). omega (arith, e)) s) 1 ints (omega (arith, i)))
          (each_join W (numbered bool_word 1 bools) (numbered text_word 1 texts
          ++ numbered part_word 1 parts)
          (run_written bool_word (λ k s. two_writable 98 k
          (λ (e : 98 ≡ 34). omega (arith, e)) s) 1 bools (omega (arith, b)))
          (each_join W (numbered text_word 1 texts) (numbered part_word 1 parts)
          (run_written text_word (λ k s. two_writable 116 k
          (λ (e : 116 ≡ 34). omega (arith, e)) s) 1 texts (omega (arith, t)))
          (run_written part_word (λ k s. part_writable k s) 1 parts (omega (arith, p))))),
    )

rest_spelled : (cs : List (Label × ExprTree)) (ts : List ColumnType)
    → EachBoth (λ c t. Spelled c.1 t) cs ts → Written cs
    → AreSpellableItems (items_from (as_items cs))
rest_spelled [] ts h w = tt
rest_spelled (c ∷ cs) [] h w = absurd h
rest_spelled (c ∷ cs) (t ∷ ts) h w = (w.0, h.0, rest_spelled cs ts h.1 w.1)

items_spelled : (c : Label × ExprTree) (cs : List (Label × ExprTree)) (t : ColumnType)
    (ts : List ColumnType) → EachBoth (λ c t. Spelled c.1 t) (c ∷ cs) (t ∷ ts) → Written (c ∷ cs)
    → HasSpellableItems (items_from (as_items (c ∷ cs)))
items_spelled c cs t ts h w = (w.0, h.0, rest_spelled cs ts h.1 w.1)

module _ (S : List TableShape) (proper : Each IsProperShape S) where
  module _ (sc : List Gen) (f : ScopeFits S proper sc) where
    keys_spelled : (ks : List KeyColumn) → Each (KeyTyped S proper sc) ks
        → Each (λ k. Spelled (key_expr k) k.of) ks
    keys_spelled ks e = each_map (KeyTyped S proper sc) (λ k. Spelled (key_expr k) k.of)
        (λ k h. column_spelled none_outer (k.generator, k.name) (f k.generator k.name k.of h)) ks e

    module _ (index : List ExprTree) (ix : List ColumnType) (own : EachBoth Spelled index ix) where
      abbrev LeavesFit : List BaseTree → Type 0
      LeavesFit bs = Each (λ b. Each IsNumber (base_numbers b)) bs

      mutual
        shape_spelled : (b : ShapeTree) (a : TypeTree) → ShapeHas S sc b a
            → LeavesFit (shape_leaves b) → EachBoth Spelled (shape_exprs index b)
            (element_columns ix a)
        shape_spelled (plain_shape b) int h n = (
          base_spelled S proper none_outer sc b Int f h n.0,
          refl,
        )
        shape_spelled (plain_shape b) bool h n
            = (base_spelled S proper none_outer sc b Truth f h n.0, refl)
        shape_spelled (plain_shape b) text h n
            = (base_spelled S proper none_outer sc b Text f h n.0, refl)
        shape_spelled (plain_shape b) (rec gs) h n = absurd h
        shape_spelled (plain_shape b) (bag a) h n = absurd h
        shape_spelled (plain_shape b) (fun a c) h n = absurd h
        shape_spelled (rec_shape fs) int h n = absurd h
        shape_spelled (rec_shape fs) bool h n = absurd h
        shape_spelled (rec_shape fs) text h n = absurd h
        shape_spelled (rec_shape fs) (rec gs) h n = shapes_spelled fs gs h n
        shape_spelled (rec_shape fs) (bag a) h n = absurd h
        shape_spelled (rec_shape fs) (fun a c) h n = absurd h
        shape_spelled index_shape int h n = absurd h
        shape_spelled index_shape bool h n = absurd h
        shape_spelled index_shape text h n = absurd h
        shape_spelled index_shape (rec gs) h n = absurd h
        shape_spelled index_shape (bag a) h n = own
        shape_spelled index_shape (fun a c) h n = absurd h

        shapes_spelled : (fs : Shapes) (gs : FieldTypes) → ShapesHave S sc fs gs
            → LeavesFit (shape_leaves_in fs) → EachBoth Spelled (shapes_exprs index fs)
            (fields_columns ix gs)
        shapes_spelled no_shape none h n = refl
        shapes_spelled no_shape (field j a gs) h n = absurd h
        shapes_spelled (with_shape l s fs) none h n = absurd h
        shapes_spelled (with_shape l s fs) (field j a gs) h n =
            both_append Spelled (shape_exprs index s) (shapes_exprs index fs) (element_columns ix a)
            (fields_columns ix gs)
            (shape_spelled s a h.1 (each_left (λ b. Each IsNumber (base_numbers b)) (shape_leaves s)
            (shape_leaves_in fs) n))
            (shapes_spelled fs gs h.2 (each_right (λ b. Each IsNumber (base_numbers b))
            (shape_leaves s) (shape_leaves_in fs) n))

  module _ (outer inner : Layout) (a : TypeTree) (few : HasNumbers outer
      (element_columns (index_columns inner) a)) where
    -- as many as a layout or an element has columns
    some_long : (xs : List ExprTree) (n : ℕ) (t : ColumnType) → EachBoth Spelled xs (replicate n t)
        → n < 2 ^ 63 → length xs < 2 ^ 63
    some_long xs n t h l = let e : length xs ≡ length (replicate n t) = both_long Spelled xs (replicate n t) h in let r : length (replicate n t) ≡ n = length-replicate n t in omega (arith, e, r, l)

    all_items : (tag : ExprTree) (ints bools texts parts : List ExprTree) → IsSpellableExpr tag
        → EachBoth Spelled ints (replicate outer.ints Int)
        → EachBoth Spelled bools (replicate outer.bools Truth)
        → EachBoth Spelled texts (replicate outer.texts Text)
        → EachBoth Spelled parts (element_columns (index_columns inner) a)
        → HasSpellableItems (items_from (as_items (in_columns tag ints bools texts parts)))
    all_items tag ints bools texts parts p i b t e =
        let long : length parts ≡ length (element_columns (index_columns inner) a)
        = both_long Spelled parts (element_columns (index_columns inner) a) e in
        let h = columns_both Spelled outer tag ints bools texts parts
        (element_columns (index_columns inner) a) p i b t e in
        let w = all_written tag ints bools texts parts (some_long ints outer.ints Int i few.ints)
        (some_long bools outer.bools Truth b few.bools)
        (some_long texts outer.texts Text t few.texts) (omega (arith, long, few.parts)) in
        (w.0, h.0, rest_spelled _ _ h.1 w.1)

    select_spelled : (d : StrandTree) → Ready S outer inner a d
        → IsSpellableSelect (natural_select S outer inner d)
    select_spelled d r =
        let sc = d.outer_gens ++ d.gens in
        let n = r.fine.fit in
        let f : ScopeFits S proper sc = fits_all S proper sc n.inside.gens_fit in
        let all = keys_shown S proper sc r.fine.facts.differ in
        let left : Each (KeyTyped S proper sc) (key_columns S d.outer_gens)
        = each_left (KeyTyped S proper sc) (key_columns S d.outer_gens) (key_columns S d.gens)
        (subst (λ (z : List KeyColumn). Each (KeyTyped S proper sc) z)
        (scope_made S d.outer_gens d.gens) all) in
        let keys = keys_spelled sc f (scope_key S d) all in
        let around = keys_spelled sc f (key_columns S d.outer_gens) left in
        let index = index_both Spelled zero_spelled inner (scope_key S d) r.own keys d.tag
        (d.tag, refl, n.tag) in (
          all_items (ExprTree.int (pos d.parent)) _ _ _ _ (d.parent, refl, n.parent)
              (ints_both Spelled zero_spelled outer (key_columns S d.outer_gens) r.around around)
              (bools_both Spelled zero_spelled outer (key_columns S d.outer_gens) r.around around)
              (texts_both Spelled zero_spelled outer (key_columns S d.outer_gens) r.around around)
              (shape_spelled sc f (index_exprs inner d.tag (scope_key S d))
              (index_columns inner) index d.shape a r.fine.shape n.leaves),
          sources_spelled S proper sc r.fine.facts.inside.tables n.inside.gens_fit,
          keep_spelled S proper none_outer sc (both d.outer_conds d.conds) f
              r.fine.facts.inside.typed n.inside.conds_fit,
        )

    others_spelled : (ds : List StrandTree) → Each (Ready S outer inner a) ds
        → AreSpellableSelects (query_from (map (natural_select S outer inner) ds))
    others_spelled [] r = tt
    others_spelled (d ∷ ds) r = (select_spelled d r.0, others_spelled ds r.1)

    nothing : FitsIn outer []
    nothing = record { ints = omega arith; bools = omega arith; texts = omega arith }

    query_spelled : (ds : List StrandTree) → Each (Ready S outer inner a) ds
        → IsSpellableQuery (query_from (natural_selects S outer inner a ds))
    query_spelled [] r = (
      (
        all_items (ExprTree.int (pos 0)) _ _ _ _ (0, refl, omega arith)
            (ints_both Spelled zero_spelled outer [] nothing tt)
            (bools_both Spelled zero_spelled outer [] nothing tt)
            (texts_both Spelled zero_spelled outer [] nothing tt)
            (zeros_both Spelled zero_spelled (element_columns (index_columns inner) a)),
        tt,
        tt,
      ),
      tt,
    )
    query_spelled (d ∷ ds) r = (select_spelled d r.0, others_spelled ds r.1)

-- the tree of comprehensions that are ready
pub tree_spelled : (schema : Schema) → IsProperSchema schema
    → (outer inner : Layout) (a : TypeTree) (ds : List StrandTree)
    → HasNumbers outer (element_columns (index_columns inner) a)
    → Each (Ready schema.tables outer inner a) ds → IsSpellable
    (union_tree (natural_selects schema.tables outer inner a ds))
tree_spelled schema proper outer inner a ds few r = (
  tt,
  query_spelled schema.tables
      (recursion_from_All IsProperShape schema.tables proper.proper) outer inner a few ds r,
)
