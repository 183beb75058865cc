-- The tree of a let form keeps the scope rules and has the columns at its path.
use Rattle.std.proofs.Common.{◌≡◌, ℕ, zero, suc, ◌+◌, ◌<◌, ◌≤◌, List, [], ◌∷◌, ◌++◌, map, refl, sym, ap, ap₂, ◌∙◌, subst, Bool, true, false, cond, nat_eq, length, get_or, arith, ◌||◌, Some, IsSome}
use Rattle.std.specs.List.{AllByRecursion as Each}
use Rattle.std.specs.Str.{bytes_eq}
use Rattle.std.proofs.lemmas.List.Elements.{recursion_from_All}
use Rattle.nq_model.specs.NamedRows.{Label}
use Rattle.nq_model.specs.Tables.{Columns, types_of, IsProperSchema, IsProperShape}
use Rattle.nq_model.specs.Types.{TypeTree, int, bool, text, rec, bag, fun, FieldTypes, none, field}
use Rattle.nq_model.specs.Typing.{shape_named}
use Rattle.nq_model.specs.declared.table.ColumnType.{ColumnType}
use Rattle.nq_model.specs.declared.table.ColumnType.TheVariants.{Int, Bool as Truth, Text}
use Rattle.nq_model.specs.declared.table.Schema.{Schema}
use Rattle.nq_model.specs.declared.table.TableShape.{TableShape}
use Rattle.nq_model.proofs.Numberings.{each_map}
use Rattle.nq_ir.specs.declared.base.Gen.{Gen}
use Rattle.nq_ir.specs.Trees.{ShapeTree, plain_shape, rec_shape, index_shape, Shapes as ShapeTrees, no_shape, with_shape}
use Rattle.nq_ir.specs.Meanings.{EachBoth}
use Rattle.nq_ir.specs.Spots.{StrandTree, shape_leaves, shape_leaves_in}
use Rattle.nq_ir.specs.Lets.{LetTree, PartTree, LetFormTree, no_let, let_of, strand_of, columns_in, IsLetFormOf}
use Rattle.nq_ir.specs.WellFormed.{column_type_in, gen_columns, table_columns, column_names, columns_or_none, numbers}
use Rattle.nq_ir.proofs.Distinct.{Distinct, distinct_apart, distinct_sub, sub_right, each_left, each_right}
use Rattle.nq_ir.proofs.Equal.{nat_same, nat_differ}
use Rattle.nq_ir.proofs.LevelTypes.{both_append}
use Rattle.nq_ir.proofs.Paths.{LabelsDiffer}
use Rattle.nq_ir.proofs.Scopes.{numbers_append}
use Rattle.nq_ir.proofs.Stored.{columns_differ}
use Rattle.shred_types.specs.Columns.{element_columns, fields_columns, answer_columns}
use Rattle.sql_profile.specs.Trees.{ExprTree, ExprTrees, ValueTree}
use Rattle.sql_profile.specs.Scope.{Shapes, Aliases, found, among, names_in, HasType, QueryHas, OthersHave, SelectHas, ItemsHave, ValueHas, KeysHave, WithsHave, IsWellScoped, shapes_of_schema}
use Rattle.flatten.specs.Names.{with_name, alias, let_alias, outer_column, number_name, answer_name}
use Rattle.flatten.specs.Exprs.{column_expr, order_keys}
use Rattle.flatten.specs.Emitted.{in_gens, withs_from, shape_values, shapes_values, answer_items, around_number, strand_values, strand_select, parts_query, zero_value, empty_query, main_query, emitted, flattened, answer_shape_from, answer_shape}
use Rattle.flatten.proofs.Apart.{let_not, own_let, withs_apart, with_not, not_with, NoDot, answers_apart}
use Rattle.flatten.proofs.Exprs.{Inner}
use Rattle.flatten.proofs.Facts.{TestsApart, ScopeFacts, ShapeHas, ShapesHave, fresh, turned, table_dotless, no_dots}
use Rattle.flatten.proofs.LetForms.{FineStrand, FineForm, fine_form}
use Rattle.flatten.proofs.ScopeExprs.{Extends, own_aliases, sources_have, none_seen, ShowsTypes, base_typed, keep_typed}
use Rattle.flatten.proofs.ScopeLets.{let_shape, own_shows, all_keys_have, let_typed, number_found, outer_found}

pub types_named : (k : ℕ) (ts : List ColumnType) → types_of (answer_shape_from k ts) ≡ ts
types_named k [] = refl
types_named k (t ∷ ts) = ap (λ (l : List ColumnType). t ∷ l) (types_named (suc k) ts)

-- the generators of a scope and those behind
gens_before : (S : List TableShape) (og gens : List Gen) (g : ℕ) → in_gens og g ≡ true → gen_columns S (og ++ gens) g ≡ gen_columns S og g
gens_before S [] gens g h = absurd (cc)
gens_before S (k ∷ og) gens g h = go (nat_eq g k.number) h (gens_before S og gens g)
  where
    go : (b : Bool) → cond b true (in_gens og g) ≡ true → (in_gens og g ≡ true → gen_columns S (og ++ gens) g ≡ gen_columns S og g) → cond b (table_columns S k.table) (gen_columns S (og ++ gens) g) ≡ cond b (table_columns S k.table) (gen_columns S og g)
    go true h f = refl
    go false h f = f h

gens_behind : (S : List TableShape) (og gens : List Gen) (g : ℕ) → in_gens og g ≡ false → gen_columns S (og ++ gens) g ≡ gen_columns S gens g
gens_behind S [] gens g h = refl
gens_behind S (k ∷ og) gens g h = go (nat_eq g k.number) h (gens_behind S og gens g)
  where
    go : (b : Bool) → cond b true (in_gens og g) ≡ false → (in_gens og g ≡ false → gen_columns S (og ++ gens) g ≡ gen_columns S gens g) → cond b (table_columns S k.table) (gen_columns S (og ++ gens) g) ≡ gen_columns S gens g
    go true h f = absurd (cc)
    go false h f = f h

-- a strand's own generators are no outer ones
own_fresh : (og gens : List Gen) → Distinct (numbers (og ++ gens)) → Each (λ (h : Gen). in_gens og h.number ≡ false) gens
own_fresh og gens d = unmapped gens (each_map (λ n. Each (λ v. nat_eq v n ≡ false) (numbers og)) (λ n. in_gens og n ≡ false) (λ n e. fresh og (numbers og) (λ m k. k) n e) (numbers gens) (turned (numbers og) (numbers gens) (distinct_apart (numbers og) (numbers gens) (subst Distinct (numbers_append og gens) d))))
  where
    unmapped : (gs : List Gen) → Each (λ n. in_gens og n ≡ false) (numbers gs) → Each (λ (h : Gen). in_gens og h.number ≡ false) gs
    unmapped [] e = tt
    unmapped (g ∷ gs) e = (e.0, unmapped gs e.1)

own_distinct : (og gens : List Gen) → Distinct (numbers (og ++ gens)) → Distinct (numbers gens)
own_distinct og gens d = distinct_sub (sub_right (numbers og) (numbers gens)) (subst Distinct (numbers_append og gens) d)

module _ (R : Shapes) where
  -- values under the names of an answer's columns
  items_have : (env : Aliases) (k : ℕ) (seen : List Label) (vs : List ValueTree) (ts : List ColumnType) → EachBoth (ValueHas R env) vs ts → ((j : ℕ) → k ≤ j → among (answer_name j) seen ≡ false) → ItemsHave R env seen (answer_items k vs) (answer_shape_from k ts)
  items_have env k seen [] ts h new = ap (answer_shape_from k) h
  items_have env k seen (v ∷ vs) [] h new = absurd h
  items_have env k seen (v ∷ vs) (t ∷ ts) h new = (
    t,
    answer_shape_from (suc k) ts,
    h.0,
    new k (omega arith),
    items_have env (suc k) (answer_name k ∷ seen) vs ts h.1 (λ j b. ap₂ (λ y z. y || z) (answers_apart j k ∙ nat_differ j k (λ e. let f : j ≡ k = e in absurd (omega (arith, f, b)))) (new j (omega (arith, b)))),
    refl,
  )

  zeros_have : (env : Aliases) (ts : List ColumnType) → EachBoth (ValueHas R env) (map zero_value ts) ts
  zeros_have env [] = refl
  zeros_have env (Int ∷ ts) = (refl, zeros_have env ts)
  zeros_have env (Truth ∷ ts) = (refl, zeros_have env ts)
  zeros_have env (Text ∷ ts) = (refl, zeros_have env ts)

  empty_has : (columns : List ColumnType) → QueryHas R [] (empty_query columns) (answer_shape columns)
  empty_has columns = (([], refl, refl, items_have [] 0 [] (map zero_value columns) columns (zeros_have [] columns) (λ j b. refl)), tt)

module _ (S : List TableShape) (differ : (t : Label) → LabelsDiffer (column_names S t)) where
  module _ (R : Shapes) (x : Extends S R) where
    part_shows : (og gens : List Gen) → Distinct (numbers (og ++ gens)) → ShowsTypes S R x (in_gens og) ((let_alias, let_shape S og) ∷ (own_aliases S gens ++ [])) (og ++ gens)
    part_shows og gens d g l T h = go (in_gens og g) refl
      where
        C : Columns
        C = let_shape S og

        go : (o : Bool) → in_gens og g ≡ o → HasType R ((let_alias, let_shape S og) ∷ (own_aliases S gens ++ [])) (column_expr (in_gens og) g l) T
        go true e =
            subst (λ o. HasType R ((let_alias, let_shape S og) ∷ (own_aliases S gens ++ [])) (cond o (ExprTree.column let_alias (outer_column g l)) (ExprTree.column (alias g) l)) T) (sym e)
            (let_shape S og, ap (λ z. cond z (Some (let_shape S og)) (found let_alias (own_aliases S gens ++ []))) own_let, outer_found S og g l T (ap (column_type_in l) (sym (gens_before S og gens g e)) ∙ h))
        go false e =
            let own = own_shows S R x (in_gens og) gens (own_fresh og gens d) g l T (ap (column_type_in l) (sym (gens_behind S og gens g e)) ∙ h) in
            let here = subst (λ o. HasType R (own_aliases S gens ++ []) (cond o (ExprTree.column let_alias (outer_column g l)) (ExprTree.column (alias g) l)) T) e own in
            subst (λ o. HasType R ((let_alias, let_shape S og) ∷ (own_aliases S gens ++ [])) (cond o (ExprTree.column let_alias (outer_column g l)) (ExprTree.column (alias g) l)) T) (sym e)
            (here.0, ap (λ z. cond z (Some (let_shape S og)) (found (alias g) (own_aliases S gens ++ []))) (let_not g) ∙ here.1, here.2)

    module _ (outer : ℕ → Bool) (env : Aliases) (sc : List Gen) (shows : ShowsTypes S R x outer env sc) (tag : ℕ) (keys : ExprTrees) (keys_have : KeysHave R env keys) where
      -- the element values have the types of the element columns
      mutual
        shape_has : (b : ShapeTree) (a : TypeTree) → ShapeHas S sc b a → Each (Inner outer) (shape_leaves b) → Each TestsApart (shape_leaves b) → EachBoth (ValueHas R env) (shape_values outer tag keys b) (element_columns a)
        shape_has (plain_shape b) int h i t = (base_typed S R x outer b Int env sc h i.0 t.0 shows, refl)
        shape_has (plain_shape b) bool h i t = (base_typed S R x outer b Truth env sc h i.0 t.0 shows, refl)
        shape_has (plain_shape b) text h i t = (base_typed S R x outer b Text env sc h i.0 t.0 shows, refl)
        shape_has (plain_shape b) (rec gs) h i t = absurd h
        shape_has (plain_shape b) (bag a) h i t = absurd h
        shape_has (plain_shape b) (fun a c) h i t = absurd h
        shape_has (rec_shape fs) int h i t = absurd h
        shape_has (rec_shape fs) bool h i t = absurd h
        shape_has (rec_shape fs) text h i t = absurd h
        shape_has (rec_shape fs) (rec gs) h i t = shapes_have fs gs h i t
        shape_has (rec_shape fs) (bag a) h i t = absurd h
        shape_has (rec_shape fs) (fun a c) h i t = absurd h
        shape_has index_shape int h i t = absurd h
        shape_has index_shape bool h i t = absurd h
        shape_has index_shape text h i t = absurd h
        shape_has index_shape (rec gs) h i t = absurd h
        shape_has index_shape (bag a) h i t = (refl, ((keys_have, refl), refl))
        shape_has index_shape (fun a c) h i t = absurd h

        shapes_have : (fs : ShapeTrees) (gs : FieldTypes) → ShapesHave S sc fs gs → Each (Inner outer) (shape_leaves_in fs) → Each TestsApart (shape_leaves_in fs) → EachBoth (ValueHas R env) (shapes_values outer tag keys fs) (fields_columns gs)
        shapes_have no_shape none h i t = refl
        shapes_have no_shape (field k a gs) h i t = absurd h
        shapes_have (with_shape l s fs) none h i t = absurd h
        shapes_have (with_shape l s fs) (field k a gs) h i t =
            both_append (ValueHas R env) (shape_values outer tag keys s) (shapes_values outer tag keys fs) (element_columns a) (fields_columns gs)
            (shape_has s a h.1 (each_left (Inner outer) (shape_leaves s) (shape_leaves_in fs) i) (each_left TestsApart (shape_leaves s) (shape_leaves_in fs) t))
            (shapes_have fs gs h.2 (each_right (Inner outer) (shape_leaves s) (shape_leaves_in fs) i) (each_right TestsApart (shape_leaves s) (shape_leaves_in fs) t))

    let_new : (gens : List Gen) → Each (λ (g : Gen). among (alias g.number) (let_alias ∷ []) ≡ false) gens
    let_new [] = tt
    let_new (g ∷ gens) = (ap (λ b. b || false) (let_not g.number), let_new gens)

    -- the WITH query of the part stands among the tables
    abbrev Stands : ℕ → List Gen → Type 0
    Stands zero og = og ≡ []
    Stands (suc k) og = found (with_name (suc k)) R ≡ Some (let_shape S og)

    -- the values of a strand's SELECT
    values_have : (env : Aliases) (a : TypeTree) (c : StrandTree) (n : ExprTree) → FineStrand S a c → ShowsTypes S R x (in_gens c.outer_gens) env (c.outer_gens ++ c.gens) → HasType R env n Int → EachBoth (ValueHas R env) (strand_values (column_names S) n c) (answer_columns a)
    values_have env a c n f shows count =
        let sc = c.outer_gens ++ c.gens in
        let keys = all_keys_have S R x differ (in_gens c.outer_gens) env sc shows f.facts.differ in
        (refl, (count, shape_has (in_gens c.outer_gens) env sc shows c.tag (order_keys (in_gens c.outer_gens) (columns_in (column_names S) sc)) keys c.shape a f.shape f.facts.inner_leaves f.facts.leaves_tests))

    strand_typed : (a : TypeTree) (c : StrandTree) (from : ℕ) → FineStrand S a c → Stands from c.outer_gens → SelectHas R [] (strand_select (column_names S) from c) (answer_shape (answer_columns a))
    strand_typed a c zero f stands =
        let outer = in_gens c.outer_gens in
        let sc = c.outer_gens ++ c.gens in
        let env = own_aliases S c.gens ++ [] in
        let own = own_distinct c.outer_gens c.gens f.facts.differ in
        let shows : ShowsTypes S R x outer env sc = subst (λ (z : List Gen). ShowsTypes S R x outer env z) (sym (ap (λ (z : List Gen). z ++ c.gens) stands)) (own_shows S R x outer c.gens (own_fresh c.outer_gens c.gens f.facts.differ)) in (
          own_aliases S c.gens,
          sources_have S R x [] c.gens f.facts.tables own (none_seen S R x c.gens),
          keep_typed S R x outer c.conds env sc f.facts.conds_typed f.facts.inner_conds f.facts.conds_tests shows,
          items_have R env 0 [] (strand_values (column_names S) (around_number zero) c) (answer_columns a) (values_have env a c (around_number zero) f shows refl) (λ j b. refl),
        )
    strand_typed a c (suc k) f stands =
        let outer = in_gens c.outer_gens in
        let sc = c.outer_gens ++ c.gens in
        let C = let_shape S c.outer_gens in
        let env = (let_alias, C) ∷ (own_aliases S c.gens ++ []) in
        let own = own_distinct c.outer_gens c.gens f.facts.differ in
        let shows = part_shows c.outer_gens c.gens f.facts.differ in
        let count : HasType R env (ExprTree.column let_alias number_name) Int = (C, ap (λ z. cond z (Some C) (found let_alias (own_aliases S c.gens ++ []))) own_let, number_found S c.outer_gens) in (
          (let_alias, C) ∷ own_aliases S c.gens,
          (C, own_aliases S c.gens, stands, refl, sources_have S R x (let_alias ∷ []) c.gens f.facts.tables own (let_new c.gens), refl),
          keep_typed S R x outer c.conds env sc f.facts.conds_typed f.facts.inner_conds f.facts.conds_tests shows,
          items_have R env 0 [] (strand_values (column_names S) (around_number (suc k)) c) (answer_columns a) (values_have env a c (around_number (suc k)) f shows count) (λ j b. refl),
        )

    -- the lets' queries stand among the tables, from the number k on
    abbrev pub HeldShapes : ℕ → List LetTree → Type 0
    HeldShapes k [] = Unit {0}
    HeldShapes k (l ∷ lets) = (found (with_name k) R ≡ Some (let_shape S l.gens)) × HeldShapes (suc k) lets

    held_shape : (lets : List LetTree) (k j i : ℕ) → HeldShapes k lets → j < length lets → k + j ≡ i → found (with_name i) R ≡ Some (let_shape S (get_or lets j no_let).gens)
    held_shape [] k j i h b e = absurd (omega arith)
    held_shape (l ∷ lets) k zero i h b e = ap (λ z. found (with_name z) R) (let f : i ≡ k = omega (arith, e) in f) ∙ h.0
    held_shape (l ∷ lets) k (suc j) i h b e = held_shape lets (suc k) j i h.1 (omega arith) (omega (arith, e))

    stands_at : (lets : List LetTree) (p : PartTree) (from : ℕ) → p.from ≡ from → from ≤ length lets → HeldShapes 1 lets → Stands from (let_of lets p.from).gens
    stands_at lets p zero e b h = ap (λ k. (let_of lets k).gens) e
    stands_at lets p (suc k) e b h = held_shape lets 1 k (suc k) h b (omega arith) ∙ sym (ap (λ z. Some (let_shape S (let_of lets z).gens)) e)

    abbrev PartsFine : TypeTree → List LetTree → List PartTree → Type 0
    PartsFine a lets parts = Each (λ p. (p.from ≤ length lets) × FineStrand S a (strand_of lets p)) parts

    others_typed : (a : TypeTree) (lets : List LetTree) → HeldShapes 1 lets → (parts : List PartTree) → PartsFine a lets parts → OthersHave R [] (parts_query (column_names S) lets parts) (types_of (answer_shape (answer_columns a)))
    others_typed a lets h [] e = tt
    others_typed a lets h (p ∷ parts) e =
        (answer_shape (answer_columns a), strand_typed a (strand_of lets p) p.from e.0.1 (stands_at lets p p.from refl e.0.0 h), refl, others_typed a lets h parts e.1)

    main_typed : (a : TypeTree) (lets : List LetTree) → HeldShapes 1 lets → (parts : List PartTree) → PartsFine a lets parts → QueryHas R [] (main_query (column_names S) (answer_columns a) lets parts) (answer_shape (answer_columns a))
    main_typed a lets h [] e = empty_has R (answer_columns a)
    main_typed a lets h (p ∷ parts) e = (strand_typed a (strand_of lets p) p.from e.0.1 (stands_at lets p p.from refl e.0.0 h), others_typed a lets h parts e.1)

  -- the tables with the WITH queries beside them
  record Chain (R : Shapes) (k : ℕ) (lets : List LetTree) : Type 0 where
    known : Shapes
    extends : Extends S known
    held : HeldShapes known extends k lets
    before : (m : ℕ) → m < k → found (with_name m) known ≡ found (with_name m) R
    withs : WithsHave R (withs_from (column_names S) k lets) known

  module _ (dotless : (t : Label) → IsSome (shape_named t S) → NoDot t) where
    chain : (lets : List LetTree) (k : ℕ) (R : Shapes) → Extends S R → ((j : ℕ) → k ≤ j → among (with_name j) (names_in R) ≡ false) → Each (λ l. ScopeFacts S l.gens l.conds) lets → Chain R k lets
    chain [] k R x f h = record { known = R; extends = x; held = tt; before = λ m b. refl; withs = refl }
    chain (l ∷ lets) k R x f h =
        let C = let_shape S l.gens in
        let more : Shapes = (with_name k, C) ∷ R in
        let x2 : Extends S more = λ t e. ap (λ b. cond b (Some C) (found t R)) (not_with k t (dotless t e)) ∙ x t e in
        let r = chain lets (suc k) more x2 (λ j b. ap₂ (λ y z. y || z) (withs_apart j k ∙ nat_differ j k (λ e. let g : j ≡ k = e in absurd (omega (arith, g, b)))) (f j (omega (arith, b)))) h.1 in
        record {
          known = r.known;
          extends = r.extends;
          held = (r.before k (omega arith) ∙ ap (λ z. cond z (Some C) (found (with_name k) R)) (withs_apart k k ∙ nat_same k k refl), r.held);
          before = λ m b. r.before m (omega (arith, b)) ∙ ap (λ z. cond z (Some C) (found (with_name m) R)) (withs_apart m k ∙ nat_differ m k (λ e. let g : m ≡ k = e in absurd (omega (arith, g, b))));
          withs = (C, f k (omega arith), let_typed S R x differ l h.0, r.withs);
        }

    tree_typed : (R : Shapes) → Extends S R → ((j : ℕ) → among (with_name j) (names_in R) ≡ false) → (f : LetFormTree) → FineForm S f → IsWellScoped R (emitted (column_names S) (answer_columns f.element) f) (answer_shape (answer_columns f.element))
    tree_typed R x new f h =
        let c = chain f.lets 1 R x (λ j b. new j) h.lets in
        (c.known, c.withs, main_typed c.known c.extends f.element f.lets c.held f.parts h.parts)

pub schema_extends : (S : List TableShape) → Extends S (shapes_of_schema S)
schema_extends [] t h = absurd (cc)
schema_extends (s ∷ ss) t h = go (bytes_eq t s.name) h (schema_extends ss t)
  where
    go : (b : Bool) → IsSome (cond b (Some s) (shape_named t ss)) → (IsSome (shape_named t ss) → found t (shapes_of_schema ss) ≡ Some (table_columns ss t)) → cond b (Some s.columns) (found t (shapes_of_schema ss)) ≡ Some (columns_or_none (cond b (Some s) (shape_named t ss)))
    go true h f = refl
    go false h f = f h

no_with : (S : List TableShape) → Each IsProperShape S → (j : ℕ) → among (with_name j) (names_in (shapes_of_schema S)) ≡ false
no_with [] p j = refl
no_with (s ∷ ss) p j = ap₂ (λ y z. y || z) (with_not j s.name (no_dots s.name p.0.named.no_dot)) (no_with ss p.1 j)

-- the tree of a let form is well scoped over its schema
pub tree_scoped : (schema : Schema) (f : LetFormTree) → IsProperSchema schema → IsLetFormOf schema f → IsWellScoped (shapes_of_schema schema.tables) (flattened schema f) (answer_shape (answer_columns f.element))
tree_scoped schema f proper form =
    tree_typed schema.tables (columns_differ schema proper) (table_dotless schema proper) (shapes_of_schema schema.tables) (schema_extends schema.tables) (no_with schema.tables (recursion_from_All IsProperShape schema.tables proper.proper)) f (fine_form schema f form)
