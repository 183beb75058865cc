-- The strands of a well-formed form are typed in scope.
use Rattle.std.proofs.Common.{◌≡◌, ◌≢◌, ℕ, List, [], ◌∷◌, ◌++◌, map, sym, ap, ◌∙◌, subst, Bool, true, false, cond, nat_eq, append_assoc, Some, IsSome, ◌≤◌, arith}
use Rattle.std.specs.List.{AllByRecursion as Each}
use Rattle.nq_model.proofs.Numberings.{each_map}
use Rattle.nq_model.specs.NamedRows.{Label}
use Rattle.nq_model.specs.Orders.{AreDistinct}
use Rattle.nq_model.specs.Typing.{shape_named}
use Rattle.nq_model.specs.Types.{TypeTree, FieldTypes, bag, bool, field, fun, int, none, rec, text}
use Rattle.nq_model.specs.declared.table.ColumnType.{ColumnType}
use Rattle.nq_model.specs.declared.table.ColumnType.TheVariants as column_type
use Rattle.nq_model.specs.declared.table.Schema.{Schema}
use Rattle.nq_model.specs.declared.table.TableShape.{TableShape}
use Rattle.nq_ir.specs.declared.base.Gen.{Gen}
use Rattle.nq_ir.specs.Meanings.{EachBoth}
use Rattle.nq_ir.specs.Parts.{element_types}
use Rattle.nq_ir.specs.Spots.{PlacedComp, both, levels, shape_of, shape_of_fields, shaped, strands}
use Rattle.nq_ir.specs.Trees.{BaseTree, literal, column, unary, binary, choose, empty, Conds, no_cond, and_cond, Tests, no_test, test, BodyTree, plain_body, rec_body, bag_body, Bodies, no_body, with_body, Comps, no_comp, comp, FormTree, total}
use Rattle.nq_ir.specs.TypedStrands.{ShapeHas, ShapesHave, IsTypedStrand}
use Rattle.nq_ir.specs.WellFormed.{AreTables, BaseHas, BodiesHave, BodyHas, CompsHave, CondsHave, IsNumber, IsWellFormed, TestsHave, column_type_in, comps_numbers, comps_tags, gen_columns, numbers, table_columns}
use Rattle.nq_ir.proofs.Distinct.{Distinct, distinct, each_join}
use Rattle.nq_ir.proofs.Equal.{nat_differ, nat_same}
use Rattle.nq_ir.proofs.LevelTypes.{StrandsTyped, levels_typed}
use Rattle.nq_ir.proofs.Levels.{AllBody, AllComps, AllFields, levels_all}
use Rattle.nq_ir.proofs.Scopes.{StrandGood, all_scopes, all_tags, look, strands_good}

module _ (S : List TableShape) (more : List Gen) where
  column_kept : (sc : List Gen) (g : ℕ) (l : Label) (T : ColumnType) → column_type_in l (gen_columns S sc g) ≡ Some T → column_type_in l (gen_columns S (sc ++ more) g) ≡ Some T
  column_kept [] g l T h = absurd (cc)
  column_kept (k ∷ sc) g l T h = go (nat_eq g k.number) h (column_kept sc g l T)
    where
      go : (b : Bool) → column_type_in l (cond b (table_columns S k.table) (gen_columns S sc g)) ≡ Some T → (column_type_in l (gen_columns S sc g) ≡ Some T → column_type_in l (gen_columns S (sc ++ more) g) ≡ Some T) → column_type_in l (cond b (table_columns S k.table) (gen_columns S (sc ++ more) g)) ≡ Some T
      go true i f = i
      go false i f = f i

  mutual
    -- what is typed in a scope is typed where more generators stand inside
    base_kept : (sc : List Gen) (b : BaseTree) (T : ColumnType) → BaseHas S sc b T → BaseHas S (sc ++ more) b T
    base_kept sc (literal c) T h = h
    base_kept sc (column g l) T h = column_kept sc g l T h
    base_kept sc (unary op b) T h = (h.0, base_kept sc b h.0 h.1, h.2)
    base_kept sc (binary op a b) T h = (h.0, h.1, base_kept sc a h.0 h.2, base_kept sc b h.1 h.3, h.4)
    base_kept sc (choose x a b) T h = (base_kept sc x column_type.Bool h.0, base_kept sc a T h.1, base_kept sc b T h.2)
    base_kept sc (empty xs) T h = (h.0, tests_kept sc xs h.1)
    base_kept sc (total g gens conds b) T h =
        (h.0, h.1, subst (λ (z : List Gen). CondsHave S z conds) (append_assoc gens sc more) (conds_kept (gens ++ sc) conds h.2), subst (λ (z : List Gen). BaseHas S z b column_type.Int) (append_assoc gens sc more) (base_kept (gens ++ sc) b column_type.Int h.3))

    conds_kept : (sc : List Gen) (bs : Conds) → CondsHave S sc bs → CondsHave S (sc ++ more) bs
    conds_kept sc no_cond h = tt
    conds_kept sc (and_cond b bs) h = (base_kept sc b column_type.Bool h.0, conds_kept sc bs h.1)

    tests_kept : (sc : List Gen) (xs : Tests) → TestsHave S sc xs → TestsHave S (sc ++ more) xs
    tests_kept sc no_test h = tt
    tests_kept sc (test gens conds xs) h =
        (h.0, subst (λ (z : List Gen). CondsHave S z conds) (append_assoc gens sc more) (conds_kept (gens ++ sc) conds h.1), tests_kept sc xs h.2)

module _ (S : List TableShape) where
  both_typed : (sc : List Gen) (xs ys : Conds) → CondsHave S sc xs → CondsHave S sc ys → CondsHave S sc (both xs ys)
  both_typed sc no_cond ys h k = k
  both_typed sc (and_cond x xs) ys h k = (h.0, both_typed sc xs ys h.1 k)

  record InScope (d : PlacedComp) : Type 0 where
    outer_tables : AreTables S d.outer_gens
    tables : AreTables S d.gens
    outer_conds : CondsHave S d.outer_gens d.outer_conds
    conds : CondsHave S (d.outer_gens ++ d.gens) d.conds

  mutual
    comps_in_scope : (p : ℕ) (og : List Gen) (oc : Conds) (cs : Comps) (A : TypeTree) → AreTables S og → CondsHave S og oc → CompsHave S og cs A → AllComps InScope p og oc cs
    comps_in_scope p og oc no_comp A t c h = tt
    comps_in_scope p og oc (comp u gens conds b cs) A t c h = (
      record { outer_tables = t; tables = h.0; outer_conds = c; conds = h.1 },
      body_in_scope u (og ++ gens) (both oc conds) b A (each_join (λ g. IsSome (shape_named g.table S)) og gens t h.0) (both_typed (og ++ gens) oc conds (conds_kept S gens og oc c) h.1) h.2,
      comps_in_scope p og oc cs A t c h.3,
    )

    body_in_scope : (p : ℕ) (og : List Gen) (oc : Conds) (b : BodyTree) (A : TypeTree) → AreTables S og → CondsHave S og oc → BodyHas S og b A → AllBody InScope p og oc b
    body_in_scope p og oc (plain_body b) A t c h = tt
    body_in_scope p og oc (rec_body fs) int t c h = absurd h
    body_in_scope p og oc (rec_body fs) bool t c h = absurd h
    body_in_scope p og oc (rec_body fs) text t c h = absurd h
    body_in_scope p og oc (rec_body fs) (rec gs) t c h = fields_in_scope p og oc fs gs t c h
    body_in_scope p og oc (rec_body fs) (bag A) t c h = absurd h
    body_in_scope p og oc (rec_body fs) (fun A B) t c h = absurd h
    body_in_scope p og oc (bag_body e cs) int t c h = absurd h
    body_in_scope p og oc (bag_body e cs) bool t c h = absurd h
    body_in_scope p og oc (bag_body e cs) text t c h = absurd h
    body_in_scope p og oc (bag_body e cs) (rec gs) t c h = absurd h
    body_in_scope p og oc (bag_body e cs) (bag A) t c h = comps_in_scope p og oc cs A t c h.1
    body_in_scope p og oc (bag_body e cs) (fun A B) t c h = absurd h

    fields_in_scope : (p : ℕ) (og : List Gen) (oc : Conds) (fs : Bodies) (gs : FieldTypes) → AreTables S og → CondsHave S og oc → BodiesHave S og fs gs → AllFields InScope p og oc fs
    fields_in_scope p og oc no_body gs t c h = tt
    fields_in_scope p og oc (with_body l b fs) none t c h = absurd h
    fields_in_scope p og oc (with_body l b fs) (field k A gs) t c h = (body_in_scope p og oc b A t c h.1, fields_in_scope p og oc fs gs t c h.2)

  mutual
    shape_typed : (sc : List Gen) (b : BodyTree) (A : TypeTree) → BodyHas S sc b A → ShapeHas S sc (shape_of b) A
    shape_typed sc (plain_body b) int h = h
    shape_typed sc (plain_body b) bool h = h
    shape_typed sc (plain_body b) text h = h
    shape_typed sc (plain_body b) (rec gs) h = absurd h
    shape_typed sc (plain_body b) (bag A) h = absurd h
    shape_typed sc (plain_body b) (fun A B) h = absurd h
    shape_typed sc (rec_body fs) int h = absurd h
    shape_typed sc (rec_body fs) bool h = absurd h
    shape_typed sc (rec_body fs) text h = absurd h
    shape_typed sc (rec_body fs) (rec gs) h = shapes_typed sc fs gs h
    shape_typed sc (rec_body fs) (bag A) h = absurd h
    shape_typed sc (rec_body fs) (fun A B) h = absurd h
    shape_typed sc (bag_body e cs) int h = absurd h
    shape_typed sc (bag_body e cs) bool h = absurd h
    shape_typed sc (bag_body e cs) text h = absurd h
    shape_typed sc (bag_body e cs) (rec gs) h = absurd h
    shape_typed sc (bag_body e cs) (bag A) h = tt
    shape_typed sc (bag_body e cs) (fun A B) h = absurd h

    shapes_typed : (sc : List Gen) (fs : Bodies) (gs : FieldTypes) → BodiesHave S sc fs gs → ShapesHave S sc (shape_of_fields fs) gs
    shapes_typed sc no_body none h = tt
    shapes_typed sc no_body (field k A gs) h = absurd h
    shapes_typed sc (with_body l b fs) none h = absurd h
    shapes_typed sc (with_body l b fs) (field k A gs) h = (h.0, shape_typed sc b A h.1, shapes_typed sc fs gs h.2)

distinct_back : (ns : List ℕ) → Distinct ns → AreDistinct ns
distinct_back [] h = tt
distinct_back (n ∷ ns) h = (each_map (λ m. nat_eq n m ≡ false) (λ m. n ≢ m) (λ m e f. let w : true ≡ false = sym (nat_same n m f) ∙ e in absurd (cc)) ns h.0, distinct_back ns h.1)

module _ (schema : Schema) (form : FormTree) (w : IsWellFormed schema.tables form) where
  tags_apart : Distinct (0 ∷ comps_tags form.comps)
  tags_apart =
      (each_map IsNumber (λ n. nat_eq 0 n ≡ false) (λ n k. nat_differ 0 n (λ e. let u : 1 ≤ n = k.0 in absurd (omega arith))) (comps_tags form.comps) w.tags_fit, distinct (comps_tags form.comps) w.tags_differ)

  abbrev Good : PlacedComp → Type 0
  Good = StrandGood (look (all_scopes form.comps)) (all_tags form.comps)

  good : Each (Each Good) (levels form.element form.comps)
  good = levels_all Good form.element form.comps (strands_good schema.tables form.element form.comps w.typed tags_apart (distinct (comps_numbers form.comps) w.numbers_differ))

  in_scope : Each (Each (InScope schema.tables)) (levels form.element form.comps)
  in_scope = levels_all (InScope schema.tables) form.element form.comps (comps_in_scope schema.tables 0 [] no_cond form.comps form.element tt tt w.typed)

  one_level : (A : TypeTree) (here : List PlacedComp) → StrandsTyped schema.tables A here → Each Good here → Each (InScope schema.tables) here → Each (IsTypedStrand schema.tables A) (map shaped here)
  one_level A [] h g s = tt
  one_level A (d ∷ here) h g s = (
    record {
      outer_tables = s.0.outer_tables;
      tables = s.0.tables;
      outer_conds = s.0.outer_conds;
      conds = s.0.conds;
      shape = shape_typed schema.tables (d.outer_gens ++ d.gens) d.body A h.0;
      numbers_differ = distinct_back (numbers (d.outer_gens ++ d.gens)) g.0.differ;
    },
    one_level A here h.1 g.1 s.1,
  )

  each_level : (As : List TypeTree) (all : List (List PlacedComp)) → EachBoth (StrandsTyped schema.tables) As all → Each (Each Good) all → Each (Each (InScope schema.tables)) all → EachBoth (λ A here. Each (IsTypedStrand schema.tables A) here) As (map (map shaped) all)
  each_level [] all h g s = ap (map (map shaped)) h
  each_level (A ∷ As) [] h g s = absurd h
  each_level (A ∷ As) (here ∷ all) h g s = (one_level A here h.0 g.0 s.0, each_level As all h.1 g.1 s.1)

  -- path by path
  pub strands_typed : EachBoth (λ A here. Each (IsTypedStrand schema.tables A) here) (element_types (bag form.element)) (strands form.element form.comps)
  strands_typed = each_level (element_types (bag form.element)) (levels form.element form.comps) (levels_typed schema.tables form.element form.comps w.typed) good in_scope
