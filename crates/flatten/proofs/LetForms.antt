-- What is known of the let form of a well-formed form at a path.
use Rattle.std.proofs.Common.{◌≡◌, ◌≤◌, List, [], ◌∷◌, ◌++◌, map, length, refl, sym, subst}
use Rattle.std.specs.List.{AllByRecursion as Each}
use Rattle.nq_model.specs.Tables.{IsProperSchema}
use Rattle.nq_model.specs.Types.{TypeTree, int, bool, text, rec, bag, fun, FieldTypes, none, field}
use Rattle.nq_model.specs.declared.table.ColumnType.TheVariants as column_type
use Rattle.nq_model.specs.declared.table.Schema.{Schema}
use Rattle.nq_model.specs.declared.table.TableShape.{TableShape}
use Rattle.nq_model.proofs.Canonical.{reordered_sorted}
use Rattle.nq_model.proofs.Numberings.{each_map, each_reordered}
use Rattle.nq_ir.specs.Among.{Among, first, later}
use Rattle.nq_ir.specs.declared.base.Gen.{Gen}
use Rattle.nq_ir.specs.declared.path.Step.{Step}
use Rattle.nq_ir.specs.Trees.{FormTree, ShapeTree, plain_shape, rec_shape, index_shape, Shapes, no_shape, with_shape}
use Rattle.nq_ir.specs.Meanings.{EachBoth}
use Rattle.nq_ir.specs.Parts.{element_types}
use Rattle.nq_ir.specs.Paths.{paths, element_at}
use Rattle.nq_ir.specs.Spots.{StrandTree, PlacedComp, shaped, shape_leaves, shape_leaves_in, by_tag, strands_at, levels}
use Rattle.nq_ir.specs.Shredded.{ShreddedTree, shredded}
use Rattle.nq_ir.specs.Lets.{PartTree, LetFormTree, insert_lets, lets_of, parts_on, strand_of, IsLetFormOf}
use Rattle.nq_ir.specs.WellFormed.{IsWellFormed, BodyHas, comps_numbers}
use Rattle.nq_ir.proofs.Distinct.{distinct, among_map, each_among, each_join}
use Rattle.nq_ir.proofs.Insert.{Around, each_let, lets_known, strands_again}
use Rattle.nq_ir.proofs.Levels.{levels_all}
use Rattle.nq_ir.proofs.LevelTypes.{StrandsTyped, levels_typed}
use Rattle.nq_ir.proofs.Paths.{proper, shred, shred_levels, elements_are}
use Rattle.nq_ir.proofs.Scopes.{StrandGood, all_scopes, all_tags, look, strands_good}
use Rattle.nq_ir.proofs.Whole.{tags_apart, fits}
use Rattle.flatten.proofs.Facts.{ScopeFacts, StrandFacts, FitScope, FitStrand, form_fits, ShapeHas, ShapesHave, form_facts, shape_typed, gens_dotless, base_dotless, conds_dotless}
use Rattle.flatten.proofs.Agree.{Dotless}
use Rattle.flatten.proofs.PartItems.{FitsShape, FitsShapes}
use Rattle.flatten.proofs.Withs.{LetGood, PartGood, FormGood}

-- what is known of a strand whose elements have the type a
pub record FineStrand (S : List TableShape) (a : TypeTree) (d : StrandTree) : Type 0 where
  pub facts : StrandFacts S d
  pub fit : FitStrand d
  pub shape : ShapeHas S (d.outer_gens ++ d.gens) d.shape a

-- what is known of a let form
pub record FineForm (S : List TableShape) (f : LetFormTree) : Type 0 where
  pub lets : Each (λ l. ScopeFacts S l.gens l.conds) f.lets
  pub fit : Each (λ l. FitScope l.gens l.conds) f.lets
  pub parts : Each (λ p. (p.from ≤ length f.lets) × FineStrand S f.element (strand_of f.lets p)) f.parts

each_two : {A : Type 0} (P Q : A → Type 0) (xs : List A) → Each P xs → Each Q xs → Each (λ x. P x × Q x) xs
each_two P Q [] e f = tt
each_two P Q (x ∷ xs) e f = ((e.0, f.0), each_two P Q xs e.1 f.1)

each_mapped : {A B : Type 0} (f : A → B) (P : A → Type 0) (Q : B → Type 0) → ((x : A) → P x → Q (f x)) → (xs : List A) → Each P xs → Each Q (map f xs)
each_mapped f P Q t [] e = tt
each_mapped f P Q t (x ∷ xs) e = (t x e.0, each_mapped f P Q t xs e.1)

each_unmapped : {A B : Type 0} (f : A → B) (Q : B → Type 0) (xs : List A) → Each Q (map f xs) → Each (λ x. Q (f x)) xs
each_unmapped f Q [] e = tt
each_unmapped f Q (x ∷ xs) e = (e.0, each_unmapped f Q xs e.1)

both_among : {A B C : Type 0} (P : B → C → Type 0) (f : A → B) (g : A → C) {x : A} {xs : List A} → Among x xs → EachBoth P (map f xs) (map g xs) → P (f x) (g x)
both_among P f g first h = h.0
both_among P f g (later m) h = both_among P f g m h.1

module _ (schema : Schema) (form : FormTree) (w : IsWellFormed schema.tables form) where
  abbrev a : TypeTree
  a = form.element

  abbrev ps : List (List Step)
  ps = paths (bag a)

  pub at_levels : map (shred a form.comps) ps ≡ levels a form.comps
  at_levels = shred_levels a form.comps (proper a w.labels_rise) (fits schema form w)

  -- what holds of each comprehension of the form holds of the strands at a path
  pub level_facts : Each (λ here. Each (λ c. StrandFacts schema.tables (shaped c)) here) (levels a form.comps)
  level_facts = levels_all (λ c. StrandFacts schema.tables (shaped c)) a form.comps (form_facts schema.tables form.comps a (distinct (comps_numbers form.comps) w.numbers_differ) w.typed)

  level_fits : Each (λ here. Each (λ c. FitStrand (shaped c)) here) (levels a form.comps)
  level_fits = levels_all (λ c. FitStrand (shaped c)) a form.comps (form_fits form.comps w.tags_fit w.numbers_fit)

  pub level_scopes : Each (λ here. Each (StrandGood (look (all_scopes form.comps)) (all_tags form.comps)) here) (levels a form.comps)
  level_scopes = levels_all (StrandGood (look (all_scopes form.comps)) (all_tags form.comps)) a form.comps (strands_good schema.tables a form.comps w.typed (tags_apart schema form w) (distinct (comps_numbers form.comps) w.numbers_differ))

  level_types : EachBoth (StrandsTyped schema.tables) (map (element_at (bag a)) ps) (map (shred a form.comps) ps)
  level_types =
      subst (λ (z : List TypeTree). EachBoth (StrandsTyped schema.tables) z (map (shred a form.comps) ps)) (sym (elements_are a (proper a w.labels_rise)))
      (subst (λ (z : List (List PlacedComp)). EachBoth (StrandsTyped schema.tables) (element_types (bag a)) z) (sym at_levels) (levels_typed schema.tables a form.comps w.typed))

  module _ (p : List Step) (m : Among p ps) where
    abbrev here : List PlacedComp
    here = shred a form.comps p

    pub fine_here : Each (FineStrand schema.tables (element_at (bag a) p)) (strands_at a form.comps p)
    fine_here =
        let facts : Each (λ c. StrandFacts schema.tables (shaped c)) here = each_among (λ (l : List PlacedComp). Each (λ c. StrandFacts schema.tables (shaped c)) l) (among_map (shred a form.comps) m) (subst (λ (z : List (List PlacedComp)). Each (λ l. Each (λ c. StrandFacts schema.tables (shaped c)) l) z) (sym at_levels) level_facts) in
        let fits : Each (λ c. FitStrand (shaped c)) here = each_among (λ (l : List PlacedComp). Each (λ c. FitStrand (shaped c)) l) (among_map (shred a form.comps) m) (subst (λ (z : List (List PlacedComp)). Each (λ l. Each (λ c. FitStrand (shaped c)) l) z) (sym at_levels) level_fits) in
        let types : StrandsTyped schema.tables (element_at (bag a) p) here = both_among (StrandsTyped schema.tables) (element_at (bag a)) (shred a form.comps) m level_types in
        let Typed : PlacedComp → Type 0 = λ c. BodyHas schema.tables (c.outer_gens ++ c.gens) c.body (element_at (bag a) p) in
        let Known : PlacedComp → Type 0 = λ c. StrandFacts schema.tables (shaped c) × FitStrand (shaped c) in
        let known = each_two (λ c. StrandFacts schema.tables (shaped c)) (λ c. FitStrand (shaped c)) here facts fits in
        let fine = each_mapped shaped (λ c. Known c × Typed c) (FineStrand schema.tables (element_at (bag a) p)) (λ c k. record { facts = k.0.0; fit = k.0.1; shape = shape_typed schema.tables (c.outer_gens ++ c.gens) c.body (element_at (bag a) p) k.1 }) here (each_two Known Typed here known types) in
        each_reordered (FineStrand schema.tables (element_at (bag a) p)) (map shaped here) (by_tag (map shaped here)) (reordered_sorted _ (map shaped here)) fine

    pub around_here : Each (Around (look (all_scopes form.comps))) (strands_at a form.comps p)
    around_here =
        let good = each_among (λ (l : List PlacedComp). Each (StrandGood (look (all_scopes form.comps)) (all_tags form.comps)) l) (among_map (shred a form.comps) m) (subst (λ (z : List (List PlacedComp)). Each (λ l. Each (StrandGood (look (all_scopes form.comps)) (all_tags form.comps)) l) z) (sym at_levels) level_scopes) in
        let fine = each_mapped shaped (StrandGood (look (all_scopes form.comps)) (all_tags form.comps)) (Around (look (all_scopes form.comps))) (λ c k. k.around) here good in
        each_reordered (Around (look (all_scopes form.comps))) (map shaped here) (by_tag (map shaped here)) (reordered_sorted _ (map shaped here)) fine

    pub fine_at : FineForm schema.tables (insert_lets (shredded form p))
    fine_at =
        let ds = strands_at a form.comps p in
        let again : map (strand_of (lets_of ds)) (parts_on (lets_of ds) ds) ≡ ds = strands_again (look (all_scopes form.comps)) ds refl around_here in
        let parts = each_unmapped (strand_of (lets_of ds)) (FineStrand schema.tables (element_at (bag a) p)) (parts_on (lets_of ds) ds) (subst (λ (z : List StrandTree). Each (FineStrand schema.tables (element_at (bag a) p)) z) (sym again) fine_here) in
        record {
          lets = each_let (λ l. ScopeFacts schema.tables l.gens l.conds) ds (each_map (FineStrand schema.tables (element_at (bag a) p)) (λ d. ScopeFacts schema.tables d.outer_gens d.outer_conds) (λ d k. k.facts.around) ds fine_here);
          fit = each_let (λ l. FitScope l.gens l.conds) ds (each_map (FineStrand schema.tables (element_at (bag a) p)) (λ d. FitScope d.outer_gens d.outer_conds) (λ d k. k.fit.around) ds fine_here);
          parts = each_two (λ q. q.from ≤ length (lets_of ds)) (λ q. FineStrand schema.tables (element_at (bag a) p) (strand_of (lets_of ds) q)) (parts_on (lets_of ds) ds) (lets_known ds) parts;
        }

-- what is known of a let form
pub fine_form : (schema : Schema) (f : LetFormTree) → IsLetFormOf schema f → FineForm schema.tables f
fine_form schema f h =
    let s = h.shredded in
    subst (λ (z : LetFormTree). FineForm schema.tables z) (sym h.is)
    (subst (λ (z : ShreddedTree). FineForm schema.tables (insert_lets z)) (sym s.is) (fine_at schema s.form s.well_formed h.of.path s.at_path))

module _ (schema : Schema) (proper_schema : IsProperSchema schema) where
  mutual
    shape_fits : (sc : List Gen) (b : ShapeTree) (t : TypeTree) → ShapeHas schema.tables sc b t → FitsShape b t
    shape_fits sc (plain_shape b) int h = tt
    shape_fits sc (plain_shape b) bool h = tt
    shape_fits sc (plain_shape b) text h = tt
    shape_fits sc (plain_shape b) (rec gs) h = absurd h
    shape_fits sc (plain_shape b) (bag t) h = absurd h
    shape_fits sc (plain_shape b) (fun t u) h = absurd h
    shape_fits sc (rec_shape fs) int h = absurd h
    shape_fits sc (rec_shape fs) bool h = absurd h
    shape_fits sc (rec_shape fs) text h = absurd h
    shape_fits sc (rec_shape fs) (rec gs) h = shapes_fit sc fs gs h
    shape_fits sc (rec_shape fs) (bag t) h = absurd h
    shape_fits sc (rec_shape fs) (fun t u) h = absurd h
    shape_fits sc index_shape int h = absurd h
    shape_fits sc index_shape bool h = absurd h
    shape_fits sc index_shape text h = absurd h
    shape_fits sc index_shape (rec gs) h = absurd h
    shape_fits sc index_shape (bag t) h = tt
    shape_fits sc index_shape (fun t u) h = absurd h

    shapes_fit : (sc : List Gen) (fs : Shapes) (gs : FieldTypes) → ShapesHave schema.tables sc fs gs → FitsShapes fs gs
    shapes_fit sc no_shape none h = tt
    shapes_fit sc no_shape (field k t gs) h = absurd h
    shapes_fit sc (with_shape l s fs) none h = absurd h
    shapes_fit sc (with_shape l s fs) (field k t gs) h = (h.0, shape_fits sc s t h.1, shapes_fit sc fs gs h.2)

  mutual
    leaves_dotless : (sc : List Gen) (b : ShapeTree) (t : TypeTree) → ShapeHas schema.tables sc b t → Each Dotless (shape_leaves b)
    leaves_dotless sc (plain_shape b) int h = (base_dotless schema proper_schema sc b column_type.Int h, tt)
    leaves_dotless sc (plain_shape b) bool h = (base_dotless schema proper_schema sc b column_type.Bool h, tt)
    leaves_dotless sc (plain_shape b) text h = (base_dotless schema proper_schema sc b column_type.Text h, tt)
    leaves_dotless sc (plain_shape b) (rec gs) h = absurd h
    leaves_dotless sc (plain_shape b) (bag t) h = absurd h
    leaves_dotless sc (plain_shape b) (fun t u) h = absurd h
    leaves_dotless sc (rec_shape fs) int h = absurd h
    leaves_dotless sc (rec_shape fs) bool h = absurd h
    leaves_dotless sc (rec_shape fs) text h = absurd h
    leaves_dotless sc (rec_shape fs) (rec gs) h = leaves_in_dotless sc fs gs h
    leaves_dotless sc (rec_shape fs) (bag t) h = absurd h
    leaves_dotless sc (rec_shape fs) (fun t u) h = absurd h
    leaves_dotless sc index_shape t h = tt

    leaves_in_dotless : (sc : List Gen) (fs : Shapes) (gs : FieldTypes) → ShapesHave schema.tables sc fs gs → Each Dotless (shape_leaves_in fs)
    leaves_in_dotless sc no_shape gs h = tt
    leaves_in_dotless sc (with_shape l s fs) none h = absurd h
    leaves_in_dotless sc (with_shape l s fs) (field k t gs) h = each_join Dotless (shape_leaves s) (shape_leaves_in fs) (leaves_dotless sc s t h.1) (leaves_in_dotless sc fs gs h.2)

  -- it is all that the answers ask
  pub good_form : (f : LetFormTree) → FineForm schema.tables f → FormGood f
  good_form f h = record {
    lets = each_map (λ l. ScopeFacts schema.tables l.gens l.conds) LetGood (λ l k. record { tables = gens_dotless schema proper_schema l.gens k.tables; conds = conds_dotless schema proper_schema l.gens l.conds k.typed }) f.lets h.lets;
    parts = each_map (λ p. (p.from ≤ length f.lets) × FineStrand schema.tables f.element (strand_of f.lets p)) (PartGood f.element f.lets) (λ p k. part_good p k.0 k.1) f.parts h.parts;
  }
    where
      part_good : (p : PartTree) → p.from ≤ length f.lets → FineStrand schema.tables f.element (strand_of f.lets p) → PartGood f.element f.lets p
      part_good p known k =
          let d = strand_of f.lets p in
          let sc = d.outer_gens ++ d.gens in
          record {
            known = known;
            fits = shape_fits sc p.shape f.element k.shape;
            inner_conds = k.facts.inner_conds;
            inner_leaves = k.facts.inner_leaves;
            tables = gens_dotless schema proper_schema p.gens k.facts.tables;
            dotless_conds = conds_dotless schema proper_schema sc p.conds k.facts.conds_typed;
            dotless_leaves = leaves_dotless sc p.shape f.element k.shape;
          }
