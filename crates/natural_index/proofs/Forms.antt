-- What shredded forms, their layouts and the texts come to for a whole form.
use Rattle.std.proofs.Common.{◌≡◌, suc, List, [], ◌∷◌, ◌++◌, map, flat_map, zip, refl, sym, ap, ap₂}
use Rattle.std.proofs.Common.{◌∙◌, length, Option, None, Some}
use Rattle.std.specs.Option.{option_map}
use Rattle.nq_model.specs.NamedRows.{Label}
use Rattle.nq_model.specs.Numberings.{count_from}
use Rattle.nq_model.specs.Types.{TypeTree, bag}
use Rattle.nq_model.specs.declared.table.Schema.{Schema}
use Rattle.nq_model.specs.declared.table.TableShape.{TableShape}
use Rattle.nq_ir.specs.Parts.{bags, element_types}
use Rattle.nq_ir.specs.Paths.{paths, element_at}
use Rattle.nq_ir.specs.Shredded.{ShreddedTree, shredded}
use Rattle.nq_ir.specs.Spots.{StrandTree, strands_at}
use Rattle.nq_ir.specs.Trees.{FormTree}
use Rattle.nq_ir.specs.WellFormed.{IsWellFormed}
use Rattle.nq_ir.specs.declared.base.Gen.{Gen}
use Rattle.nq_ir.specs.declared.path.Step.{Step}
use Rattle.nq_ir.proofs.Paths.{proper, elements_are, paths_count}
use Rattle.stitcher.specs.Linked.{Home, homes}
use Rattle.stitcher.proofs.Homes.{homes_long}
use Rattle.stitcher.proofs.Laid.{types_length}
use Rattle.natural_keys.specs.declared.layout.Layout.{Layout}
use Rattle.natural_keys.specs.Layouts.{layout_at, layout_of, outer_by, strands_by_path, inner_layouts, outer_layouts}
use Rattle.natural_keys.specs.NaturalKeys.{natural_scheme, natural_keys}
use Rattle.natural_index.specs.Naming.{keyless, least, naming, naming_at, no_key}
use Rattle.natural_index.specs.Trees.{tree_in, natural_trees}

map_twice : {A B C : Type 0} (g : B → C) (f : A → B) (xs : List A) → map g (map f xs)
    ≡ map (λ x. g (f x)) xs
map_twice g f [] = refl
map_twice {A} {B} {C} g f (x ∷ xs) = ap (λ (l : List C). g (f x) ∷ l) (map_twice g f xs)

map_long : {A B : Type 0} (f : A → B) (xs : List A) → length (map f xs) ≡ length xs
map_long f [] = refl
map_long f (x ∷ xs) = ap suc (map_long f xs)

-- over two lists side by side
side_by_side : {A B C D : Type 0} (h : B → C → List D) (f : A → B) (g : A → C) (xs : List A)
    → flat_map (λ (x : B × C). h x.0 x.1) (zip (map f xs) (map g xs))
    ≡ flat_map (λ x. h (f x) (g x)) xs
side_by_side h f g [] = refl
side_by_side {A} {B} {C} {D} h f g (x ∷ xs) = ap (λ (l : List D). h (f x) (g x) ++ l)
    (side_by_side h f g xs)

flat_mapped : {A B D : Type 0} (h : B → List D) (f : A → B) (xs : List A) → flat_map h (map f xs)
    ≡ flat_map (λ x. h (f x)) xs
flat_mapped h f [] = refl
flat_mapped {A} {B} {D} h f (x ∷ xs) = ap (λ (l : List D). h (f x) ++ l) (flat_mapped h f xs)

-- there is a home for each path
pub outer_long : (inners : List Layout) (hs : List Home) → length (outer_by inners hs) ≡ length hs
outer_long inners [] = refl
outer_long inners (h ∷ hs) = ap suc (map_long (λ (home : Home). layout_at inners home.0) hs)

module _ (schema : Schema) (form : FormTree) (w : IsWellFormed schema.tables form)
    (forms : List ShreddedTree) (are : forms ≡ map (shredded form) (paths (bag form.element))) where
  abbrev S : List TableShape
  S = schema.tables

  abbrev a : TypeTree
  a = form.element

  abbrev ps : List (List Step)
  ps = paths (bag a)

  elements : map (element_at (bag a)) ps ≡ element_types (bag a)
  elements = elements_are a (proper a w.labels_rise)

  pub forms_elements : map (λ (f : ShreddedTree). f.element) forms ≡ element_types (bag a)
  forms_elements = ap (map (λ (f : ShreddedTree). f.element)) are
      ∙ map_twice (λ (f : ShreddedTree). f.element) (shredded form) ps ∙ elements

  pub forms_parts : map (λ (f : ShreddedTree). f.parts) forms ≡ strands_by_path form
  forms_parts = ap (map (λ (f : ShreddedTree). f.parts)) are
      ∙ map_twice (λ (f : ShreddedTree). f.parts) (shredded form) ps

  pub forms_inners : map (λ (f : ShreddedTree). layout_of S f.parts) forms ≡ inner_layouts S form
  forms_inners =
      ap (map (λ (f : ShreddedTree). layout_of S f.parts)) are
      ∙ map_twice (λ (f : ShreddedTree). layout_of S f.parts) (shredded form) ps
      ∙ sym (map_twice (layout_of S) (strands_at a form.comps) ps)

  pub forms_long : length forms ≡ bags (bag a)
  forms_long = ap length are ∙ map_long (shredded form) ps ∙ paths_count (bag a)

  pub forms_naming : flat_map (λ (f : ShreddedTree). naming_at f.element f.parts) forms
      ≡ naming form
  forms_naming =
      ap (flat_map (λ (f : ShreddedTree). naming_at f.element f.parts)) are
      ∙ flat_mapped (λ (f : ShreddedTree). naming_at f.element f.parts) (shredded form) ps
      ∙ sym (side_by_side naming_at (element_at (bag a)) (strands_at a form.comps) ps)
      ∙ ap (λ (l : List TypeTree). flat_map (λ (x : TypeTree × List StrandTree). naming_at x.0 x.1)
      (zip l (strands_by_path form))) elements

  -- no generator without a key, and the first of those
  pub none_keyless : (found : Option Gen) → found ≡ least
      (keyless S (flat_map (λ (f : ShreddedTree). naming_at f.element f.parts) forms)) → found
      ≡ None → no_key S form ≡ None
  none_keyless found e n = ap (λ (l : List Gen). option_map (λ g. g.table) (least (keyless S l)))
      (sym forms_naming) ∙ ap (option_map (λ (g : Gen). g.table)) (sym e ∙ n)

  pub one_keyless : (found : Option Gen) (g : Gen) (table : Label) → found
      ≡ least (keyless S (flat_map (λ (f : ShreddedTree). naming_at f.element f.parts) forms))
      → found ≡ Some g → table ≡ g.table → no_key S form ≡ Some table
  one_keyless found g table e n t = ap (λ (l : List Gen). option_map (λ g. g.table)
      (least (keyless S l))) (sym forms_naming) ∙ ap (option_map (λ (g : Gen). g.table)) (sym e ∙ n)
      ∙ ap {B = Option Label} Some (sym t)

  module _ (type : TypeTree) (outers inners : List Layout) (of : type ≡ bag a)
      (inner : inners ≡ map (λ (f : ShreddedTree). layout_of S f.parts) forms)
      (outer : outers ≡ outer_by inners (homes type)) where
    pub inners_are : inners ≡ inner_layouts S form
    inners_are = inner ∙ forms_inners

    pub outers_are : outers ≡ outer_layouts S form
    outers_are = outer ∙ ap₂ (λ (i : List Layout) (t : TypeTree). outer_by i
        (homes t)) inners_are of

    types_count : length (element_types type) ≡ bags (bag a)
    types_count = types_length type ∙ ap bags of

    pub inners_long : length inners ≡ length (element_types type)
    inners_long = ap length inner ∙ map_long (λ (f : ShreddedTree). layout_of S f.parts) forms
        ∙ forms_long ∙ sym types_count

    pub outers_long : length outers ≡ length (element_types type)
    outers_long = ap length outer ∙ outer_long inners (homes type) ∙ homes_long type 0 0 0
        ∙ sym (types_length type)

    -- as many as forms
    pub inners_count : length inners ≡ length forms
    inners_count = ap length inner ∙ map_long (λ (f : ShreddedTree). layout_of S f.parts) forms

    pub outers_count : length outers ≡ length forms
    outers_count = outers_long ∙ types_count ∙ sym forms_long

    pub scheme_is : natural_scheme (element_types type) outers inners ≡ natural_keys S form
    scheme_is = λ t. natural_scheme (element_types (of t)) (outers_are t) (inners_are t)

    pub trees_are : map (tree_in S outers inners (map (λ (f : ShreddedTree). f.element) forms)
        (map (λ (f : ShreddedTree). f.parts) forms)) (count_from 0 (length forms))
        ≡ natural_trees S form
    trees_are = λ t. map (tree_in S (outers_are t) (inners_are t) (forms_elements t)
        (forms_parts t)) (count_from 0 (forms_long t))
