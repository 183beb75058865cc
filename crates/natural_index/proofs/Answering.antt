-- What the texts of shredded forms, made over layouts that are those of a form, come to: the
-- natural trees of the form.
use Rattle.std.proofs.Common.{◌≡◌, ℕ, ◌<◌, List, map, sym, ap, ◌∙◌, subst, length, arith, All}
use Rattle.std.proofs.lemmas.List.Elements.{All-from_recursion}
use Rattle.nq_model.specs.Numberings.{count_from}
use Rattle.nq_model.specs.Tables.{IsProperSchema}
use Rattle.nq_model.specs.Types.{TypeTree, bag}
use Rattle.nq_model.specs.declared.table.Schema.{Schema}
use Rattle.nq_model.specs.declared.table.TableShape.{TableShape}
use Rattle.nq_model.proofs.Numberings.{length_map}
use Rattle.nq_ir.specs.Parts.{bags, element_types}
use Rattle.nq_ir.specs.Paths.{paths}
use Rattle.nq_ir.specs.Shredded.{ShreddedTree, shredded, shredded_tree}
use Rattle.nq_ir.specs.Trees.{FormTree}
use Rattle.nq_ir.specs.WellFormed.{IsWellFormed}
use Rattle.nq_ir.specs.declared.shredded.Shredded.{Shredded}
use Rattle.sql_profile.specs.Spellable.{IsSpellable}
use Rattle.sql_profile.specs.Trees.{SqlTree}
use Rattle.stitcher.specs.Linked.{homes}
use Rattle.stitcher.specs.Schemes.{element_of}
use Rattle.natural_keys.specs.declared.layout.Layout.{Layout}
use Rattle.natural_keys.specs.Layouts.{layout_at, layout_of, outer_by, inner_layouts, outer_layouts}
use Rattle.natural_keys.specs.NaturalKeys.{element_columns, index_columns}
use Rattle.natural_index.specs.Trees.{HasNumbers, elements_of, natural_trees, parts_of, tree_in}
use Rattle.natural_index.proofs.Forms.{forms_elements, forms_long, inners_are, outers_are, trees_are}
use Rattle.natural_index.proofs.Whole.{trees_spelled}

module _ (schema : Schema) (form : FormTree) (w : IsWellFormed schema.tables form)
    (forms : List Shredded) (are : map shredded_tree forms
    ≡ map (shredded form) (paths (bag form.element))) (type : TypeTree)
    (outers inners : List Layout) (of : type ≡ bag form.element)
    (inner : inners ≡ map (λ (f : ShreddedTree). layout_of schema.tables f.parts)
    (map shredded_tree forms)) (outer : outers ≡ outer_by inners (homes type)) where
  abbrev S : List TableShape
  S = schema.tables

  abbrev Made : List SqlTree → Type 0
  Made trees = trees ≡ map (tree_in S outers inners (elements_of forms) (parts_of forms))
      (count_from 0 (length forms))

  abbrev Numbered : List Layout → List Layout → List TypeTree → ℕ → Type 0
  Numbered os is es q = HasNumbers (layout_at os q) (element_columns
      (index_columns (layout_at is q)) (element_of es q))

  -- over slices of these lists
  pub made_from : (os is : List Layout) (fs : List Shredded) → os ≡ outers → is ≡ inners → fs
      ≡ forms → (trees : List SqlTree) → trees ≡ map (tree_in S os is (elements_of fs)
      (parts_of fs)) (count_from 0 (length fs)) → Made trees
  made_from os is fs o i f trees made = made ∙ (λ t. map
      (tree_in S (o t) (i t) (elements_of (f t)) (parts_of (f t))) (count_from 0 (length (f t))))

  pub numbers_from : (os is : List Layout) (fs : List Shredded) → os ≡ outers → is ≡ inners → fs
      ≡ forms → ((q : ℕ) → q < length fs → Numbered os is (elements_of fs) q) → (q : ℕ)
      → q < length forms → Numbered outers inners (elements_of forms) q
  numbers_from os is fs o i f few =
      subst (λ (ls : List Layout). (q : ℕ) → q < length forms
      → Numbered ls inners (elements_of forms) q) o
      (subst (λ (ls : List Layout). (q : ℕ) → q < length forms
      → Numbered os ls (elements_of forms) q) i
      (subst (λ (ls : List Shredded). (q : ℕ) → q < length ls
      → Numbered os is (elements_of ls) q) f few))

  pub trees_made : (trees : List SqlTree) → Made trees → trees ≡ natural_trees S form
  trees_made trees made =
      made
      ∙ ap (λ (n : ℕ). map (tree_in S outers inners (elements_of forms) (parts_of forms))
      (count_from 0 n)) (sym (length_map shredded_tree forms))
      ∙ trees_are schema form w (map shredded_tree forms) are type outers inners of inner outer

  numbers : ((q : ℕ) → q < length forms → Numbered outers inners (elements_of forms) q) → (q : ℕ)
      → q < bags (bag form.element) → Numbered (outer_layouts S form) (inner_layouts S form)
      (element_types (bag form.element)) q
  numbers few q h =
      let long : length (map shredded_tree forms) ≡ bags (bag form.element)
      = forms_long schema form w (map shredded_tree forms) are in
      let same : length (map shredded_tree forms) ≡ length forms = length_map shredded_tree forms in
      subst (λ (os : List Layout). Numbered os (inner_layouts S form)
      (element_types (bag form.element)) q) (outers_are schema form w
      (map shredded_tree forms) are type outers inners of inner outer)
      (subst (λ (is : List Layout). Numbered outers is (element_types (bag form.element)) q)
      (inners_are schema form w (map shredded_tree forms) are type outers inners of inner outer)
      (subst (λ (es : List TypeTree). Numbered outers inners es q)
      (forms_elements schema form w (map shredded_tree forms) are)
      (few q (omega (arith, h, long, same)))))

  pub trees_spellable : IsProperSchema schema → (trees : List SqlTree) → Made trees
      → ((q : ℕ) → q < length forms → Numbered outers inners (elements_of forms) q)
      → All IsSpellable trees
  trees_spellable proper trees made few =
      subst (λ (ts : List SqlTree). All IsSpellable ts) (sym (trees_made trees made))
      (All-from_recursion IsSpellable (natural_trees S form)
      (trees_spelled schema proper form w (numbers few)))
