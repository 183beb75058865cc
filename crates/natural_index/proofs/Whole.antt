-- The trees of a whole form: what is known of each path holds of all.
use Rattle.std.proofs.Common.{ℕ, zero, suc, ◌+◌, ◌<◌, List, [], ◌∷◌, map, refl, sym, subst, arith}
use Rattle.std.specs.List.{AllByRecursion as Each}
use Rattle.nq_model.specs.Numberings.{count_from}
use Rattle.nq_model.specs.Tables.{IsProperSchema}
use Rattle.nq_model.specs.Types.{bag}
use Rattle.nq_model.specs.declared.table.Schema.{Schema}
use Rattle.nq_ir.specs.Among.{Among, first, later}
use Rattle.nq_ir.specs.Meanings.{EachBoth}
use Rattle.nq_ir.specs.Parts.{bags, element_types}
use Rattle.nq_ir.specs.Trees.{FormTree}
use Rattle.nq_ir.specs.WellFormed.{IsWellFormed}
use Rattle.sql_profile.specs.Spellable.{IsSpellable}
use Rattle.stitcher.specs.Schemes.{element_of}
use Rattle.natural_keys.specs.Layouts.{layout_at, inner_layouts, outer_layouts}
use Rattle.natural_keys.specs.NaturalKeys.{element_columns, index_columns}
use Rattle.natural_index.specs.Reading.{AreScopedTrees}
use Rattle.natural_index.specs.Trees.{HasNumbers, natural_tree, natural_trees}
use Rattle.natural_index.proofs.Ready.{paths_long, ready}
use Rattle.natural_index.proofs.Scoped.{tree_scoped}
use Rattle.natural_index.proofs.Spelled.{tree_spelled}

counted : {q : ℕ} (k n : ℕ) → Among q (count_from k n) → q < k + n
counted k zero m = elim m [ ]
counted k (suc n) first = omega arith
counted k (suc n) (later m) = let h = counted (suc k) n m in omega (arith, h)

both_mapped : {A B : Type 0} (P : A → B → Type 0) (f : A → B) (xs : List A)
    → ((x : A) → Among x xs → P x (f x)) → EachBoth P xs (map f xs)
both_mapped P f [] h = refl
both_mapped P f (x ∷ xs) h = (h x first, both_mapped P f xs (λ y m. h y (later m)))

each_mapped : {A B : Type 0} (P : B → Type 0) (f : A → B) (xs : List A)
    → ((x : A) → Among x xs → P (f x)) → Each P (map f xs)
each_mapped P f [] h = tt
each_mapped P f (x ∷ xs) h = (h x first, each_mapped P f xs (λ y m. h y (later m)))

module _ (schema : Schema) (proper : IsProperSchema schema) (form : FormTree)
    (w : IsWellFormed schema.tables form) where
  within : (q : ℕ) → Among q (count_from 0 (bags (bag form.element))) → q < bags (bag form.element)
  within q m = let h = counted 0 (bags (bag form.element)) m in omega (arith, h)

  -- the trees are well scoped with the columns of the scheme
  pub trees_scoped : AreScopedTrees schema form (natural_trees schema.tables form)
  trees_scoped =
      both_mapped _ (natural_tree schema.tables form) (count_from 0 (bags (bag form.element)))
      (λ q m. tree_scoped schema proper _ _ _ _ (ready schema form w q
      (subst (λ n. q < n) (sym (paths_long schema form w)) (within q m))))

  -- and texts can spell them, where there are numbers for their columns
  pub trees_spelled : ((q : ℕ) → q < bags (bag form.element)
      → HasNumbers (layout_at (outer_layouts schema.tables form) q)
      (element_columns (index_columns (layout_at (inner_layouts schema.tables form) q))
      (element_of (element_types (bag form.element)) q)))
      → Each IsSpellable (natural_trees schema.tables form)
  trees_spelled few =
      each_mapped IsSpellable (natural_tree schema.tables form)
      (count_from 0 (bags (bag form.element)))
      (λ q m. tree_spelled schema proper _ _ _ _ (few q (within q m))
      (ready schema form w q (subst (λ n. q < n) (sym (paths_long schema form w))
      (within q m))))
