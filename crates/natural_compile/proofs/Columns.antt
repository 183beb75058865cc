-- As many columns as paths, and those that the keys of a form have.
use Rattle.std.proofs.Common.{◌≡◌, ◌≤◌, ℕ, List, length, map, sym, ap, ap₂, ◌∙◌, subst, arith, IfOk}
use Rattle.std.proofs.Common.{Result, Ok, Err, All}
use Rattle.std.proofs.lemmas.List.{length-map}
use Rattle.nq_model.specs.Numberings.{count_from}
use Rattle.nq_model.specs.Types.{TypeTree, bag}
use Rattle.nq_model.specs.declared.table.ColumnType.{ColumnType}
use Rattle.nq_model.specs.declared.table.Schema.{Schema}
use Rattle.nq_model.specs.declared.table.TableShape.{TableShape}
use Rattle.nq_compile.specs.Reading.{SchemeReads}
use Rattle.nq_compile.specs.Shreds.{IsScopedText}
use Rattle.nq_ir.specs.Meanings.{EachBoth}
use Rattle.nq_ir.specs.Parts.{bags}
use Rattle.nq_ir.specs.Paths.{paths}
use Rattle.nq_ir.specs.Trees.{FormTree}
use Rattle.nq_ir.specs.declared.path.Path.{Path}
use Rattle.nq_ir.proofs.Paths.{paths_count}
use Rattle.shred_types.specs.Under.{steps_of}
use Rattle.sql_profile.specs.Printed.{printed}
use Rattle.sql_profile.specs.Trees.{sql_tree}
use Rattle.sql_profile.specs.declared.tree.SqlText.{SqlText}
use Rattle.stitcher.specs.Schemes.{Scheme}
use Rattle.stitcher.proofs.Laid.{types_length}
use Rattle.natural_keys.specs.NaturalKeys.{natural_keys}
use Rattle.natural_keys.specs.declared.index.KeyIndex.{KeyIndex}
use Rattle.natural_index.specs.Reading.{AreScopedTrees, KeysRead}
use Rattle.natural_compile.specs.Texts.{SpellsTree}
use Rattle.natural_compile.proofs.Printing.{texts_read, texts_scoped}

module _ (S : List TableShape) (form : FormTree) (own : Scheme KeyIndex)
    (own_is : own ≡ natural_keys S form) (result : TypeTree) (result_is : result ≡ bag form.element)
    (ps : List Path) (paths_are : steps_of ps ≡ paths result) (n : ℕ) (counted : n
    ≡ length ps) where
  -- as many paths as bags
  paths_long : n ≡ bags (bag form.element)
  paths_long =
      counted ∙ sym (length-map ps (λ (p : Path). p.steps)) ∙ ap length paths_are
      ∙ paths_count result ∙ ap bags result_is

  -- the scheme has so many paths
  pub within : n ≤ length own.elements
  within =
      let long : length own.elements ≡ bags (bag form.element) =
      ap (λ (s : Scheme KeyIndex). length s.elements) own_is ∙ types_length (bag form.element) in
      omega (arith, long, paths_long)

  -- its columns are those of the keys of the form
  pub columns_are : (columns : List (List ColumnType)) → columns ≡ map own.columns (count_from 0 n)
      → columns ≡ map (natural_keys S form).columns (count_from 0 (bags (bag form.element)))
  columns_are columns is =
      is ∙ ap₂ (λ (s : Scheme KeyIndex) (k : ℕ). map s.columns (count_from 0 k)) own_is paths_long

-- texts that are printed trees
module _ (schema : Schema) (form : FormTree) (given slice : List SqlText) (same : slice ≡ given)
    (texts : List (List ℕ))
    (are : texts ≡ map printed (map sql_tree slice)) (spell : All SpellsTree (map sql_tree slice))
  where
    texts_printed : map printed (map sql_tree given) ≡ texts
    texts_printed = sym (are ∙ ap (λ (ts : List SqlText). map printed (map sql_tree ts)) same)

    trees_spelled : All SpellsTree (map sql_tree given)
    trees_spelled = subst (λ (ts : List SqlText). All SpellsTree (map sql_tree ts)) same spell

    pub form_scoped : (columns : List (List ColumnType))
        → columns ≡ map (natural_keys schema.tables form).columns
        (count_from 0 (bags (bag form.element)))
        → AreScopedTrees schema form (map sql_tree given)
        → EachBoth (IsScopedText schema) columns texts
    form_scoped columns is scoped =
        let cs = (natural_keys schema.tables form).columns in
        let all = count_from 0 (bags (bag form.element)) in
        let here = texts_scoped schema cs all (map sql_tree given) trees_spelled scoped in
        subst (λ (l : List (List ColumnType)). EachBoth (IsScopedText schema) l texts) (sym is)
        (subst (λ (ts : List (List ℕ)). EachBoth (IsScopedText schema) (map cs all) ts)
        texts_printed here)

    pub form_read : KeysRead schema form (map sql_tree given)
        → SchemeReads (natural_keys schema.tables form) schema form texts
    form_read reads =
        subst (λ (ts : List (List ℕ)). SchemeReads (natural_keys schema.tables form) schema form ts)
        texts_printed (texts_read schema form (map sql_tree given) trees_spelled reads)

-- what follows of two and of three clauses of one result
pub ok_two : {T E : Type 0} (r : Result T E) (P Q R : T → Type 0)
    → ((x : T) → P x → Q x → R x) → IfOk r P → IfOk r Q → IfOk r R
ok_two (Ok x) P Q R go p q = go x p q
ok_two (Err e) P Q R go p q = tt

pub ok_three : {T E : Type 0} (r : Result T E) (P Q R U : T → Type 0)
    → ((x : T) → P x → Q x → R x → U x) → IfOk r P → IfOk r Q → IfOk r R → IfOk r U
ok_three (Ok x) P Q R U go p q h = go x p q h
ok_three (Err e) P Q R U go p q h = tt
