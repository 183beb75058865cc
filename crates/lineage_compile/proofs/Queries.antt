-- The texts of the traced form of a query's normal form are those of its lineage.
use Rattle.std.proofs.Common.{◌≡◌, ℕ, List, [], ◌∷◌, map, refl, sym, subst, subst₂}
use Rattle.nq_model.proofs.Unfolding.{reached_once}
use Rattle.nq_model.specs.Databases.{database}
use Rattle.nq_model.specs.Proper.{IsProperTerm}
use Rattle.nq_model.specs.Tables.{IsProperSchema}
use Rattle.nq_model.specs.Terms.{PlacedTerm, bare}
use Rattle.nq_model.specs.Types.{TypeTree, bag, type_tree}
use Rattle.nq_model.specs.Typing.{HasType, IsAccepted}
use Rattle.nq_model.specs.Unfolding.{Unfolds}
use Rattle.nq_model.specs.Values.{Nested, Same}
use Rattle.nq_model.specs.declared.table.ColumnType.{ColumnType}
use Rattle.nq_model.specs.declared.table.Schema.{Schema}
use Rattle.nq_compile.proofs.Queries.{query_form}
use Rattle.nq_compile.specs.Shreds.{IsScopedText, Shreds, form_means}
use Rattle.nq_compile.specs.Texts.{texts_of}
use Rattle.nq_ir.specs.Meanings.{EachBoth, form_meaning}
use Rattle.nq_ir.specs.NormalForms.{normal_form}
use Rattle.nq_ir.specs.Paths.{paths}
use Rattle.nq_ir.specs.Trees.{FormTree, form_tree}
use Rattle.nq_ir.specs.WellFormed.{IsWellFormed}
use Rattle.nq_ir.specs.declared.path.Step.{Step}
use Rattle.shred_types.specs.Columns.{columns_at}
use Rattle.traced_meaning.specs.Laws.{NumberedTablesFit, rows_with_numbers}
use Rattle.traced_meaning.specs.NumberedTables.{HasNoNumbers, numbered_schema, numbered_tables}
use Rattle.traced_meaning.specs.Traces.{trace}
use Rattle.lineage.specs.Laws.{TracesAreTold, told}
use Rattle.lineage.specs.ListedTables.{listed}
use Rattle.lineage.specs.TraceForms.{form_traced}
use Rattle.unfold.specs.Unfolded.{IsUnfolding}
use Rattle.lineage_compile.specs.Texts.{IsLineage, TellsTrace, stitched_by}
use Rattle.lineage_compile.specs.declared.compiled.TracedTexts.{TracedTexts}

-- texts that are scoped at paths have the columns of the paths
scoped_at : (schema : Schema) (type : TypeTree) (ps : List (List Step)) (texts : List (List ℕ))
    → EachBoth (λ path text. IsScopedText schema (columns_at type path) text) ps texts
    → EachBoth (IsScopedText schema) (map (columns_at type) ps) texts
scoped_at schema type [] texts h = h
scoped_at schema type (p ∷ ps) [] h = absurd h
scoped_at schema type (p ∷ ps) (t ∷ texts) h = (h.0, scoped_at schema type ps texts h.1)

module _ (schema : Schema) (query plain : PlacedTerm) (form : FormTree)
    (proper : IsProperSchema schema) (free : HasNoNumbers schema)
    (proper_query : IsProperTerm (bare query)) (reached : IsUnfolding schema query plain)
    (typed : HasType schema [] (bare plain) (bag form.element))
    (well : IsWellFormed schema.tables form)
    (is : form ≡ normal_form schema.tables form.element (bare plain)) where
  -- what the answers stitch to is the meaning of the traced form, which tells that of the term
  tells : NumberedTablesFit → TracesAreTold → (texts : List (List ℕ))
      → Shreds (numbered_schema schema) (form_traced form).element texts
      (form_means (form_traced form))
      → TellsTrace schema form (bare plain) texts
  tells fit law texts shreds tables stored few answers allows =
      let ts = rows_with_numbers schema tables in
      let v : Nested = stitched_by (form_traced form) answers in
      let means : Nested = form_meaning ts (form_traced form) in
      let same : Same v means = shreds.stitched (numbered_tables tables)
      (fit schema proper tables stored few) answers allows means refl in
      let P : FormTree → Type 0 = λ f. IsWellFormed schema.tables f
      → Same v (form_meaning ts (form_traced f))
      → Same (told f v) (trace (database schema.tables tables) [] (bare plain)) in
      let own : P (normal_form schema.tables form.element (bare plain)) = λ w s.
      (law schema form.element (bare plain) proper free reached.plain (reached.proper proper_query)
      reached.closed typed w tables stored v s).0 in
      subst P (sym is) own well same

  module _ (made : TracedTexts) where
    -- what compiling says of a form over a schema
    pub record IsCompiled (over : Schema) (traced : FormTree) : Type 0 where
      pub normal : form_tree made.form.normal ≡ traced
      pub result : type_tree made.result ≡ bag traced.element
      pub columns : made.columns ≡ map (columns_at (bag traced.element))
          (paths (bag traced.element))
      pub texts : made.texts ≡ texts_of over traced
      pub proper_over : IsProperSchema over
      pub well_formed : IsWellFormed over.tables traced
      pub shreds : Shreds over traced.element made.texts (form_means traced)

    -- of the traced form over the schema with numbers it makes them texts of the lineage
    lineage_of : NumberedTablesFit → TracesAreTold → made.form.tables ≡ listed form.comps
        → IsCompiled (numbered_schema schema) (form_traced form)
        → IsLineage schema form (bare plain) made
    lineage_of fit law tables compiled =
        let element : TypeTree = (form_traced form).element in
        record {
          normal = compiled.normal;
          tables = tables;
          result = compiled.result;
          columns = compiled.columns;
          texts = compiled.texts;
          proper = compiled.proper_over;
          well_formed = compiled.well_formed;
          scoped = subst (λ (cs : List (List ColumnType)).
              EachBoth (IsScopedText (numbered_schema schema)) cs made.texts)
              (sym compiled.columns)
              (scoped_at (numbered_schema schema) (bag element) (paths (bag element)) made.texts
              compiled.shreds.scoped);
          tells = tells fit law made.texts compiled.shreds;
        }

    -- and so of the normal form of the plain term to which the query unfolds
    pub lineage_made : NumberedTablesFit → TracesAreTold → (over : Schema) (traced : FormTree)
        → over ≡ numbered_schema schema → traced ≡ form_traced form
        → made.form.tables ≡ listed form.comps → IsCompiled over traced
        → (element : TypeTree) (other : PlacedTerm)
        → IsAccepted schema (bare query) (bag element) → Unfolds query other
        → IsLineage schema (normal_form schema.tables element (bare other)) (bare other) made
    lineage_made fit law over traced over_is traced_is tables compiled element other accepted
        unfolds =
        let own = lineage_of fit law tables
        (subst₂ (λ (s : Schema) (f : FormTree). IsCompiled s f) over_is traced_is compiled) in
        let P : FormTree → Type 0 = λ f. IsLineage schema f (bare plain) made in
        subst (λ (t : PlacedTerm).
        IsLineage schema (normal_form schema.tables element (bare other)) (bare t) made)
        (reached_once reached.unfolds unfolds)
        (query_form schema query plain form reached typed P own is element other accepted unfolds)
