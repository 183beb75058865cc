-- Texts that keys read for the normal form of a query stitch to what the query means.
use Rattle.std.proofs.Common.{◌≡◌, ℕ, List, [], refl, sym, subst, IfOk, Result}
use Rattle.std.proofs.lemmas.Result.{IfOk-weaker}
use Rattle.nq_model.specs.Databases.{FilledTable, database}
use Rattle.nq_model.specs.Meaning.{meaning}
use Rattle.nq_model.specs.QueryMeaning.{Means}
use Rattle.nq_model.specs.Terms.{PlacedTerm, bare}
use Rattle.nq_model.specs.Types.{TypeTree, bag}
use Rattle.nq_model.specs.Typing.{HasType, IsAccepted}
use Rattle.nq_model.specs.Values.{Nested, Same}
use Rattle.nq_model.specs.declared.table.Schema.{Schema}
use Rattle.nq_model.proofs.Sameness.{same_sym, same_trans}
use Rattle.nq_model.proofs.ValueTypes.{one_meaning}
use Rattle.nq_ir.specs.Meanings.{form_meaning, rows_in}
use Rattle.nq_ir.specs.NormalForms.{normal_form}
use Rattle.nq_ir.specs.Trees.{FormTree}
use Rattle.nq_ir.specs.WellFormed.{IsWellFormed}
use Rattle.stitcher.specs.Schemes.{Scheme, stitched}
use Rattle.stitcher.proofs.Stitched.{read_is_mean}
use Rattle.unfold.specs.Unfolded.{IsUnfolding}
use Rattle.natural_compile.specs.Texts.{OfForm}
use Rattle.natural_keys.specs.NaturalKeys.{natural_keys}
use Rattle.natural_keys.specs.declared.index.KeyIndex.{KeyIndex}
use Rattle.nq_compile.specs.Reading.{SchemeReads}
use Rattle.nq_compile.specs.Shreds.{StitchTo}
use Rattle.nq_compile.proofs.Queries.{IsFormOf, query_form, same_type}

module _ {I : Type 0} (S : Scheme I) (schema : Schema) (query plain : PlacedTerm) (form : FormTree)
    (texts : List (List ℕ)) (reached : IsUnfolding schema query plain)
    (typed : HasType schema [] (bare plain) (bag form.element))
    (well : IsWellFormed schema.tables form) (means : IsFormOf schema plain form)
    (reads : SchemeReads S schema form texts) where
  -- whatever SQL allows to the texts stitches to what the query means, as the form's own bag
  form_stitches : StitchTo S schema form.element texts (λ tables v. Means tables query v)
  form_stitches tables stored answers allows v m =
      let d : List FilledTable = database schema.tables tables in
      let term = meaning d [] (bare plain) in
      let own : Means d query term = record {
        plain_term = plain;
        unfolds = reached.unfolds;
        plain = reached.plain;
        is = refl;
      } in
      let one : v ≡ term = one_meaning d query v term m own in
      let all = stitched S form.element answers in
      let whole = form_meaning (rows_in d) form in
      let read : Same all whole = read_is_mean S schema form (rows_in d) answers well
      (reads tables stored answers allows) in
      let P : Nested → Type 0 = λ x. Same all x in
      subst P (sym one) (same_trans all whole term read (same_sym term whole (means tables stored)))

  pub query_stitches : (element : TypeTree) → IsAccepted schema (bare query) (bag element)
      → StitchTo S schema element texts (λ tables v. Means tables query v)
  query_stitches element accepted =
      let P : TypeTree → Type 0 = λ a. StitchTo S schema a texts
      (λ tables v. Means tables query v) in
      let whole : bag form.element ≡ bag element =
      same_type schema query plain form reached typed (bag element) accepted in
      let same : form.element ≡ element = cc in
      subst P same form_stitches

module _ (schema : Schema) (query plain : PlacedTerm) (form : FormTree)
    (reached : IsUnfolding schema query plain) (typed : HasType schema [] (bare plain)
    (bag form.element)) where
  -- the scheme of the form is that of the query's normal form
  pub keys_of_query : {T E : Type 0} (r : Result T E) (own : T → Scheme KeyIndex)
      → form ≡ normal_form schema.tables form.element (bare plain)
      → IfOk r (λ x. own x ≡ natural_keys schema.tables form)
      → IfOk r (λ x. OfForm schema query (λ f. own x ≡ natural_keys schema.tables f))
  keys_of_query r own is keys =
      IfOk-weaker r (λ x. own x ≡ natural_keys schema.tables form)
      (λ x. OfForm schema query (λ f. own x ≡ natural_keys schema.tables f))
      (λ x same. query_form schema query plain form reached typed
      (λ f. own x ≡ natural_keys schema.tables f) same is) keys
