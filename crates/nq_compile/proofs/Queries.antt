-- From a query to the texts of the normal form of the plain term to which it unfolds.
use Rattle.std.proofs.Common.{◌≡◌, ℕ, List, [], refl, sym, ap₂, ◌∙◌, subst}
use Rattle.nq_model.specs.Databases.{FilledTable, database}
use Rattle.nq_model.specs.Meaning.{meaning}
use Rattle.nq_model.specs.QueryMeaning.{Means}
use Rattle.nq_model.specs.SchemaTables.{AreTablesOf}
use Rattle.nq_model.specs.Terms.{PlacedTerm, bare}
use Rattle.nq_model.specs.Types.{TypeTree, bag}
use Rattle.nq_model.specs.Typing.{HasType, IsAccepted}
use Rattle.nq_model.specs.Unfolding.{Unfolds}
use Rattle.nq_model.specs.Values.{Nested, Same}
use Rattle.nq_model.specs.declared.table.Cell.{Cell}
use Rattle.nq_model.specs.declared.table.Schema.{Schema}
use Rattle.nq_model.proofs.Sameness.{same_sym}
use Rattle.nq_model.proofs.Typing.{one_type}
use Rattle.nq_model.proofs.Unfolding.{reached_once}
use Rattle.nq_model.proofs.ValueTypes.{one_meaning}
use Rattle.nq_ir.specs.Meanings.{form_meaning, rows_in}
use Rattle.nq_ir.specs.NormalForms.{normal_form}
use Rattle.nq_ir.specs.Trees.{FormTree}
use Rattle.unfold.specs.Unfolded.{IsUnfolding}
use Rattle.nq_compile.specs.Shreds.{Shreds, form_means}
use Rattle.nq_compile.proofs.Shredding.{shreds_same}

-- the form means what the plain term means
abbrev pub IsFormOf : Schema → PlacedTerm → FormTree → Type 0
IsFormOf schema plain form =
    (tables : List (List (List Cell))) → AreTablesOf schema.tables tables → Same (meaning (database schema.tables tables) [] (bare plain)) (form_meaning (rows_in (database schema.tables tables)) form)

module _ (schema : Schema) (query plain : PlacedTerm) (form : FormTree) (reached : IsUnfolding schema query plain) (typed : HasType schema [] (bare plain) (bag form.element)) where
  -- the type of the form is the query's
  pub same_type : (type : TypeTree) → IsAccepted schema (bare query) type → bag form.element ≡ type
  same_type type accepted = one_type schema [] (bare plain) (bag form.element) type typed (reached.keeps type accepted.typed)

  same_element : (element : TypeTree) → IsAccepted schema (bare query) (bag element) → form.element ≡ element
  same_element element accepted = let e : bag form.element ≡ bag element = same_type (bag element) accepted in cc

  -- texts that shred the form shred the query
  pub query_shreds : (texts : List (List ℕ)) → IsFormOf schema plain form → Shreds schema form.element texts (form_means form) →
      (element : TypeTree) → IsAccepted schema (bare query) (bag element) → Shreds schema element texts (λ tables v. Means tables query v)
  query_shreds texts means shreds element accepted =
      let P : TypeTree → Type 0 = λ a. Shreds schema a texts (λ tables v. Means tables query v) in
      subst P (same_element element accepted) (shreds_same schema form.element texts (λ tables v. Means tables query v) (form_means form) same shreds)
    where
      same : (tables : List (List (List Cell))) → AreTablesOf schema.tables tables → (v : Nested) → Means (database schema.tables tables) query v →
          (w : Nested) × (w ≡ form_meaning (rows_in (database schema.tables tables)) form) × Same w v
      same tables stored v m =
          let d : List FilledTable = database schema.tables tables in
          let own : Means d query (meaning d [] (bare plain)) = record { plain_term = plain; unfolds = reached.unfolds; plain = reached.plain; is = refl } in
          let one : v ≡ meaning d [] (bare plain) = one_meaning d query v (meaning d [] (bare plain)) m own in
          let P : Nested → Type 0 = λ x. Same x (form_meaning (rows_in d) form) in
          (form_meaning (rows_in d) form, refl, same_sym v (form_meaning (rows_in d) form) (subst P (sym one) (means tables stored)))

  -- the form is the normal form of the plain term to which the query unfolds
  same_form : form ≡ normal_form schema.tables form.element (bare plain) → (element : TypeTree) (other : PlacedTerm) → IsAccepted schema (bare query) (bag element) → Unfolds query other →
      form ≡ normal_form schema.tables element (bare other)
  same_form is element other accepted unfolds =
      is ∙ ap₂ (λ a t. normal_form schema.tables a (bare t)) (same_element element accepted) (reached_once reached.unfolds unfolds)

  -- what holds of the form holds of that normal form
  pub query_form : (P : FormTree → Type 0) → P form → form ≡ normal_form schema.tables form.element (bare plain) →
      (element : TypeTree) (other : PlacedTerm) → IsAccepted schema (bare query) (bag element) → Unfolds query other → P (normal_form schema.tables element (bare other))
  query_form P holds is element other accepted unfolds = subst P (same_form is element other accepted unfolds) holds
