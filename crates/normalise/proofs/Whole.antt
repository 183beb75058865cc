-- The form that the passes give is the normal form of the term.
use Rattle.std.proofs.Common.{◌≡◌, ℕ, zero, suc, ◌<◌, ◌^◌, List, [], refl, sym, ap, ◌∙◌, subst, Bool, true, length, Result, Ok, Err, IfOk}
use Rattle.nq_model.specs.Databases.{database}
use Rattle.nq_model.specs.Meaning.{meaning}
use Rattle.nq_model.specs.NamedRows.{Label}
use Rattle.nq_model.specs.Numberings.{count_from}
use Rattle.nq_model.specs.Proper.{IsPlainTerm, IsProperTerm}
use Rattle.nq_model.specs.Tables.{IsProperSchema}
use Rattle.nq_model.specs.Terms.{TermTree}
use Rattle.nq_model.specs.Types.{TypeTree}
use Rattle.nq_model.specs.Typing.{HasType, IsAccepted, IsPlainBag}
use Rattle.nq_model.specs.Values.{Same}
use Rattle.nq_model.specs.declared.table.Cell.{Cell}
use Rattle.nq_model.specs.declared.table.Schema.{Schema}
use Rattle.nq_ir.specs.Meanings.{form_meaning, rows_in}
use Rattle.nq_ir.specs.NormalForms.{element_type, gens_in_comps, normal_form, number_comps, tags_in_comps}
use Rattle.nq_ir.specs.RawForms.{RawBody, RawComps, raw_comps_in, raw_form}
use Rattle.nq_ir.specs.Trees.{FormTree}
use Rattle.nq_model.specs.SchemaTables.{AreTablesOf}
use Rattle.nq_ir.specs.WellFormed.{IsWellFormed}
use Rattle.nq_ir.specs.Words.{FormWords, SchemaWords, TermWords}
use Rattle.normalise.specs.Scopes.{bodies, scope_layer}
use Rattle.normalise.specs.declared.scope.Scope.{Scope-F, fold-roll-Scope}
use Rattle.normalise.specs.declared.scope.Scope.TheVariants.{Top, rolls-Top}
use Rattle.nq_ir.proofs.Dealt.{numbers_in_order, tags_in_order}
use Rattle.nq_ir.proofs.NormalForms.{normal_means, normal_well, normal_words, tables_there}

bag_back : (k : TypeTree) → IsPlainBag k → k ≡ TypeTree.bag (element_type k)
bag_back TypeTree.int h = absurd h
bag_back TypeTree.bool h = absurd h
bag_back TypeTree.text h = absurd h
bag_back (TypeTree.rec fs) h = absurd h
bag_back (TypeTree.bag a) h = refl
bag_back (TypeTree.fun a b) h = absurd h

counted_length : (a k : ℕ) → length (count_from a k) ≡ k
counted_length a zero = refl
counted_length a (suc k) = ap suc (counted_length (suc a) k)

below : (xs : List ℕ) (k m : ℕ) → xs ≡ count_from 1 k → k < m → length xs < m
below xs k m e h = subst (λ n. n < m) (sym (ap length e ∙ counted_length 1 k)) h

-- what is known of the form
module _ (schema : Schema) (m : TermTree) (proper : IsProperSchema schema) (plain : IsPlainTerm m) (good : IsProperTerm m) (ty : TypeTree) (accepted : IsAccepted schema m ty) (form : FormTree) (raw : RawComps) (walked : raw ≡ raw_comps_in (raw_form schema.tables m [])) (element : form.element ≡ element_type ty) (comps : form.comps ≡ number_comps 1 1 [] (element_type ty) raw) where
  pub typed : HasType schema [] m (TypeTree.bag form.element)
  typed = subst (λ (z : TypeTree). HasType schema [] m z) (bag_back ty accepted.plain_bag ∙ ap TypeTree.bag (sym element)) accepted.typed

  pub form_is : form ≡ normal_form schema.tables form.element m
  form_is =
      ap (λ z. record { element = form.element; comps = z }) (comps ∙ ap (λ (a : TypeTree). number_comps 1 1 [] a raw) (sym element) ∙ ap (λ (z : RawComps). number_comps 1 1 [] form.element z) walked)

  pub well_formed : tags_in_comps raw < 2 ^ 63 → gens_in_comps raw < 2 ^ 63 → IsWellFormed schema.tables form
  well_formed few_tags few_gens =
      let cs = raw_comps_in (raw_form schema.tables m []) in
      let tags = subst (λ (z : RawComps). tags_in_comps z < 2 ^ 63) walked few_tags in
      let gens = subst (λ (z : RawComps). gens_in_comps z < 2 ^ 63) walked few_gens in
      subst (λ (f : FormTree). IsWellFormed schema.tables f) (sym form_is) (normal_well schema proper form.element m plain good typed (below _ (tags_in_comps cs) (2 ^ 63) (tags_in_order cs form.element) tags) (below _ (gens_in_comps cs) (2 ^ 63) (numbers_in_order cs form.element) gens))

  pub means : (tables : List (List (List Cell))) → AreTablesOf schema.tables tables → Same (meaning (database schema.tables tables) [] m) (form_meaning (rows_in (database schema.tables tables)) form)
  means tables held =
      subst (λ (f : FormTree). Same (meaning (database schema.tables tables) [] m) (form_meaning (rows_in (database schema.tables tables)) f)) (sym form_is) (normal_means schema proper (database schema.tables tables) (tables_there schema.tables tables held) form.element m plain good typed)

  pub words : (holds : Label → Bool) → SchemaWords (λ l. holds l ≡ true) schema.tables → TermWords (λ l. holds l ≡ true) m → FormWords (λ l. holds l ≡ true) form
  words holds names own =
      subst (λ (f : FormTree). FormWords (λ l. holds l ≡ true) f) (sym form_is) (normal_words (λ l. holds l ≡ true) schema proper names form.element m plain good typed own)

-- what four facts of a good answer give
pub if_all : {A E : Type 0} (P Q R S W : A → Type 0) → ((x : A) → P x → Q x → R x → S x → W x) → (r : Result A E) → IfOk r P → IfOk r Q → IfOk r R → IfOk r S → IfOk r W
if_all P Q R S W f (Ok x) p q r s = f x p q r s
if_all P Q R S W f (Err e) p q r s = tt

pub bodies_top : bodies Top ≡ []
bodies_top = ap bodies (sym rolls-Top) ∙ fold-roll-Scope (List RawBody) scope_layer Scope-F.Top
