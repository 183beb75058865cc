-- The compiled query over generated tables is the plan of its summary, and may be served.
use Rattle.std.proofs.Common.{◌≡◌, ℕ, List, map, Ok, sym, ap, ◌∙◌, subst}
use Rattle.generated_inputs.specs.Generated.{generated_schema, generated_query, generated_type, generated_rows, generated_tables}
use Rattle.nq_model.specs.Judging.{program_judged}
use Rattle.nq_model.specs.Proper.{IsProperTerm}
use Rattle.nq_model.specs.SchemaTables.{AreTablesOf}
use Rattle.nq_model.specs.Tables.{IsProperSchema}
use Rattle.nq_model.specs.Terms.{PlacedTerm, bare}
use Rattle.nq_model.specs.Types.{TypeTree}
use Rattle.nq_model.specs.declared.table.ColumnType.{ColumnType}
use Rattle.nq_model.specs.declared.table.Schema.{Schema}
use Rattle.nq_ir.specs.Paths.{paths}
use Rattle.shred_types.specs.Columns.{columns_at}
use Rattle.sql_profile.specs.declared.server.Loaded.{Loaded}
use Rattle.nq_execute.specs.Plans.{Finish, Indexes, Writing, Plan, plan_view, IsServable}
use Rattle.nq_execute.specs.declared.plan.Plan.{Plan as Asked}
use Rattle.nq_top.specs.Steps.{HoldsPlan}
use Rattle.nq_top.specs.Plans.{AreReadFor, Draft, drafted, draft_to, Question, generated_plan, generated_question, IsSound}
use Rattle.nq_top.specs.Reading.{PlainReading, refused_as, ill_typed, type_read}
use Rattle.nq_top.proofs.Soundness.{servable, sound, draft_is}
use Rattle.nq_top.proofs.Showings.{ResultIs, TextsAre, TextsShred}

read_type : program_judged generated_schema generated_query ≡ Ok generated_type → type_read generated_schema generated_query ≡ Ok generated_type
unfolding type_read
read_type typed = ap (refused_as ill_typed) typed

-- the query has its type
pub read_as : (schema : Schema) (term : PlacedTerm) → schema ≡ generated_schema → term ≡ generated_query → program_judged generated_schema generated_query ≡ Ok generated_type → type_read schema term ≡ Ok generated_type
read_as schema term schema_is term_is typed =
    subst (λ (s : Schema). type_read s term ≡ Ok generated_type) (sym schema_is)
    (subst (λ (t : PlacedTerm). type_read generated_schema t ≡ Ok generated_type) (sym term_is) (read_type typed))

module _ (schema : Schema) (term : PlacedTerm) (type : TypeTree) (texts : List (List ℕ)) (columns : List (List ColumnType)) (tables : List Loaded) (size : ℕ)
    (schema_is : schema ≡ generated_schema) (term_is : term ≡ generated_query) (tables_are : tables ≡ generated_tables size)
    (proper_schema : IsProperSchema schema) (proper_term : IsProperTerm (bare term)) (typed : program_judged generated_schema generated_query ≡ Ok generated_type)
    (stored : AreTablesOf generated_schema.tables (generated_rows size))
    (shred : TextsShred schema term type texts) (result_is : ResultIs schema term type texts) (columns_of : columns ≡ map (columns_at type) (paths type)) where
  read : type_read schema term ≡ Ok generated_type
  read = read_as schema term schema_is term_is typed

  held : AreReadFor schema.tables tables
  unfolding generated_tables
  held =
      subst (λ (s : Schema). AreReadFor s.tables tables) (sym schema_is)
      (record { rows = generated_rows size; stored = stored; is = tables_are })

  pub plan_servable : (asked : Asked) → plan_view asked ≡ record { tables = tables; texts = texts; columns = columns; finish = Finish.value type Indexes.numbers Writing.summary } → IsServable (plan_view asked)
  plan_servable asked is =
      subst (λ (p : Plan). IsServable p) (sym is)
      (servable schema term type texts columns proper_schema proper_term shred result_is columns_of generated_type read Writing.summary tables held)

  pub plan_holds : TextsAre schema term type texts → (asked : Asked) → plan_view asked ≡ record { tables = tables; texts = texts; columns = columns; finish = Finish.value type Indexes.numbers Writing.summary }
      → (plain : PlainReading) → HoldsPlan (generated_plan plain size) generated_question asked
  plan_holds texts_are asked is plain =
      let Over : Schema → PlacedTerm → List Loaded → Type 0 = λ s t ts.
      HoldsPlan (drafted (draft_to Writing.summary plain s t generated_type) ts) (Question.value Writing.summary generated_type t) asked in
      let same = draft_is schema term type texts columns proper_schema proper_term shred result_is columns_of generated_type read Writing.summary texts_are plain in
      let here : Over schema term tables = record {
        is = is ∙ ap (λ (d : Draft). drafted d tables) same;
        sound = let S : Draft → Type 0 = λ d. IsSound (drafted d tables) (Question.value Writing.summary generated_type term) in
            subst S same (sound schema term type texts columns proper_schema proper_term shred result_is columns_of generated_type read Writing.summary tables held);
      } in
      subst (λ (ts : List Loaded). Over generated_schema generated_query ts) tables_are
      (subst (λ (t : PlacedTerm). Over generated_schema t tables) term_is
      (subst (λ (s : Schema). Over s term tables) schema_is here))
