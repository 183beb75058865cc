-- Any two readings come to one judgement.
use Rattle.std.proofs.Common.{◌≡◌, ◌+◌, ◌-◌, ℕ, List, [], ◌∷◌, ◌++◌, length, map, Some, None, Option, Result, Ok, Err, cond, nat_lt, refl, ap, subst, ◌∙◌}
use Rattle.nq_edge.specs.Edge.{Files, bytes_at}
use Rattle.command_line.specs.Commands.{Aim, run, run_natural, run_json, run_json_tables, lineage}
use Rattle.command_line.specs.Commands.{stitch, stitch_json, check, show_types, show_normal}
use Rattle.command_line.specs.Commands.{show_paths, show_natural, show_texts, Command, help}
use Rattle.command_line.specs.Commands.{help_on}
use Rattle.command_line.specs.Commands.{version, of_query, answer, generated, show_load, explain}
use Rattle.command_line.specs.Commands.{explain_rule, Subject, a_query, an_sql_text, a_table}
use Rattle.command_line.specs.declared.refusal.Refused.{Refused}
use Rattle.command_line.specs.declared.refusal.Refused.TheVariants.{TooLong, Query as QueryRefused, Schema as SchemaRefused}
use Rattle.nq_model.specs.Terms.{PlacedTerm, bare}
use Rattle.nq_model.specs.Types.{TypeTree}
use Rattle.nq_model.specs.Typing.{IsAccepted}
use Rattle.nq_model.specs.declared.table.ColumnType.{ColumnType}
use Rattle.nq_model.specs.declared.table.Schema.{Schema}
use Rattle.nq_model.specs.declared.table.TableShape.{TableShape}
use Rattle.nq_model.proofs.Judging.{judged_accepted}
use Rattle.nq_ir.specs.NormalForms.{element_type, normal_form}
use Rattle.nq_ir.specs.Paths.{paths}
use Rattle.nq_compile.specs.Texts.{texts_of}
use Rattle.generated_inputs.specs.Generated.{generated_schema, generated_query, generated_type, generated_tables}
use Rattle.nq_execute.specs.Plans.{Finish, Indexes, Writing}
use Rattle.nq_execute.specs.declared.plan.TraceWriting.{TraceWriting}
use Rattle.shred_types.specs.Columns.{columns_at}
use Rattle.sql_profile.specs.declared.answer.Answer.{Answer}
use Rattle.sql_profile.specs.Trees.{PlacedSql}
use Rattle.sql_profile.specs.declared.server.Loaded.{Loaded}
use Rattle.sql_reader.specs.declared.fault.SqlFault.{SqlFault}
use Rattle.nq_top.specs.Judging.{Judgement, Verdict, refused, planned, written, shown, keyed}
use Rattle.nq_top.specs.Judging.{linked, at_once, after, judged, fetched_then, read_then, text_then}
use Rattle.nq_top.specs.Judging.{loaded_as, tables_judged, answers_then, draft_judged}
use Rattle.nq_top.specs.Judging.{stitch_judged, aim_judged, typed_or_explained}
use Rattle.nq_top.specs.Judging.{columns_or_explained, schema_explained, subject_explained}
use Rattle.nq_top.specs.Judging.{judgement}
use Rattle.nq_top.specs.Limits.{text_limit, tables_limit}
use Rattle.nq_top.specs.Lines.{file_by, answer_file_of}
use Rattle.nq_top.specs.Natural.{Natural, keyed_as, natural_draft, natural_of, natural_read}
use Rattle.nq_top.specs.Plans.{Draft, drafted, Question, draft_to, question_to}
use Rattle.nq_top.specs.Plans.{generated_question}
use Rattle.nq_top.specs.Reading.{Reading, TypedTerm, refused_as, schema_read, term_read, type_read, typed_as, typed_over, query_read, sql_read, tree_read, rows_read, answer_read, links_read}
use Rattle.natural_index.specs.Naming.{no_key}
use Rattle.nq_ir.specs.Trees.{FormTree}
use Rattle.nq_top.specs.Shown.{form_line, shown_texts}
use Rattle.nq_top.specs.Traced.{lineage_draft, traced_draft}
use Rattle.lineage_compile.specs.Tables.{with_numbers}
use Rattle.nq_top.specs.declared.tables.TableTexts.{TableTexts}
use Rattle.nq_top.specs.declared.tables.TableTexts.TheVariants.{Csv, Json}
use Rattle.nq_top.proofs.Readings.{one_schema, one_query, one_sql, one_plain}
use Rattle.nq_top.proofs.Showings.{read_accepted}

-- what comes next alike comes of it alike
fetched_same : (files : Files) (name : List ℕ) (limit : ℕ) (f g : List ℕ → Judgement) → ((text : List ℕ) → f text ≡ g text) → fetched_then files name limit f ≡ fetched_then files name limit g
unfolding fetched_then
fetched_same files name limit f g same = go (bytes_at files name)
  where
    go : (held : Option (List ℕ)) → judged name limit f held ≡ judged name limit g held
    go None = refl
    go (Some bytes) = ap (λ (j : Judgement). after name (cond (nat_lt limit (length bytes)) (at_once (refused (TooLong name limit))) j)) (same bytes)

read_same : {A : Type 0} (given : Result A Refused) (f g : A → Judgement) → ((a : A) → given ≡ Ok a → f a ≡ g a) → read_then given f ≡ read_then given g
read_same (Ok a) f g same = same a refl
read_same (Err why) f g same = refl

-- two readings of one text
both_read : {A : Type 0} (given other : Result A Refused) (f g : A → Judgement) → given ≡ other → ((a : A) → given ≡ Ok a → f a ≡ g a) → read_then given f ≡ read_then other g
both_read given other f g same next = read_same given f g next ∙ ap (λ (r : Result _ Refused). read_then r g) same

-- and of the text under a name
text_same : {A : Type 0} (files : Files) (name : List ℕ) (read other : List ℕ → Result A Refused) (f g : A → Judgement) → ((text : List ℕ) → read text ≡ other text)
    → ((text : List ℕ) (a : A) → read text ≡ Ok a → f a ≡ g a) → text_then files name read f ≡ text_then files name other g
text_same files name read other f g same next =
    fetched_same files name text_limit (λ text. read_then (read text) f) (λ text. read_then (other text) g)
    (λ text. both_read (read text) (other text) f g (same text) (next text))

tables_same : (files : Files) (kind : TableTexts) (folder : List ℕ) (shapes : List TableShape) (left : ℕ) (done : List Loaded) (f g : List Loaded → Verdict) → ((tables : List Loaded) → f tables ≡ g tables)
    → tables_judged files kind folder shapes left done f ≡ tables_judged files kind folder shapes left done g
tables_same files kind folder [] left done f g same = ap at_once (same done)
tables_same files kind folder (shape ∷ shapes) left done f g same =
    fetched_same files (file_by kind folder shape.name) left _ _
    (λ text. read_same (rows_read kind shape text) _ _ (λ rows is. tables_same files kind folder shapes (left - length text) (done ++ loaded_as shape rows ∷ []) f g same))

answers_same : (files : Files) (folder : List ℕ) (columns : List (List ColumnType)) (left : ℕ) (done : List Answer) (f g : List Answer → Judgement) → ((answers : List Answer) → f answers ≡ g answers)
    → answers_then files folder columns left done f ≡ answers_then files folder columns left done g
answers_same files folder [] left done f g same = same done
answers_same files folder (types ∷ columns) left done f g same =
    fetched_same files (answer_file_of folder (length done + 1)) left _ _
    (λ text. read_same (answer_read (length done + 1) types text) _ _ (λ given is. answers_same files folder columns (left - length text) (done ++ given ∷ []) f g same))

-- a query whose type is read is the one that was read, and accepted
typed_accepted : (schema : Schema) (term : PlacedTerm) (type : Result TypeTree Refused) (query : TypedTerm) → type_read schema term ≡ type → typed_as term type ≡ Ok query
    → IsAccepted schema (bare query.term) query.type
typed_accepted schema term (Ok type) query is read =
    let same : record { term = term; type = type } ≡ query = cc in
    subst (λ (q : TypedTerm). IsAccepted schema (bare q.term) q.type) same (read_accepted schema term type is)
typed_accepted schema term (Err why) query is read = absurd (cc)

over_accepted : (schema : Schema) (read : Result PlacedTerm Refused) (query : TypedTerm) → typed_over schema read ≡ Ok query → IsAccepted schema (bare query.term) query.type
over_accepted schema (Ok term) query is = typed_accepted schema term (type_read schema term) query refl is
over_accepted schema (Err why) query is = absurd (cc)

module _ (reading other : Reading) where
  query_accepted : (schema : Schema) (text : List ℕ) (query : TypedTerm) → query_read reading.queries schema text ≡ Ok query → IsAccepted schema (bare query.term) query.type
  unfolding query_read
  query_accepted schema text query is = over_accepted schema (term_read reading.queries text) query is

  -- a query that is accepted has one draft
  draft_same : (writing : Writing) (schema : Schema) (term : PlacedTerm) (type : TypeTree) → IsAccepted schema (bare term) type
      → draft_to writing reading.plain schema term type ≡ draft_to writing other.plain schema term type
  unfolding draft_to shown_texts
  draft_same writing schema term type accepted =
      let Of : PlacedTerm → Draft = λ t. record {
        texts = texts_of schema (normal_form schema.tables (element_type type) (bare t));
        columns = map (columns_at type) (paths type);
        finish = Finish.value type Indexes.numbers writing;
      } in
      ap Of (one_plain reading other schema term type accepted)

  -- and one list of texts by keys, or one table that lacks one
  natural_same : (schema : Schema) (query : TypedTerm)
      → IsAccepted schema (bare query.term) query.type
      → natural_read reading.plain schema query ≡ natural_read other.plain schema query
  unfolding natural_read
  natural_same schema query accepted =
      let Of : PlacedTerm → Result Natural Refused = λ t.
      let form : FormTree = normal_form schema.tables (element_type query.type) (bare t) in
      keyed_as (natural_of schema query form) (no_key schema.tables form) in
      ap Of (one_plain reading other schema query.term query.type accepted)

  -- and one draft of its lineage
  lineage_same : (writing : TraceWriting) (schema : Schema) (query : TypedTerm)
      → IsAccepted schema (bare query.term) query.type
      → lineage_draft writing reading.plain schema query
      ≡ lineage_draft writing other.plain schema query
  unfolding lineage_draft
  lineage_same writing schema query accepted =
      ap (λ (t : PlacedTerm). traced_draft writing schema
      (normal_form schema.tables (element_type query.type) (bare t)))
      (one_plain reading other schema query.term query.type accepted)

  stitch_same : (writing : Writing) (files : Files) (folder : List ℕ) (schema : Schema) (query : TypedTerm) → IsAccepted schema (bare query.term) query.type
      → stitch_judged writing reading.plain files folder schema query ≡ stitch_judged writing other.plain files folder schema query
  unfolding shown_texts
  stitch_same writing files folder schema query accepted =
      answers_same files folder (map (columns_at query.type) (paths query.type)) tables_limit [] _ _
      (λ answers. read_same (links_read query.type answers) _ _
      (λ those is. ap (λ (t : PlacedTerm). at_once (linked (record {
        schema = schema;
        query = query;
        writing = writing;
        texts = texts_of schema (normal_form schema.tables (element_type query.type) (bare t));
        answers = those;
      }))) (one_plain reading other schema query.term query.type accepted)))

  aim_same : (files : Files) (aim : Aim) (schema : Schema) (query : TypedTerm) → IsAccepted schema (bare query.term) query.type
      → aim_judged reading.plain files aim schema query ≡ aim_judged other.plain files aim schema query
  unfolding aim_judged shown_texts
  aim_same files (run folder) schema query accepted =
      tables_same files Csv folder schema.tables tables_limit [] _ _
      (λ tables. ap (λ (draft : Draft). planned (drafted draft tables) (question_to Writing.text query)) (draft_same Writing.text schema query.term query.type accepted))
  aim_same files (run_natural folder) schema query accepted =
      ap (λ (given : Result Natural Refused). read_then given
      (λ natural. draft_judged files Csv folder schema (natural_draft natural)
      (λ tables. question_to Writing.text query)))
      (natural_same schema query accepted)
  aim_same files (run_json folder) schema query accepted =
      tables_same files Csv folder schema.tables tables_limit [] _ _
      (λ tables. ap (λ (draft : Draft). planned (drafted draft tables) (question_to Writing.json query)) (draft_same Writing.json schema query.term query.type accepted))
  aim_same files (run_json_tables folder) schema query accepted =
      tables_same files Json folder schema.tables tables_limit [] _ _
      (λ tables. ap (λ (draft : Draft). planned (drafted draft tables) (question_to Writing.json query)) (draft_same Writing.json schema query.term query.type accepted))
  aim_same files (lineage writing folder) schema query accepted =
      tables_same files Csv folder schema.tables tables_limit [] _ _
      (λ tables. ap (λ (draft : Draft). planned (drafted draft (with_numbers tables))
      (Question.traced writing tables query.term)) (lineage_same writing schema query accepted))
  aim_same files (stitch folder) schema query accepted = stitch_same Writing.text files folder schema query accepted
  aim_same files (stitch_json folder) schema query accepted = stitch_same Writing.json files folder schema query accepted
  aim_same files check schema query accepted = refl
  aim_same files show_types schema query accepted = refl
  aim_same files show_normal schema query accepted =
      ap (λ (t : PlacedTerm). at_once (written (form_line (normal_form schema.tables (element_type query.type) (bare t))))) (one_plain reading other schema query.term query.type accepted)
  aim_same files show_paths schema query accepted = refl
  aim_same files show_natural schema query accepted =
      ap (λ (given : Result Natural Refused). read_then given (λ natural. at_once (keyed natural)))
      (natural_same schema query accepted)
  aim_same files (show_texts showing) schema query accepted =
      ap (λ (t : PlacedTerm). at_once (shown showing (record {
        schema = schema;
        query = query.term;
        element = element_type query.type;
        texts = texts_of schema (normal_form schema.tables (element_type query.type) (bare t));
      }))) (one_plain reading other schema query.term query.type accepted)

  term_same : (text : List ℕ) → term_read reading.queries text ≡ term_read other.queries text
  unfolding term_read
  term_same text = ap (refused_as QueryRefused) (one_query reading other text)

  query_same : (schema : Schema) (text : List ℕ) → query_read reading.queries schema text ≡ query_read other.queries schema text
  unfolding query_read
  query_same schema text = ap (typed_over schema) (term_same text)

  schema_same : (text : List ℕ) → schema_read reading.schemas text ≡ schema_read other.schemas text
  unfolding schema_read
  schema_same text = ap (refused_as SchemaRefused) (one_schema reading other text)

  sql_same : (schema : Schema) (text : List ℕ) → sql_read reading.sqls schema text ≡ sql_read other.sqls schema text
  unfolding sql_read
  sql_same schema text = ap (tree_read schema text) (one_sql reading other text)

  -- and one explanation of a subject and of a schema
  subject_same : (files : Files) (schema : Schema) (subject : Subject)
      → subject_explained reading files schema subject
      ≡ subject_explained other files schema subject
  subject_same files schema (a_query name) =
      fetched_same files name text_limit _ _
      (λ asked. ap
      (λ (r : Result PlacedTerm Refused). at_once (typed_or_explained schema name asked r))
      (term_same asked))
  subject_same files schema (an_sql_text name) =
      fetched_same files name text_limit _ _
      (λ asked. ap
      (λ (r : Result PlacedSql SqlFault). at_once (columns_or_explained schema name asked r))
      (one_sql reading other asked))
  subject_same files schema (a_table table folder) = refl

  schema_explained_same : (files : Files) (subject : Subject) (name text : List ℕ)
      (given : Result Schema Refused)
      → schema_explained reading files subject name text given
      ≡ schema_explained other files subject name text given
  schema_explained_same files subject name text (Err r) = refl
  schema_explained_same files subject name text (Ok schema) = subject_same files schema subject

  explain_same : (files : Files) (schema : List ℕ) (subject : Subject) (text : List ℕ)
      → schema_explained reading files subject schema text (schema_read reading.schemas text)
      ≡ schema_explained other files subject schema text (schema_read other.schemas text)
  explain_same files schema subject text =
      schema_explained_same files subject schema text (schema_read reading.schemas text)
      ∙ ap (schema_explained other files subject schema text) (schema_same text)

  generated_typed : IsAccepted generated_schema (bare generated_query) generated_type
  unfolding generated_schema generated_query generated_type
  generated_typed = judged_accepted generated_schema generated_query generated_type refl

  pub one_judgement : (command : Option Command) (files : Files) → judgement reading command files ≡ judgement other command files
  one_judgement None files = refl
  one_judgement (Some help) files = refl
  one_judgement (Some (help_on topic)) files = refl
  one_judgement (Some version) files = refl
  one_judgement (Some (of_query aim schema name)) files =
      text_same files schema _ _ _ _ schema_same
      (λ text found is. text_same files name _ _ _ _ (query_same found) (λ spelled query typed. aim_same files aim found query (query_accepted found spelled query typed)))
  one_judgement (Some (answer writing schema name folder)) files =
      text_same files schema _ _ _ _ schema_same
      (λ text found is. text_same files name _ _ _ _ (sql_same found) (λ asked columns scoped. refl))
  one_judgement (Some (show_load database schema)) files = text_same files schema _ _ _ _ schema_same (λ text found is. refl)
  one_judgement (Some (explain_rule rule)) files = refl
  one_judgement (Some (explain schema subject)) files =
      fetched_same files schema text_limit _ _ (explain_same files schema subject)
  one_judgement (Some (generated size)) files =
      ap (λ (draft : Draft). at_once (planned (drafted draft (generated_tables size)) generated_question)) (draft_same Writing.summary generated_schema generated_query generated_type generated_typed)
