-- What the inputs of a command come to where no call fails: each is fetched and judged before the
-- next.
use Rattle.std.specs.Prelude.{ℕ, ◌+◌, ◌-◌, nat_lt, List, [], ◌∷◌, ◌++◌, length, map, Option, Some, None, Result, Ok, Err, cond}
use Rattle.nq_model.specs.declared.table.Cell.{Cell}
use Rattle.nq_model.specs.declared.table.ColumnType.{ColumnType}
use Rattle.nq_model.specs.declared.table.Schema.{Schema}
use Rattle.nq_model.specs.declared.table.TableShape.{TableShape}
use Rattle.nq_edge.specs.Edge.{Files, bytes_at}
use Rattle.nq_ir.specs.Paths.{paths}
use Rattle.nq_model.specs.Tables.{Columns, names_of, types_of}
use Rattle.nq_model.specs.Terms.{PlacedNode, PlacedTerm, at}
use Rattle.nq_model.specs.Typing.{shape_named}
use Rattle.nq_model.specs.Types.{TypeTree}
use Rattle.database_scripts.specs.Loads.{load_text}
use Rattle.diagnostics.specs.RuleTexts.{rule_text}
use Rattle.shred_types.specs.Columns.{columns_at}
use Rattle.sql_profile.specs.Trees.{PlacedSql}
use Rattle.sql_profile.specs.declared.answer.Answer.{Answer}
use Rattle.sql_profile.specs.declared.server.Loaded.{Loaded}
use Rattle.sql_reader.specs.declared.fault.SqlFault.{SqlFault}
use Rattle.sql_scope.specs.Found.{nothing}
use Rattle.sql_scope.specs.declared.found.Found.{Found}
use Rattle.command_line.specs.Commands.{Showing, Aim, run, run_natural, run_json, run_json_tables}
use Rattle.command_line.specs.Commands.{lineage, stitch, stitch_json, check, show_types}
use Rattle.command_line.specs.Commands.{show_normal, show_paths, show_natural, show_texts}
use Rattle.command_line.specs.Commands.{Command, help, help_on}
use Rattle.command_line.specs.Commands.{version, of_query, answer, generated, show_load, explain}
use Rattle.command_line.specs.Commands.{explain_rule, Subject, a_query, an_sql_text, a_table}
use Rattle.command_line.specs.Help.{help_text, version_text}
use Rattle.command_line.specs.Topics.{topic_text}
use Rattle.command_line.specs.Paths.{paths_text}
use Rattle.command_line.specs.declared.refusal.Refused.{Refused}
use Rattle.command_line.specs.declared.refusal.Refused.TheVariants.{TooLong}
use Rattle.nq_execute.specs.Plans.{Writing, RowWriting, Plan}
use Rattle.nq_execute.specs.declared.plan.TraceWriting.{TraceWriting}
use Rattle.lineage_compile.specs.Tables.{with_numbers}
use Rattle.explanations.specs.Explanations.{no_table_text, table_names}
use Rattle.explanations.specs.SqlColumns.{columns_line}
use Rattle.nq_top.specs.Explaining.{Explained, table_refused, text_refused}
use Rattle.nq_top.specs.Foreign.{Foreign, foreign_to}
use Rattle.nq_top.specs.Limits.{text_limit, tables_limit}
use Rattle.nq_top.specs.Lines.{file_by, answer_file_of, accepted_line, type_line}
use Rattle.nq_top.specs.Natural.{Natural, natural_draft, natural_read}
use Rattle.nq_top.specs.Plans.{Draft, drafted, Question, draft_to, question_to, sql_draft, generated_plan, generated_question}
use Rattle.nq_top.specs.Reading.{PlainReading, Reading, TypedTerm, SqlColumns}
use Rattle.nq_top.specs.Reading.{schema_read, term_read}
use Rattle.nq_top.specs.Reading.{query_read, rows_read, sql_read, answer_read, links_read}
use Rattle.nq_top.specs.Reading.{columns_over, found_over, parts_over, typed_over}
use Rattle.nq_top.specs.Shown.{Shown, shown_form, form_line, shown_texts}
use Rattle.nq_top.specs.Traced.{lineage_draft}
use Rattle.table_reader.specs.Tables.{table_of}
use Rattle.table_reader.specs.declared.TableFault.{TableFault}
use Rattle.nq_top.specs.declared.tables.TableTexts.{TableTexts}
use Rattle.nq_top.specs.declared.tables.TableTexts.TheVariants.{Csv, Json}

-- The words are no command; or a name is not held, whose fetch fails; or the first refusal; or the
-- text that is written; or the refusal that is explained; or the SQL texts that are shown in a way;
-- or those that are shown in which bags are named by keys; or linked answers from elsewhere; or the
-- plan of a question, over the tables of the schema in its order.
pub data Verdict : Type 0 where
  usage : Verdict
  missing : List ℕ → Verdict
  refused : Refused → Verdict
  written : List ℕ → Verdict
  explained : Explained → Verdict
  shown : Showing → Shown → Verdict
  keyed : Natural → Verdict
  linked : Foreign → Verdict
  planned : Plan → Question → Verdict

-- the names that are fetched, in order, and what comes of them
pub record Judgement : Type 0 where
  pub names : List (List ℕ)
  pub verdict : Verdict

-- 1. steps

-- without a fetch
abbrev pub at_once : Verdict → Judgement
at_once verdict = record { names = []; verdict = verdict }

-- after the fetch of a name
abbrev pub after : List ℕ → Judgement → Judgement
after name later = record { names = name ∷ later.names; verdict = later.verdict }

abbrev pub judged : List ℕ → ℕ → (List ℕ → Judgement) → Option (List ℕ) → Judgement
judged name limit next None = after name (at_once (missing name))
judged name limit next (Some bytes) =
    after name
    (cond (nat_lt limit (length bytes)) (at_once (refused (TooLong name limit))) (next bytes))

-- the bytes under a name are fetched and, where there are at most so many, judged
unfoldable pub fetched_then : Files → List ℕ → ℕ → (List ℕ → Judgement) → Judgement
fetched_then files name limit next = judged name limit next (bytes_at files name)

-- what was read is judged on, or what it is refused for is the refusal
abbrev pub read_then : {A : Type 0} → Result A Refused → (A → Judgement) → Judgement
read_then (Ok a) next = next a
read_then (Err r) next = at_once (refused r)

-- a text is fetched and read
abbrev pub text_then : {A : Type 0} → Files → List ℕ → (List ℕ → Result A Refused)
    → (A → Judgement) → Judgement
text_then files name read next =
    fetched_then files name text_limit (λ text. read_then (read text) next)

-- 2. what is read

-- the schema
abbrev pub schema_then : Reading → Files → List ℕ → (Schema → Judgement) → Judgement
schema_then reading files name next =
    text_then files name (λ text. schema_read reading.schemas text) next

-- a query over a schema, with its type
abbrev pub query_then : Reading → Files → Schema → List ℕ → (TypedTerm → Judgement) → Judgement
query_then reading files schema name next =
    text_then files name (λ text. query_read reading.queries schema text) next

-- an SQL text over a schema, with the types of its columns
abbrev pub sql_then : Reading → Files → Schema → List ℕ → (SqlColumns → Judgement) → Judgement
sql_then reading files schema name next =
    text_then files name (λ text. sql_read reading.sqls schema text) next

abbrev pub loaded_as : TableShape → List (List Cell) → Loaded
loaded_as shape rows = record { name = shape.name; columns = shape.columns; rows = rows }

-- the table texts, each with what the ones before it left of the limit, and what comes of the
-- tables
abbrev pub tables_judged : Files → TableTexts → List ℕ → List TableShape → ℕ → List Loaded
    → (List Loaded → Verdict) → Judgement
tables_judged files kind folder [] left done next = at_once (next done)
tables_judged files kind folder (shape ∷ shapes) left done next =
    fetched_then files (file_by kind folder shape.name) left
    (λ text. read_then (rows_read kind shape text)
    (λ rows. tables_judged files kind folder shapes (left - length text)
    (done ++ loaded_as shape rows ∷ []) next))

-- the answer texts of a folder, one to each of these lists of column types, each with what the ones
-- before it left of the limit
abbrev pub answers_then : Files → List ℕ → List (List ColumnType) → ℕ → List Answer
    → (List Answer → Judgement) → Judgement
answers_then files folder [] left done next = next done
answers_then files folder (types ∷ columns) left done next =
    fetched_then files (answer_file_of folder (length done + 1)) left
    (λ text. read_then (answer_read (length done + 1) types text)
    (λ answer. answers_then files folder columns (left - length text) (done ++ answer ∷ []) next))

-- 3. commands

-- the plan of a draft over the tables of a folder
abbrev pub draft_judged : Files → TableTexts → List ℕ → Schema → Draft
    → (List Loaded → Question) → Judgement
draft_judged files kind folder schema draft question =
    tables_judged files kind folder schema.tables tables_limit []
    (λ tables. planned (drafted draft tables) (question tables))

-- the value of a query over the tables of a folder, written in a way
abbrev pub run_judged : Writing → TableTexts → PlainReading → Files → List ℕ → Schema → TypedTerm
    → Judgement
run_judged writing kind plain files folder schema query =
    draft_judged files kind folder schema (draft_to writing plain schema query.term query.type)
    (λ tables. question_to writing query)

-- the same by texts that name bags by keys, or the table that lacks one
abbrev pub natural_judged : PlainReading → Files → List ℕ → Schema → TypedTerm → Judgement
natural_judged plain files folder schema query =
    read_then (natural_read plain schema query)
    (λ natural. draft_judged files Csv folder schema (natural_draft natural)
    (λ tables. question_to Writing.text query))

-- the traced meaning of a query over the tables of a folder, which the server holds with the
-- numbers of their rows, written in a way
abbrev pub lineage_judged : TraceWriting → PlainReading → Files → List ℕ → Schema → TypedTerm
    → Judgement
lineage_judged writing plain files folder schema query =
    tables_judged files Csv folder schema.tables tables_limit []
    (λ tables. planned (drafted (lineage_draft writing plain schema query) (with_numbers tables))
    (Question.traced writing tables query.term))

-- the value of the answers of a folder to the texts that are shown for a query, written in a way
abbrev pub stitch_judged : Writing → PlainReading → Files → List ℕ → Schema → TypedTerm → Judgement
stitch_judged writing plain files folder schema query =
    answers_then files folder (map (columns_at query.type) (paths query.type)) tables_limit []
    (λ answers. read_then (links_read query.type answers)
    (λ linked_ones. at_once (linked (foreign_to writing plain schema query linked_ones))))

-- a query that is accepted, with its type
unfoldable pub aim_judged : PlainReading → Files → Aim → Schema → TypedTerm → Judgement
aim_judged plain files (run folder) schema query =
    run_judged Writing.text Csv plain files folder schema query
aim_judged plain files (run_natural folder) schema query =
    natural_judged plain files folder schema query
aim_judged plain files (run_json folder) schema query =
    run_judged Writing.json Csv plain files folder schema query
aim_judged plain files (run_json_tables folder) schema query =
    run_judged Writing.json Json plain files folder schema query
aim_judged plain files (lineage writing folder) schema query =
    lineage_judged writing plain files folder schema query
aim_judged plain files (stitch folder) schema query =
    stitch_judged Writing.text plain files folder schema query
aim_judged plain files (stitch_json folder) schema query =
    stitch_judged Writing.json plain files folder schema query
aim_judged plain files check schema query = at_once (written accepted_line)
aim_judged plain files show_types schema query = at_once (written (type_line query.type))
aim_judged plain files show_normal schema query =
    at_once (written (form_line (shown_form plain schema query.term query.type)))
aim_judged plain files show_paths schema query = at_once (written (paths_text query.type))
aim_judged plain files show_natural schema query =
    read_then (natural_read plain schema query) (λ natural. at_once (keyed natural))
aim_judged plain files (show_texts showing) schema query =
    at_once (shown showing (shown_texts plain schema query.term query.type))

-- the rows of an SQL text, written in a way
abbrev pub rows_judged : RowWriting → Files → List ℕ → Schema → SqlColumns → Judgement
rows_judged writing files folder schema asked =
    draft_judged files Csv folder schema (sql_draft writing asked.0 asked.1)
    (λ tables. Question.sql writing asked.0)

-- the line of the type of a query over a schema, or what explains why its text is refused, where
-- these types are found
abbrev pub type_or_cause : Schema → List ℕ → List ℕ → List TypeTree
    → Result TypedTerm Refused → Verdict
type_or_cause schema name text found (Ok query) = written (type_line query.type)
type_or_cause schema name text found (Err r) = explained (text_refused (record {
  name = name;
  text = text;
  tables = table_names schema;
  found = found;
  parts = nothing;
  why = r;
}))

-- the same of the term that the text spells
abbrev pub typed_or_explained : Schema → List ℕ → List ℕ → Result PlacedTerm Refused
    → Verdict
typed_or_explained schema name text read =
    type_or_cause schema name text (found_over schema read) (typed_over schema read)

-- the same of the query under a name
abbrev pub query_explained : Reading → Files → Schema → List ℕ → Judgement
query_explained reading files schema name =
    fetched_then files name text_limit
    (λ text. at_once (typed_or_explained schema name text (term_read reading.queries text)))

-- the line of the columns of an SQL text over a schema, or what explains why it is refused, where
-- this is found
abbrev pub columns_or_cause : Schema → List ℕ → List ℕ → Found → Result Columns Refused
    → Verdict
columns_or_cause schema name text parts (Ok columns) =
    written (columns_line (names_of columns) (types_of columns))
columns_or_cause schema name text parts (Err r) = explained (text_refused (record {
  name = name;
  text = text;
  tables = table_names schema;
  found = [];
  parts = parts;
  why = r;
}))

-- the same of the tree that the text spells
abbrev pub columns_or_explained : Schema → List ℕ → List ℕ → Result PlacedSql SqlFault
    → Verdict
columns_or_explained schema name text read =
    columns_or_cause schema name text (parts_over schema read) (columns_over schema read)

-- the same of the SQL text under a name
abbrev pub sql_explained : Reading → Files → Schema → List ℕ → Judgement
sql_explained reading files schema name =
    fetched_then files name text_limit
    (λ text. at_once (columns_or_explained schema name text (reading.sqls.says text)))

-- the query that gives the rows of a table
abbrev pub table_query : List ℕ → PlacedTerm
table_query table = at 0 (PlacedNode.table table)

-- the line of the type of the rows of a table, or what explains why its text is refused
abbrev pub rows_or_cause : Schema → TableShape → List ℕ → List ℕ
    → Result (List (List Cell)) TableFault → Verdict
rows_or_cause schema shape name text (Ok rows) =
    typed_or_explained schema name text (Ok (table_query shape.name))
rows_or_cause schema shape name text (Err fault) =
    explained (table_refused name text shape fault)

-- the same of the CSV text of a table in a folder
abbrev pub shape_explained : Files → List ℕ → Schema → TableShape → Judgement
shape_explained files folder schema shape =
    fetched_then files (file_by Csv folder shape.name) tables_limit
    (λ text. at_once (rows_or_cause schema shape (file_by Csv folder shape.name) text
    (table_of shape text)))

-- the same of the table of a name, or that there is none
abbrev pub table_explained : Files → Schema → List ℕ → List ℕ → Option TableShape
    → Judgement
table_explained files schema table folder (Some shape) =
    shape_explained files folder schema shape
table_explained files schema table folder None =
    at_once (written (no_table_text table (table_names schema)))

-- the type of a subject over a schema, or what explains why its text is refused
abbrev pub subject_explained : Reading → Files → Schema → Subject → Judgement
subject_explained reading files schema (a_query name) =
    query_explained reading files schema name
subject_explained reading files schema (an_sql_text name) =
    sql_explained reading files schema name
subject_explained reading files schema (a_table table folder) =
    table_explained files schema table folder (shape_named table schema.tables)

-- the same of a subject over the schema that is read, or what explains why that is refused
abbrev pub schema_explained : Reading → Files → Subject → List ℕ → List ℕ
    → Result Schema Refused → Judgement
schema_explained reading files subject name text (Ok schema) =
    subject_explained reading files schema subject
schema_explained reading files subject name text (Err r) =
    at_once (explained (text_refused (record {
      name = name;
      text = text;
      tables = [];
      found = [];
      parts = nothing;
      why = r;
    })))

abbrev pub explain_judged : Reading → Files → List ℕ → Subject → Judgement
explain_judged reading files schema subject =
    fetched_then files schema text_limit
    (λ text. schema_explained reading files subject schema text (schema_read reading.schemas text))

-- the schema, then the query or the SQL text if there is one, then each table text in the order of
-- the schema
abbrev pub command_judged : Reading → Files → Command → Judgement
command_judged reading files help = at_once (written help_text)
command_judged reading files (help_on topic) = at_once (written (topic_text topic))
command_judged reading files version = at_once (written version_text)
command_judged reading files (of_query aim schema name) =
    schema_then reading files schema
    (λ found. query_then reading files found name
    (λ query. aim_judged reading.plain files aim found query))
command_judged reading files (answer writing schema name folder) =
    schema_then reading files schema
    (λ found. sql_then reading files found name
    (λ asked. rows_judged writing files folder found asked))
command_judged reading files (generated size) =
    at_once (planned (generated_plan reading.plain size) generated_question)
command_judged reading files (show_load database schema) =
    schema_then reading files schema (λ found. at_once (written (load_text database found)))
command_judged reading files (explain schema subject) =
    explain_judged reading files schema subject
command_judged reading files (explain_rule rule) = at_once (written (rule_text rule))

-- the words, and then the command that they are
abbrev pub judgement : Reading → Option Command → Files → Judgement
judgement reading None files = at_once usage
judgement reading (Some command) files = command_judged reading files command

-- what inputs tell that they hold; a command that reads none needs nothing told
abbrev pub files_of : Option Files → Files
files_of None = []
files_of (Some files) = files

abbrev pub held_for : Option Command → Option Files → Option Files
held_for None held = Some (files_of held)
held_for (Some help) held = Some (files_of held)
held_for (Some (help_on topic)) held = Some (files_of held)
held_for (Some version) held = Some (files_of held)
held_for (Some (of_query aim schema name)) held = held
held_for (Some (answer writing schema name folder)) held = held
held_for (Some (generated size)) held = Some (files_of held)
held_for (Some (show_load database schema)) held = held
held_for (Some (explain schema subject)) held = held
held_for (Some (explain_rule rule)) held = Some (files_of held)
