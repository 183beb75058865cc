-- The drafts and plans of a query, of its summary and of an SQL text, and what they come to.
use Rattle.std.specs.Prelude.{◌≡◌, ℕ, List, [], ◌∷◌, map}
use Rattle.nq_model.specs.Databases.{database}
use Rattle.nq_model.specs.QueryMeaning.{Means}
use Rattle.nq_model.specs.SchemaTables.{AreTablesOf}
use Rattle.nq_model.specs.Terms.{PlacedTerm, bare}
use Rattle.nq_model.specs.Types.{TypeTree}
use Rattle.nq_model.specs.Unfolding.{Unfolds}
use Rattle.nq_model.specs.Values.{Nested, Same}
use Rattle.nq_model.specs.declared.table.Cell.{Cell}
use Rattle.nq_model.specs.declared.table.ColumnType.{ColumnType}
use Rattle.nq_model.specs.declared.table.Schema.{Schema}
use Rattle.nq_model.specs.declared.table.TableShape.{TableShape}
use Rattle.nq_ir.specs.Meanings.{EachBoth}
use Rattle.nq_ir.specs.Paths.{paths}
use Rattle.shred_types.specs.Columns.{columns_at}
use Rattle.sql_profile.specs.Servers.{filled_of, held_of}
use Rattle.sql_profile.specs.Texts.{TextAllows}
use Rattle.sql_profile.specs.Tokens.{First}
use Rattle.sql_profile.specs.declared.answer.Answer.{Answer}
use Rattle.sql_profile.specs.declared.server.Loaded.{Loaded}
use Rattle.stitcher.specs.Stitching.{rows_of}
use Rattle.traced_meaning.specs.Traces.{trace}
use Rattle.lineage_compile.specs.Tables.{with_numbers}
use Rattle.generated_inputs.specs.Generated.{generated_schema, generated_query, generated_type, generated_tables}
use Rattle.nq_execute.specs.Plans.{Finish, Indexes, Writing, RowWriting, Plan, finished}
use Rattle.nq_execute.specs.Plans.{finish_view, value_by, text_by, trace_text_by, row_text_by}
use Rattle.nq_execute.specs.Plans.{IsServable}
use Rattle.nq_execute.specs.declared.plan.TraceWriting.{TraceWriting}
use Rattle.nq_top.specs.declared.plans.Draft.{Draft as Drafts}
use Rattle.nq_execute.specs.Serving.{Allowed}
use Rattle.nq_top.specs.Reading.{PlainReading, TypedTerm}
use Rattle.nq_top.specs.Shown.{shown_texts}

-- tables of these shapes, each with rows that a table of its shape may hold
pub record AreReadFor (shapes : List TableShape) (tables : List Loaded) : Type 0 where
  pub rows : List (List (List Cell))
  pub stored : AreTablesOf shapes rows
  pub is : tables ≡ held_of shapes rows

-- what a server is asked for a command, before its tables are read: the texts, in order, the types
-- of the columns of each, and what is written of the answers
pub record Draft : Type 0 where
  pub texts : List (List ℕ)
  pub columns : List (List ColumnType)
  pub finish : Finish

-- the draft of the program
abbrev pub draft_view : Drafts → Draft
draft_view d = record { texts = d.texts; columns = d.columns; finish = finish_view d.finish }

-- the plan of a draft over tables
abbrev pub drafted : Draft → List Loaded → Plan
drafted draft tables = record {
  tables = tables;
  texts = draft.texts;
  columns = draft.columns;
  finish = draft.finish;
}

-- the draft of a query of this type, whose value is written in a way: the texts that are shown for
-- it, read by tag and number
unfoldable pub draft_to : Writing → PlainReading → Schema → PlacedTerm → TypeTree → Draft
draft_to writing plain schema term type = record {
  texts = (shown_texts plain schema term type).texts;
  columns = map (columns_at type) (paths type);
  finish = Finish.value type Indexes.numbers writing;
}

-- its canonical text is written
abbrev pub query_draft : PlainReading → Schema → PlacedTerm → TypeTree → Draft
query_draft plain schema term type = draft_to Writing.text plain schema term type

-- the plan of the summary of a query over generated tables of a size
abbrev pub generated_plan : PlainReading → ℕ → Plan
generated_plan plain size =
    drafted (draft_to Writing.summary plain generated_schema generated_query generated_type)
    (generated_tables size)

-- the draft of an SQL text with columns of these types, whose rows are written in a way
abbrev pub sql_draft : RowWriting → List ℕ → List ColumnType → Draft
sql_draft writing text types =
    record { texts = text ∷ []; columns = types ∷ []; finish = Finish.rows writing }

-- what a server is asked for: the value of a query of this type, or the rows of an SQL text, each
-- written in a way; or the traced meaning of a query over these tables, written in a way
pub data Question : Type 0 where
  value : Writing → TypeTree → PlacedTerm → Question
  sql : RowWriting → List ℕ → Question
  traced : TraceWriting → List Loaded → PlacedTerm → Question

abbrev pub question_to : Writing → TypedTerm → Question
question_to writing query = Question.value writing query.type query.term

abbrev pub query_question : TypedTerm → Question
query_question query = question_to Writing.text query

abbrev pub generated_question : Question
generated_question = Question.value Writing.summary generated_type generated_query

-- the text is what is written of the nested multiset that the query means over the tables, as a
-- value of this type
pub record IsWritten (writing : Writing) (type : TypeTree) (tables : List Loaded)
    (query : PlacedTerm) (text : List ℕ) : Type 0 where
  pub value : Nested
  pub means : Means (map filled_of tables) query value
  pub is : text ≡ text_by writing type value

-- its canonical text
abbrev pub IsMeant : TypeTree → List Loaded → PlacedTerm → List ℕ → Type 0
IsMeant type tables query text = IsWritten Writing.text type tables query text

-- its summary
abbrev pub IsSummed : TypeTree → List Loaded → PlacedTerm → List ℕ → Type 0
IsSummed type tables query text = IsWritten Writing.summary type tables query text

-- the text is what is written of rows that SQL allows to the SQL text over the tables
pub record IsAllowed (writing : RowWriting) (tables : List Loaded) (asked : List ℕ)
    (text : List ℕ) : Type 0 where
  pub answer : List (List Cell)
  pub allowed : TextAllows First tables asked answer
  pub is : text ≡ row_text_by writing answer

-- the text is what is written of the traced meaning, over the tables, of the plain term to which
-- the query unfolds
pub record IsTraced (writing : TraceWriting) (tables : List Loaded) (query : PlacedTerm)
    (text : List ℕ) : Type 0 where
  pub plain : PlacedTerm
  pub unfolds : Unfolds query plain
  pub is : text ≡ trace_text_by writing (trace (map filled_of tables) [] (bare plain))

-- the text is an answer to the question over the tables; those of a traced meaning have the numbers
-- of their rows
abbrev pub Settles : List Loaded → Question → List ℕ → Type 0
Settles tables (Question.value writing type term) text = IsWritten writing type tables term text
Settles tables (Question.sql writing asked) text = IsAllowed writing tables asked text
Settles tables (Question.traced writing own term) text =
    (tables ≡ with_numbers own) × IsTraced writing own term text

-- whatever answers SQL allows to the texts of a plan, each by itself, what is written of them is an
-- answer to the question
abbrev pub IsSound : Plan → Question → Type 0
IsSound plan question =
    (answers : List Answer) → Allowed plan.tables plan.texts answers
    → Settles plan.tables question (finished plan.finish (rows_of answers))

-- over all tables of the schema, the plan of a draft may be served
abbrev pub CanServeOver : Schema → Draft → Type 0
CanServeOver schema draft =
    (tables : List Loaded) → AreReadFor schema.tables tables → IsServable (drafted draft tables)

-- and it is sound for the question over them
abbrev pub IsSoundOver : Schema → Draft → (List Loaded → Question) → Type 0
IsSoundOver schema draft question =
    (tables : List Loaded) → AreReadFor schema.tables tables
    → IsSound (drafted draft tables) (question tables)

-- Over all tables of the schema, whatever answers SQL allows to these texts, each by itself, read
-- by these indexes they are what the query means.
abbrev pub ReadBy : Schema → Indexes → TypeTree → List (List ℕ) → PlacedTerm → Type 0
ReadBy schema indexes type texts term =
    (rows : List (List (List Cell))) → AreTablesOf schema.tables rows
    → (answers : List (List (List Cell)))
    → EachBoth (TextAllows First (held_of schema.tables rows)) texts answers
    → (v : Nested) → Means (database schema.tables rows) term v
    → Same (value_by indexes type answers) v
