-- Answers that were made elsewhere, and what is written of them.
use Rattle.std.specs.Prelude.{◌≡◌, ℕ, List, ◌++◌}
use Rattle.nq_model.specs.declared.table.ColumnType.{ColumnType}
use Rattle.nq_model.specs.declared.table.Schema.{Schema}
use Rattle.nq_compile.specs.Links.{AnswersLink}
use Rattle.sql_profile.specs.declared.answer.Answer.{Answer}
use Rattle.sql_profile.specs.declared.server.Loaded.{Loaded}
use Rattle.stitcher.specs.Stitching.{rows_of}
use Rattle.nq_execute.specs.Plans.{Indexes, Writing, value_text}
use Rattle.nq_execute.specs.Serving.{Allowed, Fit}
use Rattle.nq_top.specs.Plans.{AreReadFor, IsWritten}
use Rattle.nq_top.specs.Reading.{PlainReading, TypedTerm}
use Rattle.nq_top.specs.Shown.{shown_texts}

-- answers to the texts that are shown for a query over a schema, whose value is written in a way
pub record Foreign : Type 0 where
  pub schema : Schema
  pub query : TypedTerm
  pub writing : Writing
  pub texts : List (List ℕ)
  pub answers : List Answer

abbrev pub foreign_to : Writing → PlainReading → Schema → TypedTerm → List Answer → Foreign
foreign_to writing plain schema query answers = record {
  schema = schema;
  query = query;
  writing = writing;
  texts = (shown_texts plain schema query.term query.type).texts;
  answers = answers;
}

pub record Stitches (foreign : Foreign) (text : List ℕ) : Type 0 where
  -- The text is what is written of the value to which the answers stitch by tag and number.
  pub is : text ≡ value_text foreign.query.type Indexes.numbers foreign.writing
      (rows_of foreign.answers)
  -- Over all tables of the schema to which SQL allows these answers, it is what is written of what
  -- the query means.
  pub settles : (tables : List Loaded) → AreReadFor foreign.schema.tables tables
      → Allowed tables foreign.texts foreign.answers
      → IsWritten foreign.writing foreign.query.type tables foreign.query.term text
  -- All answers that SQL allows to the texts are linked.
  pub links : AnswersLink foreign.schema foreign.query.type foreign.texts

-- answers of these columns, behind those that were read before
pub record AnswersBehind (done : List Answer) (columns : List (List ColumnType))
    (answers : List Answer) : Type 0 where
  pub rest : List Answer
  pub all : answers ≡ done ++ rest
  pub fit : Fit columns rest
