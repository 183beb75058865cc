-- The lineage of a query: what a server is asked for it, over tables with the numbers of their
-- rows.
use Rattle.std.specs.Prelude.{List, map}
use Rattle.nq_model.specs.Terms.{PlacedTerm}
use Rattle.nq_model.specs.Types.{bag}
use Rattle.nq_model.specs.declared.table.Schema.{Schema}
use Rattle.nq_compile.specs.Texts.{texts_of}
use Rattle.nq_execute.specs.Plans.{Finish, Indexes, Writing, IsServable}
use Rattle.nq_execute.specs.declared.plan.TraceWriting.{TraceWriting}
use Rattle.nq_ir.specs.Paths.{paths}
use Rattle.nq_ir.specs.Trees.{FormTree}
use Rattle.shred_types.specs.Columns.{columns_at}
use Rattle.sql_profile.specs.declared.server.Loaded.{Loaded}
use Rattle.traced_meaning.specs.NumberedTables.{numbered_schema}
use Rattle.lineage.specs.ListedTables.{listed}
use Rattle.lineage.specs.TraceForms.{form_traced}
use Rattle.lineage_compile.specs.Tables.{HaveFewRows, with_numbers}
use Rattle.nq_top.specs.Plans.{AreReadFor, Draft, drafted, Question, IsSound}
use Rattle.nq_top.specs.Reading.{PlainReading, TypedTerm}
use Rattle.nq_top.specs.Shown.{shown_form}

-- the draft of the traced form of a normal form: its texts, over the schema with numbers, and what
-- their answers tell, written in a way
abbrev pub traced_draft : TraceWriting → Schema → FormTree → Draft
traced_draft writing schema form = record {
  texts = texts_of (numbered_schema schema) (form_traced form);
  columns = map (columns_at (bag (form_traced form).element))
      (paths (bag (form_traced form).element));
  finish = Finish.value (bag (form_traced form).element) Indexes.numbers
      (Writing.traced writing (listed form.comps) (form_traced form));
}

-- the draft of the lineage of a query
unfoldable pub lineage_draft : TraceWriting → PlainReading → Schema → TypedTerm → Draft
lineage_draft writing plain schema query =
    traced_draft writing schema (shown_form plain schema query.term query.type)

-- over all tables of the schema, none with more rows than there are numbers, the plan of a draft
-- over the tables with numbers may be served
abbrev pub CanServeNumbered : Schema → Draft → Type 0
CanServeNumbered schema draft =
    (tables : List Loaded) → AreReadFor schema.tables tables → HaveFewRows tables
    → IsServable (drafted draft (with_numbers tables))

-- and it is sound for the traced meaning of the query over the tables
abbrev pub IsSoundNumbered : TraceWriting → Schema → Draft → PlacedTerm → Type 0
IsSoundNumbered writing schema draft query =
    (tables : List Loaded) → AreReadFor schema.tables tables → HaveFewRows tables
    → IsSound (drafted draft (with_numbers tables)) (Question.traced writing tables query)
