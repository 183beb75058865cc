-- What a server is asked for a command, and what is written of its answers.
use Rattle.std.specs.Prelude.{◌≡◌, ⊤, ℕ, List, [], ◌∷◌, map}
use Rattle.nq_model.specs.Canonical.{canonical, canonical_text}
use Rattle.nq_model.specs.Numberings.{count_from}
use Rattle.nq_model.specs.Tables.{types_of}
use Rattle.nq_model.specs.Types.{TypeTree, type_tree, bag}
use Rattle.nq_model.specs.Values.{Nested}
use Rattle.nq_model.specs.declared.table.Cell.{Cell}
use Rattle.nq_model.specs.declared.table.ColumnType.{ColumnType}
use Rattle.nq_ir.specs.Meanings.{EachBoth}
use Rattle.nq_ir.specs.NormalForms.{element_type}
use Rattle.nq_ir.specs.Parts.{bags, element_types}
use Rattle.nq_ir.specs.Trees.{FormTree, form_tree}
use Rattle.lineage.specs.Decoding.{form_decoded}
use Rattle.lineage.specs.ListedTables.{ByTag}
use Rattle.lineage.specs.Recorded.{recorded}
use Rattle.lineage.specs.TracedTexts.{traced_text}
use Rattle.natural_keys.specs.declared.index.KeyIndex.{KeyIndex}
use Rattle.shred_types.specs.Columns.{answer_columns}
use Rattle.nq_json.specs.Json.{json_text}
use Rattle.nq_json.specs.Rows.{json_rows_text}
use Rattle.sql_profile.specs.Texts.{IsAskable}
use Rattle.sql_profile.specs.Tokens.{First}
use Rattle.sql_profile.specs.declared.server.Loaded.{Loaded}
use Rattle.stitcher.specs.FlatNumbers.{flat_numbers}
use Rattle.stitcher.specs.Schemes.{AnswerRows, Scheme, stitched}
use Rattle.natural_keys.specs.Schemes.{keys_scheme}
use Rattle.nq_execute.specs.Loading.{CanLoad}
use Rattle.nq_execute.specs.Summaries.{summary_of}
use Rattle.canon.specs.RowTexts.{rows_text, sorted_rows}
use Rattle.nq_execute.specs.declared.plan.Finish.{Finish as Finishes}
use Rattle.nq_execute.specs.declared.plan.Finish.TheVariants as code
use Rattle.nq_execute.specs.declared.plan.Indexes.{Indexes as IndexKinds}
use Rattle.nq_execute.specs.declared.plan.Indexes.TheVariants as index
use Rattle.nq_execute.specs.declared.plan.RowWriting.{RowWriting as RowWritings}
use Rattle.nq_execute.specs.declared.plan.RowWriting.TheVariants as row_way
use Rattle.nq_execute.specs.declared.plan.TraceWriting.{TraceWriting}
use Rattle.nq_execute.specs.declared.plan.TraceWriting.TheVariants as trace_way
use Rattle.nq_execute.specs.declared.plan.Writing.{Writing as Writings}
use Rattle.nq_execute.specs.declared.plan.Writing.TheVariants as way
use Rattle.nq_execute.specs.declared.plan.Plan.{Plan as Asked}

-- how the rows of answers name the bags that they stand in and hold: by tag and number, or by tag
-- and keys as a scheme has them
pub data Indexes : Type 0 where
  numbers : Indexes
  keys : Scheme KeyIndex → Indexes

-- what is written of a value: its canonical text, its summary, or the JSON text of its canonical
-- form; or what it tells as a value of a traced form whose generators range over these tables by
-- tag, in a way
pub data Writing : Type 0 where
  text : Writing
  summary : Writing
  json : Writing
  traced : TraceWriting → ByTag → FormTree → Writing

-- what is written of rows: a line for each, or one line of JSON, an array of arrays of cells
pub data RowWriting : Type 0 where
  lines : RowWriting
  arrays : RowWriting

-- what is written of answers: the value of this type to which they stitch by these indexes; or the
-- rows of the one answer
pub data Finish : Type 0 where
  value : TypeTree → Indexes → Writing → Finish
  rows : RowWriting → Finish

-- the tables that a server is loaded with, the texts that it is then asked, in order, each with the
-- types of its columns, and what is written of the answers
pub record Plan : Type 0 where
  pub tables : List Loaded
  pub texts : List (List ℕ)
  pub columns : List (List ColumnType)
  pub finish : Finish

abbrev pub indexes_view : IndexKinds → Indexes
indexes_view index.Numbers = numbers
indexes_view (index.Keys own) = keys (keys_scheme own)

abbrev pub writing_view : Writings → Writing
writing_view way.Text = text
writing_view way.Summary = summary
writing_view way.Json = json
writing_view (way.Traced form trace_writing) =
    traced trace_writing form.tables (form_tree form.normal)

abbrev pub row_writing_view : RowWritings → RowWriting
row_writing_view row_way.Lines = lines
row_writing_view row_way.Arrays = arrays

abbrev pub finish_view : Finishes → Finish
finish_view (code.Value of indexes writing) =
    value (type_tree of) (indexes_view indexes) (writing_view writing)
finish_view (code.Rows writing) = rows (row_writing_view writing)

-- the plan of the program
abbrev pub plan_view : Asked → Plan
plan_view asked = record {
  tables = asked.tables;
  texts = asked.texts;
  columns = asked.columns;
  finish = finish_view asked.finish;
}

-- the value of answers, one to each text: what they stitch to
abbrev pub value_by : Indexes → TypeTree → List AnswerRows → Nested
value_by numbers type answers =
    stitched (flat_numbers (element_types type)) (element_type type) answers
value_by (keys scheme) type answers = stitched scheme (element_type type) answers

-- the columns of the answers, one to each path of the type
abbrev pub columns_by : Indexes → TypeTree → List (List ColumnType)
columns_by numbers type = map answer_columns (element_types type)
columns_by (keys scheme) type = map scheme.columns (count_from 0 (bags type))

-- the indexes are those of the type
abbrev pub AreOfType : TypeTree → Indexes → Type 0
AreOfType type numbers = ⊤
AreOfType type (keys scheme) = scheme.elements ≡ element_types type

-- what is written of a traced value: its text, or the JSON text of its canonical form, in which
-- each element is a record of its rows and its value
abbrev pub trace_text_by : TraceWriting → Nested → List ℕ
trace_text_by trace_way.Text v = traced_text v
trace_text_by trace_way.Json v = json_text (recorded (canonical v))

-- what is written of a value of a type
abbrev pub text_by : Writing → TypeTree → Nested → List ℕ
text_by text type v = canonical_text v
text_by summary type v = summary_of type v
text_by json type v = json_text (canonical v)
text_by (traced writing tables form) type v = trace_text_by writing (form_decoded tables form v)

-- and of the value of answers
unfoldable pub value_text : TypeTree → Indexes → Writing → List AnswerRows → List ℕ
value_text type indexes writing answers = text_by writing type (value_by indexes type answers)

-- what is written of rows, in the order of their cells
abbrev pub row_text_by : RowWriting → List (List Cell) → List ℕ
row_text_by lines given = rows_text given
row_text_by arrays given = json_rows_text (sorted_rows given)

-- and of those of the first answer
abbrev pub first_text : RowWriting → List AnswerRows → List ℕ
first_text writing [] = row_text_by writing []
first_text writing (answer ∷ answers) = row_text_by writing answer

-- what is written of answers
abbrev pub finished : Finish → List AnswerRows → List ℕ
finished (value type indexes writing) answers = value_text type indexes writing answers
finished (rows writing) answers = first_text writing answers

-- over these tables the text may be asked, and its columns have these types
pub record AsksFor (held : List Loaded) (types : List ColumnType) (text : List ℕ) : Type 0 where
  pub asked : IsAskable First held text
  pub typed : types_of asked.columns ≡ types

-- the columns are those of the paths of a bag type
pub record ArePathsOf (type : TypeTree) (indexes : Indexes)
    (columns : List (List ColumnType)) : Type 0 where
  pub of_bag : type ≡ bag (element_type type)
  pub of_type : AreOfType type indexes
  pub at_paths : columns ≡ columns_by indexes type

-- there is one text
pub record IsOne (columns : List (List ColumnType)) : Type 0 where
  pub types : List ColumnType
  pub is : columns ≡ types ∷ []

-- answers of these columns are such as the finish asks for: one for each path of a bag type; or one
abbrev pub CanFinish : Finish → List (List ColumnType) → Type 0
CanFinish (value type indexes writing) columns = ArePathsOf type indexes columns
CanFinish (rows writing) columns = IsOne columns

-- the tables may be loaded, each text may be asked over them, and their answers may be finished
pub record IsServable (plan : Plan) : Type 0 where
  pub loadable : CanLoad [] plan.tables
  pub finishable : CanFinish plan.finish plan.columns
  pub askable : EachBoth (AsksFor plan.tables) plan.columns plan.texts
