-- What holds of traced meanings.
use Rattle.std.specs.Prelude.{◌≡◌, ◌<◌, ◌^◌, List, [], map, length, All}
use Rattle.nq_model.specs.Databases.{FilledTable, database}
use Rattle.nq_model.specs.Meaning.{meaning}
use Rattle.nq_model.specs.Proper.{IsClosed, IsPlainTerm, IsProperTerm}
use Rattle.nq_model.specs.SchemaTables.{AreTablesOf}
use Rattle.nq_model.specs.Tables.{IsProperSchema}
use Rattle.nq_model.specs.Terms.{TermTree}
use Rattle.nq_model.specs.Types.{TypeTree, bag}
use Rattle.nq_model.specs.Typing.{HasType}
use Rattle.nq_model.specs.Values.{Nested, Same}
use Rattle.nq_model.specs.declared.table.Cell.{Cell}
use Rattle.nq_model.specs.declared.table.Schema.{Schema}
use Rattle.nq_ir.specs.Meanings.{Tables, rows_in}
use Rattle.nq_ir.specs.NormalForms.{normal_form}
use Rattle.traced_meaning.specs.NumberedTables.{HasNoNumbers, numbered_schema, numbered_tables}
use Rattle.traced_meaning.specs.TracedForms.{traced_meaning}
use Rattle.traced_meaning.specs.TracedValues.{erased}
use Rattle.traced_meaning.specs.Traces.{trace}

-- the traced meaning without its rows is the meaning, as a list
abbrev pub ErasesToMeaning : Type 0
ErasesToMeaning =
    (tables : List FilledTable) (env : List Nested) (term : TermTree)
    → erased (trace tables env term) ≡ meaning tables (map erased env) term

-- the rows of the tables of a schema, with their numbers, by table
abbrev pub rows_with_numbers : Schema → List (List (List Cell)) → Tables
rows_with_numbers schema tables =
    rows_in (database (numbered_schema schema).tables (numbered_tables tables))

-- over the tables with numbers, the normal form of a term has the traced meaning of the term
abbrev pub FormsHaveTraces : Type 0
FormsHaveTraces =
    (schema : Schema) (element : TypeTree) (term : TermTree)
    → IsProperSchema schema → HasNoNumbers schema
    → IsPlainTerm term → IsProperTerm term → IsClosed term
    → HasType schema [] term (bag element)
    → (tables : List (List (List Cell))) → AreTablesOf schema.tables tables
    → Same (trace (database schema.tables tables) [] term)
    (traced_meaning (rows_with_numbers schema tables) (normal_form schema.tables element term))

-- a proper schema with no such column is proper with it
abbrev pub NumberedSchemasAreProper : Type 0
NumberedSchemasAreProper =
    (schema : Schema) → IsProperSchema schema → HasNoNumbers schema
    → IsProperSchema (numbered_schema schema)

-- tables of a schema with fewer than 2^63 rows each are, with their numbers, tables of the schema
-- with the column of numbers
abbrev pub NumberedTablesFit : Type 0
NumberedTablesFit =
    (schema : Schema) → IsProperSchema schema
    → (tables : List (List (List Cell))) → AreTablesOf schema.tables tables
    → All (λ (rows : List (List Cell)). length rows < 2 ^ 63) tables
    → AreTablesOf (numbered_schema schema).tables (numbered_tables tables)
