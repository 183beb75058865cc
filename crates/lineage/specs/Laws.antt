-- What a value of a traced form tells.
use Rattle.std.specs.Prelude.{◌≡◌, List, []}
use Rattle.nq_model.specs.Databases.{database}
use Rattle.nq_model.specs.Proper.{IsClosed, IsPlainTerm, IsProperTerm}
use Rattle.nq_model.specs.SchemaTables.{AreTablesOf}
use Rattle.nq_model.specs.Tables.{IsProperSchema}
use Rattle.nq_model.specs.Terms.{TermTree}
use Rattle.nq_model.specs.Types.{TypeTree, bag}
use Rattle.nq_model.specs.Typing.{HasType}
use Rattle.nq_model.specs.Values.{Nested, Same}
use Rattle.nq_model.specs.declared.table.Cell.{Cell}
use Rattle.nq_model.specs.declared.table.Schema.{Schema}
use Rattle.nq_ir.specs.Meanings.{Tables, form_meaning}
use Rattle.nq_ir.specs.NormalForms.{normal_form}
use Rattle.nq_ir.specs.Trees.{FormTree}
use Rattle.nq_ir.specs.WellFormed.{IsWellFormed}
use Rattle.traced_meaning.specs.Laws.{rows_with_numbers}
use Rattle.traced_meaning.specs.NumberedTables.{HasNoNumbers}
use Rattle.traced_meaning.specs.TracedForms.{traced_meaning}
use Rattle.traced_meaning.specs.Traces.{trace}
use Rattle.lineage.specs.Decoding.{form_decoded}
use Rattle.lineage.specs.ListedTables.{listed}
use Rattle.lineage.specs.TraceForms.{form_traced}
use Rattle.lineage.specs.TracedTexts.{traced_text}

-- what a value of the traced form of a form tells
abbrev pub told : FormTree → Nested → Nested
told form v = form_decoded (listed form.comps) (form_traced form) v

-- Over tables with numbers, the traced form of a well-formed form means what tells the form's
-- traced meaning. So does each value that is the same nested multiset.
abbrev pub TracedFormsTell : Type 0
TracedFormsTell =
    (schema : Schema) (form : FormTree) → IsWellFormed schema.tables form
    → (ts : Tables) (v : Nested) → Same v (form_meaning ts (form_traced form))
    → Same (told form v) (traced_meaning ts form)

-- Over the tables of a schema with numbers, the traced form of the normal form of a term means what
-- tells the traced meaning of the term. So each value that is the same nested multiset has, once
-- decoded, the text of the traced meaning.
abbrev pub TracesAreTold : Type 0
TracesAreTold =
    (schema : Schema) (element : TypeTree) (term : TermTree)
    → IsProperSchema schema → HasNoNumbers schema
    → IsPlainTerm term → IsProperTerm term → IsClosed term
    → HasType schema [] term (bag element)
    → IsWellFormed schema.tables (normal_form schema.tables element term)
    → (tables : List (List (List Cell))) → AreTablesOf schema.tables tables
    → (v : Nested)
    → Same v (form_meaning (rows_with_numbers schema tables)
    (form_traced (normal_form schema.tables element term)))
    → Same (told (normal_form schema.tables element term) v)
    (trace (database schema.tables tables) [] term)
    × (traced_text (told (normal_form schema.tables element term) v)
    ≡ traced_text (trace (database schema.tables tables) [] term))
