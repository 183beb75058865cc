-- The SQL texts of the lineage of a query: what they are, and what their answers tell.
use Rattle.std.specs.Prelude.{◌≡◌, ◌<◌, ◌^◌, ℕ, List, [], All, length, map}
use Rattle.nq_compile.specs.Shreds.{IsScopedText}
use Rattle.nq_compile.specs.Texts.{texts_of}
use Rattle.nq_ir.specs.Meanings.{EachBoth}
use Rattle.nq_ir.specs.Parts.{element_types}
use Rattle.nq_ir.specs.Paths.{paths}
use Rattle.nq_ir.specs.Trees.{FormTree, form_tree}
use Rattle.nq_ir.specs.WellFormed.{IsWellFormed}
use Rattle.nq_model.specs.Databases.{database}
use Rattle.nq_model.specs.SchemaTables.{AreTablesOf}
use Rattle.nq_model.specs.Tables.{IsProperSchema}
use Rattle.nq_model.specs.Terms.{TermTree}
use Rattle.nq_model.specs.Types.{bag, type_tree}
use Rattle.nq_model.specs.Values.{Nested, Same}
use Rattle.nq_model.specs.declared.table.Cell.{Cell}
use Rattle.nq_model.specs.declared.table.Schema.{Schema}
use Rattle.shred_types.specs.Columns.{columns_at}
use Rattle.sql_profile.specs.Servers.{held_of}
use Rattle.sql_profile.specs.Texts.{TextAllows}
use Rattle.sql_profile.specs.Tokens.{First}
use Rattle.stitcher.specs.FlatNumbers.{flat_numbers}
use Rattle.stitcher.specs.Schemes.{AnswerRows, stitched}
use Rattle.traced_meaning.specs.NumberedTables.{numbered_schema, numbered_tables}
use Rattle.traced_meaning.specs.Traces.{trace}
use Rattle.lineage.specs.Laws.{told}
use Rattle.lineage.specs.ListedTables.{listed}
use Rattle.lineage.specs.TraceForms.{form_traced}
use Rattle.lineage_compile.specs.declared.compiled.TracedTexts.{TracedTexts}

-- what a traced form's answers stitch to by tag and number
abbrev pub stitched_by : FormTree → List AnswerRows → Nested
stitched_by traced answers =
    stitched (flat_numbers (element_types (bag traced.element))) traced.element answers

-- Over all tables of the schema with fewer rows than there are numbers, whatever answers SQL allows
-- over the tables with numbers, each to its text by itself, what those stitch to is decoded to the
-- traced meaning of the term, as a nested multiset.
abbrev pub TellsTrace : Schema → FormTree → TermTree → List (List ℕ) → Type 0
TellsTrace schema form plain texts =
    (tables : List (List (List Cell))) → AreTablesOf schema.tables tables
    → All (λ (rows : List (List Cell)). length rows < 2 ^ 63) tables
    → (answers : List (List (List Cell)))
    → EachBoth (TextAllows First
    (held_of (numbered_schema schema).tables (numbered_tables tables))) texts answers
    → Same (told form (stitched_by (form_traced form) answers))
    (trace (database schema.tables tables) [] plain)

-- texts of the lineage of a query whose plain term has this normal form over the schema
pub record IsLineage (schema : Schema) (form : FormTree) (plain : TermTree)
    (made : TracedTexts) : Type 0 where
  -- They are the texts of its traced form, over the schema with numbers, by path.
  pub normal : form_tree made.form.normal ≡ form_traced form
  pub tables : made.form.tables ≡ listed form.comps
  pub result : type_tree made.result ≡ bag (form_traced form).element
  pub columns : made.columns ≡ map (columns_at (bag (form_traced form).element))
      (paths (bag (form_traced form).element))
  pub texts : made.texts ≡ texts_of (numbered_schema schema) (form_traced form)
  -- That schema is proper, the form is well formed over it, and each text is well scoped.
  pub proper : IsProperSchema (numbered_schema schema)
  pub well_formed : IsWellFormed (numbered_schema schema).tables (form_traced form)
  pub scoped : EachBoth (IsScopedText (numbered_schema schema)) made.columns made.texts
  -- Their answers tell the traced meaning of the term.
  pub tells : TellsTrace schema form plain made.texts
