-- Texts that shred a query: what stands in for the query where only flat SQL can be asked.
--
-- After Cheney, Lindley and Wadler, "Query Shredding", SIGMOD 2014.
use Rattle.std.specs.Prelude.{◌≡◌, ℕ, List, length}
use Rattle.nq_model.specs.Databases.{FilledTable, database}
use Rattle.nq_model.specs.SchemaTables.{AreTablesOf}
use Rattle.nq_model.specs.Tables.{Columns, types_of}
use Rattle.nq_model.specs.Types.{TypeTree, bag}
use Rattle.nq_model.specs.Values.{Nested, Same}
use Rattle.nq_model.specs.declared.table.Cell.{Cell}
use Rattle.nq_model.specs.declared.table.ColumnType.{ColumnType}
use Rattle.nq_model.specs.declared.table.Schema.{Schema}
use Rattle.nq_ir.specs.Meanings.{EachBoth, form_meaning, rows_in}
use Rattle.nq_ir.specs.Parts.{element_types}
use Rattle.nq_ir.specs.Paths.{paths}
use Rattle.nq_ir.specs.Trees.{FormTree}
use Rattle.shred_types.specs.Columns.{columns_at}
use Rattle.sql_profile.specs.Scope.{IsWellScoped, shapes_of_schema}
use Rattle.sql_profile.specs.Servers.{held_of}
use Rattle.sql_profile.specs.Texts.{Spells, TextAllows}
use Rattle.sql_profile.specs.Tokens.{First}
use Rattle.sql_profile.specs.Trees.{PlacedSql, bare}
use Rattle.stitcher.specs.FlatNumbers.{flat_numbers}
use Rattle.stitcher.specs.Schemes.{Scheme, stitched}

-- a text with columns of these types
pub record IsScopedText (schema : Schema) (types : List ColumnType) (text : List ℕ) : Type 0 where
  -- it spells a tree, at a depth of its own bytes,
  pub tree : PlacedSql
  pub spelled : Spells First (length text) text tree
  -- which is well scoped over the tables of the schema,
  pub columns : Columns
  pub scoped : IsWellScoped (shapes_of_schema schema.tables) (bare tree) columns
  -- with columns of these types
  pub typed : types_of columns ≡ types

-- Over all tables of the schema, whatever answers SQL allows, each to its text by itself, stitching
-- them by the scheme gives the same nested multiset as the meaning over those tables.
abbrev pub StitchTo : {I : Type 0} → Scheme I → Schema → TypeTree → List (List ℕ)
    → (List FilledTable → Nested → Type 0) → Type 0
StitchTo S schema element texts means =
    (tables : List (List (List Cell))) → AreTablesOf schema.tables tables
    → (answers : List (List (List Cell)))
    → EachBoth (TextAllows First (held_of schema.tables tables)) texts answers
    → (v : Nested) → means (database schema.tables tables) v
    → Same (stitched S element answers) v

-- These texts shred what has this meaning, a bag with elements of this type.
pub record Shreds (schema : Schema) (element : TypeTree) (texts : List (List ℕ)) (means : List FilledTable → Nested → Type 0) : Type 0 where
  -- There is one text for each path of the type, in path order, with the columns of its path.
  pub scoped : EachBoth (λ path text. IsScopedText schema (columns_at (bag element) path) text) (paths (bag element)) texts
  -- Stitching their answers by tag and number gives the meaning.
  pub stitched : StitchTo (flat_numbers (element_types (bag element))) schema element texts means

-- what a normal form means over tables
abbrev pub form_means : FormTree → List FilledTable → Nested → Type 0
form_means form tables v = v ≡ form_meaning (rows_in tables) form
