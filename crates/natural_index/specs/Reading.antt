-- What holds of natural trees: they are well scoped, and keys read their answers.
--
-- After the natural indexes of Cheney, Lindley and Wadler, "Query Shredding", SIGMOD 2014.
use Rattle.std.specs.Prelude.{◌≡◌, List}
use Rattle.nq_model.specs.Databases.{database}
use Rattle.nq_model.specs.Numberings.{count_from}
use Rattle.nq_model.specs.SchemaTables.{AreTablesOf}
use Rattle.nq_model.specs.Tables.{Columns, types_of}
use Rattle.nq_model.specs.Types.{bag}
use Rattle.nq_model.specs.declared.table.Cell.{Cell}
use Rattle.nq_model.specs.declared.table.ColumnType.{ColumnType}
use Rattle.nq_model.specs.declared.table.Schema.{Schema}
use Rattle.nq_ir.specs.Meanings.{EachBoth, rows_in}
use Rattle.nq_ir.specs.Parts.{bags}
use Rattle.nq_ir.specs.Trees.{FormTree}
use Rattle.sql_profile.specs.AllowedAnswers.{TreeAllows}
use Rattle.sql_profile.specs.Scope.{IsWellScoped, shapes_of_schema}
use Rattle.sql_profile.specs.Servers.{held_of}
use Rattle.sql_profile.specs.Trees.{SqlTree}
use Rattle.stitcher.specs.Schemes.{Reads}
use Rattle.natural_keys.specs.NaturalKeys.{natural_keys}

-- a tree that is well scoped over the tables of a schema, with columns of these types
pub record IsScopedTree (schema : Schema) (types : List ColumnType) (tree : SqlTree) : Type 0 where
  pub columns : Columns
  pub scoped : IsWellScoped (shapes_of_schema schema.tables) tree columns
  pub typed : types_of columns ≡ types

-- the trees are, in path order, each with the columns that the scheme has at its path
abbrev pub AreScopedTrees : Schema → FormTree → List SqlTree → Type 0
AreScopedTrees schema form trees =
    EachBoth (λ q tree. IsScopedTree schema ((natural_keys schema.tables form).columns q) tree)
    (count_from 0 (bags (bag form.element))) trees

-- Over all tables of the schema, whatever answers SQL allows, each to its tree by itself, the
-- scheme reads them for the form and those tables.
abbrev pub KeysRead : Schema → FormTree → List SqlTree → Type 0
KeysRead schema form trees =
    (tables : List (List (List Cell))) → AreTablesOf schema.tables tables
    → (answers : List (List (List Cell)))
    → EachBoth (TreeAllows (held_of schema.tables tables)) trees answers
    → Reads (natural_keys schema.tables form) answers form (rows_in (database schema.tables tables))
