-- Texts whose answers tag and number read for a normal form.
--
-- After the flat indexes of Cheney, Lindley and Wadler, "Query Shredding", SIGMOD 2014.
use Rattle.std.specs.Prelude.{ℕ, List}
use Rattle.nq_model.specs.Databases.{database}
use Rattle.nq_model.specs.SchemaTables.{AreTablesOf}
use Rattle.nq_model.specs.Types.{bag}
use Rattle.nq_model.specs.declared.table.Cell.{Cell}
use Rattle.nq_model.specs.declared.table.Schema.{Schema}
use Rattle.nq_ir.specs.Meanings.{EachBoth, rows_in}
use Rattle.nq_ir.specs.Parts.{element_types}
use Rattle.nq_ir.specs.Trees.{FormTree}
use Rattle.sql_profile.specs.Servers.{held_of}
use Rattle.sql_profile.specs.Texts.{TextAllows}
use Rattle.sql_profile.specs.Tokens.{First}
use Rattle.stitcher.specs.FlatNumbers.{flat_numbers}
use Rattle.stitcher.specs.Schemes.{Reads, Scheme}

-- Over all tables of the schema, whatever answers SQL allows, each to its text by itself, the scheme
-- reads them for the form and those tables.
abbrev pub SchemeReads : {I : Type 0} → Scheme I → Schema → FormTree → List (List ℕ) → Type 0
SchemeReads S schema form texts =
    (tables : List (List (List Cell))) → AreTablesOf schema.tables tables
    → (answers : List (List (List Cell)))
    → EachBoth (TextAllows First (held_of schema.tables tables)) texts answers
    → Reads S answers form (rows_in (database schema.tables tables))

-- the scheme of tag and number does
abbrev pub TagAndNumberRead : Schema → FormTree → List (List ℕ) → Type 0
TagAndNumberRead schema form texts =
    SchemeReads (flat_numbers (element_types (bag form.element))) schema form texts
