-- Texts whose answers link.
use Rattle.std.specs.Prelude.{ℕ, List}
use Rattle.nq_model.specs.SchemaTables.{AreTablesOf}
use Rattle.nq_model.specs.Types.{TypeTree}
use Rattle.nq_model.specs.declared.table.Cell.{Cell}
use Rattle.nq_model.specs.declared.table.Schema.{Schema}
use Rattle.nq_ir.specs.Meanings.{EachBoth}
use Rattle.sql_profile.specs.Servers.{held_of}
use Rattle.sql_profile.specs.Texts.{TextAllows}
use Rattle.sql_profile.specs.Tokens.{First}
use Rattle.stitcher.specs.Linked.{IsLinked}

-- Over all tables of the schema, whatever answers SQL allows, each to its text by itself, they are linked answers of
-- the type.
abbrev pub AnswersLink : Schema → TypeTree → List (List ℕ) → Type 0
AnswersLink schema type texts =
    (tables : List (List (List Cell))) → AreTablesOf schema.tables tables
    → (answers : List (List (List Cell))) → EachBoth (TextAllows First (held_of schema.tables tables)) texts answers
    → IsLinked type answers
