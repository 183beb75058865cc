-- The names of a schema that a text spells.
use Rattle.std.specs.List.{AllByRecursion as Each}
use Rattle.nq_model.specs.Proper.{IsQueryWord}
use Rattle.nq_model.specs.Tables.{names_of}
use Rattle.nq_model.specs.declared.table.Schema.{Schema}
use Rattle.nq_model.specs.declared.table.TableShape.{TableShape}

-- a query text can spell the name of the table and those of its columns
abbrev pub HasQueryWords : TableShape → Type 0
HasQueryWords shape = IsQueryWord shape.name × Each IsQueryWord (names_of shape.columns)

-- and so it can for each table of the schema
abbrev pub HaveQueryWords : Schema → Type 0
HaveQueryWords schema = Each HasQueryWords schema.tables
