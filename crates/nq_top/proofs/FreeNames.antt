-- No column has the name of the column of numbers where a query can spell all names.
use Rattle.std.proofs.Common.{◌≡◌, ◌≢◌, List, [], ◌∷◌, All, subst}
use Rattle.std.proofs.lemmas.List.Elements.{All-from_recursion}
use Rattle.std.specs.List.{AllByRecursion as Each}
use Rattle.nq_model.specs.NamedRows.{Label}
use Rattle.nq_model.specs.Proper.{IsQueryWord}
use Rattle.nq_model.specs.SchemaTokens.{IsWord}
use Rattle.nq_model.specs.Tables.{Columns, names_of}
use Rattle.nq_model.specs.declared.table.Schema.{Schema}
use Rattle.nq_model.specs.declared.table.TableShape.{TableShape}
use Rattle.schema_reader.specs.Words.{HasQueryWords, HaveQueryWords}
use Rattle.traced_meaning.specs.NumberedTables.{HasNoNumbers, number_column}

-- that name is no word
no_word : (name : Label) → IsQueryWord name → name ≢ number_column
no_word name own is = never (subst IsWord is own.word)
  where
    never : IsWord number_column → ⊥
    never word = absurd (let begins = word.0 in cc)

free_columns : (columns : Columns) → Each IsQueryWord (names_of columns)
    → Each (λ column. column.0 ≢ number_column) columns
free_columns [] words = tt
free_columns (c ∷ columns) words = (no_word c.0 words.0, free_columns columns words.1)

free_shapes : (shapes : List TableShape) → Each HasQueryWords shapes
    → Each (λ (shape : TableShape). All (λ column. column.0 ≢ number_column) shape.columns) shapes
free_shapes [] words = tt
free_shapes (s ∷ shapes) words = (
  All-from_recursion (λ column. column.0 ≢ number_column) s.columns
      (free_columns s.columns words.0.1),
  free_shapes shapes words.1,
)

pub free_names : (schema : Schema) → HaveQueryWords schema → HasNoNumbers schema
free_names schema words =
    All-from_recursion
    (λ (shape : TableShape). All (λ column. column.0 ≢ number_column) shape.columns) schema.tables
    (free_shapes schema.tables words)
