-- The SQL texts of a query in which a bag is named by keys: what a server is asked, and what is
-- shown.
use Rattle.std.specs.Prelude.{◌≡◌, ℕ, List, Option, Some, None, Result, Ok, Err}
use Rattle.nq_model.specs.QueryMeaning.{Means}
use Rattle.nq_model.specs.Types.{type_tree}
use Rattle.nq_model.specs.declared.table.Schema.{Schema}
use Rattle.nq_ir.specs.Meanings.{EachBoth}
use Rattle.nq_ir.specs.NormalForms.{element_type}
use Rattle.nq_ir.specs.Parts.{element_types}
use Rattle.nq_ir.specs.Paths.{paths}
use Rattle.nq_ir.specs.Trees.{FormTree}
use Rattle.shred_types.specs.Under.{steps_of}
use Rattle.stitcher.specs.Schemes.{Scheme}
use Rattle.natural_keys.specs.NaturalKeys.{natural_keys}
use Rattle.natural_keys.specs.declared.index.KeyIndex.{KeyIndex}
use Rattle.natural_index.specs.Naming.{no_key}
use Rattle.nq_compile.specs.Shreds.{IsScopedText, StitchTo}
use Rattle.natural_compile.specs.Texts.{keyed_texts}
use Rattle.natural_compile.specs.declared.compiled.KeyedTexts.{KeyedTexts}
use Rattle.command_line.specs.Frames.{frames}
use Rattle.command_line.specs.declared.refusal.Refused.{Refused}
use Rattle.command_line.specs.declared.refusal.Refused.TheVariants.{NoKey}
use Rattle.natural_keys.specs.Schemes.{keys_scheme}
use Rattle.nq_execute.specs.Plans.{Finish, Indexes, Writing, columns_by}
use Rattle.nq_top.specs.Plans.{Draft}
use Rattle.nq_top.specs.Reading.{PlainReading, TypedTerm}
use Rattle.nq_top.specs.Shown.{shown_form}

-- texts for a query over a schema, and the scheme of keys that reads their answers
pub record Natural : Type 0 where
  pub schema : Schema
  pub query : TypedTerm
  pub keys : Scheme KeyIndex
  pub texts : List (List ℕ)

-- those of a normal form
abbrev pub natural_of : Schema → TypedTerm → FormTree → Natural
natural_of schema query form = record {
  schema = schema;
  query = query;
  keys = natural_keys schema.tables form;
  texts = keyed_texts schema.tables form;
}

-- which it has only where each table whose rows name bags has a key
abbrev pub keyed_as : Natural → Option (List ℕ) → Result Natural Refused
keyed_as natural None = Ok natural
keyed_as natural (Some table) = Err (NoKey table)

-- those of a query, or the table that lacks a key
unfoldable pub natural_read : PlainReading → Schema → TypedTerm → Result Natural Refused
natural_read plain schema query =
    keyed_as (natural_of schema query (shown_form plain schema query.term query.type))
    (no_key schema.tables (shown_form plain schema query.term query.type))

-- their draft: the texts are asked, and the canonical text of the value is written to which their
-- answers stitch by the keys
abbrev pub natural_draft : Natural → Draft
natural_draft natural = record {
  texts = natural.texts;
  columns = columns_by (Indexes.keys natural.keys) natural.query.type;
  finish = Finish.value natural.query.type (Indexes.keys natural.keys) Writing.text;
}

-- The text is a frame for each path with its text. Over any tables, whatever answers SQL allows to
-- the texts, each by itself, those stitch by the keys to what the query means; and the texts are
-- well scoped, with the columns of the keys.
pub record ShowsNatural (text : List ℕ) (natural : Natural) : Type 0 where
  pub is : text ≡ frames (paths natural.query.type) natural.texts
  pub stitched : StitchTo natural.keys natural.schema (element_type natural.query.type)
      natural.texts (λ tables value. Means tables natural.query.term value)
  pub scoped : EachBoth (IsScopedText natural.schema)
      (columns_by (Indexes.keys natural.keys) natural.query.type) natural.texts

-- texts by keys as the program has them, and what is known of those for a query over a schema
abbrev pub natural_view : Schema → TypedTerm → KeyedTexts → Natural
natural_view schema query made = record {
  schema = schema;
  query = query;
  keys = keys_scheme made.keys;
  texts = made.texts;
}

pub record StandsFor (schema : Schema) (query : TypedTerm) (made : KeyedTexts) : Type 0 where
  pub result : type_tree made.result ≡ query.type
  pub paths_are : steps_of made.paths ≡ paths query.type
  pub of_type : (keys_scheme made.keys).elements ≡ element_types query.type
  pub columns : made.columns ≡ columns_by (Indexes.keys (keys_scheme made.keys)) query.type
  pub scoped : EachBoth (IsScopedText schema) made.columns made.texts
  pub stitched : StitchTo (keys_scheme made.keys) schema (element_type query.type) made.texts
      (λ tables value. Means tables query.term value)
