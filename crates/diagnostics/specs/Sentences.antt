-- What is said of each fault of a schema, a query and an SQL text.
use Rattle.std.specs.Prelude.{ℕ, List, codes}
use Rattle.diagnostics.specs.declared.sentences.SchemaFaultKind.{SchemaFaultKind}
use Rattle.diagnostics.specs.declared.sentences.SchemaFaultKind.TheVariants as schema
use Rattle.diagnostics.specs.declared.sentences.QueryFaultKind.{QueryFaultKind}
use Rattle.diagnostics.specs.declared.sentences.QueryFaultKind.TheVariants as query
use Rattle.diagnostics.specs.declared.sentences.SqlFaultKind.{SqlFaultKind}
use Rattle.diagnostics.specs.declared.sentences.SqlFaultKind.TheVariants as sql

abbrev pub schema_sentence : SchemaFaultKind → List ℕ
schema_sentence schema.NotUtf8 = codes "The text is not UTF-8 here. Save the file as UTF-8."
schema_sentence schema.Syntax =
    codes "No schema goes on like this. A table is: table t (c: int, d: text, key (c));"
schema_sentence schema.TwiceTable =
    codes "An earlier table has this name. Each table needs a name of its own."
schema_sentence schema.TwiceColumn =
    codes "An earlier column of this table has this name. Each column needs a name of its own."
schema_sentence schema.NoColumn =
    codes "This table has no column. It needs at least one: table t (c: int);"
schema_sentence schema.KeyColumn =
    codes "A key lists columns of its table, each of them once. Is this word misspelt?"
schema_sentence schema.OverLimit =
    codes "There may be 64 tables, 64 columns in each, and 64 bytes in a name."

abbrev pub query_sentence : QueryFaultKind → List ℕ
query_sentence query.NotUtf8 = codes "The text is not UTF-8 here. Save the file as UTF-8."
query_sentence query.Token =
    codes "Nothing begins like this: texts are in single quotes, words of at most 64 bytes."
query_sentence query.IntRange =
    codes "This number is too large. The largest is 9223372036854775807."
query_sentence query.Unexpected = codes "No query goes on like this."
query_sentence query.Deep = codes "This goes too deep. A query may be 200 levels deep."
query_sentence query.Unbound =
    codes "No variable has this name. If you mean a table, write table before it."
query_sentence query.TwiceLabel =
    codes "The record has this label already. Each field needs a label of its own."

abbrev pub sql_sentence : SqlFaultKind → List ℕ
sql_sentence sql.NotUtf8 = codes "The text is not UTF-8 here. Save the file as UTF-8."
sql_sentence sql.Token =
    codes "Nothing begins like this: names are in double quotes, texts in single quotes."
sql_sentence sql.IntRange = codes "This number is too large. The largest is 9223372036854775807."
sql_sentence sql.Unexpected = codes "No SQL text that nq takes goes on like this."
sql_sentence sql.Deep = codes "This goes too deep. An SQL text may be 200 levels deep."
