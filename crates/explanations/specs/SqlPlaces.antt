-- Of a place at which no token of SQL begins, by the word or the byte there.
use Rattle.std.specs.Prelude.{ℕ, ◌==◌, Bool, false, ◌||◌, if◌then◌else◌, List}
use Rattle.std.specs.Prelude.{[], ◌∷◌, take, drop, codes}
use Rattle.std.specs.List.{prefix_len}
use Rattle.std.specs.Str.{str_eq_ignore_ascii_case}
use Rattle.nq_model.specs.SchemaTokens.{begins_word, is_word_byte}
use Rattle.diagnostics.specs.Sentences.{sql_sentence}
use Rattle.diagnostics.specs.declared.sentences.SqlFaultKind.TheVariants as sql
use Rattle.explanations.specs.Groups.{Group}

-- the bytes spell one of the words, in any case
abbrev pub is_spelled : List (List ℕ) → List ℕ → Bool
is_spelled [] word = false
is_spelled (w ∷ ws) word = str_eq_ignore_ascii_case w word || is_spelled ws word

-- the sentence of the first row that has the word
abbrev pub sentence_of : List Group → List ℕ → List ℕ
sentence_of [] word = codes "A name stands in double quotes, as in \"d\".\"name\"."
sentence_of (row ∷ rows) word =
    if is_spelled row.1 word then row.0 else sentence_of rows word

-- sentences, each with the words at which it is said
abbrev pub sql_words : List Group
sql_words = (
  codes "There is no JOIN. List the sources behind FROM, and compare their columns in WHERE.",
  codes "JOIN" ∷ codes "INNER" ∷ codes "LEFT" ∷ codes "RIGHT" ∷ codes "FULL" ∷
      codes "OUTER" ∷ codes "CROSS" ∷ codes "NATURAL" ∷ codes "LATERAL" ∷ [],
)
    ∷ (
      codes "There is no ON. Compare the columns of the sources in WHERE.",
      codes "ON" ∷ codes "USING" ∷ [],
    )
    ∷ (
      codes "There is no GROUP BY. Take (SELECT COUNT(*) FROM .. WHERE ..) for each row.",
      codes "GROUP" ∷ codes "HAVING" ∷ [],
    )
    ∷ (
      codes "There is no LIMIT. All rows are given.",
      codes "LIMIT" ∷ codes "OFFSET" ∷ codes "FETCH" ∷ [],
    )
    ∷ (
      codes "There is no DISTINCT. Equal rows are all kept.",
      codes "DISTINCT" ∷ codes "UNIQUE" ∷ [],
    )
    ∷ (
      codes "There is no IN. Compare by = and OR, or write NOT (NOT EXISTS (SELECT ..)).",
      codes "IN" ∷ codes "ANY" ∷ codes "SOME" ∷ [],
    )
    ∷ (
      codes "There is no LIKE. Texts are compared whole, by =, <>, <, <=, > and >=.",
      codes "LIKE" ∷ codes "ILIKE" ∷ codes "SIMILAR" ∷ [],
    )
    ∷ (
      codes "There is no BETWEEN. Write two comparisons, with AND between.",
      codes "BETWEEN" ∷ [],
    )
    ∷ (
      codes "There is no NULL, and no test for it.",
      codes "IS" ∷ codes "NULL" ∷ codes "ISNULL" ∷ codes "NULLIF" ∷ codes "IFNULL" ∷
          codes "NVL" ∷ [],
    )
    ∷ (
      codes "Only row numbers have an order, and it ascends: OVER (ORDER BY \"d\".\"name\").",
      codes "ASC" ∷ codes "DESC" ∷ codes "NULLS" ∷ [],
    )
    ∷ (
      codes "There is no PARTITION BY. Rows are numbered by ROW_NUMBER() OVER (ORDER BY ..).",
      codes "PARTITION" ∷ [],
    )
    ∷ (
      codes "Rows are numbered by ROW_NUMBER() OVER (ORDER BY ..), and by nothing else.",
      codes "DENSE_RANK" ∷ codes "NTILE" ∷ codes "LAG" ∷ codes "LEAD" ∷
          codes "WINDOW" ∷ [],
    )
    ∷ (
      codes "There is no AVG, MIN or MAX. There are COUNT(*) and COALESCE(SUM(..), 0).",
      codes "AVG" ∷ codes "MIN" ∷ codes "MAX" ∷ [],
    )
    ∷ (
      codes "There is no recursion. A WITH query asks tables and earlier WITH queries.",
      codes "RECURSIVE" ∷ [],
    )
    ∷ (
      codes "SELECTs are put together by UNION ALL alone. Ask by NOT EXISTS for a difference.",
      codes "EXCEPT" ∷ codes "INTERSECT" ∷ codes "MINUS" ∷ [],
    )
    ∷ (
      codes "There is no such function. There are COUNT, SUM, COALESCE and ROW_NUMBER.",
      codes "ABS" ∷ codes "CAST" ∷ codes "CONCAT" ∷ codes "CONVERT" ∷ codes "LOWER" ∷
          codes "MOD" ∷ codes "ROUND" ∷ codes "SUBSTR" ∷ codes "SUBSTRING" ∷
          codes "TRIM" ∷
          codes "UPPER" ∷ [],
    )
    ∷ (
      codes "An SQL text of nq only asks: it begins with SELECT or WITH.",
      codes "INSERT" ∷ codes "UPDATE" ∷ codes "DELETE" ∷ codes "CREATE" ∷
          codes "DROP" ∷ codes "ALTER" ∷ codes "TRUNCATE" ∷ codes "MERGE" ∷ [],
    )
    ∷ []

-- of a word that is no keyword
unfoldable pub word_sentence : List ℕ → List ℕ
word_sentence word = sentence_of sql_words word

-- of a byte with which no word begins
abbrev pub sql_byte_sentence : ℕ → List ℕ
sql_byte_sentence byte =
    if byte == 33 then codes "Unequal is written <>." else
    if byte == 34
    then codes "A name in double quotes has 1 to 128 bytes, and ends at the next double quote."
    else
    if byte == 35 then codes "A comment begins with --." else
    if byte == 36 then codes "There are no parameters. Write the value itself." else
    if byte == 37 then codes "There is no division, and no remainder." else
    if byte == 38 then codes "The word and is written AND." else
    if byte == 39
    then codes "This text does not end. It ends at a single quote, and two stand for one in it."
    else
    if byte == 47 then codes "There is no division, and a comment begins with --." else
    if byte == 58 then codes "There are no parameters. Write the value itself." else
    if byte == 63 then codes "There are no parameters. Write the value itself." else
    if byte == 64 then codes "There are no parameters. Write the value itself." else
    if byte == 91 then codes "Names stand in double quotes, as in \"d\".\"name\"." else
    if byte == 96 then codes "Names stand in double quotes, as in \"d\".\"name\"." else
    if byte == 124 then codes "Texts are not joined, and the word or is written OR."
    else sql_sentence sql.Token

-- the letters, digits and `_` at the front of these bytes
abbrev pub word_at : List ℕ → List ℕ
word_at bytes = take (prefix_len is_word_byte bytes) bytes

-- of what stands at the front of these bytes
abbrev pub front_sentence : List ℕ → List ℕ
front_sentence [] = sql_sentence sql.Token
front_sentence (b ∷ bs) =
    if begins_word b then word_sentence (word_at (b ∷ bs))
    else sql_byte_sentence b

-- of a place at which no token begins
unfoldable pub place_sentence : List ℕ → ℕ → List ℕ
place_sentence text place = front_sentence (drop place text)
