-- Sentences for where a text ceases to be SQL that nq takes, for a person who knows more of SQL.
use Rattle.std.specs.Prelude.{ℕ, List, [], ◌∷◌, codes}
use Rattle.diagnostics.specs.Sentences.{sql_sentence}
use Rattle.diagnostics.specs.declared.sentences.SqlFaultKind.{SqlFaultKind}
use Rattle.diagnostics.specs.declared.sentences.SqlFaultKind.TheVariants as sql
use Rattle.explanations.specs.Hints.{Hint, hint, first_said}
use Rattle.explanations.specs.Words.{Around}

-- More telling ones come before others.
abbrev pub sql_hints : List Hint
sql_hints =
    hint [] (codes "the end of the text") (codes "WITH" ∷ codes "SELECT" ∷ [])
    (codes "The text is empty. It begins with SELECT or WITH.")
    ∷ hint [] [] (codes "WITH" ∷ [])
    (codes "An SQL text begins with SELECT or WITH.")
    ∷ hint (codes "a semicolon") [] []
    (codes "There is one SQL text, and it ends behind the semicolon.")
    ∷ hint [] (codes "WITH") []
    (codes "WITH stands only at the beginning, once. Its queries are joined by commas.")
    ∷ hint (codes "=") (codes "=") []
    (codes "To compare two values, write =.")
    ∷ hint (codes "<") (codes ">") []
    (codes "Unequal is written <>, with no space in it.")
    ∷ hint (codes "=") (codes "<") []
    (codes "At most is written <=.")
    ∷ hint (codes "=") (codes ">") []
    (codes "At least is written >=.")
    ∷ hint [] (codes "=") (codes "AND" ∷ codes "+" ∷ [])
    (codes "Comparisons do not chain. Write two of them, with AND between.")
    ∷ hint [] (codes "<>") (codes "AND" ∷ codes "+" ∷ [])
    (codes "Comparisons do not chain. Write two of them, with AND between.")
    ∷ hint [] (codes "<") (codes "AND" ∷ codes "+" ∷ [])
    (codes "Comparisons do not chain. Write two of them, with AND between.")
    ∷ hint [] (codes "<=") (codes "AND" ∷ codes "+" ∷ [])
    (codes "Comparisons do not chain. Write two of them, with AND between.")
    ∷ hint [] (codes ">") (codes "AND" ∷ codes "+" ∷ [])
    (codes "Comparisons do not chain. Write two of them, with AND between.")
    ∷ hint [] (codes ">=") (codes "AND" ∷ codes "+" ∷ [])
    (codes "Comparisons do not chain. Write two of them, with AND between.")
    ∷ hint (codes "<") (codes "=") []
    (codes "At most is written <=, with no space in it.")
    ∷ hint (codes ">") (codes "=") []
    (codes "At least is written >=, with no space in it.")
    ∷ hint [] (codes "+") (codes "CASE" ∷ [])
    (codes "A plus stands only between two numbers.")
    ∷ hint (codes "a number") (codes "a dot") []
    (codes "Numbers are whole. None has a point.")
    ∷ hint [] (codes "*") (codes "ROW_NUMBER" ∷ [])
    (codes "Name the columns, as in SELECT \"d\".\"name\" AS \"n\". There is no SELECT *.")
    ∷ hint (codes "a dot") (codes "*") []
    (codes "Name the columns, as in SELECT \"d\".\"name\" AS \"n\". There is no SELECT *.")
    ∷ hint [] (codes "SUM") (codes "COALESCE" ∷ [])
    (codes "A sum is written COALESCE(SUM(..), 0), so that a sum of nothing is 0.")
    ∷ hint [] [] (codes "COALESCE" ∷ [])
    (codes "A SELECT that is a value gives COUNT(*) or COALESCE(SUM(..), 0).")
    ∷ hint [] (codes "COUNT") []
    (codes "A count is written (SELECT COUNT(*) FROM \"tasks\" AS \"t\"), in parentheses.")
    ∷ hint [] (codes "SUM") []
    (codes "A sum is written (SELECT COALESCE(SUM(\"t\".\"n\"), 0) FROM \"t\" AS \"t\").")
    ∷ hint [] (codes "COALESCE") []
    (codes "A sum is written (SELECT COALESCE(SUM(\"t\".\"n\"), 0) FROM \"t\" AS \"t\").")
    ∷ hint (codes "(") [] (codes "SUM" ∷ [])
    (codes "COALESCE stands only around a SUM, as in COALESCE(SUM(\"t\".\"n\"), 0).")
    ∷ hint (codes "(") [] (codes "*" ∷ [])
    (codes "Only rows are counted, by COUNT(*).")
    ∷ hint (codes "a comma") (codes "a number") (codes "0" ∷ [])
    (codes "A sum of nothing is 0, as in COALESCE(SUM(\"t\".\"n\"), 0).")
    ∷ hint (codes "a comma") (codes "a text in single quotes") (codes "0" ∷ [])
    (codes "A sum of nothing is 0, as in COALESCE(SUM(\"t\".\"n\"), 0).")
    ∷ hint (codes "a comma") (codes "a name in double quotes") (codes "0" ∷ [])
    (codes "A sum of nothing is 0, as in COALESCE(SUM(\"t\".\"n\"), 0).")
    ∷ hint (codes "a comma") (codes "-") (codes "0" ∷ [])
    (codes "A sum of nothing is 0, as in COALESCE(SUM(\"t\".\"n\"), 0).")
    ∷ hint (codes ")") (codes "AS") (codes "FROM" ∷ [])
    (codes "The one column of a SELECT that is a value has no name.")
    ∷ hint [] (codes "EXISTS") []
    (codes "EXISTS stands behind NOT alone. Write NOT (NOT EXISTS (SELECT ..)).")
    ∷ hint (codes "EXISTS") [] (codes "(" ∷ [])
    (codes "The query of NOT EXISTS stands in parentheses.")
    ∷ hint [] (codes "NOT") (codes "CASE" ∷ [])
    (codes "Here a NOT stands in parentheses, as in (NOT TRUE).")
    ∷ hint [] (codes "SELECT") (codes "CASE" ∷ [])
    (codes "A SELECT that is a value stands in parentheses: (SELECT COUNT(*) FROM ..).")
    ∷ hint (codes "(") (codes "(") (codes "SELECT" ∷ [])
    (codes "No parentheses stand around the SELECTs of a query.")
    ∷ hint (codes "ALL") [] (codes "SELECT" ∷ [])
    (codes "Behind UNION ALL stands a SELECT, without parentheses.")
    ∷ hint [] [] (codes "ALL" ∷ [])
    (codes "UNION is always UNION ALL, which keeps equal rows.")
    ∷ hint (codes "SELECT") (codes "ALL") []
    (codes "A SELECT keeps all rows. It is written without ALL.")
    ∷ hint [] [] (codes "WHEN" ∷ [])
    (codes "CASE is written CASE WHEN .. THEN .. ELSE .. END.")
    ∷ hint [] (codes "WHEN") (codes "ELSE" ∷ [])
    (codes "CASE has one WHEN. Write another CASE behind ELSE.")
    ∷ hint [] (codes "END") (codes "ELSE" ∷ [])
    (codes "CASE has an ELSE, since it always has a value.")
    ∷ hint [] (codes "ROW_NUMBER") []
    (codes "A row number is an item of its own: SELECT ROW_NUMBER() OVER () AS \"n\".")
    ∷ hint [] (codes "ORDER") []
    (codes "Rows have no order. ORDER BY stands only in ROW_NUMBER() OVER (ORDER BY ..).")
    ∷ hint [] (codes "a text in single quotes") (codes "a name in double quotes" ∷ [])
    (codes "Names stand in double quotes, and texts in single ones.")
    ∷ hint [] [] (codes "a dot" ∷ [])
    (codes "A column is written \"d\".\"name\", and a text 'Oslo' in single quotes.")
    ∷ hint (codes "AS") [] (codes "(" ∷ [])
    (codes "A WITH query stands in parentheses, as in WITH \"q\" AS (SELECT 1 AS \"n\").")
    ∷ hint [] (codes "a name in double quotes") (codes "AS" ∷ [])
    (codes "A name is given by AS, as in 1 AS \"n\" or FROM \"departments\" AS \"d\".")
    ∷ hint [] [] (codes "AS" ∷ codes "AND" ∷ [])
    (codes "Each item has a name, as in 1 AS \"n\".")
    ∷ hint (codes ")") [] (codes "AS" ∷ [])
    (codes "A row number has a name, as in ROW_NUMBER() OVER () AS \"n\".")
    ∷ hint [] [] (codes "AS" ∷ [])
    (codes "An AS is missing, as in FROM \"departments\" AS \"d\" or WITH \"q\" AS (..).")
    ∷ hint (codes "FROM") (codes "(") []
    (codes "A source is a table or a WITH query, and no SELECT in parentheses.")
    ∷ hint (codes "a comma") (codes "(") (codes "a name in double quotes" ∷ [])
    (codes "A source is a table or a WITH query, and no SELECT in parentheses.")
    ∷ hint (codes "SELECT") (codes "FROM") []
    (codes "Behind SELECT stands an item, as in SELECT 1 AS \"n\".")
    ∷ hint (codes "a comma") (codes "FROM") (codes "ROW_NUMBER" ∷ [])
    (codes "Behind a comma stands one more item, as in 1 AS \"n\".")
    ∷ hint [] (codes "the end of the text") []
    (codes "The text is not finished.")
    ∷ hint [] (codes "FROM") []
    (codes "FROM stands behind the items and before WHERE, once in a SELECT.")
    ∷ hint [] (codes "WHERE") []
    (codes "WHERE stands behind FROM, once in a SELECT. Conditions are joined by AND.")
    ∷ hint (codes "AS") [] (codes "a name in double quotes" ∷ [])
    (codes "Behind AS stands a name in double quotes, as in 1 AS \"n\".")
    ∷ []

-- of where a text ceases to be SQL that nq takes, and these kinds of tokens are expected
unfoldable pub sql_stop_sentence : SqlFaultKind → Around → List (List ℕ) → List ℕ
sql_stop_sentence sql.Deep around expected = sql_sentence sql.Deep
sql_stop_sentence kind around expected =
    first_said around.before around.found expected (sql_sentence kind) sql_hints
