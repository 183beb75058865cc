-- Sentences for what a person who knows other languages is likely to have meant.
use Rattle.std.specs.Prelude.{ℕ, Bool, ◌&&◌, ◌||◌, if◌then◌else◌, List, []}
use Rattle.std.specs.Prelude.{◌∷◌, map, codes}
use Rattle.std.specs.Str.{bytes_eq}
use Rattle.explanations.specs.Lists.{all_among, words_view}
use Rattle.explanations.specs.declared.hints.Hint.{Hint as Row}

-- A sentence, and where it is said: behind these words, at these words, where all of these are
-- among what is expected. No words stand for any.
pub record Hint : Type 0 where
  pub before : List ℕ
  pub found : List ℕ
  pub expected : List (List ℕ)
  pub sentence : List ℕ

abbrev pub hint : List ℕ → List ℕ → List (List ℕ) → List ℕ → Hint
hint before found expected sentence =
    record { before = before; found = found; expected = expected; sentence = sentence }

-- hints as the program has them
abbrev pub hint_view : Row → Hint
hint_view row =
    hint row.before.now row.found.now (words_view row.expected.now) row.sentence.now

abbrev pub hints_view : List Row → List Hint
hints_view rows = map hint_view rows

abbrev pub is_any_or : List ℕ → List ℕ → Bool
is_any_or words there = bytes_eq words [] || bytes_eq words there

abbrev pub is_said : List ℕ → List ℕ → List (List ℕ) → Hint → Bool
is_said before found expected h =
    is_any_or h.before before && (is_any_or h.found found && all_among expected h.expected)

-- the sentence of the first of the hints that is said, or this one
abbrev pub first_said : List ℕ → List ℕ → List (List ℕ) → List ℕ → List Hint
    → List ℕ
first_said before found expected otherwise [] = otherwise
first_said before found expected otherwise (h ∷ hs) =
    if is_said before found expected h then h.sentence
    else first_said before found expected otherwise hs

-- where a text ceases to be a query
abbrev pub stop_hints : List Hint
stop_hints =
    hint [] (codes "=") (codes "==" ∷ []) (codes "To compare two values, write ==.")
    ∷ hint (codes "<") (codes ">") (codes "(" ∷ []) (codes "Unequal is written !=.")
    ∷ hint [] (codes "and") (codes "&&" ∷ []) (codes "The word and is written &&.")
    ∷ hint [] (codes "AND") (codes "&&" ∷ []) (codes "The word and is written &&.")
    ∷ hint [] (codes "or") (codes "||" ∷ []) (codes "The word or is written ||.")
    ∷ hint [] (codes "OR") (codes "||" ∷ []) (codes "The word or is written ||.")
    ∷ hint [] (codes "like") (codes "==" ∷ [])
    (codes "There is no like. Texts are compared whole, by ==, !=, <, <=, > and >=.")
    ∷ hint [] (codes "LIKE") (codes "==" ∷ [])
    (codes "There is no like. Texts are compared whole, by ==, !=, <, <=, > and >=.")
    ∷ hint [] (codes "in") (codes "==" ∷ [])
    (codes "There is no in. Write x == 1 || x == 2, or !empty(..) of what has it.")
    ∷ hint [] (codes "IN") (codes "==" ∷ [])
    (codes "There is no in. Write x == 1 || x == 2, or !empty(..) of what has it.")
    ∷ hint [] (codes "is") (codes "==" ∷ []) (codes "There is no null, and no test for it.")
    ∷ hint [] (codes "IS") (codes "==" ∷ []) (codes "There is no null, and no test for it.")
    ∷ hint [] (codes "as") (codes "==" ∷ [])
    (codes "A field is named as in (n = c.id), and a row as in for (c <- table t).")
    ∷ hint [] (codes "AS") (codes "==" ∷ [])
    (codes "A field is named as in (n = c.id), and a row as in for (c <- table t).")
    ∷ hint [] (codes "join") (codes "==" ∷ []) (codes "A join is a for in a for, with a where.")
    ∷ hint [] (codes "JOIN") (codes "==" ∷ []) (codes "A join is a for in a for, with a where.")
    ∷ hint [] (codes "union") (codes "==" ∷ []) (codes "Two bags are put together by ++.")
    ∷ hint [] (codes "UNION") (codes "==" ∷ []) (codes "Two bags are put together by ++.")
    ∷ hint [] (codes "group") (codes "==" ∷ [])
    (codes "To group rows, put a for in a field, so that each row holds a bag.")
    ∷ hint [] (codes "GROUP") (codes "==" ∷ [])
    (codes "To group rows, put a for in a field, so that each row holds a bag.")
    ∷ hint (codes "group") (codes "by") (codes "==" ∷ [])
    (codes "To group rows, put a for in a field, so that each row holds a bag.")
    ∷ hint (codes "GROUP") (codes "BY") (codes "==" ∷ [])
    (codes "To group rows, put a for in a field, so that each row holds a bag.")
    ∷ hint (codes "order") (codes "by") (codes "==" ∷ [])
    (codes "A bag has no order and no limit. Sort and cut the value that you get.")
    ∷ hint (codes "ORDER") (codes "BY") (codes "==" ∷ [])
    (codes "A bag has no order and no limit. Sort and cut the value that you get.")
    ∷ hint [] (codes "order") (codes "==" ∷ [])
    (codes "A bag has no order and no limit. Sort and cut the value that you get.")
    ∷ hint [] (codes "ORDER") (codes "==" ∷ [])
    (codes "A bag has no order and no limit. Sort and cut the value that you get.")
    ∷ hint [] (codes "limit") (codes "==" ∷ [])
    (codes "A bag has no order and no limit. Sort and cut the value that you get.")
    ∷ hint [] (codes "LIMIT") (codes "==" ∷ [])
    (codes "A bag has no order and no limit. Sort and cut the value that you get.")
    ∷ hint (codes "not") [] (codes "==" ∷ [])
    (codes "The word not is written !, as in !(a == b).")
    ∷ hint (codes "NOT") [] (codes "==" ∷ [])
    (codes "The word not is written !, as in !(a == b).")
    ∷ hint (codes "select") [] (codes "==" ∷ [])
    (codes "There is no select. Write for (r <- table t) where (r.a == 1) [(a = r.a)].")
    ∷ hint (codes "SELECT") [] (codes "==" ∷ [])
    (codes "There is no select. Write for (r <- table t) where (r.a == 1) [(a = r.a)].")
    ∷ hint (codes "from") [] (codes "==" ∷ [])
    (codes "There is no select. Write for (r <- table t) where (r.a == 1) [(a = r.a)].")
    ∷ hint (codes "FROM") [] (codes "==" ∷ [])
    (codes "There is no select. Write for (r <- table t) where (r.a == 1) [(a = r.a)].")
    ∷ hint [] (codes "<") (codes "&&" ∷ [])
    (codes "Comparisons do not chain. Write 1 < x && x < 3.")
    ∷ hint [] (codes "<=") (codes "&&" ∷ [])
    (codes "Comparisons do not chain. Write 1 < x && x < 3.")
    ∷ hint [] (codes ">") (codes "&&" ∷ [])
    (codes "Comparisons do not chain. Write 1 < x && x < 3.")
    ∷ hint [] (codes ">=") (codes "&&" ∷ [])
    (codes "Comparisons do not chain. Write 1 < x && x < 3.")
    ∷ hint [] (codes "==") (codes "&&" ∷ [])
    (codes "Comparisons do not chain. Write 1 < x && x < 3.")
    ∷ hint [] (codes "a semicolon") (codes "the end of the text" ∷ [])
    (codes "A query ends without a semicolon. Only a let has one.")
    ∷ hint [] (codes "a comma") (codes "]" ∷ [])
    (codes "A bag of two is [1] ++ [2], and a bag of one record [(a = 1, b = 2)].")
    ∷ hint [] (codes "a comma") (codes "->" ∷ [])
    (codes "A function has one parameter. Write fun (x: int) -> fun (y: int) -> x + y.")
    ∷ hint [] (codes "a comma") (codes ")" ∷ [])
    (codes "No list stands here. Write (a = 1, b = 2), f(1)(2), or a for in a for.")
    ∷ hint [] (codes "a comma") (codes "the end of the text" ∷ [])
    (codes "A query gives one bag, as for (r <- table t) [(a = r.a, b = r.b)] does.")
    ∷ hint (codes "(") (codes "*") (codes "(" ∷ [])
    (codes "What is counted is a bag, as in count(table t).")
    ∷ hint [] (codes "a colon") (codes "=" ∷ [])
    (codes "A field is label = value. Only in types is it label: type.")
    ∷ hint (codes "[") (codes "]") (codes "a colon" ∷ [])
    (codes "An empty bag names the type of its elements, as in [: int].")
    ∷ hint [] (codes "let") (codes "(" ∷ [])
    (codes "A let stands at the beginning. Inside, write for (x <- [1 + 2]) [x].")
    ∷ hint (codes "let") [] (codes "=" ∷ [])
    (codes "A let stands at the beginning. Inside, write for (x <- [1 + 2]) [x].")
    ∷ hint [] (codes "(") (codes "=" ∷ [])
    (codes "A function is a value. Write let f = fun (x: int) -> x + 1;")
    ∷ hint (codes "fun") [] (codes "(" ∷ [])
    (codes "A function names the type of its parameter, as in fun (x: int) -> x + 1.")
    ∷ hint (codes "where") [] (codes "(" ∷ [])
    (codes "The condition stands in parentheses, as in where (c.vip).")
    ∷ hint (codes "for") [] (codes "(" ∷ [])
    (codes "A for has parentheses, as in for (x <- table t) [x.a].")
    ∷ hint [] [] (codes "<-" ∷ [])
    (codes "A for takes its elements by an arrow, as in for (x <- table t).")
    ∷ hint [] (codes "the end of the text") (codes "let" ∷ [])
    (codes "The query is not finished.")
    ∷ hint [] [] (codes "let" ∷ []) (codes "No query goes on like this.")
    ∷ hint [] [] (codes "else" ∷ []) (codes "An if has an else, since it always has a value.")
    ∷ hint [] [] (codes "a semicolon" ∷ [])
    (codes "A let ends with a semicolon, as in let x = 1; [x].")
    ∷ hint [] (codes "the end of the text") [] (codes "The query is not finished.")
    ∷ hint [] [] (codes "int" ∷ [])
    (codes "The types are int, bool, text, [T], (a: T, b: U) and T -> U.")
    ∷ hint [] [] (codes "true" ∷ []) (codes "No query goes on like this.")
    ∷ hint [] [] (codes "a name of your own" ∷ [])
    (codes "A name of your own stands here, and no word of the language.")
    ∷ []

-- at a name that nothing has
abbrev pub name_hints : List Hint
name_hints =
    hint [] (codes "count") []
    (codes "The word count is of the second edition. Begin the query with nq 2;")
    ∷ hint [] (codes "sum") []
    (codes "The word sum is of the second edition. Begin the query with nq 2;")
    ∷ hint [] (codes "exists") [] (codes "There is no exists. Write !empty(..).")
    ∷ hint [] (codes "EXISTS") [] (codes "There is no exists. Write !empty(..).")
    ∷ hint [] (codes "null") []
    (codes "There is no null. A bag of none or one stands for what may be absent.")
    ∷ hint [] (codes "NULL") []
    (codes "There is no null. A bag of none or one stands for what may be absent.")
    ∷ hint [] (codes "TRUE") [] (codes "The truth values are true and false.")
    ∷ hint [] (codes "FALSE") [] (codes "The truth values are true and false.")
    ∷ []
