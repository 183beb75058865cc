-- The sentence that is said of each fault.
use Rattle.std.specs.Prelude.{ℕ, ◌==◌, if◌then◌else◌, List, [], codes}
use Rattle.std.specs.Prelude.{Option, Some, None}
use Rattle.diagnostics.specs.Sentences.{query_sentence}
use Rattle.diagnostics.specs.declared.sentences.QueryFaultKind.{QueryFaultKind}
use Rattle.diagnostics.specs.declared.sentences.QueryFaultKind.TheVariants as query
use Rattle.explanations.specs.Hints.{first_said, stop_hints, name_hints}
use Rattle.explanations.specs.Lists.{among}
use Rattle.explanations.specs.Words.{Around}

-- of a byte at which no token begins
abbrev pub byte_sentence : ℕ → List ℕ
byte_sentence byte =
    if byte == 34 then codes "Texts stand in single quotes, as in 'Oslo'. Names stand in none." else
    if byte == 38 then codes "The word and is written &&." else
    if byte == 39
    then codes "This text does not end. It ends at a single quote, and two stand for one in it."
    else
    if byte == 47 then codes "There is no division, and a comment begins with #." else
    if byte == 92 then codes "A function is written fun (x: int) -> x + 1." else
    if byte == 96 then codes "Names stand in no quotes, and texts in single ones." else
    if byte == 123
    then codes "There are no braces. A bag is [1] ++ [2], and a record (a = 1, b = 2)."
    else
    if byte == 124 then codes "The word or is written ||." else
    if byte == 125
    then codes "There are no braces. A bag is [1] ++ [2], and a record (a = 1, b = 2)."
    else query_sentence query.Token

abbrev pub token_sentence : Option ℕ → List ℕ
token_sentence None = query_sentence query.Token
token_sentence (Some byte) = byte_sentence byte

-- where a text ceases to be a query, and these kinds of tokens are expected
unfoldable pub stop_sentence : QueryFaultKind → Around → List (List ℕ) → List ℕ
stop_sentence query.Deep around expected = query_sentence query.Deep
stop_sentence kind around expected =
    first_said around.before around.found expected (query_sentence kind) stop_hints

-- of a name that no variable has
unfoldable pub name_sentence : List (List ℕ) → List ℕ → List ℕ
name_sentence tables name =
    if among tables name then codes "This is a table. Write table before its name."
    else first_said [] name [] (query_sentence query.Unbound) name_hints
