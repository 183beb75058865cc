-- Groups of kinds of tokens that have one name.
use Rattle.std.specs.Prelude.{ℕ, Bool, not, ◌&&◌, if◌then◌else◌, List, [], ◌∷◌}
use Rattle.std.specs.Prelude.{◌++◌, map, codes}
use Rattle.std.specs.Borrow.{Bor}
use Rattle.explanations.specs.Lists.{words_view, all_among}

-- the name of a group, and the words of its kinds
abbrev pub Group : Type 0
Group = List ℕ × List (List ℕ)

-- a group as the program has it
abbrev pub Row : Type 0
Row = Bor (List ℕ) × Bor (List (Bor (List ℕ)))

abbrev pub group_view : Row → Group
group_view row = (row.0.now, words_view row.1.now)

abbrev pub groups_view : List Row → List Group
groups_view rows = map group_view rows

-- a kind by itself
abbrev pub alone : List ℕ → Group
alone words = (words, words ∷ [])

-- what an expression begins with in the first edition
abbrev pub beginnings : List (List ℕ)
beginnings =
    codes "for" ∷ codes "where" ∷ codes "if" ∷ codes "fun" ∷ codes "table" ∷ codes "empty"
    ∷ codes "true" ∷ codes "false" ∷ codes "a name of your own" ∷ codes "a number"
    ∷ codes "a text in quotes" ∷ codes "-" ∷ codes "(" ∷ codes "[" ∷ codes "!" ∷ []

-- what stands between operators begins with these alone
abbrev pub operands : List (List ℕ)
operands =
    codes "table" ∷ codes "empty" ∷ codes "true" ∷ codes "false"
    ∷ codes "a name of your own" ∷ codes "a number" ∷ codes "a text in quotes" ∷ codes "-"
    ∷ codes "(" ∷ codes "[" ∷ codes "!" ∷ []

-- all words of the first edition, as a label may be
abbrev pub all_words : List (List ℕ)
all_words =
    codes "for" ∷ codes "where" ∷ codes "if" ∷ codes "then" ∷ codes "else" ∷ codes "fun"
    ∷ codes "let" ∷ codes "table" ∷ codes "empty" ∷ codes "true" ∷ codes "false"
    ∷ codes "int" ∷ codes "bool" ∷ codes "text" ∷ codes "a name of your own" ∷ []

-- what the second edition adds to each
abbrev pub second : List (List ℕ)
second = codes "count" ∷ codes "sum" ∷ []

-- Larger groups come before those within them; the kinds by themselves come last.
abbrev pub groups : List Group
groups =
    (codes "an expression", second ++ beginnings)
    ∷ (codes "an expression", beginnings)
    ∷ (codes "an operand", second ++ operands)
    ∷ (codes "an operand", operands)
    ∷ (codes "any word", second ++ all_words)
    ∷ (codes "any word", all_words)
    ∷ (
      codes "a type",
      codes "int" ∷ codes "bool" ∷ codes "text" ∷ codes "(" ∷ codes "[" ∷ [],
    )
    ∷ (
      codes "an operator",
      codes "++" ∷ codes "||" ∷ codes "&&" ∷ codes "==" ∷ codes "!=" ∷ codes "<"
          ∷ codes "<=" ∷ codes ">" ∷ codes ">=" ∷ codes "+" ∷ codes "-" ∷ codes "*"
          ∷ [],
    )
    ∷ map alone
    (codes "for" ∷ codes "where" ∷ codes "if" ∷ codes "then" ∷ codes "else" ∷ codes "fun"
    ∷ codes "let" ∷ codes "table" ∷ codes "empty" ∷ codes "count" ∷ codes "sum"
    ∷ codes "true" ∷ codes "false" ∷ codes "int" ∷ codes "bool" ∷ codes "text"
    ∷ codes "a name of your own" ∷ codes "a number" ∷ codes "a text in quotes" ∷ codes "++"
    ∷ codes "||" ∷ codes "&&" ∷ codes "==" ∷ codes "!=" ∷ codes "<" ∷ codes "<="
    ∷ codes ">" ∷ codes ">=" ∷ codes "+" ∷ codes "-" ∷ codes "*" ∷ codes "="
    ∷ codes "<-" ∷ codes "->" ∷ codes "!" ∷ codes "(" ∷ codes ")" ∷ codes "["
    ∷ codes "]" ∷ codes "a comma" ∷ codes "a colon" ∷ codes "a semicolon" ∷ codes "a dot"
    ∷ codes "the end of the text" ∷ [])

-- the group is named: all of its kinds are expected, and no group before has them all
abbrev pub is_named : List (List ℕ) → List (List ℕ) → Group → Bool
is_named expected taken group = all_among expected group.1 && not (all_among taken group.1)

-- the names of those of the groups that are named, where the kinds taken are in groups before
abbrev pub names_from : List (List ℕ) → List (List ℕ) → List Group → List (List ℕ)
names_from expected taken [] = []
names_from expected taken (group ∷ more) =
    if is_named expected taken group
    then group.0 ∷ names_from expected (taken ++ group.1) more
    else names_from expected taken more

-- how the expected kinds are named, by these groups
unfoldable pub names : List Group → List (List ℕ) → List (List ℕ)
names named expected = names_from expected [] named

-- the names that were found, and then those of these groups, where the kinds taken are in groups
-- before
abbrev pub found_and : List (List ℕ) → List (Bor (List ℕ)) → List (Bor (List ℕ))
    → List Row → List (List ℕ)
found_and expected found taken rows =
    words_view found ++ names_from expected (words_view taken) (groups_view rows)
