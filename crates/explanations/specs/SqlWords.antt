-- What is said of kinds of tokens of SQL texts, and of the tokens of one.
use Rattle.std.specs.Prelude.{ℕ, ◌==◌, if◌then◌else◌, List, [], ◌∷◌, codes}
use Rattle.sql_profile.specs.Tokens.{Token, Name, place_of}
use Rattle.expected_sql_tokens.specs.Kinds.{kind_of}
use Rattle.expected_sql_tokens.specs.declared.kinds.SqlTokenKind.{SqlTokenKind}
use Rattle.expected_sql_tokens.specs.declared.kinds.SqlTokenKind.TheVariants as kinds
use Rattle.explanations.specs.Words.{Around}

abbrev pub sql_kind_words : SqlTokenKind → List ℕ
sql_kind_words kinds.With = codes "WITH"
sql_kind_words kinds.As = codes "AS"
sql_kind_words kinds.UnionWord = codes "UNION"
sql_kind_words kinds.All = codes "ALL"
sql_kind_words kinds.Select = codes "SELECT"
sql_kind_words kinds.From = codes "FROM"
sql_kind_words kinds.Where = codes "WHERE"
sql_kind_words kinds.RowNumber = codes "ROW_NUMBER"
sql_kind_words kinds.Over = codes "OVER"
sql_kind_words kinds.Order = codes "ORDER"
sql_kind_words kinds.By = codes "BY"
sql_kind_words kinds.Not = codes "NOT"
sql_kind_words kinds.Exists = codes "EXISTS"
sql_kind_words kinds.Case = codes "CASE"
sql_kind_words kinds.When = codes "WHEN"
sql_kind_words kinds.Then = codes "THEN"
sql_kind_words kinds.Else = codes "ELSE"
sql_kind_words kinds.Stop = codes "END"
sql_kind_words kinds.Count = codes "COUNT"
sql_kind_words kinds.Sum = codes "SUM"
sql_kind_words kinds.Coalesce = codes "COALESCE"
sql_kind_words kinds.True = codes "TRUE"
sql_kind_words kinds.False = codes "FALSE"
sql_kind_words kinds.Zero = codes "0"
sql_kind_words kinds.Number = codes "a number"
sql_kind_words kinds.Literal = codes "a text in single quotes"
sql_kind_words kinds.Name = codes "a name in double quotes"
sql_kind_words kinds.And = codes "AND"
sql_kind_words kinds.Or = codes "OR"
sql_kind_words kinds.Equal = codes "="
sql_kind_words kinds.Unequal = codes "<>"
sql_kind_words kinds.Less = codes "<"
sql_kind_words kinds.AtMost = codes "<="
sql_kind_words kinds.Greater = codes ">"
sql_kind_words kinds.AtLeast = codes ">="
sql_kind_words kinds.Plus = codes "+"
sql_kind_words kinds.Minus = codes "-"
sql_kind_words kinds.Times = codes "*"
sql_kind_words kinds.Opening = codes "("
sql_kind_words kinds.Closing = codes ")"
sql_kind_words kinds.Comma = codes "a comma"
sql_kind_words kinds.Dot = codes "a dot"
sql_kind_words kinds.Semicolon = codes "a semicolon"
sql_kind_words kinds.End = codes "the end of the text"

-- the kind that is told of a token that is found: there a `0` is a number like any other
abbrev pub found_kind : SqlTokenKind → SqlTokenKind
found_kind kinds.Zero = kinds.Number
found_kind kind = kind

-- what is said of a token
abbrev pub sql_token_words : Token → List ℕ
sql_token_words t = sql_kind_words (found_kind (kind_of t))

-- the words of the first token at a place, and of the one before it, behind a token of these words;
-- empty where there is none
abbrev pub sql_around_from : ℕ → List ℕ → List Token → Around
sql_around_from place before [] = record { before = before; found = [] }
sql_around_from place before (t ∷ ts) =
    if place_of t == place then record { before = before; found = sql_token_words t }
    else sql_around_from place (sql_token_words t) ts

unfoldable pub sql_around : ℕ → List Token → Around
sql_around place tokens = sql_around_from place [] tokens

-- the name that a token is; empty where it is none
abbrev pub name_of : Token → List ℕ
name_of (Name p n) = n
name_of _ = []

-- the name that the first token at a place is
abbrev pub name_at : ℕ → List Token → List ℕ
name_at place [] = []
name_at place (t ∷ ts) = if place_of t == place then name_of t else name_at place ts
