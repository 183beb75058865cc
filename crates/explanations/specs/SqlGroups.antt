-- Groups of kinds of tokens of SQL texts that have one name.
use Rattle.std.specs.Prelude.{ℕ, List, [], ◌∷◌, map, codes}
use Rattle.explanations.specs.Groups.{Group, alone}

-- what stands between operators begins with these
abbrev pub sql_operands : List (List ℕ)
sql_operands =
    codes "CASE" ∷ codes "TRUE" ∷ codes "FALSE" ∷ codes "0" ∷ codes "a number" ∷
    codes "a text in single quotes" ∷ codes "a name in double quotes" ∷ codes "-" ∷
    codes "(" ∷ []

abbrev pub sql_operators : List (List ℕ)
sql_operators =
    codes "AND" ∷ codes "OR" ∷ codes "=" ∷ codes "<>" ∷ codes "<" ∷ codes "<=" ∷
    codes ">" ∷ codes ">=" ∷ codes "+" ∷ codes "-" ∷ codes "*" ∷ []

-- each kind by itself
abbrev pub sql_alone : List (List ℕ)
sql_alone =
    codes "WITH" ∷ codes "AS" ∷ codes "UNION" ∷ codes "ALL" ∷ codes "SELECT" ∷
    codes "FROM" ∷ codes "WHERE" ∷ codes "ROW_NUMBER" ∷ codes "OVER" ∷ codes "ORDER" ∷
    codes "BY" ∷ codes "NOT" ∷ codes "EXISTS" ∷ codes "CASE" ∷ codes "WHEN" ∷
    codes "THEN" ∷ codes "ELSE" ∷ codes "END" ∷ codes "COUNT" ∷ codes "SUM" ∷
    codes "COALESCE" ∷ codes "TRUE" ∷ codes "FALSE" ∷ codes "0" ∷ codes "a number" ∷
    codes "a text in single quotes" ∷ codes "a name in double quotes" ∷ codes "AND" ∷
    codes "OR" ∷ codes "=" ∷ codes "<>" ∷ codes "<" ∷ codes "<=" ∷ codes ">" ∷
    codes ">=" ∷ codes "+" ∷ codes "-" ∷ codes "*" ∷ codes "(" ∷ codes ")" ∷
    codes "a comma" ∷ codes "a dot" ∷ codes "a semicolon" ∷ codes "the end of the text" ∷
    []

-- Larger groups come before those within them; the kinds by themselves come last.
abbrev pub sql_groups : List Group
sql_groups =
    (codes "an expression", codes "NOT" ∷ sql_operands)
    ∷ (codes "an operand", sql_operands)
    ∷ (codes "an operator", sql_operators)
    ∷ (codes "a number", codes "0" ∷ codes "a number" ∷ [])
    ∷ map alone sql_alone
