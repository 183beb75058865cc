-- The names in the text of a let form.
--
-- A dot stands in the names of WITH queries and of their columns, and in no name of a table.
use Rattle.std.specs.Prelude.{ℕ, zero, suc, ◌+◌, [], ◌∷◌, ◌++◌, map}
use Rattle.std.specs.Int.Digits.{digits_of}
use Rattle.nq_model.specs.NamedRows.{Label}

-- a number in decimal
abbrev pub number_text : ℕ → Label
number_text zero = 48 ∷ []
number_text (suc k) = map (λ d. 48 + d) (digits_of 10 (suc k))

-- q.k, the WITH query of the let with the number k, from 1
unfoldable pub with_name : ℕ → Label
with_name k = 113 ∷ 46 ∷ number_text k

-- z, where a WITH query is a source
unfoldable pub let_alias : Label
let_alias = 122 ∷ []

-- xk, the source of the generator k
unfoldable pub alias : ℕ → Label
alias k = 120 ∷ number_text k

-- xk.c, the column c of the generator k in a WITH query
unfoldable pub outer_column : ℕ → Label → Label
outer_column k c = 120 ∷ (number_text k ++ 46 ∷ c)

-- n, the number of a row of a WITH query
unfoldable pub number_name : Label
number_name = 110 ∷ []

-- the column of an answer with this place, from 0: ot, on, c1, c2 and so on
unfoldable pub answer_name : ℕ → Label
answer_name zero = 111 ∷ 116 ∷ []
answer_name (suc zero) = 111 ∷ 110 ∷ []
answer_name (suc (suc k)) = 99 ∷ number_text (suc k)

-- the only column in an emptiness test
unfoldable pub one_name : Label
one_name = 111 ∷ 110 ∷ 101 ∷ []
