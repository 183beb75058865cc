-- The text of a chain of operations, one part behind the other.
use Rattle.std.specs.Prelude.{ℕ, zero, suc, ◌+◌, List, [], ◌∷◌, ◌++◌, Bool, true, false, nat_le, codes}
use Rattle.nq_model.specs.declared.term.Binary.{Binary}
use Rattle.nq_ir.specs.declared.base.Base.{Base}
use Rattle.nq_ir.specs.Trees.{base_tree}
use Rattle.nq_ir.specs.Printed.{NamedTerm, left_level, level_of, named_base, text_of, word_of}
use Rattle.normal_printer.specs.Parts.{lead, text_at}

-- whether an operation stands without parentheses on the left of another of its kind: comparisons do not
abbrev pub is_bare : Binary → Bool
is_bare op = nat_le (left_level op) (level_of op)

abbrev pub opening : Bool → List ℕ
opening true = []
opening false = codes "("

abbrev pub closing : Bool → List ℕ
closing true = []
closing false = codes ")"

-- what opens before so many operations
abbrev pub openings : Bool → ℕ → List ℕ
openings bare zero = []
openings bare (suc inner) = opening bare ++ openings bare inner

-- the first part of a chain that so many parts follow, and what opens before it
abbrev pub chain_start : Binary → ℕ → NamedTerm → List ℕ
chain_start op zero s = text_of s
chain_start op (suc inner) s = openings (is_bare op) inner ++ text_at (left_level op) s

-- the parts behind it, from a place on: before each but the first of them what was opened is closed
abbrev pub chain_rest : Binary → ℕ → List Base → List ℕ
chain_rest op place [] = []
chain_rest op place (b ∷ more) =
    lead place (word_of op) (closing (is_bare op) ++ word_of op) ++ (text_at (suc (level_of op)) (named_base (base_tree b)) ++ chain_rest op (place + 1) more)
