-- The text of a chain: its parentheses, its first part, and its links.
use Rattle.std.specs.Prelude.{ℕ, zero, suc, List, [], ◌∷◌, ◌++◌, codes}
use Rattle.nq_model.specs.declared.term.Binary.{Binary}
use Rattle.sql_profile.specs.declared.tree.Link.{Link}
use Rattle.sql_profile.specs.Printed.{between_operands, printed_expr}
use Rattle.sql_profile.specs.Trees.{expr_tree}

-- the parentheses that so many links open
abbrev pub openings : ℕ → List ℕ
openings zero = []
openings (suc links) = codes "(" ++ openings links

-- each link: the operator, its part, and its parenthesis
abbrev pub printed_links : Binary → List Link → List ℕ
printed_links op [] = []
printed_links op (link ∷ more) = between_operands op ++ ((printed_expr (expr_tree link.right) ++ codes ")") ++ printed_links op more)
