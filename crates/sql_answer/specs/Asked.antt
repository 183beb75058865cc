-- Texts as servers are asked them.
use Rattle.std.specs.Prelude.{ℕ, List, length}
use Rattle.sql_profile.specs.Texts.{Spells}
use Rattle.sql_profile.specs.Tokens.{First}
use Rattle.sql_profile.specs.Trees.{PlacedSql}

-- the text spells a tree, at a depth of its own bytes
abbrev pub IsSpelled : List ℕ → Type 0
IsSpelled text = (tree : PlacedSql) × Spells First (length text) text tree
