-- The SQL texts of a normal form: one for each path of its type, in path order.
use Rattle.std.specs.Prelude.{◌≡◌, ℕ, List, length, map}
use Rattle.nq_model.specs.Types.{bag}
use Rattle.nq_model.specs.declared.table.Schema.{Schema}
use Rattle.nq_ir.specs.Lets.{insert_lets}
use Rattle.nq_ir.specs.Paths.{paths}
use Rattle.nq_ir.specs.Shredded.{ShreddedTree, shredded}
use Rattle.nq_ir.specs.Trees.{FormTree}
use Rattle.sql_profile.specs.Printed.{printed}
use Rattle.sql_profile.specs.Texts.{Spells}
use Rattle.sql_profile.specs.Tokens.{First}
use Rattle.sql_profile.specs.Trees.{PlacedSql, SqlTree, bare}
use Rattle.flatten.specs.Emitted.{flattened}

-- the tree of the let form of a shredded form
abbrev pub tree_of : Schema → ShreddedTree → SqlTree
tree_of schema s = flattened schema (insert_lets s)

-- that tree printed
abbrev pub text_of : Schema → ShreddedTree → List ℕ
text_of schema s = printed (tree_of schema s)

-- the texts at the paths of a form
abbrev pub texts_of : Schema → FormTree → List (List ℕ)
texts_of schema form = map (text_of schema) (map (shredded form) (paths (bag form.element)))

-- the text of a shredded form spells its tree, at a depth of its own bytes
abbrev pub SpellsItself : Schema → ShreddedTree → Type 0
SpellsItself schema s = (tree : PlacedSql) × Spells First (length (text_of schema s)) (text_of schema s) tree × (bare tree ≡ tree_of schema s)
