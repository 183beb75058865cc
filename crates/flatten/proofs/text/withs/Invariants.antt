use Rattle.std.proofs.Common.{◌≡◌, ◌++◌, ◌+◌, map, drop}
use Rattle.nq_ir.specs.Lets.{let_tree}
use Rattle.nq_ir.specs.WellFormed.{column_names}
use Rattle.sql_profile.specs.Trees.{with_tree}
use Rattle.flatten.specs.Emitted.{withs_from}
use Rattle.flatten.proofs.text.withs.Given as goal

abbrev pub invariant-loop-index : goal.invariant-loop-index
invariant-loop-index l =
    map with_tree l.withs ++ withs_from (column_names l.schema.tables) (l.index + 1) (map let_tree (drop l.index l.lets)) ≡ withs_from (column_names l.schema.tables) 1 (map let_tree l.lets)
