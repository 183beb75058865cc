use Rattle.std.proofs.Common.{◌≡◌, map, take}
use Rattle.nq_ir.specs.Lets.{let_tree, part_tree}
use Rattle.nq_ir.specs.WellFormed.{column_names}
use Rattle.sql_profile.specs.Trees.{select_tree}
use Rattle.flatten.specs.Views.{part_strand_select}
use Rattle.flatten.proofs.text.part_selects.Given as goal

abbrev pub invariant-loop-part : goal.invariant-loop-part
invariant-loop-part l =
    map select_tree l.selects ≡ map (part_strand_select (column_names l.schema.tables) (map let_tree l.lets)) (map part_tree (take l.part-index l.parts))
