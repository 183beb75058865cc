use Rattle.std.proofs.Common.{◌≡◌, map, take}
use Rattle.nq_ir.specs.Spots.{strand_tree}
use Rattle.sql_profile.specs.Trees.{select_tree}
use Rattle.natural_index.specs.Trees.{natural_select}
use Rattle.natural_index.proofs.select.selects_at.Given as goal

abbrev pub invariant-loop-part : goal.invariant-loop-part
invariant-loop-part l = map select_tree l.selects
    ≡ map (natural_select l.schema.tables l.outer l.inner)
    (map strand_tree (take l.part-index l.parts))
