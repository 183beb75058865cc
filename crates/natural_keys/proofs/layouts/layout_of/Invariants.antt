use Rattle.std.proofs.Common.{◌≡◌, drop, map}
use Rattle.nq_ir.specs.Spots.{strand_tree}
use Rattle.natural_keys.specs.Layouts.{layout_of}
use Rattle.natural_keys.proofs.LayoutFacts.{joined}
use Rattle.natural_keys.proofs.layouts.layout_of.Given as goal

abbrev pub invariant-loop-part : goal.invariant-loop-part
invariant-loop-part l =
    joined l.layout (layout_of l.schema.tables (map strand_tree (drop l.part-index l.parts)))
    ≡ layout_of l.schema.tables (map strand_tree l.parts)
