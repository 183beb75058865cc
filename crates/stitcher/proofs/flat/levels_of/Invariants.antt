use Rattle.std.proofs.Common.{◌≡◌, map, take}
use Rattle.nq_model.specs.Types.{type_tree}
use Rattle.stitcher.specs.FlatNumbers.{level_of}
use Rattle.stitcher.proofs.flat.levels_of.Given as goal

abbrev pub invariant-loop-element : goal.invariant-loop-element
invariant-loop-element l = l.levels ≡ map level_of (map type_tree (take l.element-index l.elements))
