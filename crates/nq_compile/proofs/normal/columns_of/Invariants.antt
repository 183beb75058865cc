use Rattle.std.proofs.Common.{◌≡◌, map, take}
use Rattle.nq_model.specs.Types.{type_tree}
use Rattle.shred_types.specs.Columns.{columns_at}
use Rattle.shred_types.specs.Under.{steps_of}
use Rattle.nq_compile.proofs.normal.columns_of.Given as goal

abbrev pub invariant-loop-path : goal.invariant-loop-path
invariant-loop-path l = l.all ≡ map (columns_at (type_tree l.of)) (steps_of (take l.path-index l.path-items))
