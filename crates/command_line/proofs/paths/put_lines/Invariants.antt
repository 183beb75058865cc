use Rattle.std.proofs.Common.{◌≡◌, ◌++◌, drop}
use Rattle.nq_model.specs.Types.{type_tree}
use Rattle.shred_types.specs.Under.{steps_of}
use Rattle.command_line.specs.Paths.{path_lines}
use Rattle.command_line.proofs.paths.put_lines.Given as goal

abbrev pub invariant-loop-at : goal.invariant-loop-at
invariant-loop-at l =
    l.text ++ path_lines (type_tree l.of) (steps_of (drop l.at l.paths)) ≡ l.initial.text ++ path_lines (type_tree l.of) (steps_of l.paths)
