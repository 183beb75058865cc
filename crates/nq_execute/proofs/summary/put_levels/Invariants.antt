use Rattle.std.proofs.Common.{◌≡◌, ◌++◌, ◌+◌, drop, string_bytes}
use Rattle.nq_model.specs.Values.{nested}
use Rattle.shred_types.specs.Under.{steps_of}
use Rattle.nq_execute.specs.Summaries.{level_lines}
use Rattle.nq_execute.proofs.summary.put_levels.Given as goal

abbrev pub invariant-loop-at : goal.invariant-loop-at
invariant-loop-at l =
    string_bytes l.text ++ level_lines (l.at + 1) (steps_of (drop l.at l.paths)) (nested l.value)
    ≡ string_bytes l.initial.text ++ level_lines 1 (steps_of l.paths) (nested l.value)
