use Rattle.std.proofs.Common.{◌≡◌, ◌++◌, ◌+◌, drop}
use Rattle.nq_model.specs.Types.{type_tree}
use Rattle.shred_types.specs.Under.{steps_of}
use Rattle.database_scripts.specs.Asks.{asked_texts}
use Rattle.database_scripts.proofs.ask.put_texts.Given as goal

abbrev pub invariant-loop-at : goal.invariant-loop-at
invariant-loop-at l =
    l.script ++ asked_texts l.database l.folder (type_tree l.of) (l.at + 1) (steps_of (drop l.at l.paths)) (drop l.at l.texts) ≡ l.initial.script ++ asked_texts l.database l.folder (type_tree l.of) 1 (steps_of l.paths) l.texts
