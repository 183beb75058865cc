use Rattle.std.proofs.Common.{◌≡◌, take}
use Rattle.nq_model.specs.NamedRows.{named}
use Rattle.nq_model.specs.Tables.{names_of}
use Rattle.reference_forms.proofs.named.named.Given as goal

abbrev pub invariant-loop-at : goal.invariant-loop-at
invariant-loop-at l = l.all ≡ named (names_of l.columns) (take l.at l.rows)
