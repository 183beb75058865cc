use Rattle.std.proofs.Common.{◌≡◌, map, take}
use Rattle.reference_sql.specs.Dealing.{raise}
use Rattle.reference_sql.proofs.number.with_number.Given as goal

abbrev pub invariant-loop-number : goal.invariant-loop-number
invariant-loop-number l = l.more ≡ map (raise l.place) (take l.number-index l.numbers)
