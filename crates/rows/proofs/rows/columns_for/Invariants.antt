use Rattle.std.proofs.Common.{◌≡◌, [], map, take}
use Rattle.rows.proofs.rows.columns_for.Given as goal

abbrev pub invariant-loop : goal.invariant-loop
invariant-loop l = l.columns.items ≡ map (λ _. []) (take l.index l.row)
