use Rattle.std.proofs.Common.{◌≡◌, ◌++◌, ◌+◌, drop}
use Rattle.traced_meaning.specs.NumberedTables.{numbered_from, numbered_rows}
use Rattle.lineage_compile.proofs.numbers.numbered_rows.Given as goal

abbrev pub invariant-loop-row : goal.invariant-loop-row
invariant-loop-row l =
    l.made ++ numbered_from (l.row + 1) (drop l.row l.rows) ≡ numbered_rows l.rows
