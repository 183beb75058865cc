use Rattle.std.proofs.Common.{◌≡◌, take}
use Rattle.lineage_compile.proofs.numbers.numbered_columns.Given as goal

abbrev pub invariant-loop-column : goal.invariant-loop-column
invariant-loop-column l = l.made ≡ take l.column-index l.columns
