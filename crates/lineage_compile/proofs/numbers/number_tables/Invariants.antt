use Rattle.std.proofs.Common.{◌≡◌, map, take}
use Rattle.lineage_compile.specs.Tables.{HaveFewRows, numbered_table}
use Rattle.lineage_compile.proofs.numbers.number_tables.Given as goal

abbrev pub invariant-loop-table : goal.invariant-loop-table
invariant-loop-table l =
    (l.made ≡ map numbered_table (take l.table-index l.tables))
    × HaveFewRows (take l.table-index l.tables)
