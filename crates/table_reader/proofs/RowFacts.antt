-- The cells of a row, one after the other.
use Rattle.std.proofs.Common.{Result, Ok, List, ◌++◌}
use Rattle.nq_model.specs.declared.table.Cell.{Cell}
use Rattle.table_reader.specs.declared.TableFault.{TableFault}
use Rattle.table_reader.specs.Spelling.{and_then}

-- cells, and then those that follow, or the fault
abbrev pub cells_then : List Cell → Result (List Cell) TableFault → Result (List Cell) TableFault
cells_then cells v = and_then v (λ more. Ok (cells ++ more))
