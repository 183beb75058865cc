use Rattle.std.proofs.Common.{◌≡◌, ◌+◌, length}
use Rattle.row_keys.specs.FirstRows.{KeepsIndex}
use Rattle.table_reader.specs.Progress.{HasRows}
use Rattle.table_reader.proofs.read.read_table.Given as goal

abbrev pub invariant-loop-row : goal.invariant-loop-row
invariant-loop-row l = record {
  has : HasRows l.shape l.text l.reader l.rows;
  keeps : KeepsIndex l.shape l.rows l.index;
  number : l.row ≡ length l.rows + 1;
}
