-- What a lent cell shows, and what it feeds a hasher.
use Rattle.std.specs.Prelude.{◌++◌}
use Rattle.std.specs.Hash as fed
use Rattle.nq_model.specs.declared.table.Cell.{Cell}
use Rattle.nq_model.specs.declared.table.Cell.TheVariants as cell
use Rattle.nq_model.specs.declared.cell_ref.CellRef.{CellRef}
use Rattle.nq_model.specs.declared.cell_ref.CellRef.TheVariants as seen

abbrev pub cell_seen : CellRef → Cell
cell_seen (seen.Int n) = cell.Int n
cell_seen (seen.Bool b) = cell.Bool b
cell_seen (seen.Text t) = cell.Text t.now

-- the place of a cell's kind, and then its value
abbrev pub cell_fed : Cell → fed.HashWrites
cell_fed (cell.Bool b) = fed.u8 0 ++ fed.bool b
cell_fed (cell.Int n) = fed.u8 1 ++ fed.i64 n
cell_fed (cell.Text t) = fed.u8 2 ++ fed.str t
