-- Cells that are lent from JSON values.
use Rattle.std.specs.Prelude.{◌≡◌, Option, Some, None, MatchOption}
use Rattle.nq_model.specs.CellRefs.{cell_seen}
use Rattle.nq_model.specs.Cells.{column_type_of}
use Rattle.nq_model.specs.SchemaTables.{IsSound}
use Rattle.nq_model.specs.declared.cell_ref.CellRef.{CellRef}
use Rattle.nq_model.specs.declared.table.Cell.{Cell}
use Rattle.nq_model.specs.declared.table.ColumnType.{ColumnType}

-- what was found is this cell, which is of the type and sound, or nothing
abbrev pub Gives : Option Cell → ColumnType → Option CellRef → Type 0
Gives found type result =
    MatchOption result (found ≡ None) (λ one. (found ≡ Some (cell_seen one)) × (column_type_of (cell_seen one) ≡ type) × IsSound (cell_seen one))
