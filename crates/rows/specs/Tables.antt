-- The rows that tables hold.
use Rattle.std.specs.Prelude.{List, map}
use Rattle.nq_model.specs.declared.table.Cell.{Cell}
use Rattle.rows.specs.declared.table.Table.{Table}

-- the rows of each table
abbrev pub rows_of : List Table → List (List (List Cell))
rows_of tables = map (λ table. table.rows) tables
