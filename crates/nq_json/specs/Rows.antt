-- The JSON form of rows, and its text.
use Rattle.std.specs.Prelude.{ℕ, List, map}
use Rattle.nq_model.specs.declared.table.Cell.{Cell}
use Rattle.serde_json.specs.Data.{Data, array}
use Rattle.serde_json.specs.View.{items_of}
use Rattle.nq_json.specs.Json.{cell_json, json_line}

-- a row is an array of its cells
abbrev pub row_json : List Cell → Data
row_json row = array (items_of (map cell_json row))

-- rows are an array of these, in their order
abbrev pub rows_json : List (List Cell) → Data
rows_json rows = array (items_of (map row_json rows))

unfoldable pub json_rows_text : List (List Cell) → List ℕ
json_rows_text rows = json_line (rows_json rows)
