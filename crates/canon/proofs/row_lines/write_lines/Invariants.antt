use Rattle.std.proofs.Common.{◌≡◌, ◌++◌, string_bytes, drop}
use Rattle.std.specs.List.{flat_map}
use Rattle.rows.specs.Places.{rows_at}
use Rattle.canon.specs.RowTexts.{row_line}
use Rattle.canon.proofs.row_lines.write_lines.Given as goal

abbrev pub invariant-loop-place : goal.invariant-loop-place
invariant-loop-place l =
    string_bytes l.text ++ flat_map row_line (rows_at l.rows (drop l.place-index l.places))
    ≡ string_bytes l.initial.text ++ flat_map row_line (rows_at l.rows l.places)
