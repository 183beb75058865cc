use Rattle.std.proofs.Common.{◌≡◌, ◌++◌, string_bytes, map, take}
use Rattle.std.specs.List.{join_with_byte}
use Rattle.nq_model.specs.Canonical.{cell_text}
use Rattle.rows.specs.Places.{row_at}
use Rattle.canon.proofs.row_lines.write_line.Given as goal

abbrev pub invariant-loop-column : goal.invariant-loop-column
invariant-loop-column l =
    string_bytes l.text ≡ string_bytes l.initial.text ++ join_with_byte 124
    (map cell_text (take l.column (row_at l.rows l.row)))
