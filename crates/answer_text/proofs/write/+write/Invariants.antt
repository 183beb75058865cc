use Rattle.std.proofs.Common.{◌≡◌, ◌++◌, string_bytes, map, take}
use Rattle.nq_model.specs.Values.{elements_of}
use Rattle.nq_model.specs.Canonical.{written_fields, written_elements}
use Rattle.rows.specs.Places.{row_at, rows_at}
use Rattle.answer_text.specs.Parts.{value_in, fields_in}
use Rattle.answer_text.proofs.write.+write.Given as goal

abbrev pub invariant-write_fields-loop-i : goal.invariant-write_fields-loop-i
invariant-write_fields-loop-i l =
    string_bytes l.text ≡ string_bytes l.initial.text ++ written_fields
    (fields_in (take l.i l.fields) (row_at l.rows l.row))

abbrev pub invariant-write_bag-loop-i : goal.invariant-write_bag-loop-i
invariant-write_bag-loop-i l =
    string_bytes l.text ≡ string_bytes l.initial.text ++ written_elements
    (elements_of (map (value_in l.element) (rows_at l.rows (take l.i l.places))))
