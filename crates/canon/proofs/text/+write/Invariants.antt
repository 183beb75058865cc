use Rattle.std.proofs.Common.{◌≡◌, ◌++◌, string_bytes, map, take}
use Rattle.nq_model.specs.Values.{nested, fields_of, elements_of, fields_view}
use Rattle.nq_model.specs.Canonical.{written_fields, written_elements}
use Rattle.canon.proofs.text.+write.Given as goal

abbrev pub invariant-write_record-loop-i : goal.invariant-write_record-loop-i
invariant-write_record-loop-i l =
    string_bytes l.text ≡ string_bytes l.initial.text ++ written_fields
    (fields_of (fields_view (take l.i l.fields)))

abbrev pub invariant-write_bag-loop-i : goal.invariant-write_bag-loop-i
invariant-write_bag-loop-i l =
    string_bytes l.text ≡ string_bytes l.initial.text ++ written_elements
    (elements_of (map nested (take l.i l.elements)))
