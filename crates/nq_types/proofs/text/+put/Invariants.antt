use Rattle.std.proofs.Common.{◌≡◌, ◌++◌, string_bytes, take}
use Rattle.nq_model.specs.Types.{field_types_of, fields_view}
use Rattle.nq_model.specs.TypeTexts.{written_types}
use Rattle.nq_types.proofs.text.+put.Given as goal

abbrev pub invariant-put_record-loop-i : goal.invariant-put_record-loop-i
invariant-put_record-loop-i l =
    string_bytes l.text ≡ string_bytes l.initial.text ++ written_types (field_types_of (fields_view (take l.i l.fields)))
