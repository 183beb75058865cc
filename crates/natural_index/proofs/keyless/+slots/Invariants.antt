use Rattle.std.proofs.Common.{◌≡◌, drop, nat_eq}
use Rattle.nq_model.specs.Types.{field_types_of, fields_view}
use Rattle.nq_ir.specs.Parts.{slots_in}
use Rattle.natural_index.proofs.keyless.+slots.Given as goal

abbrev pub invariant-fields_hold_none-loop-field : goal.invariant-fields_hold_none-loop-field
invariant-fields_hold_none-loop-field l = nat_eq (slots_in
    (field_types_of (fields_view (drop l.field-index l.fields)))) 0
    ≡ nat_eq (slots_in (field_types_of (fields_view l.fields))) 0
