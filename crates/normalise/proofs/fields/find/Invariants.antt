use Rattle.std.proofs.Common.{◌≡◌, drop}
use Rattle.nq_ir.specs.RawForms.{raw_field_among}
use Rattle.normalise.specs.Raw.{raw_fields_of}
use Rattle.normalise.proofs.fields.find.Given as goal

abbrev pub invariant-loop-i : goal.invariant-loop-i
invariant-loop-i l =
    raw_field_among l.label (raw_fields_of (drop l.i l.fields)) ≡ raw_field_among l.label (raw_fields_of l.fields)
