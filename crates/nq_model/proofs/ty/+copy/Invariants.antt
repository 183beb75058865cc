use Rattle.std.proofs.Common.{◌≡◌, take}
use Rattle.nq_model.specs.Types.{fields_view}
use Rattle.nq_model.proofs.ty.+copy.Given as goal

abbrev pub invariant-copy_fields-loop-field : goal.invariant-copy_fields-loop-field
invariant-copy_fields-loop-field l = fields_view l.copies ≡ fields_view (take l.field-index l.fields)
