use Rattle.std.proofs.Common.{◌≡◌, drop, length}
use Rattle.nq_model.specs.Types.{field_types_of, field_types_eq, fields_view}
use Rattle.nq_model.proofs.ty.+same.Given as goal

abbrev pub invariant-same_fields-loop-i : goal.invariant-same_fields-loop-i
invariant-same_fields-loop-i l =
    (length l.left ≡ length l.right)
    × (field_types_eq (field_types_of (fields_view (drop l.i l.left))) (field_types_of (fields_view (drop l.i l.right))) ≡ field_types_eq (field_types_of (fields_view l.left)) (field_types_of (fields_view l.right)))
