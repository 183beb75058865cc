use Rattle.std.proofs.Common.{◌≡◌, ◌++◌, drop}
use Rattle.nq_model.specs.Types.{field_types_of, fields_view}
use Rattle.nq_ir.specs.Paths.{paths_in}
use Rattle.shred_types.specs.Under.{steps_of, under}
use Rattle.shred_types.proofs.walk.+paths.Given as goal

abbrev pub invariant-push_field_paths-loop-field : goal.invariant-push_field_paths-loop-field
invariant-push_field_paths-loop-field l =
    steps_of l.all ++ under l.steps (paths_in (field_types_of (fields_view (drop l.field-index l.fields))))
    ≡ steps_of l.initial.all ++ under l.steps (paths_in (field_types_of (fields_view l.fields)))
