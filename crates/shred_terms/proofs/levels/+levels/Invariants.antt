use Rattle.std.proofs.Common.{◌≡◌, ◌+◌, ◌++◌, drop, map}
use Rattle.nq_model.specs.Types.{field_types_of, fields_view}
use Rattle.nq_ir.specs.Parts.{slots_in}
use Rattle.shred_terms.specs.Levels.{levels_view, node_fields, node_view}
use Rattle.shred_terms.proofs.levels.+levels.Given as goal

abbrev pub invariant-push_field_levels-loop-field : goal.invariant-push_field_levels-loop-field
invariant-push_field_levels-loop-field l =
    (levels_view l.levels.items ++ node_fields (field_types_of (fields_view (drop l.field-index l.fields))) l.slot (map node_view l.here)
    ≡ levels_view l.initial.levels.items ++ node_fields (field_types_of (fields_view l.fields)) l.initial.slot (map node_view l.here))
    × (l.slot + slots_in (field_types_of (fields_view (drop l.field-index l.fields)))
    ≡ l.initial.slot + slots_in (field_types_of (fields_view l.fields)))
