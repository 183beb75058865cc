use Rattle.std.proofs.Common.{◌≡◌, ◌+◌, ◌++◌, drop, length}
use Rattle.nq_model.specs.Types.{field_types_of, fields_view}
use Rattle.nq_ir.specs.Parts.{slots_in}
use Rattle.stitcher.specs.Linked.{homes_fields}
use Rattle.natural_keys.proofs.homes.+homes.Given as goal

abbrev pub invariant-push_field_homes-loop-field : goal.invariant-push_field_homes-loop-field
invariant-push_field_homes-loop-field l = record {
  next : l.next + slots_in (field_types_of (fields_view (drop l.field-index l.fields)))
      ≡ l.slot + slots_in (field_types_of (fields_view l.fields));
  homes : l.all ++ homes_fields (field_types_of (fields_view (drop l.field-index l.fields))) l.path
      l.next (length l.all)
      ≡ l.initial.all ++ homes_fields (field_types_of (fields_view l.fields)) l.path l.slot
      (length l.initial.all);
}
