use Rattle.std.proofs.Common.{◌≡◌, drop}
use Rattle.nq_model.specs.Types.{field_types_of, fields_view}
use Rattle.nq_ir.specs.Paths.{element_in}
use Rattle.shred_types.specs.Bags.{has_bag_in}
use Rattle.shred_types.proofs.columns.+element.Given as goal

abbrev pub invariant-element_in-loop-field : goal.invariant-element_in-loop-field
invariant-element_in-loop-field l = record {
  found :
      has_bag_in (field_types_of (fields_view (drop l.field-index l.fields))) l.label l.steps
      ≡ has_bag_in (field_types_of (fields_view l.fields)) l.label l.steps;
  is :
      element_in (field_types_of (fields_view (drop l.field-index l.fields))) l.label l.steps
      ≡ element_in (field_types_of (fields_view l.fields)) l.label l.steps;
}
