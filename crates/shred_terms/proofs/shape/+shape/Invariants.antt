use Rattle.std.proofs.Common.{◌≡◌, take}
use Rattle.nq_ir.specs.Trees.{shapes_view}
use Rattle.shred_terms.specs.Placed.{field_shapes}
use Rattle.shred_terms.proofs.shape.+shape.Given as goal

abbrev pub invariant-shapes_of-loop-field : goal.invariant-shapes_of-loop-field
invariant-shapes_of-loop-field l = shapes_view l.shapes ≡ field_shapes (take l.field-index l.fields)
