use Rattle.std.proofs.Common.{◌≡◌, take}
use Rattle.nq_ir.specs.Trees.{shapes_view}
use Rattle.nq_ir.proofs.shredded.+copy.Given as goal

abbrev pub invariant-copy_shapes-loop-field : goal.invariant-copy_shapes-loop-field
invariant-copy_shapes-loop-field l = shapes_view l.copies ≡ shapes_view (take l.field-index l.fields)
