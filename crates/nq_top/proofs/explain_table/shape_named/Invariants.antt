use Rattle.std.proofs.Common.{◌≡◌, drop}
use Rattle.nq_model.specs.Typing.{shape_named}
use Rattle.nq_top.proofs.explain_table.shape_named.Given as goal

abbrev pub invariant-loop-shape : goal.invariant-loop-shape
invariant-loop-shape l = shape_named l.name (drop l.shape-index l.schema.tables)
    ≡ shape_named l.name l.schema.tables
