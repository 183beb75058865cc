use Rattle.std.proofs.Common.{◌≡◌, map, take}
use Rattle.nq_ir.specs.Shredded.{shredded_tree}
use Rattle.natural_keys.specs.Layouts.{layout_of}
use Rattle.natural_keys.proofs.layouts.inner_layouts.Given as goal

abbrev pub invariant-loop-form : goal.invariant-loop-form
invariant-loop-form l = l.layouts ≡ map (λ form. layout_of l.schema.tables form.parts)
    (map shredded_tree (take l.form-index l.forms))
