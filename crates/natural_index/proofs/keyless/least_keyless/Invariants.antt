use Rattle.std.proofs.Common.{◌≡◌, drop, flat_map, map, option_copied}
use Rattle.nq_ir.specs.Shredded.{shredded_tree}
use Rattle.natural_index.specs.Naming.{keyless, least, lesser_of, naming_at}
use Rattle.natural_index.proofs.keyless.least_keyless.Given as goal

abbrev pub invariant-loop-form : goal.invariant-loop-form
invariant-loop-form l =
    lesser_of (option_copied l.found)
    (least (keyless l.schema.tables (flat_map (λ form. naming_at form.element form.parts)
    (map shredded_tree (drop l.form-index l.forms)))))
    ≡ least (keyless l.schema.tables (flat_map (λ form. naming_at form.element form.parts)
    (map shredded_tree l.forms)))
