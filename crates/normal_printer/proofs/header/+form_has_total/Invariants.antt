use Rattle.std.proofs.Common.{◌≡◌, drop, map}
use Rattle.std.specs.List.{list_any}
use Rattle.nq_ir.specs.Printed.{has_total, have_total, named_fields}
use Rattle.nq_ir.specs.Trees.{bodies_of, body_tree}
use Rattle.normal_printer.specs.Parts.{whole_term}
use Rattle.normal_printer.proofs.header.+form_has_total.Given as goal

abbrev pub invariant-comps_have_total-loop-comp : goal.invariant-comps_have_total-loop-comp
invariant-comps_have_total-loop-comp l =
    list_any (λ c. has_total (whole_term c)) (drop l.comp-index l.comps) ≡ list_any (λ c. has_total (whole_term c)) l.comps

abbrev pub invariant-fields_have_total-loop-field : goal.invariant-fields_have_total-loop-field
invariant-fields_have_total-loop-field l =
    have_total (named_fields (bodies_of (map (λ f. (f.0, body_tree f.1)) (drop l.field-index l.fields))))
    ≡ have_total (named_fields (bodies_of (map (λ f. (f.0, body_tree f.1)) l.fields)))
