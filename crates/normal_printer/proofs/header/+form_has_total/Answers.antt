use Rattle.std.proofs.Common.{List, sym, ap, ◌∙◌}
use Rattle.std.specs.List.{list_any}
use Rattle.nq_ir.specs.declared.normal.Comp.{Comp}
use Rattle.nq_ir.specs.Printed.{has_total}
use Rattle.normal_printer.specs.Parts.{whole_term}
use Rattle.normal_printer.proofs.Headers.{form_total}
use Rattle.normal_printer.proofs.header.+form_has_total.Goals as goal

pub form_has_total-returns : goal.form_has_total-returns
form_has_total-returns t c =
    c.comps_have_total.ensures ∙ ap (λ (cs : List Comp). list_any (λ x. has_total (whole_term x)) cs) c.as_slice.ensures ∙ sym (form_total c.args.normal.now)
