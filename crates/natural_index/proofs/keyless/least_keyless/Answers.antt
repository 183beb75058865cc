use Rattle.std.proofs.Common.{◌∙◌, sym, option_copied}
use Rattle.natural_index.proofs.Least.{form_more, form_passed}
use Rattle.natural_index.proofs.keyless.least_keyless.Goals as goal
use Rattle.natural_index.proofs.keyless.least_keyless.Goals.{then-not-holds_none, else-not-holds_none}

pub loop-form-preserved : goal.loop-form-preserved
loop-form-preserved c = elim c.if-not-holds_none.branch [
  | then-not-holds_none w ↦
      form_more c.args.schema.now.tables c.args.forms.now c.loop-form.form-index c.form-item.result
      (option_copied c.loop-form.found) (option_copied c.if-not-holds_none.found)
      c.loop-form-test.true c.form-item.is w.as_slice.result.now
      (sym c.holds_none.ensures ∙ w.if-not-holds_none.true) w.as_slice.ensures
      ((λ t. option_copied (w.found-is t)) ∙ w.least_of_parts-found.ensures)
      ∙ c.loop-form.invariant
  | else-not-holds_none w ↦
      form_passed c.args.schema.now.tables c.args.forms.now c.loop-form.form-index
      c.form-item.result (option_copied c.loop-form.found)
      (option_copied c.if-not-holds_none.found) c.loop-form-test.true c.form-item.is
      (sym c.holds_none.ensures ∙ w.if-not-holds_none.false) (λ t. option_copied (w.found-is t))
      ∙ c.loop-form.invariant
]
