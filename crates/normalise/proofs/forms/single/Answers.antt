use Rattle.std.proofs.Common.{ap, ◌∙◌, List}
use Rattle.std.proofs.lemmas.Result.{IfOk-weaker}
use Rattle.nq_model.specs.NamedRows.{Label}
use Rattle.nq_ir.specs.RawForms.{no_raw, no_raw_comp, raw_bag, raw_comp}
use Rattle.normalise.specs.Raw.{moved_body}
use Rattle.normalise.proofs.forms.single.Goals as goal

pub returns : goal.returns
returns c =
    IfOk-weaker c.bag.result _ _ (λ b e. e ∙ ap raw_bag (c.in_ok-comps.ensures ∙ ap (λ (l : List Label). raw_comp l no_raw (moved_body c.args.of) no_raw_comp) c.new.ensures)) c.bag.ensures
