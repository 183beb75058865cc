use Rattle.std.proofs.Common.{ap, ◌∙◌, Some}
use Rattle.nq_model.specs.Values.{nested}
use Rattle.serde_json.specs.Written.{has_float}
use Rattle.nq_json.specs.Json.{json_line, json_text}
use Rattle.nq_json.proofs.Forms.{no_float}
use Rattle.nq_json.proofs.form.write_json.Goals as goal

pub write_line-requires : goal.write_line-requires
write_line-requires c = ap has_float c.in_ok-form.ensures ∙ no_float (nested c.args.value.now)

pub returns-clause-text : goal.returns-clause-text
unfolding json_text
returns-clause-text c = c.in_ok-text.ensures.text ∙ ap json_line c.in_ok-form.ensures

pub returns-clause-reads_back : goal.returns-clause-reads_back
returns-clause-reads_back c = λ shallow.
    let is = c.in_ok-form.ensures in
    c.in_ok-text.ensures.reads_back (rw is shallow) ∙ ap Some is
