use Rattle.std.proofs.Common.{ap, ◌∙◌, Some}
use Rattle.nq_model.specs.Types.{type_tree}
use Rattle.serde_json.specs.Written.{has_float}
use Rattle.nq_json.specs.Json.{json_line}
use Rattle.query_json.specs.QueryForms.{query_json_text}
use Rattle.query_json.proofs.Floats.{query_whole}
use Rattle.query_json.proofs.texts.write_query_json.Goals as goal

pub write_line-requires : goal.write_line-requires
write_line-requires c = ap has_float c.in_ok-form.ensures ∙ query_whole (type_tree c.args.of.now) c.args.texts.now

pub returns-clause-text : goal.returns-clause-text
unfolding query_json_text
returns-clause-text c = c.in_ok-text.ensures.text ∙ ap json_line c.in_ok-form.ensures

pub returns-clause-reads_back : goal.returns-clause-reads_back
returns-clause-reads_back c = λ shallow.
    let is = c.in_ok-form.ensures in
    c.in_ok-text.ensures.reads_back (rw is shallow) ∙ ap Some is
