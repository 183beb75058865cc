use Rattle.std.proofs.Common.{◌∙◌, ap, sym, length}
use Rattle.std.proofs.lemmas.List.{length-map}
use Rattle.nq_model.specs.Types.{type_tree}
use Rattle.query_json.proofs.ParentFacts.{parents_long}
use Rattle.query_json.proofs.texts.query_json.Goals as goal

pub texts_json-requires-clause-paths : goal.texts_json-requires-clause-paths
texts_json-requires-clause-paths c =
    ap length c.as_slice.ensures ∙ sym (length-map c.in_ok-all.all (λ p. p.steps)) ∙ ap length c.in_ok-all.ensures ∙ sym c.requires.counted

pub texts_json-requires-clause-parents : goal.texts_json-requires-clause-parents
texts_json-requires-clause-parents c =
    let type = type_tree c.args.of.now in
    ap length c.as_slice-2.ensures ∙ ap length c.in_ok-around.ensures ∙ parents_long type c.requires.bag
    ∙ sym (c.path_laws.ensures.counted type) ∙ sym c.requires.counted
