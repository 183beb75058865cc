use Rattle.std.proofs.Common.{◌≡◌, ◌++◌, map}
use Rattle.nq_model.specs.Types.{type_tree}
use Rattle.serde_json.specs.View.{view}
use Rattle.query_json.proofs.TextFacts.{forms_from}
use Rattle.query_json.proofs.texts.texts_json.Given as goal

abbrev pub invariant-loop-at : goal.invariant-loop-at
invariant-loop-at l =
    map view l.items.items ++ forms_from (type_tree l.of) l.paths l.parents l.texts l.at ≡ forms_from (type_tree l.of) l.paths l.parents l.texts 0
