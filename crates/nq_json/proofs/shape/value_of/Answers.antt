use Rattle.std.proofs.lemmas.Result.{IfErr-weaker, IfOk-weaker}
use Rattle.nq_model.specs.Types.{type_tree}
use Rattle.serde_json.specs.View.{view}
use Rattle.nq_model.specs.Values.{nested}
use Rattle.nq_json.specs.Shapes.{faults, FaultSays}
use Rattle.nq_json.specs.Reading.{Reads}
use Rattle.nq_json.proofs.FormFacts.{none_said, only_value}
use Rattle.nq_json.proofs.shape.value_of.Goals as goal

pub returns-clause-none : goal.returns-clause-none
returns-clause-none c =
    let of = type_tree c.args.of.now in
    let d = view c.args.json.now in
    IfErr-weaker c.read.result (FaultSays (faults of 1 d)) _ (none_said of 1 d) c.read.ensures.fault

pub returns-clause-only : goal.returns-clause-only
returns-clause-only c =
    let of = type_tree c.args.of.now in
    let d = view c.args.json.now in
    IfOk-weaker c.read.result (λ value. Reads of 1 d c.read.new.node (nested value)) _ (λ value read ordered v is. only_value of d v (nested value) ordered is read.value) c.read.ensures.ok
