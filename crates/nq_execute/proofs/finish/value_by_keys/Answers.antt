use Rattle.nq_model.specs.Types.{type_tree}
use Rattle.nq_execute.proofs.Finishes.{answers_of_scheme}
use Rattle.natural_keys.specs.Schemes.{keys_scheme}
use Rattle.nq_execute.proofs.finish.value_by_keys.Goals as goal

pub stitch-requires-clause-answers : goal.stitch-requires-clause-answers
stitch-requires-clause-answers c =
    answers_of_scheme (type_tree c.args.of.now) (keys_scheme c.args.keys.now) c.args.answers
    c.requires.own c.requires.fit
