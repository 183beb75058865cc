use Rattle.nq_model.specs.Types.{type_tree}
use Rattle.nq_execute.proofs.Finishes.{answers_of_type}
use Rattle.nq_execute.proofs.finish.value_by_numbers.Goals as goal

pub stitch-requires-clause-answers : goal.stitch-requires-clause-answers
stitch-requires-clause-answers c =
    answers_of_type (type_tree c.args.of.now) _ c.args.answers c.in_ok-scheme.ensures c.requires.fit
