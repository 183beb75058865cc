use Rattle.std.proofs.Common.{◌≢◌, rules}
use Rattle.nq_model.specs.Types.{type_tree}
use Rattle.foreign_answers.specs.declared.faults.LinkFault.TheVariants as link
use Rattle.nq_top.proofs.AnswerReadings.{answers_unlinked}
use Rattle.nq_top.proofs.stitch.judge_links.Goals as goal

pub returns-in-Err : goal.returns-in-Err
returns-in-Err c =
    let certain : c.in-Err.fault ≢ link.Memory = search rules in
    answers_unlinked (type_tree c.args.of.now) c.args.answers.now c.in-Err.fault certain (c.in-Err.ensures.fault certain)
