use Rattle.std.proofs.Common.{arith}
use Rattle.nq_model.specs.Types.{type_tree}
use Rattle.database_scripts.proofs.Texts.{all_asked}
use Rattle.database_scripts.proofs.ask.put_texts.Goals as goal

pub returns : goal.returns
returns c =
    all_asked c.args.database c.args.folder.now (type_tree c.args.of.now) c.args.paths.now c.args.texts.now c.loop-at.at c.loop-at.script _
    (omega (arith, c.min-at-end.ensures, c.loop-at-test.false)) c.loop-at.invariant
