use Rattle.std.proofs.Common.{rules, []}
use Rattle.query_syntax.specs.Lowering.{TellsNames}
use Rattle.query_syntax.proofs.lower_labels.only.Goals as goal

pub returns : goal.returns
returns c =
    let none : TellsNames [] c.new-labels.result = search rules in
    c.in_ok-_new.ensures.tells [] none
