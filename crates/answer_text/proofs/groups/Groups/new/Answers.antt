use Rattle.std.proofs.Common.{refl}
use Rattle.answer_text.proofs.Grouping.{groups_sorted}
use Rattle.answer_text.proofs.groups.Groups.new.Goals as goal

pub returns : goal.returns
returns c = record {
  same = refl;
  sorted = groups_sorted c.args.element.now c.args.rows c.in_ok-runs.runs c.in_ok-runs.ensures;
}
