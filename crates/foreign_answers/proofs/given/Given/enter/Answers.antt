use Rattle.std.proofs.Common.{◌∙◌}
use Rattle.foreign_answers.proofs.Found.{first_found, first_entered}
use Rattle.foreign_answers.proofs.given.Given.enter.Goals as goal

pub returns-clause-earlier : goal.returns-clause-earlier
returns-clause-earlier g c = c.in_ok-earlier.ensures.old
    ∙ first_found g.I.PartialEq.eq g.I.Ord.cmp g.met.I.Ord.matches_eq c.args.self.now.firsts
    c.args.slot c.args.index

pub returns-clause-entered : goal.returns-clause-entered
returns-clause-entered g c =
    first_entered g.I.PartialEq.eq g.I.Ord.cmp g.met.I.Ord.matches_eq c.args.self.now.firsts
    c.insert.new.self c.args.slot c.args.index c.args.row c.in_ok-earlier.ensures.updates.0
