use Rattle.std.proofs.Common.{◌∙◌, ap, is_some}
use Rattle.foreign_answers.proofs.Found.{first_found}
use Rattle.foreign_answers.proofs.given.Given.has.Goals as goal

pub returns : goal.returns
returns g c = c.contains_key.ensures
    ∙ ap is_some (first_found g.I.PartialEq.eq g.I.Ord.cmp g.met.I.Ord.matches_eq
    c.args.self.now.firsts c.args.slot c.args.index)
