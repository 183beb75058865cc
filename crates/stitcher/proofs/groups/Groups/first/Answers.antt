use Rattle.std.proofs.Common.{ap, ◌∙◌}
use Rattle.std.specs.Option.{unwrap_or}
use Rattle.stitcher.proofs.Grouping.{first_found}
use Rattle.stitcher.proofs.groups.Groups.first.Goals as goal

pub returns : goal.returns
returns g c =
    c.unwrap_or.ensures ∙ ap (λ o. unwrap_or o 0) (c.copied.ensures ∙ c.get.ensures.value)
    ∙ first_found g.I.PartialEq.eq g.I.Ord.cmp g.met.I.Ord.matches_eq c.args.self.now.firsts c.args.index.now
