use Rattle.std.proofs.Common.{rules, ◌≡◌, [], ◌∷◌, ap, ◌∙◌}
use Rattle.normalise.specs.Raw.{TestPart, raw_conds}
use Rattle.normalise.proofs.Views.{test_rolled}
use Rattle.normalise.proofs.comps.condition.Goals as goal

pub returns : goal.returns
returns c =
    let own : c.push.new.self ≡ c.args.cond ∷ [] = search rules in
    let is = test_rolled c.new.result c.push.new.self _ in (
      ap (λ (t : TestPart). t.tables) is ∙ c.new.ensures,
      ap (λ (t : TestPart). t.conds) is ∙ ap raw_conds own,
    )
