use Rattle.std.proofs.Common.{ap, sym, ◌∙◌}
use Rattle.normalise.specs.Numbers.{numbers, without}
use Rattle.normalise.proofs.Moves.{without_none}
use Rattle.normalise.proofs.numbers.Numbers.without.Goals as goal

pub returns-then-count-eq0 : goal.returns-then-count-eq0
returns-then-count-eq0 c =
    let all = numbers c.args.self.now in
    sym (ap (λ k. without k c.args.from all) c.if-count-eq0.true ∙ without_none c.args.from all)
