use Rattle.std.proofs.Common.{ap, sym, ◌∙◌, map}
use Rattle.nq_ir.specs.RawForms.{up_base}
use Rattle.normalise.specs.Raw.{moved_base}
use Rattle.normalise.proofs.Moves.{all_same}
use Rattle.normalise.proofs.raw_copy.all_under.Goals as goal

pub returns-then-more-eq0 : goal.returns-then-more-eq0
returns-then-more-eq0 c =
    let all = map moved_base c.args.conds in
    sym (ap (λ k. map (up_base k 0) all) c.if-more-eq0.true ∙ all_same all)
