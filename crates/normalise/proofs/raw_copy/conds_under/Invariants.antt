use Rattle.std.proofs.Common.{◌≡◌, map, take}
use Rattle.nq_ir.specs.RawForms.{up_base}
use Rattle.normalise.specs.Raw.{moved_base}
use Rattle.normalise.proofs.raw_copy.conds_under.Given as goal

abbrev pub invariant-loop-cond : goal.invariant-loop-cond
invariant-loop-cond l = map moved_base l.moved ≡ map (up_base l.more l.from) (map moved_base (take l.cond-index l.conds))
