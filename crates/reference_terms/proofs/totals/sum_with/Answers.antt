use Rattle.std.proofs.Common.{rules, FitsSigned}
use Rattle.std.specs.Int.{w64}
use Rattle.std.proofs.lemmas.Int.{wraps}
use Rattle.reference_terms.proofs.totals.sum_with.Goals as goal

pub returns : goal.returns
returns c =
    let own : FitsSigned w64 c.number_in.result = search rules in
    search (rules, wraps)
