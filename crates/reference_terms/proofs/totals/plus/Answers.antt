use Rattle.std.proofs.Common.{rules}
use Rattle.std.proofs.lemmas.Int.{wraps}
use Rattle.reference_terms.proofs.totals.plus.Goals as goal

pub returns : goal.returns
returns c = search (rules, wraps)
