use Rattle.std.proofs.Common.{rules, ◌≡◌, ◌++◌, ◌∙◌, codes}
use Rattle.nq_model.specs.Values.{nested}
use Rattle.nq_model.specs.Canonical.{written}
use Rattle.canon.proofs.Sorted.{sorted_text}
use Rattle.canon.proofs.text.write.Goals as goal

pub returns-clause-canonical : goal.returns-clause-canonical
returns-clause-canonical c =
    let text : c.from_vec.result ≡ written (nested c.args.value.now) ++ codes "\n" = search rules in
    λ sorted. text ∙ sorted_text (nested c.args.value.now) sorted
