use Rattle.std.proofs.Common.{if◌then◌else◌, drop, sym, ap, ◌∙◌}
use Rattle.std.proofs.lemmas.List.{take_rest}
use Rattle.table_explanations.proofs.WalkFacts.{behind_is}
use Rattle.table_explanations.proofs.places.behind_mark.Goals as goal

pub returns-then-has_mark-clause-is : goal.returns-then-has_mark-clause-is
returns-then-has_mark-clause-is c =
    let text = c.args.text.now in
    take_rest text 3 ∙ sym (behind_is text ∙ ap (λ b. if b then drop 3 text else text)
    (sym c.has_mark.ensures ∙ c.if-has_mark.true))
