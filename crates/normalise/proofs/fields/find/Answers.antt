use Rattle.std.proofs.Common.{◌≡◌, ap, sym, ◌∙◌, arith, bytes_eq, true, Some}
use Rattle.normalise.proofs.FieldFacts.{found}
use Rattle.normalise.proofs.fields.find.Goals as goal

pub returns-then-eq : goal.returns-then-eq
returns-then-eq c =
    let b : bytes_eq c.args.label.now c.index-fields-i.result.0 ≡ true = ap (λ x. bytes_eq x c.index-fields-i.result.0) (sym c.as_str.ensures.value) ∙ ap (λ x. bytes_eq c.as_str.result.now x) (ap (λ x. x.0) c.index-fields-i.is ∙ sym c.as_str-in-loop-i.ensures.value) ∙ sym c.eq.ensures ∙ c.if-eq.true in
    (omega (arith, c.loop-i-test.true), ap Some (sym c.loop-i.invariant) ∙ found c.args.label.now c.args.fields.now c.loop-i.i c.index-fields-i.result c.index-fields-i.result (omega (arith, c.loop-i-test.true)) c.index-fields-i.is b)
