use Rattle.std.proofs.Common.{◌<◌, ℕ, List, All, take_all, subst}
use Rattle.std.proofs.lemmas.List.Elements.{All-more}
use Rattle.rows.proofs.column.are_below.Goals as goal

pub loop-place-preserved : goal.loop-place-preserved
loop-place-preserved c =
    All-more (λ (place : ℕ). place < c.args.end) c.args.places.now c.loop-place.place-index 0
    c.loop-place-test.true c.loop-place.invariant c.if-place-end.false

pub returns : goal.returns
returns c t =
    subst (λ (places : List ℕ). All (λ (place : ℕ). place < c.args.end) places)
    (take_all c.loop-place.place-index c.args.places.now c.loop-place-test.false)
    c.loop-place.invariant
