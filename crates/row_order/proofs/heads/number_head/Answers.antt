use Rattle.std.proofs.Common.{◌≡◌, ℕ, ◌-◌, ◌/◌, ◌^◌, min, ap, ap₂, ◌∙◌, arith, w64}
use Rattle.std.proofs.lemmas.Int.{to_z-of_z}
use Rattle.row_order.specs.Heads.{height_of}
use Rattle.row_order.proofs.Ranking.{steps_taken}
use Rattle.row_order.proofs.heads.number_head.Goals as goal

pub returns : goal.returns
returns c =
    let least = c.args.least in
    let shift = c.args.shift in
    let number : c.height.result ≡ height_of c.args.number = c.height.ensures ∙ ap height_of (to_z-of_z w64 c.args.number c.ranges.number) in
    let above : c.saturating_sub-above.result ≡ height_of c.args.number - least = c.saturating_sub-above.ensures ∙ ap (λ (h : ℕ). h - least) number in
    let within = steps_taken c.saturating_sub-above.result shift (omega (arith, c.saturating_sub-above.type_inv)) in
    c.min.ensures ∙ ap₂ min (c.unbounded_shr.ensures ∙ within ∙ ap (λ (n : ℕ). n / 2 ^ shift) above) c.from.ensures
