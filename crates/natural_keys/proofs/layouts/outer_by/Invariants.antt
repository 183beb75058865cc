use Rattle.std.proofs.Common.{◌≡◌, ◌∷◌, map, take}
use Rattle.natural_keys.specs.Layouts.{layout_at, no_layout}
use Rattle.natural_keys.proofs.layouts.outer_by.Given as goal

abbrev pub invariant-loop-home : goal.invariant-loop-home
invariant-loop-home l = l.layouts ≡ no_layout ∷ map (λ home. layout_at l.inners home.0)
    (take l.home-index l.inside)
