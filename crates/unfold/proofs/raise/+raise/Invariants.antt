use Rattle.std.proofs.Common.{◌≡◌, ◌++◌, map, reverse, length}
use Rattle.nq_model.specs.Substitution.{fields_with_places, shift}
use Rattle.unfold.proofs.raise.+raise.Given as goal

abbrev pub invariant-raise_fields-loop-last : goal.invariant-raise_fields-loop-last
invariant-raise_fields-loop-last l =
    goal.no_deeper-raise_fields-loop-last l × (fields_with_places l.all ++ reverse (map (λ f. (f.0, shift l.by l.from f.1)) (fields_with_places l.rest)) ≡ reverse (map (λ f. (f.0, shift l.by l.from f.1)) (fields_with_places l.fn.fields)))

abbrev pub decreases-raise_fields-loop-last : goal.decreases-raise_fields-loop-last
decreases-raise_fields-loop-last l = length l.rest
