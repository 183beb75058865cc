use Rattle.std.proofs.Common.{◌≡◌, ◌+◌, ◌*◌, ◌++◌, map, reverse, length}
use Rattle.nq_model.specs.Substitution.{fields_with_places}
use Rattle.unfold.specs.Hereditary.{substitute, apply_at}
use Rattle.unfold.specs.Slots.{Puts}
use Rattle.unfold.proofs.substitute.+hereditary.Given as goal

abbrev pub decreases-apply : goal.decreases-apply
decreases-apply l = 4 * l.room + 1

abbrev pub decreases-apply_above : goal.decreases-apply_above
decreases-apply_above l = 4 * l.room

abbrev pub decreases-apply_branches : goal.decreases-apply_branches
decreases-apply_branches l = 4 * l.room + 1

abbrev pub decreases-apply_two : goal.decreases-apply_two
decreases-apply_two l = 4 * l.room + 2

abbrev pub decreases-apply_each : goal.decreases-apply_each
decreases-apply_each l = 4 * l.room + 1

abbrev pub decreases-put_in : goal.decreases-put_in
decreases-put_in l = 4 * l.room + 1

abbrev pub decreases-substitute : goal.decreases-substitute
decreases-substitute l = 4 * l.room

abbrev pub decreases-substitute_node : goal.decreases-substitute_node
decreases-substitute_node l = 4 * l.room + 3

abbrev pub decreases-apply_node : goal.decreases-apply_node
decreases-apply_node l = 4 * l.room + 2

abbrev pub decreases-substitute_apply : goal.decreases-substitute_apply
decreases-substitute_apply l = 4 * l.room + 2

abbrev pub decreases-substitute_box : goal.decreases-substitute_box
decreases-substitute_box l = 4 * l.room + 1

abbrev pub decreases-substitute_field : goal.decreases-substitute_field
decreases-substitute_field l = 4 * l.room + 1

abbrev pub decreases-substitute_one : goal.decreases-substitute_one
decreases-substitute_one l = 4 * l.room + 2

abbrev pub decreases-substitute_choice : goal.decreases-substitute_choice
decreases-substitute_choice l = 4 * l.room + 2

abbrev pub decreases-substitute_function : goal.decreases-substitute_function
decreases-substitute_function l = 4 * l.room + 2

abbrev pub decreases-substitute_two : goal.decreases-substitute_two
decreases-substitute_two l = 4 * l.room + 2

abbrev pub decreases-substitute_fields : goal.decreases-substitute_fields
decreases-substitute_fields l = 4 * l.room + 1

abbrev pub invariant-substitute_fields-loop-last : goal.invariant-substitute_fields-loop-last
invariant-substitute_fields-loop-last l =
    Puts l.initial.by l.by (λ s. fields_with_places l.all ++ reverse (map (λ f. (f.0, substitute (apply_at l.rank) l.from s f.1)) (fields_with_places l.rest)) ≡ reverse (map (λ f. (f.0, substitute (apply_at l.rank) l.from s f.1)) (fields_with_places l.fn.fields)))

abbrev pub decreases-substitute_fields-loop-last : goal.decreases-substitute_fields-loop-last
decreases-substitute_fields-loop-last l = length l.rest
