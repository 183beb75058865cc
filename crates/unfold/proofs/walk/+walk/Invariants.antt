use Rattle.std.proofs.Common.{◌≡◌, ◌+◌, ◌*◌, ◌++◌, map, reverse, length}
use Rattle.nq_model.specs.Substitution.{fields_with_places}
use Rattle.unfold.specs.Environments.{walk_in}
use Rattle.unfold.specs.Scopes.{Keeps}
use Rattle.unfold.proofs.walk.+walk.Given as goal

abbrev pub decreases-walk : goal.decreases-walk
decreases-walk l = 5 * l.room

abbrev pub decreases-walk_node : goal.decreases-walk_node
decreases-walk_node l = 5 * l.room + 4

abbrev pub decreases-walk_box : goal.decreases-walk_box
decreases-walk_box l = 5 * l.room + 1

abbrev pub decreases-walk_one : goal.decreases-walk_one
decreases-walk_one l = 5 * l.room + 2

abbrev pub decreases-walk_choice : goal.decreases-walk_choice
decreases-walk_choice l = 5 * l.room + 2

abbrev pub decreases-walk_for : goal.decreases-walk_for
decreases-walk_for l = 5 * l.room + 2

abbrev pub decreases-walk_two : goal.decreases-walk_two
decreases-walk_two l = 5 * l.room + 2

abbrev pub decreases-walk_under : goal.decreases-walk_under
decreases-walk_under l = 5 * l.room + 1

abbrev pub decreases-walk_value : goal.decreases-walk_value
decreases-walk_value l = 5 * l.room + 1

abbrev pub decreases-walk_given : goal.decreases-walk_given
decreases-walk_given l = 5 * l.room + 2

abbrev pub decreases-walk_parts : goal.decreases-walk_parts
decreases-walk_parts l = 5 * l.room + 2

abbrev pub decreases-walk_both : goal.decreases-walk_both
decreases-walk_both l = 5 * l.room + 1

abbrev pub decreases-walk_apply : goal.decreases-walk_apply
decreases-walk_apply l = 5 * l.room + 3

abbrev pub decreases-walk_fields : goal.decreases-walk_fields
decreases-walk_fields l = 5 * l.room + 1

abbrev pub decreases-walk_whole : goal.decreases-walk_whole
decreases-walk_whole l = 5 * l.room + 1

abbrev pub decreases-walk_picked : goal.decreases-walk_picked
decreases-walk_picked l = 5 * l.room + 2

abbrev pub decreases-walk_field : goal.decreases-walk_field
decreases-walk_field l = 5 * l.room + 3

abbrev pub invariant-walk_fields-loop-last : goal.invariant-walk_fields-loop-last
invariant-walk_fields-loop-last l =
    Keeps l.initial.scope l.scope (λ es. fields_with_places l.all ++ reverse (map (λ f. (f.0, walk_in l.rank l.level es f.1)) (fields_with_places l.rest)) ≡ reverse (map (λ f. (f.0, walk_in l.rank l.level es f.1)) (fields_with_places l.fn.fields)))

abbrev pub decreases-walk_fields-loop-last : goal.decreases-walk_fields-loop-last
decreases-walk_fields-loop-last l = length l.rest
