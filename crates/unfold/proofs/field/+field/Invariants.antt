use Rattle.std.proofs.Common.{◌+◌, ◌*◌}
use Rattle.unfold.proofs.field.+field.Given as goal

abbrev pub decreases-field : goal.decreases-field
decreases-field l = 3 * l.room

abbrev pub decreases-field_of_node : goal.decreases-field_of_node
decreases-field_of_node l = 3 * l.room + 2

abbrev pub decreases-field_of_choice : goal.decreases-field_of_choice
decreases-field_of_choice l = 3 * l.room + 1
