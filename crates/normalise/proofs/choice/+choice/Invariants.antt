use Rattle.std.proofs.Common.{◌≡◌, ◌≤◌, ◌+◌, ◌*◌, ◌++◌, length, reverse}
use Rattle.std.specs.Vec.Iter.{into_iter_items, into_iter_len}
use Rattle.normalise.specs.Choices.{choice_list, weight, weights}
use Rattle.normalise.specs.Raw.{fields_view, moved_base, moved_body, raw_body, raw_fields_of}
use Rattle.normalise.proofs.choice.+choice.Given as goal

abbrev pub decreases-choice : goal.decreases-choice
decreases-choice l = 2 * weight (raw_body l.yes)

abbrev pub decreases-field_choice : goal.decreases-field_choice
decreases-field_choice l = 2 * weight (moved_body l.yes.1) + 2

abbrev pub decreases-chosen : goal.decreases-chosen
decreases-chosen l = 2 * weight (moved_body l.yes) + 1

abbrev pub decreases-fields_choice : goal.decreases-fields_choice
decreases-fields_choice l = 2 * weights (raw_fields_of l.yes) + 1

abbrev pub invariant-fields_choice-loop-field : goal.invariant-fields_choice-loop-field
invariant-fields_choice-loop-field l =
    (fields_view l.all ++ choice_list (moved_base l.test) (fields_view (into_iter_items l.field-iterator)) (fields_view (reverse l.right)) ≡ choice_list (moved_base l.test) (fields_view l.fn.yes) (fields_view l.fn.no))
    × (weights (raw_fields_of (into_iter_items l.field-iterator)) ≤ weights (raw_fields_of l.fn.yes))
    × (into_iter_len l.field-iterator ≡ length (into_iter_items l.field-iterator))
