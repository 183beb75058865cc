use Rattle.std.proofs.Common.{◌≡◌, map}
use Rattle.flatten.specs.Views.{item_view, value_tree, answer_views}
use Rattle.flatten.proofs.values.answer_items.Given as goal

abbrev pub invariant-loop-value : goal.invariant-loop-value
invariant-loop-value l = map item_view l.items ≡ answer_views 0 (map value_tree l.yielded)
