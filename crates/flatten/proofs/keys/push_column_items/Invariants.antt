use Rattle.std.proofs.Common.{◌≡◌, ◌++◌, map, take}
use Rattle.flatten.specs.Views.{item_view, column_items}
use Rattle.flatten.proofs.keys.push_column_items.Given as goal

abbrev pub invariant-loop-named : goal.invariant-loop-named
invariant-loop-named l = map item_view l.items ≡ map item_view l.initial.items ++ column_items l.number (take l.named-index l.columns)
