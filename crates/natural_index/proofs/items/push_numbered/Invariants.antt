use Rattle.std.proofs.Common.{◌≡◌, ◌++◌, ◌+◌, length, map}
use Rattle.sql_profile.specs.Trees.{expr_tree}
use Rattle.flatten.specs.Views.{item_view}
use Rattle.natural_index.specs.Trees.{as_items, numbered}
use Rattle.natural_index.proofs.items.push_numbered.Given as goal

abbrev pub invariant-loop-expr : goal.invariant-loop-expr
invariant-loop-expr l = record {
  number : l.number ≡ 1 + length l.yielded;
  items : map item_view l.items ≡ map item_view l.initial.items
      ++ as_items (numbered l.word 1 (map expr_tree l.yielded));
}
