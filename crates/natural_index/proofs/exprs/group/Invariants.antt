use Rattle.std.proofs.Common.{◌≡◌, ◌++◌, ◌-◌, length, map, replicate}
use Rattle.sql_profile.specs.Trees.{expr_tree}
use Rattle.natural_keys.specs.Layouts.{of_type}
use Rattle.natural_index.specs.Trees.{key_expr, zero_expr}
use Rattle.natural_index.proofs.exprs.group.Given as goal

abbrev pub invariant-loop-at : goal.invariant-loop-at
invariant-loop-at l = record {
  own : l.own ≡ length (map key_expr (of_type l.of l.keys));
  made : map expr_tree l.made ≡ map key_expr (of_type l.of l.keys)
      ++ replicate (l.at - l.own) (zero_expr l.of);
}
