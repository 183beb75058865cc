use Rattle.std.proofs.Common.{◌≡◌, ◌++◌, map, drop}
use Rattle.sql_profile.specs.Trees.{expr_tree}
use Rattle.natural_keys.specs.Layouts.{of_type}
use Rattle.natural_index.specs.Trees.{key_expr}
use Rattle.natural_index.proofs.exprs.key_exprs.Given as goal

abbrev pub invariant-loop-key : goal.invariant-loop-key
invariant-loop-key l = map expr_tree l.made ++ map key_expr (of_type l.of (drop l.key-index l.keys))
    ≡ map key_expr (of_type l.of l.keys)
