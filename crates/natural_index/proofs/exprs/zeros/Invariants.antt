use Rattle.std.proofs.Common.{◌≡◌, map, take}
use Rattle.sql_profile.specs.Trees.{expr_tree}
use Rattle.natural_index.specs.Trees.{zero_expr}
use Rattle.natural_index.proofs.exprs.zeros.Given as goal

abbrev pub invariant-loop-column : goal.invariant-loop-column
invariant-loop-column l = map expr_tree l.made ≡ map zero_expr (take l.column-index l.columns)
