use Rattle.std.proofs.Common.{◌≡◌, ◌++◌, map, take}
use Rattle.sql_profile.specs.Trees.{expr_tree}
use Rattle.flatten.specs.Emitted.{in_gens}
use Rattle.flatten.specs.Views.{column_exprs}
use Rattle.flatten.proofs.keys.push_columns.Given as goal

abbrev pub invariant-loop-named : goal.invariant-loop-named
invariant-loop-named l = map expr_tree l.keys ≡ map expr_tree l.initial.keys ++ column_exprs (in_gens l.outer) l.number (take l.named-index l.columns)
