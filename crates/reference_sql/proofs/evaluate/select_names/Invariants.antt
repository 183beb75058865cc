use Rattle.std.proofs.Common.{◌≡◌, ◌++◌, drop}
use Rattle.sql_profile.specs.AllowedAnswers.{item_names, select_names}
use Rattle.sql_profile.specs.Trees.{select_tree}
use Rattle.sql_profile.specs.Parts.{items_tree}
use Rattle.reference_sql.proofs.evaluate.select_names.Given as goal

abbrev pub invariant-loop-item : goal.invariant-loop-item
invariant-loop-item l = l.names ++ item_names (items_tree (drop l.item-index l.item-items)) ≡ select_names (select_tree l.select)
