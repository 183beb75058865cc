use Rattle.std.proofs.Common.{◌≡◌, ◌∷◌, ◌++◌}
use Rattle.std.specs.Vec.Iter.{into_iter_items}
use Rattle.reference_sql.proofs.evaluate.with_list.Given as goal

abbrev pub invariant-loop-table : goal.invariant-loop-table
invariant-loop-table l = l.more ++ into_iter_items l.table-iterator ≡ (l.fn.name, l.fn.rows) ∷ l.fn.tables
