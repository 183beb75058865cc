use Rattle.std.proofs.Common.{◌≡◌, drop}
use Rattle.std.specs.Cmp.Lexicographic.{slice_cmp}
use Rattle.nq_model.specs.Cells.{cell_cmp}
use Rattle.reference_sql.proofs.key_order.compare_keys.Given as goal

abbrev pub invariant-loop-i : goal.invariant-loop-i
invariant-loop-i l = slice_cmp cell_cmp (drop l.i l.left) (drop l.i l.right) ≡ slice_cmp cell_cmp l.left l.right
