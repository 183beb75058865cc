use Rattle.std.proofs.Common.{◌≡◌, drop, length}
use Rattle.std.specs.Cmp.Lexicographic.{pointwise}
use Rattle.nq_model.specs.Cells.{cell_eq}
use Rattle.natural_keys.proofs.index.same_cells.Given as goal

abbrev pub invariant-loop-at : goal.invariant-loop-at
invariant-loop-at l = record {
  long : length l.left ≡ length l.right;
  same : pointwise cell_eq (drop l.at l.left) (drop l.at l.right)
      ≡ pointwise cell_eq l.left l.right;
}
