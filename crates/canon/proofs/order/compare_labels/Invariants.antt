use Rattle.std.proofs.Common.{◌≡◌, drop}
use Rattle.std.specs.Cmp.Lexicographic.{slice_cmp}
use Rattle.nq_model.specs.Orders.{label_cmp}
use Rattle.nq_model.specs.Values.{fields_of, labels, fields_view}
use Rattle.canon.proofs.order.compare_labels.Given as goal

abbrev pub invariant-loop-i : goal.invariant-loop-i
invariant-loop-i l =
    slice_cmp label_cmp (labels (fields_of (fields_view (drop l.i l.left))))
    (labels (fields_of (fields_view (drop l.i l.right))))
    ≡ slice_cmp label_cmp (labels (fields_of (fields_view l.left)))
    (labels (fields_of (fields_view l.right)))
