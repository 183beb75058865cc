use Rattle.std.proofs.Common.{◌≡◌, map, drop}
use Rattle.nq_model.specs.Values.{nested, fields_of, bag_of, fields_view}
use Rattle.nq_model.specs.Canonical.{value_cmp, fields_cmp}
use Rattle.canon.proofs.order.+compare.Given as goal

abbrev pub invariant-compare_bags-loop-i : goal.invariant-compare_bags-loop-i
invariant-compare_bags-loop-i l =
    value_cmp (bag_of (map nested (drop l.i l.elements))) (bag_of (map nested (drop l.i l.others)))
    ≡ value_cmp (bag_of (map nested l.elements)) (bag_of (map nested l.others))

abbrev pub invariant-compare_fields-loop-i : goal.invariant-compare_fields-loop-i
invariant-compare_fields-loop-i l =
    fields_cmp (fields_of (fields_view (drop l.i l.left)))
    (fields_of (fields_view (drop l.i l.right))) ≡ fields_cmp (fields_of (fields_view l.left))
    (fields_of (fields_view l.right))
