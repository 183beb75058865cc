use Rattle.std.proofs.Common.{◌≡◌, drop}
use Rattle.nq_model.specs.Canonical.{value_cmp, fields_cmp}
use Rattle.rows.specs.Places.{row_at}
use Rattle.answer_text.specs.Parts.{fields_in, bag_in}
use Rattle.answer_text.proofs.compare.+compare.Given as goal

abbrev pub invariant-compare_bags-loop-i : goal.invariant-compare_bags-loop-i
invariant-compare_bags-loop-i l =
    value_cmp (bag_in l.element l.rows (drop l.i l.elements))
    (bag_in l.element l.rows (drop l.i l.others)) ≡ value_cmp
    (bag_in l.element l.rows l.elements) (bag_in l.element l.rows l.others)

abbrev pub invariant-compare_fields-loop-field : goal.invariant-compare_fields-loop-field
invariant-compare_fields-loop-field l =
    fields_cmp (fields_in (drop l.field-index l.fields) (row_at l.rows l.left))
    (fields_in (drop l.field-index l.fields) (row_at l.rows l.right))
    ≡ fields_cmp (fields_in l.fields (row_at l.rows l.left))
    (fields_in l.fields (row_at l.rows l.right))
