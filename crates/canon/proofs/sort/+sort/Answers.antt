use Rattle.std.proofs.Common.{map, ap, sym, ◌∙◌}
use Rattle.nq_model.specs.Values.{nested, bag_of, rec_of, fields_view}
use Rattle.nq_model.specs.Canonical.{canonical}
use Rattle.nq_model.proofs.Trees.{nested_record, nested_bag}
use Rattle.canon.proofs.Canonical.{canonical_record, canonical_bag}
use Rattle.canon.proofs.sort.+sort.Goals as goal

pub sort_deep-returns-in_ok-sort_fields-in-Rec :
    goal.sort_deep-returns-in_ok-sort_fields-in-Rec
sort_deep-returns-in_ok-sort_fields-in-Rec t c =
    let before = ap canonical (ap nested c.in-Rec.is ∙ nested_record c.in-Rec.fields)
    ∙ canonical_record (fields_view c.in-Rec.fields) in
    nested_record c.in_ok-sort_fields-in-Rec.field-0 ∙ ap rec_of c.in_ok-sort_fields-in-Rec.ensures
    ∙ sym before

pub sort_deep-returns-in_ok-sort_elements-in-Bag :
    goal.sort_deep-returns-in_ok-sort_elements-in-Bag
sort_deep-returns-in_ok-sort_elements-in-Bag t c =
    let before = ap canonical (ap nested c.in-Bag.is ∙ nested_bag c.in-Bag.elements)
    ∙ canonical_bag (map nested c.in-Bag.elements) in
    nested_bag c.in_ok-sort_elements-in-Bag.field-0 ∙ ap bag_of c.in_ok-sort_elements-in-Bag.ensures
    ∙ sym before
