use Rattle.std.proofs.Common.{◌≡◌, ℕ, List, map, ap, ap₂, sym, ◌∙◌}
use Rattle.nq_ir.specs.Trees.{BodyTree}
use Rattle.nq_model.proofs.Trees.{nested_record, nested_bag}
use Rattle.nq_model.specs.NamedRows.{Label}
use Rattle.nq_model.specs.Values.{nested, rec_of, bag_of, fields_view}
use Rattle.nq_model.specs.declared.value.Value.{Value}
use Rattle.lineage.proofs.Views.{traced_record, traced_bag, decoded_record, decoded_bag}
use Rattle.lineage.specs.Decoding.{decoded, decoded_element}
use Rattle.lineage.specs.Places.{lent, inside, under, tags_in}
use Rattle.lineage.specs.TraceForms.{whole_label}
use Rattle.lineage.proofs.decoder.+decode.Goals as goal

pub decoded-returns-in_ok-fields-in-Rec : goal.decoded-returns-in_ok-fields-in-Rec
decoded-returns-in_ok-fields-in-Rec t c =
    let here = lent c.args.here.now in
    let es = c.args.tables.now in
    traced_record c.in_ok-fields-in-Rec.fields
    ∙ ap rec_of (c.in_ok-fields-in-Rec.ensures ∙ ap (λ (fs : List (Label × Value)).
    map (λ f. (f.0, decoded es (under f.0 here) f.1)) (fields_view fs)) c.as_slice.ensures)
    ∙ sym (decoded_record es here (fields_view c.in-Rec.fields))
    ∙ sym (ap (decoded es here) (ap nested c.in-Rec.is ∙ nested_record c.in-Rec.fields))

pub decoded-returns-in_ok-elements-in-Bag : goal.decoded-returns-in_ok-elements-in-Bag
decoded-returns-in_ok-elements-in-Bag t c =
    let here = lent c.args.here.now in
    let es = c.args.tables.now in
    let tags : c.as_slice-in-Bag-2.result.now ≡ tags_in here =
    c.as_slice-in-Bag-2.ensures.value ∙ c.in_ok-tags-in-Bag.ensures in
    let bodies : lent c.as_slice-in-Bag.result.now ≡ inside here =
    ap lent c.as_slice-in-Bag.ensures.value ∙ c.in_ok-bodies-in-Bag.ensures in
    let inner : lent c.as_slice-in-Bag-3.result.now ≡ under whole_label (inside here) =
    ap lent c.as_slice-in-Bag-3.ensures.value ∙ c.in_ok-inner-in-Bag.ensures
    ∙ ap (under whole_label) bodies in
    traced_bag c.in_ok-elements-in-Bag.elements
    ∙ ap bag_of (c.in_ok-elements-in-Bag.ensures
    ∙ ap₂ (λ (x : List ℕ) (y : List BodyTree). map (decoded_element es x y)
    (map nested c.as_slice-elements.result.now)) tags inner
    ∙ ap (λ (vs : List Value). map
    (decoded_element es (tags_in here) (under whole_label (inside here)))
    (map nested vs)) c.as_slice-elements.ensures)
    ∙ sym (decoded_bag es here (map nested c.in-Bag.elements))
    ∙ sym (ap (decoded es here) (ap nested c.in-Bag.is ∙ nested_bag c.in-Bag.elements))
