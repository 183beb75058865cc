use Rattle.std.proofs.Common.{◌≡◌, map, take, drop}
use Rattle.nq_model.specs.Values.{nested, fields_of, fields_view}
use Rattle.lineage.specs.Decoding.{decoded, decoded_element, decoded_whole}
use Rattle.lineage.specs.Places.{lent, under}
use Rattle.lineage.specs.TracedTrees.{traced_element, traced_fields}
use Rattle.lineage.proofs.decoder.+decode.Given as goal

abbrev pub invariant-fields_decoded-loop-field : goal.invariant-fields_decoded-loop-field
invariant-fields_decoded-loop-field l =
    traced_fields l.made ≡ map (λ f. (f.0, decoded l.tables (under f.0 (lent l.here)) f.1))
    (fields_view (take l.field-index l.fields))

abbrev pub invariant-elements_decoded-loop-element : goal.invariant-elements_decoded-loop-element
invariant-elements_decoded-loop-element l =
    map traced_element l.made ≡ map (decoded_element l.tables l.tags (lent l.inner))
    (map nested (take l.element-index l.elements))

abbrev pub invariant-whole_decoded-loop-field : goal.invariant-whole_decoded-loop-field
invariant-whole_decoded-loop-field l =
    decoded_whole l.tables (lent l.inner) (fields_of (fields_view (drop l.field-index l.fields)))
    ≡ decoded_whole l.tables (lent l.inner) (fields_of (fields_view l.fields))
