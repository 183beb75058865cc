use Rattle.std.proofs.Common.{◌≡◌, ◌+◌, ◌++◌, map, drop}
use Rattle.nq_model.specs.Types.{type_tree, field_types_of, fields_view as types_view}
use Rattle.nq_ir.specs.Trees.{body_tree, comp_part as numbered_part}
use Rattle.normalise.specs.Raw.{comp_part, fields_view}
use Rattle.normalise.specs.Numbers.{numbers, comps_numbered, fields_numbered, tags_in_parts, tags_in_list, gens_in_comps, gens_in_list}
use Rattle.normalise.proofs.number_body.+number_body.Given as goal

abbrev pub invariant-number_comps-loop-comp : goal.invariant-number_comps-loop-comp
invariant-number_comps-loop-comp l =
    (comps_numbered l.fn.first.tag l.fn.first.number (numbers l.scope) (type_tree l.element) (map comp_part l.comps) ≡ map numbered_part l.numbered ++ comps_numbered l.next.tag l.next.number (numbers l.scope) (type_tree l.element) (map comp_part (drop l.comp-index l.comps)))
    × (l.fn.first.tag + tags_in_parts (map comp_part l.comps) ≡ l.next.tag + tags_in_parts (map comp_part (drop l.comp-index l.comps)))
    × (l.fn.first.number + gens_in_comps (map comp_part l.comps) ≡ l.next.number + gens_in_comps (map comp_part (drop l.comp-index l.comps)))

abbrev pub invariant-number_fields-loop-at : goal.invariant-number_fields-loop-at
invariant-number_fields-loop-at l =
    (fields_numbered l.fn.first.tag l.fn.first.number (numbers l.scope) (field_types_of (types_view l.types)) (fields_view l.fields) ≡ map (λ f. (f.0, body_tree f.1)) l.numbered ++ fields_numbered l.next.tag l.next.number (numbers l.scope) (field_types_of (types_view (drop l.at l.types))) (fields_view (drop l.at l.fields)))
    × (l.fn.first.tag + tags_in_list (fields_view l.fields) ≡ l.next.tag + tags_in_list (fields_view (drop l.at l.fields)))
    × (l.fn.first.number + gens_in_list (fields_view l.fields) ≡ l.next.number + gens_in_list (fields_view (drop l.at l.fields)))
