use Rattle.std.proofs.Common.{◌≡◌, map, take}
use Rattle.nq_ir.specs.RawForms.{up_body}
use Rattle.normalise.specs.Raw.{comp_part, fields_view, up_comp}
use Rattle.normalise.proofs.+move_body.Given as goal

abbrev pub invariant-moved_body::comps_under-loop-comp : goal.invariant-moved_body::comps_under-loop-comp
invariant-moved_body::comps_under-loop-comp l =
    map comp_part l.moved ≡ map (up_comp l.more l.from) (map comp_part (take l.comp-index l.comps))

abbrev pub invariant-moved_body::fields_under-loop-field : goal.invariant-moved_body::fields_under-loop-field
invariant-moved_body::fields_under-loop-field l =
    fields_view l.moved ≡ map (λ f. (f.0, up_body l.more l.from f.1)) (fields_view (take l.field-index l.fields))
