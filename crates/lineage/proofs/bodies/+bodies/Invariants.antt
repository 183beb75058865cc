use Rattle.std.proofs.Common.{◌≡◌, map, take}
use Rattle.nq_ir.specs.Trees.{comp_part}
use Rattle.lineage.specs.Places.{lent, under, bodies_view}
use Rattle.lineage.specs.TraceForms.{body_traced, part_traced}
use Rattle.lineage.proofs.bodies.+bodies.Given as goal

abbrev pub invariant-bodies_traced-loop-field : goal.invariant-bodies_traced-loop-field
invariant-bodies_traced-loop-field l =
    bodies_view l.made ≡ map (λ f. (f.0, body_traced (under f.0 (lent l.here)) f.1))
    (bodies_view (take l.field-index l.fields))

abbrev pub invariant-comps_traced-loop-comp : goal.invariant-comps_traced-loop-comp
invariant-comps_traced-loop-comp l =
    map comp_part l.made ≡ map (part_traced l.count (lent l.here))
    (map comp_part (take l.comp-index l.comps))
