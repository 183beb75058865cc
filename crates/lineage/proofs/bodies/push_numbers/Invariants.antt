use Rattle.std.proofs.Common.{◌≡◌, ◌++◌, ◌+◌, ◌-◌, [], drop}
use Rattle.lineage.specs.Places.{bodies_view}
use Rattle.lineage.specs.TraceForms.{number_bodies, row_fields}
use Rattle.lineage.proofs.bodies.push_numbers.Given as goal

abbrev pub invariant-loop-place : goal.invariant-loop-place
invariant-loop-place l =
    bodies_view l.fields.items
    ++ row_fields (l.place + 1) (number_bodies (l.count - l.place) (drop l.place l.gens)) []
    ≡ bodies_view l.initial.fields.items ++ row_fields 1 (number_bodies l.count l.gens) []
