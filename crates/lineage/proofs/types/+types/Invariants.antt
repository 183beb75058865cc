use Rattle.std.proofs.Common.{◌≡◌, map, take}
use Rattle.nq_model.specs.Types.{fields_view}
use Rattle.lineage.specs.Places.{lent, under}
use Rattle.lineage.specs.TraceForms.{type_traced}
use Rattle.lineage.proofs.types.+types.Given as goal

abbrev pub invariant-types_traced-loop-field : goal.invariant-types_traced-loop-field
invariant-types_traced-loop-field l =
    fields_view l.made ≡ map (λ f. (f.0, type_traced (under f.0 (lent l.here)) f.1))
    (fields_view (take l.field-index l.fields))
