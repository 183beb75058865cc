use Rattle.std.proofs.Common.{◌≡◌, map}
use Rattle.nq_model.specs.Values.{nested, fields_view}
use Rattle.nq_model.specs.Canonical.{canonical}
use Rattle.canon.proofs.sort.+sort.Given as goal

abbrev pub invariant-sort_elements-loop-element : goal.invariant-sort_elements-loop-element
invariant-sort_elements-loop-element l =
    map nested l.sorted.items ≡ map canonical (map nested l.yielded)

abbrev pub invariant-sort_fields-loop-label : goal.invariant-sort_fields-loop-label
invariant-sort_fields-loop-label l =
    fields_view l.sorted ≡ map (λ f. (f.0, canonical f.1)) (fields_view l.yielded)
