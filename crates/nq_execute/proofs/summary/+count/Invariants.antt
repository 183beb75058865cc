use Rattle.std.proofs.Common.{◌≡◌, ◌+◌, drop, flat_map, length, map}
use Rattle.nq_model.specs.Meaning.{value_under}
use Rattle.nq_model.specs.Values.{nested, fields_of, fields_view}
use Rattle.nq_execute.specs.Summaries.{elements_at}
use Rattle.nq_execute.proofs.summary.+count.Given as goal

abbrev pub invariant-count_inside-loop-element : goal.invariant-count_inside-loop-element
invariant-count_inside-loop-element l =
    l.count + length (flat_map (elements_at l.path) (map nested (drop l.element-index l.elements))) ≡ length (flat_map (elements_at l.path) (map nested l.elements))

abbrev pub invariant-count_under-loop-field : goal.invariant-count_under-loop-field
invariant-count_under-loop-field l =
    value_under l.label (fields_of (fields_view (drop l.field-index l.fields))) ≡ value_under l.label (fields_of (fields_view l.fields))
