use Rattle.std.proofs.Common.{◌≡◌, ◌++◌, take, drop}
use Rattle.nq_model.specs.Meaning.{put_field}
use Rattle.nq_model.specs.Values.{Nested, fields_view}
use Rattle.reference_terms.proofs.records.place_of.Given as goal

abbrev pub invariant-loop-at : goal.invariant-loop-at
invariant-loop-at l = (v : Nested) →
    take l.at (fields_view l.fields) ++ put_field l.label v (drop l.at (fields_view l.fields)) ≡ put_field l.label v (fields_view l.fields)
