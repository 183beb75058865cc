use Rattle.std.proofs.Common.{◌≡◌, ◌++◌, ◌+◌, ◌-◌, []}
use Rattle.nq_model.specs.Types.{fields_view}
use Rattle.lineage.specs.TraceForms.{ints, row_fields}
use Rattle.lineage.proofs.types.push_ints.Given as goal

abbrev pub invariant-loop-place : goal.invariant-loop-place
invariant-loop-place l =
    fields_view l.fields.items ++ row_fields (l.place + 1) (ints (l.count - l.place)) []
    ≡ fields_view l.initial.fields.items ++ row_fields 1 (ints l.count) []
