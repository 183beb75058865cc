use Rattle.std.proofs.Common.{◌≡◌, drop}
use Rattle.nq_model.specs.Types.{fields_view as types_view}
use Rattle.nq_model.specs.Terms.{placed_fields}
use Rattle.nq_types.specs.Scopes.{types_in}
use Rattle.nq_types.specs.Steps.{listed, after_types}
use Rattle.nq_types.proofs.walk.+walk.Given as goal

abbrev pub invariant-check_fields-loop-field : goal.invariant-check_fields-loop-field
invariant-check_fields-loop-field l =
    listed l.tables.schema.now (types_in l.scope) (placed_fields l.fields)
    ≡ after_types (types_view l.types) (listed l.tables.schema.now (types_in l.scope) (placed_fields (drop l.field-index l.fields)))
