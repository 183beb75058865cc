use Rattle.std.proofs.Common.{◌≡◌, drop}
use Rattle.nq_model.specs.Terms.{placed_fields}
use Rattle.nq_types.specs.Found.{found_among}
use Rattle.nq_types.specs.Scopes.{types_in}
use Rattle.nq_types.proofs.found.+find.Given as goal

abbrev pub invariant-find_among-loop-field : goal.invariant-find_among-loop-field
invariant-find_among-loop-field l =
    found_among l.tables.schema.now (types_in l.scope) (placed_fields l.fields)
    ≡ found_among l.tables.schema.now (types_in l.scope)
    (placed_fields (drop l.field-index l.fields))
