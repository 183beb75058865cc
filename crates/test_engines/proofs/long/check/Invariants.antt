use Rattle.std.proofs.Common.{◌≡◌}
use Rattle.sql_profile.specs.Scope.{shapes_of, shapes_of_schema}
use Rattle.test_engines.proofs.long.check.Given as goal

abbrev pub invariant-loop-case : goal.invariant-loop-case
invariant-loop-case g l =
    let server = goal.SqlServer-dyn g (l.server.vtable, l.server.value) in
    shapes_of (server.loaded l.server.value) ≡ shapes_of_schema l.schema.tables
