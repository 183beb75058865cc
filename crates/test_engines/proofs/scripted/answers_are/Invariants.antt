use Rattle.std.proofs.Common.{◌≡◌}
use Rattle.sql_profile.specs.Scope.{shapes_of, shapes_of_schema}
use Rattle.test_engines.proofs.scripted.answers_are.Given as goal

abbrev pub invariant-loop-answer : goal.invariant-loop-answer
invariant-loop-answer g l =
    let server = goal.SqlServer-dyn g (l.server.vtable, l.server.value) in
    shapes_of (server.loaded l.server.value) ≡ shapes_of_schema l.schema.tables
