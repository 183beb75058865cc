use Rattle.std.proofs.Common.{rules, ◌≡◌}
use Rattle.nq_model.specs.Tables.{types_of}
use Rattle.sql_profile.specs.Scope.{shapes_of_schema}
use Rattle.sql_profile.specs.Trees.{placed}
use Rattle.sql_profile.proofs.Scoped.{tree_judged}
use Rattle.sql_scope.proofs.Outcomes.{fault_scoped, types_scoped}
use Rattle.sql_scope.proofs.text.scope.Goals as goal

pub returns-in_err-columns-clause-scoped : goal.returns-in_err-columns-clause-scoped
returns-in_err-columns-clause-scoped c =
    fault_scoped (shapes_of_schema c.args.schema.now.tables) (placed c.args.text.now) c.from_residual.result c.in_err-columns.field-0.0 c.from_residual.ensures.1 c.in_err-columns.ensures

pub returns-clause-ok : goal.returns-clause-ok
returns-clause-ok c =
    let types : c.in_ok-types.field-0 ≡ types_of c.in_ok-columns.columns = search rules in
    (c.in_ok-columns.columns, tree_judged (shapes_of_schema c.args.schema.now.tables) (placed c.args.text.now) c.in_ok-columns.columns c.in_ok-columns.ensures, types)

pub returns-clause-scoped : goal.returns-clause-scoped
returns-clause-scoped c =
    let types : c.in_ok-types.field-0 ≡ types_of c.in_ok-columns.columns = search rules in
    types_scoped (shapes_of_schema c.args.schema.now.tables) (placed c.args.text.now) c.in_ok-types.field-0 c.in_ok-columns.columns c.in_ok-columns.ensures types
