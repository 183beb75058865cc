use Rattle.std.proofs.Common.{refl}
use Rattle.nq_model.specs.Terms.{placed}
use Rattle.nq_model.specs.Types.{type_tree}
use Rattle.nq_execute.specs.declared.plan.Finish.TheVariants.{Value}
use Rattle.nq_execute.specs.declared.plan.Indexes.TheVariants.{Numbers}
use Rattle.nq_execute.specs.declared.plan.Writing.TheVariants.{Summary}
use Rattle.nq_execute.specs.declared.plan.Plan.{Plan as Asked}
use Rattle.generated_inputs.specs.Generated.{generated_type}
use Rattle.nq_top.proofs.GeneratedPlans.{read_as, plan_servable, plan_holds}
use Rattle.nq_top.proofs.Showings.{typed_accepted}
use Rattle.nq_top.proofs.plans.generated_plan.Goals as goal

pub compile-requires-clause-accepted : goal.compile-requires-clause-accepted
compile-requires-clause-accepted c =
    typed_accepted c.in_ok-schema.schema (placed c.in_ok-query.query) generated_type
    (read_as c.in_ok-schema.schema (placed c.in_ok-query.query) c.in_ok-schema.ensures.is c.in_ok-query.ensures.is c.in_ok-query.ensures.typed)

pub returns-clause-servable : goal.returns-clause-servable
returns-clause-servable c =
    let asked : Asked = record { tables = c.in_ok-tables.tables; texts = c.in_ok-compiled.compiled.texts; columns = c.in_ok-compiled.compiled.columns; finish = Value c.in_ok-compiled.compiled.result Numbers Summary } in
    plan_servable c.in_ok-schema.schema (placed c.in_ok-query.query) (type_tree c.in_ok-compiled.compiled.result) c.in_ok-compiled.compiled.texts c.in_ok-compiled.compiled.columns c.in_ok-tables.tables c.args.size
    c.in_ok-schema.ensures.is c.in_ok-query.ensures.is c.in_ok-tables.ensures.is c.in_ok-schema.ensures.proper c.in_ok-query.ensures.proper c.in_ok-query.ensures.typed c.in_ok-tables.ensures.stored
    c.in_ok-compiled.ensures.shreds c.in_ok-compiled.ensures.result c.in_ok-compiled.ensures.columns asked refl

pub returns-clause-holds : goal.returns-clause-holds
returns-clause-holds c =
    let asked : Asked = record { tables = c.in_ok-tables.tables; texts = c.in_ok-compiled.compiled.texts; columns = c.in_ok-compiled.compiled.columns; finish = Value c.in_ok-compiled.compiled.result Numbers Summary } in
    plan_holds c.in_ok-schema.schema (placed c.in_ok-query.query) (type_tree c.in_ok-compiled.compiled.result) c.in_ok-compiled.compiled.texts c.in_ok-compiled.compiled.columns c.in_ok-tables.tables c.args.size
    c.in_ok-schema.ensures.is c.in_ok-query.ensures.is c.in_ok-tables.ensures.is c.in_ok-schema.ensures.proper c.in_ok-query.ensures.proper c.in_ok-query.ensures.typed c.in_ok-tables.ensures.stored
    c.in_ok-compiled.ensures.shreds c.in_ok-compiled.ensures.result c.in_ok-compiled.ensures.columns c.in_ok-compiled.ensures.texts asked refl
