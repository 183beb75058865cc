use Rattle.nq_model.specs.Types.{type_tree}
use Rattle.nq_ir.specs.Trees.{form_tree}
use Rattle.natural_compile.proofs.Columns.{columns_are, form_read, form_scoped, within}
use Rattle.natural_compile.proofs.normal.form_by_keys.Goals as goal

pub columns_of-requires : goal.columns_of-requires
columns_of-requires c =
    within c.args.schema.now.tables (form_tree c.args.normal.now) _ c.in_ok-natural.ensures.keys
    (type_tree c.in_ok-result.result) c.in_ok-result.ensures c.in_ok-paths.paths
    c.in_ok-paths.ensures c.len.result c.len.ensures

pub returns-clause-columns : goal.returns-clause-columns
returns-clause-columns c =
    columns_are c.args.schema.now.tables (form_tree c.args.normal.now) _
    c.in_ok-natural.ensures.keys (type_tree c.in_ok-result.result) c.in_ok-result.ensures
    c.in_ok-paths.paths c.in_ok-paths.ensures c.len.result c.len.ensures
    c.in_ok-columns.columns c.in_ok-columns.ensures

pub returns-clause-scoped : goal.returns-clause-scoped
returns-clause-scoped c =
    let columns = columns_are c.args.schema.now.tables (form_tree c.args.normal.now) _
    c.in_ok-natural.ensures.keys (type_tree c.in_ok-result.result) c.in_ok-result.ensures
    c.in_ok-paths.paths c.in_ok-paths.ensures c.len.result c.len.ensures
    c.in_ok-columns.columns c.in_ok-columns.ensures in
    form_scoped c.args.schema.now (form_tree c.args.normal.now) c.in_ok-natural.natural.texts
    c.as_slice.result.now c.as_slice.ensures c.in_ok-texts.texts c.in_ok-texts.ensures.are
    c.in_ok-texts.ensures.spell c.in_ok-columns.columns columns c.in_ok-natural.ensures.scoped

pub returns-clause-read : goal.returns-clause-read
returns-clause-read c =
    form_read c.args.schema.now (form_tree c.args.normal.now) c.in_ok-natural.natural.texts
    c.as_slice.result.now c.as_slice.ensures c.in_ok-texts.texts c.in_ok-texts.ensures.are
    c.in_ok-texts.ensures.spell c.in_ok-natural.ensures.read
