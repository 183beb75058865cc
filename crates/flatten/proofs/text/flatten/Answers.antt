use Rattle.nq_ir.specs.Lets.{let_form_tree}
use Rattle.sql_profile.specs.Trees.{sql_tree}
use Rattle.flatten.proofs.Clauses.{tree_allowed, tree_has_columns}
use Rattle.flatten.proofs.text.flatten.Goals as goal

pub returns-clause-scoped : goal.returns-clause-scoped
returns-clause-scoped c =
    tree_has_columns c.args.schema.now c.args.columns.now (let_form_tree c.args.form.now) (sql_tree c.in_ok-text.text) c.in_ok-text.ensures

pub returns-clause-rows : goal.returns-clause-rows
returns-clause-rows c =
    tree_allowed c.args.schema.now c.args.columns.now (let_form_tree c.args.form.now) (sql_tree c.in_ok-text.text) c.in_ok-text.ensures
