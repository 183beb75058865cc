use Rattle.std.proofs.Common.{rules}
use Rattle.nq_top.proofs.SqlExplainings.{columns_written, scope_explained}
use Rattle.nq_top.proofs.explain_sql.explain_tree.Goals as goal

pub returns-in-Ok : goal.returns-in-Ok
returns-in-Ok c =
    columns_written c.args.schema.now c.args.file.now c.args.text.now c.args.tree.now
    c.in-Ok.types c.columns_line.result c.in-Ok.ensures.ok (search rules)

pub returns-in_ok-found-in-Err-Broken : goal.returns-in_ok-found-in-Err-Broken
returns-in_ok-found-in-Err-Broken c =
    scope_explained c.args.schema.now c.args.file.now c.args.text.now c.args.tree.now
    c.in-Err-Broken.rule c.from.result c.in-Err-Broken.place
    c.in_ok-found-in-Err-Broken.found c.explain_scope.result (search rules) c.from.ensures
    c.in_ok-found-in-Err-Broken.ensures c.explain_scope.ensures
