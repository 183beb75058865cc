use Rattle.nq_top.proofs.SqlExplainings.{fault_if_ok, tree_if_ok}
use Rattle.nq_top.proofs.explain_sql.explain_text.Goals as goal

pub returns-in-Ok : goal.returns-in-Ok
returns-in-Ok c =
    tree_if_ok c.args.schema.now c.args.file.now c.args.text.now c.in-Ok.tree
    c.explain_tree-made.result c.in-Ok.ensures c.explain_tree-made.ensures

pub returns-in-Err : goal.returns-in-Err
returns-in-Err c =
    fault_if_ok c.args.schema.now c.args.file.now c.args.text.now c.in-Err.fault
    c.explain_sql.result c.in-Err.ensures c.explain_sql.ensures
