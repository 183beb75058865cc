use Rattle.nq_top.proofs.TableExplainings.{fault_says, rows_say}
use Rattle.nq_top.proofs.explain_table.explain_rows.Goals as goal

pub returns-in-Ok : goal.returns-in-Ok
returns-in-Ok c =
    rows_say c.args.schema.now c.args.shape.now c.args.file.now c.args.text.now
    c.in-Ok.table.rows c.explain_query.result c.in-Ok.ensures.rows c.explain_query.ensures

pub returns-in-Err : goal.returns-in-Err
returns-in-Err c =
    fault_says c.args.schema.now c.args.shape.now c.args.file.now c.args.text.now c.in-Err.fault
    c.explain_table.result c.in-Err.ensures.fault c.explain_table.ensures
