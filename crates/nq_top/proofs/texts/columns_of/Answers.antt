use Rattle.std.proofs.Common.{List, Err, sym, subst}
use Rattle.nq_model.specs.declared.table.ColumnType.{ColumnType}
use Rattle.nq_top.specs.Steps.{ReadSays}
use Rattle.nq_top.specs.Reading.{sql_read}
use Rattle.command_line.specs.declared.refusal.InputRefusal.{InputRefusal}
use Rattle.nq_top.proofs.SqlReadings.{tree_said, fault_said, scoped_text}
use Rattle.nq_top.proofs.texts.columns_of.Goals as goal

pub returns-in-Ok-clause-says : goal.returns-in-Ok-clause-says
returns-in-Ok-clause-says c = λ reading.
    tree_said reading c.args.schema.now c.args.text.now c.in-Ok.tree c.scoped_columns-columns.result c.in-Ok.ensures (c.scoped_columns-columns.ensures.says c.args.text.now)

pub returns-in-Ok-clause-scoped : goal.returns-in-Ok-clause-scoped
returns-in-Ok-clause-scoped c =
    scoped_text c.args.schema.now c.args.text.now c.in-Ok.tree c.scoped_columns-columns.result c.in-Ok.ensures c.scoped_columns-columns.ensures.scoped

pub returns-in-Err-clause-says : goal.returns-in-Err-clause-says
returns-in-Err-clause-says c = λ reading.
    subst (λ (r : InputRefusal). ReadSays (λ (types : List ColumnType). (c.args.text.now, types)) (sql_read reading c.args.schema.now c.args.text.now) (Err r)) (sym c.sql_refusal.ensures)
    (fault_said reading c.args.schema.now c.args.text.now c.in-Err.fault c.in-Err.ensures)
