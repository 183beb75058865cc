use Rattle.std.proofs.Common.{◌∙◌, ap, arith, map}
use Rattle.nq_model.specs.Databases.{database}
use Rattle.nq_model.specs.NamedRows.{named_table}
use Rattle.rows.specs.Tables.{rows_of}
use Rattle.reference_forms.proofs.Loops.{tables_end}
use Rattle.reference_forms.proofs.named.named_tables.Goals as goal

pub returns : goal.returns
returns c =
    let shapes = c.as_slice-shapes.result.now in
    let tables = c.args.tables.now in
    tables_end shapes tables c.loop-at.at c.loop-at.all (map named_table (database shapes (rows_of tables))) (omega arith) c.loop-at.invariant
    ∙ ap (λ ss. map named_table (database ss (rows_of tables))) c.as_slice-shapes.ensures
