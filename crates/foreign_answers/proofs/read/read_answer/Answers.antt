use Rattle.std.proofs.Common.{◌≡◌, ◌≢◌, ap, sym, ◌∙◌, subst, List, Result, Err}
use Rattle.nq_model.specs.SchemaTables.{IsTableOf}
use Rattle.nq_model.specs.declared.table.Cell.{Cell}
use Rattle.nq_model.specs.declared.table.TableShape.{TableShape}
use Rattle.table_reader.specs.Tables.{table_of}
use Rattle.table_reader.specs.declared.TableFault.{TableFault}
use Rattle.table_reader.specs.declared.TableFault.TheVariants as fault
use Rattle.foreign_answers.proofs.Reading.{rows_fit, no_twin}
use Rattle.foreign_answers.proofs.read.read_answer.Goals as goal

pub returns-in-Ok-clause-fit : goal.returns-in-Ok-clause-fit
returns-in-Ok-clause-fit c = rows_fit c.args.columns.now c.in-Ok.table.rows (subst (λ (s : TableShape). IsTableOf s c.in-Ok.table.rows) c.in_ok-shape.ensures c.in-Ok.ensures.table)

pub fault_of-requires : goal.fault_of-requires
fault_of-requires c = λ row earlier e.
    let other : c.in-Err.fault ≢ fault.Memory = λ m. let no : fault.TwiceKey row earlier ≡ fault.Memory = sym e ∙ m in cc in
    no_twin c.args.columns.now c.args.text.now row earlier
    (ap (λ (s : TableShape). table_of s c.args.text.now) (sym c.in_ok-shape.ensures) ∙ c.in-Err.ensures.fault other ∙ ap {B = Result (List (List Cell)) TableFault} (λ (f : TableFault). Err f) e)
