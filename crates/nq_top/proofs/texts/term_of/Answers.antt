use Rattle.std.proofs.Common.{sym, subst, Err}
use Rattle.nq_model.specs.Terms.{placed}
use Rattle.nq_top.specs.Steps.{ReadSays}
use Rattle.nq_top.specs.Reading.{term_read}
use Rattle.command_line.specs.declared.refusal.InputRefusal.{InputRefusal}
use Rattle.nq_top.proofs.QueryReadings.{fault_said}
use Rattle.nq_top.proofs.texts.term_of.Goals as goal

pub returns-in-Err-clause-says : goal.returns-in-Err-clause-says
returns-in-Err-clause-says c = λ reading.
    subst (λ (r : InputRefusal). ReadSays placed (term_read reading c.args.text.now) (Err r)) (sym c.query_refusal.ensures)
    (fault_said reading c.args.text.now c.in-Err.fault c.in-Err.ensures.parsed)
