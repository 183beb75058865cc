use Rattle.std.proofs.Common.{◌≡◌, ◌≢◌, ℕ, List, Err, subst, rules}
use Rattle.foreign_answers.specs.Faults.{as_table_fault}
use Rattle.foreign_answers.specs.Shapes.{shape_of}
use Rattle.foreign_answers.specs.declared.faults.AnswerFault.TheVariants as answer
use Rattle.table_reader.specs.Tables.{table_of}
use Rattle.nq_top.proofs.AnswerReadings.{answer_faulty}
use Rattle.nq_top.proofs.stitch.answer_of.Goals as goal

pub returns : goal.returns
returns c =
    let certain : c.in-Err.fault ≢ answer.Memory = search rules in
    let Faulty : List ℕ → Type 0 = λ text. table_of (shape_of c.args.types.now) text ≡ Err (as_table_fault c.in-Err.fault) in
    record {
      says = answer_faulty c.args.number c.args.types.now c.args.text c.in-Err.fault (subst Faulty c.as_slice.ensures (c.in-Err.ensures.fault certain));
      fit = tt;
    }
