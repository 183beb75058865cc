use Rattle.nq_ir.proofs.Inserted.{inserts}
use Rattle.nq_ir.proofs.WrittenForms.{writes_of}
use Rattle.nq_ir.proofs.laws.insertion_laws.Goals as goal

pub returns : goal.returns
returns c = record {
  lets = inserts;
  rows = writes_of;
}
