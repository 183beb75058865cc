use Rattle.nq_ir.proofs.Whole.{strands_at_paths, children_kept}
use Rattle.nq_ir.proofs.WrittenForms.{pairs_of}
use Rattle.nq_ir.proofs.laws.shredding_laws.Goals as goal

pub returns : goal.returns
returns c = record {
  strands = strands_at_paths;
  rows = λ schema form proper w ts. children_kept schema form w proper ts;
  pairs = pairs_of;
}
