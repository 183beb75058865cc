use Rattle.nq_ir.proofs.Whole.{lets_build}
use Rattle.nq_ir.proofs.laws.let_laws.Goals as goal

pub returns : goal.returns
returns c = λ schema form tables proper w h rows g. lets_build schema form w proper tables h rows g
