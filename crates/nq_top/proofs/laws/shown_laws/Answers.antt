use Rattle.nq_top.proofs.HeadlineLaws.{as_many_texts}
use Rattle.nq_top.proofs.laws.shown_laws.Goals as goal

pub returns : goal.returns
returns c = as_many_texts
