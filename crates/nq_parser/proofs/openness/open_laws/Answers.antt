use Rattle.nq_parser.proofs.OpenTexts.{kinds_go_on}
use Rattle.nq_parser.proofs.openness.open_laws.Goals as goal

pub returns : goal.returns
returns c = kinds_go_on
