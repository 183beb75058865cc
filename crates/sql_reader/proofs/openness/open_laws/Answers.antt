use Rattle.sql_reader.proofs.OpenTexts.{kinds_go_on}
use Rattle.sql_reader.proofs.openness.open_laws.Goals as goal

pub returns : goal.returns
returns c = kinds_go_on
