use Rattle.std.proofs.Common.{refl}
use Rattle.table_explanations.proofs.MachineFacts.{goes, met}
use Rattle.table_explanations.proofs.laws.walk_laws.Goals as goal

pub returns : goal.returns
returns c = record { begins = refl; goes = goes; met = met }
