use Rattle.generated_inputs.proofs.Stored.{stored}
use Rattle.generated_inputs.proofs.tables.generated_tables.Goals as goal

pub returns-clause-stored : goal.returns-clause-stored
returns-clause-stored c = stored c.args.size c.requires
