use Rattle.schema_reader.proofs.Outcomes.{reads_ok, reads_spelled, reads_faulty}
use Rattle.schema_reader.proofs.read.read_schema.Goals as goal

pub returns-clause-ok : goal.returns-clause-ok
returns-clause-ok c = reads_ok c.args.text.now c.read.result c.read.ensures

pub returns-clause-spelled : goal.returns-clause-spelled
returns-clause-spelled c = reads_spelled c.args.text.now c.read.result c.read.ensures

pub returns-clause-faulty : goal.returns-clause-faulty
returns-clause-faulty c = reads_faulty c.args.text.now c.read.result c.read.ensures
