use Rattle.std.proofs.Common.{map}
use Rattle.schema_reader.specs.Reading.{table_view}
use Rattle.schema_reader.proofs.Outcomes.{answers_reads}
use Rattle.schema_reader.proofs.read.read.Goals as goal

pub returns : goal.returns
returns c =
    answers_reads c.args.text.now c.schema_of.result (map table_view c.in_ok-tables.tables) c.in_default.ensures.cases.1 c.in_ok-tables.ensures
    (rw c.as_slice.ensures at c.schema_of.ensures)
