use Rattle.std.proofs.Common.{◌≤◌, ◌-◌, length}
use Rattle.schema_reader.specs.Reading.{reader_view}
use Rattle.schema_reader.proofs.Progress.{HasRead}
use Rattle.schema_reader.proofs.written.read_tables.Given as goal

abbrev pub invariant-loop-reader : goal.invariant-loop-reader
invariant-loop-reader l = record {
  within : l.at ≤ length l.text;
  read : HasRead l.text l.at (reader_view l.reader);
}

abbrev pub decreases-loop-reader : goal.decreases-loop-reader
decreases-loop-reader l = length l.text - l.at
