use Rattle.csv.specs.Records.{fields_of}
use Rattle.table_reader.proofs.RecordFacts.{reads_one}
use Rattle.table_reader.proofs.records.read_next.Goals as goal

pub returns : goal.returns
returns c =
    λ text rows. reads_one c.in-Ok.found text c.args.reader.now c.read_byte_record.new.self rows (fields_of c.read_byte_record.new.row)
    c.in-Ok.ensures.reads c.in-Ok.ensures.ready
