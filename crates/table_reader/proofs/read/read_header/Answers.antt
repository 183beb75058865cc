use Rattle.std.proofs.Common.{[], sym}
use Rattle.csv.specs.Records.{fields_of}
use Rattle.table_reader.proofs.ReadFacts.{nothing_read, header_read}
use Rattle.table_reader.proofs.read.read_header.Goals as goal

pub returns-then-not-branch : goal.returns-then-not-branch
returns-then-not-branch c =
    λ text has. nothing_read c.args.shape.now text (rw c.if-not-branch.true at (c.in_ok-read_next.ensures text [] has))

pub returns : goal.returns
returns c =
    λ text has. header_read c.args.shape.now text c.is_header.result c.read_next.new.reader (fields_of c.read_next.new.fields)
    (rw c.if-not-branch.false at (c.in_ok-read_next.ensures text [] has)) (sym c.is_header.ensures)
