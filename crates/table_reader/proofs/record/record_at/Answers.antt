use Rattle.std.proofs.Common.{◌∷◌, [], ◌++◌, refl, arith, length-append}
use Rattle.csv.specs.Records.{fields_of}
use Rattle.table_reader.proofs.NumberFacts.{record_read, no_record}
use Rattle.table_reader.proofs.record.record_at.Goals as goal

pub loop-at-init : goal.loop-at-init
loop-at-init c = ([], refl, c.reader_of-reader.ensures)

pub loop-at-preserved : goal.loop-at-preserved
loop-at-preserved c =
    let old = c.loop-at.invariant in
    let one = c.in_ok-read_next.ensures c.args.text.now old.0 old.2 in (
      old.0 ++ fields_of c.read_next.new.fields ∷ [],
      rw (length-append, old.1) refl,
      rw c.if-not-branch.false at one,
    )

pub returns-then-not-branch : goal.returns-then-not-branch
returns-then-not-branch c =
    let old = c.loop-at.invariant in
    let none = c.in_ok-read_next.ensures c.args.text.now old.0 old.2 in
    no_record c.args.text.now old.0 c.args.number (rw c.if-not-branch.true at none)
    (rw old.1 (omega arith))

pub returns-then-branch : goal.returns-then-branch
returns-then-branch c =
    let old = c.loop-at.invariant in
    let one = c.in_ok-read_next-2.ensures c.args.text.now old.0 old.2 in
    record_read c.args.text.now c.read_next-2.new.reader old.0
    (fields_of c.read_next-2.new.fields) c.args.number (rw c.if-branch.true at one)
    (rw old.1 (omega arith))

pub returns : goal.returns
returns c =
    let old = c.loop-at.invariant in
    let none = c.in_ok-read_next-2.ensures c.args.text.now old.0 old.2 in
    no_record c.args.text.now old.0 c.args.number (rw c.if-branch.false at none)
    (rw old.1 (omega arith))
