use Rattle.std.proofs.Common.{◌≡◌, List, length}
use Rattle.table_reader.specs.Records.{Record, HasRead}
use Rattle.table_reader.proofs.record.record_at.Given as goal

abbrev pub invariant-loop-at : goal.invariant-loop-at
invariant-loop-at l =
    (given : List Record) × (length given ≡ l._at) × HasRead l.text l.reader given
