use Rattle.std.proofs.Common.{◌≡◌, ◌+◌, ◌≤◌, drop}
use Rattle.table_explanations.specs.Places.{place_from, start}
use Rattle.table_explanations.proofs.places.place_from.Given as goal

abbrev pub invariant-loop-at : goal.invariant-loop-at
invariant-loop-at l = record {
  is : l.at + place_from l.row l.column l.walk (drop l.at l.bytes)
      ≡ place_from l.row l.column start l.bytes;
  row : l.walk.row ≤ l.at;
  column : l.walk.column ≤ l.at + 1;
}
