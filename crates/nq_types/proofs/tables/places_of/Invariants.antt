use Rattle.std.proofs.Common.{◌≤◌, drop, length}
use Rattle.nq_types.specs.Indexes.{TellsPlaces}
use Rattle.nq_types.proofs.tables.places_of.Given as goal

abbrev pub invariant-loop-place : goal.invariant-loop-place
invariant-loop-place l = (l.place ≤ length l.shapes) × TellsPlaces l.place (drop l.place l.shapes) l.places

abbrev pub decreases-loop-place : goal.decreases-loop-place
decreases-loop-place l = l.place
