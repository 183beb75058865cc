use Rattle.std.proofs.Common.{◌≡◌, map, take}
use Rattle.traced_meaning.specs.NumberedTables.{numbered_shape}
use Rattle.lineage.proofs.tables.numbered_schema.Given as goal

abbrev pub invariant-loop-shape : goal.invariant-loop-shape
invariant-loop-shape l = l.tables ≡ map numbered_shape (take l.shape-index l.shape-items)
