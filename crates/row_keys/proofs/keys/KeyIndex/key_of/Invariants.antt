use Rattle.std.proofs.Common.{◌≡◌, take, map}
use Rattle.nq_model.specs.CellRefs.{cell_seen}
use Rattle.row_keys.specs.FirstRows.{cell_of_key, cells_at}
use Rattle.row_keys.proofs.keys.KeyIndex.key_of.Given as goal

abbrev pub invariant-loop-place : goal.invariant-loop-place
invariant-loop-place l = map cell_of_key l.key.items ≡ cells_at (map cell_seen l.row) (take l.place-index l.self.columns.items)
