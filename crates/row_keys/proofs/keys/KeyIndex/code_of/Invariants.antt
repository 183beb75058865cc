use Rattle.std.proofs.Common.{◌≡◌, map, take}
use Rattle.nq_model.specs.CellRefs.{cell_seen}
use Rattle.row_keys.specs.Codes.{key_code}
use Rattle.row_keys.specs.FirstRows.{cells_at}
use Rattle.row_keys.proofs.keys.KeyIndex.code_of.Given as goal

abbrev pub invariant-loop-place : goal.invariant-loop-place
invariant-loop-place l = l.code ≡ key_code (cells_at (map cell_seen l.row) (take l.place-index l.place-items))
