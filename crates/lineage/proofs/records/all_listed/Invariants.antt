use Rattle.std.proofs.Common.{◌≡◌, map, take}
use Rattle.nq_model.specs.Values.{nested}
use Rattle.lineage.specs.Recorded.{row_listed}
use Rattle.lineage.proofs.records.all_listed.Given as goal

abbrev pub invariant-loop-row : goal.invariant-loop-row
invariant-loop-row l =
    map nested l.made ≡ map row_listed (map nested (take l.row-index l.rows))
