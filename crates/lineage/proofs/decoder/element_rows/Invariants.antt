use Rattle.std.proofs.Common.{◌≡◌, ◌++◌, ◌+◌, drop, map}
use Rattle.nq_model.specs.Values.{nested}
use Rattle.lineage.specs.Decoding.{rows_under}
use Rattle.lineage.specs.TracedTrees.{row_name}
use Rattle.lineage.proofs.decoder.element_rows.Given as goal

abbrev pub invariant-loop-place : goal.invariant-loop-place
invariant-loop-place l =
    map row_name l.rows ++ rows_under (l.place + 1) (drop l.place l.tables) (nested l.element)
    ≡ rows_under 1 l.tables (nested l.element)
