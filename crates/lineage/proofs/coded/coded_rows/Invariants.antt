use Rattle.std.proofs.Common.{◌≡◌, ◌++◌, ◌+◌, drop, map}
use Rattle.nq_model.specs.Values.{nested}
use Rattle.traced_meaning.specs.TracedValues.{rows_from}
use Rattle.lineage.specs.TracedTrees.{row_name}
use Rattle.lineage.proofs.coded.coded_rows.Given as goal

abbrev pub invariant-loop-place : goal.invariant-loop-place
invariant-loop-place l =
    map nested l.coded ++ rows_from (l.place + 1) (map row_name (drop l.place l.rows))
    ≡ rows_from 1 (map row_name l.rows)
