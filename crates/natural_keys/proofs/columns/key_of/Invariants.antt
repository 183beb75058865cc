use Rattle.std.proofs.Common.{◌≡◌, drop}
use Rattle.natural_keys.specs.Layouts.{table_key}
use Rattle.natural_keys.proofs.columns.key_of.Given as goal

abbrev pub invariant-loop-shape : goal.invariant-loop-shape
invariant-loop-shape l = table_key (drop l.shape-index l.shape-items) l.table
    ≡ table_key l.shape-items l.table
