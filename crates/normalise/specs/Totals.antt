-- Counts of comprehensions without their bodies.
use Rattle.std.specs.Prelude.{List, [], ◌∷◌}
use Rattle.nq_ir.specs.RawForms.{RawBase, RawTests, no_raw_test, raw_test}
use Rattle.normalise.specs.Raw.{count_in}

abbrev pub counts_of : RawTests → List RawBase
counts_of no_raw_test = []
counts_of (raw_test gs bs ts) = count_in (record { tables = gs; conds = bs }) ∷ counts_of ts
