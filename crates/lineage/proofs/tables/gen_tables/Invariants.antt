use Rattle.std.proofs.Common.{◌≡◌, take}
use Rattle.lineage.specs.ListedTables.{gen_tables}
use Rattle.lineage.proofs.tables.gen_tables.Given as goal

abbrev pub invariant-loop-generator : goal.invariant-loop-generator
invariant-loop-generator l = l.tables ≡ gen_tables (take l.generator-index l.gens)
