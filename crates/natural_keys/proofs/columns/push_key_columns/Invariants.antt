use Rattle.std.proofs.Common.{◌≡◌, ◌++◌, drop}
use Rattle.natural_keys.specs.Layouts.{key_columns}
use Rattle.natural_keys.proofs.columns.push_key_columns.Given as goal

abbrev pub invariant-loop-generator : goal.invariant-loop-generator
invariant-loop-generator l =
    l.all ++ key_columns l.schema.tables (drop l.generator-index l.gens) ≡ l.initial.all
    ++ key_columns l.schema.tables l.gens
