use Rattle.std.proofs.Common.{◌≡◌, drop, option_copied}
use Rattle.natural_index.specs.Naming.{keyless, least, lesser_of}
use Rattle.natural_index.proofs.keyless.least_of_gens.Given as goal

abbrev pub invariant-loop-generator : goal.invariant-loop-generator
invariant-loop-generator l =
    lesser_of (option_copied l.found)
    (least (keyless l.schema.tables (drop l.generator-index l.gens)))
    ≡ lesser_of (option_copied l.so_far) (least (keyless l.schema.tables l.gens))
