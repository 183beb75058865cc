use Rattle.std.proofs.Common.{◌≡◌, drop}
use Rattle.lineage.specs.Decoding.{tables_at}
use Rattle.lineage.proofs.decoder.tables_at.Given as goal

abbrev pub invariant-loop-tag : goal.invariant-loop-tag
invariant-loop-tag l =
    tables_at l.tables (drop l.tag-index l.tags) l.at ≡ tables_at l.tables l.tags l.at
