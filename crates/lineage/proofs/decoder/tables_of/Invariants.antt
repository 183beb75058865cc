use Rattle.std.proofs.Common.{◌≡◌, drop}
use Rattle.lineage.specs.Decoding.{tables_of}
use Rattle.lineage.proofs.decoder.tables_of.Given as goal

abbrev pub invariant-loop-entry : goal.invariant-loop-entry
invariant-loop-entry l = tables_of (drop l.entry-index l.tables) l.tag ≡ tables_of l.tables l.tag
