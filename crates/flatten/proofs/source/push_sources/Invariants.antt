use Rattle.std.proofs.Common.{◌≡◌, ◌++◌, map, take}
use Rattle.sql_profile.specs.Trees.{bare_source}
use Rattle.flatten.specs.Exprs.{source_of}
use Rattle.flatten.proofs.source.push_sources.Given as goal

abbrev pub invariant-loop-generator : goal.invariant-loop-generator
invariant-loop-generator l = map bare_source l.sources ≡ map bare_source l.initial.sources ++ map source_of (take l.generator-index l.gens)
