use Rattle.std.proofs.Common.{◌≡◌, ◌++◌, map}
use Rattle.sql_profile.specs.Trees.{bare_source}
use Rattle.natural_index.proofs.select.sources_at.Given as goal

abbrev pub invariant-loop-source : goal.invariant-loop-source
invariant-loop-source l = map bare_source l.all ≡ map bare_source l.initial.all
    ++ map bare_source l.yielded
