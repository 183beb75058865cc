use Rattle.std.proofs.Common.{◌≡◌, map}
use Rattle.nq_model.specs.Numberings.{count_from}
use Rattle.natural_compile.proofs.normal.columns_of.Given as goal

abbrev pub invariant-loop-path : goal.invariant-loop-path
invariant-loop-path g l =
    l.all ≡ map (g.S.IndexScheme.scheme l.scheme).columns (count_from 0 l.path)
