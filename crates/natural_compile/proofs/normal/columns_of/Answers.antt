use Rattle.natural_compile.proofs.Printing.{columns_more}
use Rattle.natural_compile.proofs.normal.columns_of.Goals as goal

pub loop-path-preserved : goal.loop-path-preserved
loop-path-preserved g c =
    columns_more (g.S.IndexScheme.scheme c.args.scheme.now).columns c.loop-path.all c.push.new.self
    c.in_ok-columns.field-0 c.loop-path.path c.loop-path.invariant c.in_ok-columns.ensures
    c.in_ok-push.ensures.ok
