use Rattle.std.proofs.Common.{reverse}
use Rattle.nq_execute.proofs.Loads.{can_load_held}
use Rattle.nq_execute.proofs.load.load_one.Goals as goal

pub returns-in-Ok-clause-can : goal.returns-in-Ok-clause-can
returns-in-Ok-clause-can g c =
    can_load_held _ _ c.args.table (reverse c.args.rest.now) c.requires c.in-Ok.ensures.ok
