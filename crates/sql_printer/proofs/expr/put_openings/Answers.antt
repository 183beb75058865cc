use Rattle.std.proofs.Common.{string_bytes}
use Rattle.sql_printer.proofs.Chains.{opened}
use Rattle.sql_printer.proofs.expr.put_openings.Goals as goal

pub loop-preserved : goal.loop-preserved
loop-preserved c = opened c.loop.counter (string_bytes c.args.text.now) _ _ c.loop.invariant c.in_ok-push_str.ensures.bytes
