use Rattle.std.proofs.Common.{◌∙◌, sym, arith}
use Rattle.reference_sql.proofs.Keys.{keys_end}
use Rattle.reference_sql.proofs.key_order.compare_keys.Goals as goal

pub returns : goal.returns
returns c =
    c.cmp.ensures ∙ sym (keys_end c.args.left.now c.args.right.now c.loop-i.i (omega (arith, c.min-i-end.ensures))) ∙ c.loop-i.invariant
