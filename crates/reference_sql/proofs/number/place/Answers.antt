use Rattle.std.proofs.Common.{rules, get_or, refl}
use Rattle.reference_sql.proofs.Dealing.{none_yet, looked, looked_at_all}
use Rattle.reference_sql.proofs.number.place.Goals as goal

pub loop-i-init : goal.loop-i-init
loop-i-init c = none_yet c.args.keys.now c.args.numbers.now c.args.key.now c.requires

pub loop-i-preserved : goal.loop-i-preserved
loop-i-preserved c =
    looked c.args.ties c.args.keys.now c.args.numbers.now c.args.key.now c.loop-i.i c.loop-i.place (get_or c.args.numbers.now c.loop-i.i 0) c.index-keys-i.result c.in_ok-place.place c.requires (search rules) refl c.index-keys-i.is (search rules) c.loop-i.invariant

pub returns : goal.returns
returns c = looked_at_all c.args.keys.now c.args.numbers.now c.args.key.now c.loop-i.i c.loop-i.place c.requires (search rules) c.loop-i.invariant
