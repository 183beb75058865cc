use Rattle.std.proofs.Common.{◌≡◌, ◌++◌, ◌∷◌, [], get_or}
use Rattle.lexical.proofs.Undoubling.{skip_step, keep_step}
use Rattle.lexical.proofs.quotes.undoubled.Goals as goal
use Rattle.lexical.proofs.quotes.undoubled.Goals.{then-kept, else-kept+in_ok-push}

pub loop-byte-preserved : goal.loop-byte-preserved
loop-byte-preserved c = elim c.if-kept.branch [
  | then-kept w ↦
      let same : c.if-kept.bytes.items ≡ c.loop-byte.bytes.items = rw w.bytes-is in
      skip_step c.loop-byte.bytes.items c.if-kept.bytes.items c.loop-byte.kept c.if-kept.kept c.args.spelled.now c.loop-byte.byte-index _
      c.loop-byte-test.true w.if-kept.true same w.kept-is c.loop-byte.invariant
  | else-kept+in_ok-push w ↦
      let longer : c.if-kept.bytes.items ≡ c.loop-byte.bytes.items ++ get_or c.args.spelled.now c.loop-byte.byte-index 0 ∷ [] =
      rw w.bytes-is (rw w.in_ok-push.was at w.push.ensures.items) in
      keep_step c.loop-byte.bytes.items c.if-kept.bytes.items c.loop-byte.kept c.if-kept.kept c.args.spelled.now c.loop-byte.byte-index _
      c.loop-byte-test.true w.if-kept.false longer w.kept-is c.loop-byte.invariant
]
