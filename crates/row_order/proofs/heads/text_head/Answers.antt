use Rattle.std.proofs.Common.{◌≡◌, ◌-◌, ◌^◌, suc, ◌∷◌, drop, get_or, arith, drop-cons, ap, ◌∙◌}
use Rattle.row_order.specs.Heads.{head_of_text}
use Rattle.row_order.proofs.Ranking.{at_end, head_within}
use Rattle.row_order.proofs.heads.text_head.Goals as goal
use Rattle.row_order.proofs.heads.text_head.Goals.{then-room-le1-via-then-room-le1, then-room-le1-via-else-room-le1+then-byte-floor}

pub overflow_cast-result : goal.overflow_cast-result
overflow_cast-result c =
    let most = head_within c.args.floor c.args.last (2 ^ 32 - 2) c.args.text.now in
    let rest = c.loop-byte.invariant.rest in
    omega (arith, most, rest)

pub overflow_cast-result-2 : goal.overflow_cast-result-2
overflow_cast-result-2 c =
    let most = head_within c.args.floor c.args.last (2 ^ 32 - 2) c.args.text.now in
    let rest = c.loop-byte.invariant.rest in
    omega (arith, most, rest)

pub returns-then-room-le1 : goal.returns-then-room-le1
returns-then-room-le1 c =
    let floor = c.args.floor in
    let last = c.args.last in
    let room = c.loop-byte.room in
    let i = c.loop-byte.byte-index in
    let text = c.args.text.now in
    let rest = c.loop-byte.invariant.rest in
    elim c.then-room-le1.branch [
      | then-room-le1-via-then-room-le1 w ↦ let most = head_within floor last room (drop i text) in omega (arith, rest, most, w.if-room-le1)
      | then-room-le1-via-else-room-le1+then-byte-floor w ↦
          let here : drop i text ≡ get_or text i 0 ∷ drop (suc i) text = drop-cons text i 0 c.loop-byte-test.true in
          let end : head_of_text floor last room (drop i text) ≡ 0 = ap (head_of_text floor last room) here ∙ at_end floor last (get_or text i 0) room (drop (suc i) text) (omega (arith, w.if-byte-floor)) in
          omega (arith, rest, end)
    ]
