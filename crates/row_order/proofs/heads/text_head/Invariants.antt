use Rattle.std.proofs.Common.{◌≡◌, ◌+◌, ◌-◌, ◌^◌, ◌<◌, drop}
use Rattle.row_order.specs.Heads.{head_of_text}
use Rattle.row_order.proofs.heads.text_head.Given as goal

abbrev pub invariant-loop-byte : goal.invariant-loop-byte
invariant-loop-byte l = record {
  within : l.head + l.room < 2 ^ 32;
  rest : l.head + head_of_text l.floor l.last l.room (drop l.byte-index l.text) ≡ 1 + head_of_text l.floor l.last (2 ^ 32 - 2) l.text;
}
