use Rattle.std.proofs.Common.{◌≡◌, ◌≤◌, drop, length}
use Rattle.row_order.specs.Heads.{head_past}
use Rattle.row_order.proofs.heads.head_behind.Given as goal

abbrev pub invariant-loop-i : goal.invariant-loop-i
invariant-loop-i l = record { within : l.i ≤ length l.text; rest : head_past l.floor l.last (drop l.i l.prefix) (drop l.i l.text) ≡ head_past l.floor l.last l.prefix l.text }
