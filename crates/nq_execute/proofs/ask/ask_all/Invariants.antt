use Rattle.nq_execute.proofs.Asks.{IsAsking}
use Rattle.nq_execute.proofs.ask.ask_all.Given as goal

abbrev pub invariant-loop-at : goal.invariant-loop-at
invariant-loop-at g l =
    let old = goal.SqlServer-dyn g (l.fn.server.vtable, l.fn.server.value) in
    let now = goal.SqlServer-dyn g (l.server.vtable, l.server.value) in
    IsAsking l.texts l.columns
    (old.loaded l.fn.server.value) (now.loaded l.server.value) (old.asks l.fn.server.value) (now.asks l.server.value)
    (old.honest l.fn.server.value) (now.honest l.server.value) (old.bound l.fn.server.value) (now.bound l.server.value)
    (old.failures l.fn.server.value) (now.failures l.server.value) l.at l.answers
