use Rattle.std.proofs.Common.{take, refl}
use Rattle.expected_sql_tokens.proofs.Picking.{expects_of}
use Rattle.expected_sql_tokens.proofs.expected.expected_sql_kinds.Goals as goal

pub returns-in_ok-kinds-in-Some : goal.returns-in_ok-kinds-in-Some
returns-in_ok-kinds-in-Some c =
    let front = rw c.in-Some.is at c.in_ok-count.ensures in
    expects_of c.args.depth c.args.tokens.now (take c.in-Some.count c.args.tokens.now)
    c.in-Some.count c.in_ok-kinds-in-Some.kinds refl c.open_laws.ensures front
    c.in_ok-kinds-in-Some.ensures
