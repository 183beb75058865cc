use Rattle.std.proofs.Common.{◌≡◌, ◌++◌, drop, false}
use Rattle.nq_model.specs.QueryScope.{undoubled}
use Rattle.lexical.proofs.quotes.undoubled.Given as goal

abbrev pub invariant-loop-byte : goal.invariant-loop-byte
invariant-loop-byte l = l.bytes.items ++ undoubled l.kept (drop l.byte-index l.spelled) ≡ undoubled false l.spelled
