use Rattle.std.proofs.Common.{◌≡◌, ◌++◌, string_bytes}
use Rattle.sql_printer.specs.Chains.{openings}
use Rattle.sql_printer.proofs.expr.put_openings.Given as goal

abbrev pub invariant-loop : goal.invariant-loop
invariant-loop l = string_bytes l.text ≡ string_bytes l.initial.text ++ openings l.counter
