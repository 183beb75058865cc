use Rattle.std.proofs.Common.{◌≡◌, ◌++◌, false, string_bytes}
use Rattle.normal_printer.specs.Chains.{openings}
use Rattle.normal_printer.proofs.bases.put_openings.Given as goal

abbrev pub invariant-loop : goal.invariant-loop
invariant-loop l = string_bytes l.text ≡ string_bytes l.initial.text ++ openings false l.counter
