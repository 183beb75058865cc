use Rattle.std.proofs.Common.{◌≡◌, drop}
use Rattle.natural_keys.specs.Layouts.{type_in}
use Rattle.natural_keys.proofs.columns.type_in.Given as goal

abbrev pub invariant-loop-named : goal.invariant-loop-named
invariant-loop-named l = type_in l.name (drop l.named-index l.columns) ≡ type_in l.name l.columns
