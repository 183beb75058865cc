use Rattle.std.proofs.Common.{◌≡◌, ◌++◌, drop, string_bytes}
use Rattle.normal_printer.specs.Parts.{gens_text}
use Rattle.normal_printer.proofs.bases.put_gens.Given as goal

abbrev pub invariant-loop-generator : goal.invariant-loop-generator
invariant-loop-generator l = string_bytes l.text ++ gens_text (drop l.generator-index l.gens) ≡ string_bytes l.initial.text ++ gens_text l.gens
