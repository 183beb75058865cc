use Rattle.std.proofs.Common.{◌≡◌, ◌++◌, drop}
use Rattle.command_line.specs.Paths.{columns_text}
use Rattle.command_line.proofs.paths.put_columns.Given as goal

abbrev pub invariant-loop-ty : goal.invariant-loop-ty
invariant-loop-ty l = l.text ++ columns_text (drop l.ty-index l.columns) ≡ l.initial.text ++ columns_text l.columns
