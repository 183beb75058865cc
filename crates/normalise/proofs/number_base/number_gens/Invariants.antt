use Rattle.std.proofs.Common.{◌≡◌, ◌++◌, drop}
use Rattle.nq_ir.specs.NormalForms.{number_gens}
use Rattle.normalise.proofs.number_base.number_gens.Given as goal

abbrev pub invariant-loop-table : goal.invariant-loop-table
invariant-loop-table l = number_gens l.next l.tables ≡ l.gens ++ number_gens l.number (drop l.table-index l.tables)
