use Rattle.std.proofs.Common.{◌≡◌}
use Rattle.generated_inputs.specs.Generated.{rows_below, department_row}
use Rattle.generated_inputs.proofs.tables.departments.Given as goal

abbrev pub invariant-loop-row : goal.invariant-loop-row
invariant-loop-row l = l.rows ≡ rows_below (department_row l.size) l.row
