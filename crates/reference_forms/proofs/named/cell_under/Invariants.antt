use Rattle.std.proofs.Common.{◌≡◌, drop}
use Rattle.nq_model.specs.NamedRows.{cell_under}
use Rattle.reference_forms.proofs.named.cell_under.Given as goal

abbrev pub invariant-loop-named : goal.invariant-loop-named
invariant-loop-named l = cell_under l.column (drop l.named-index l.row) ≡ cell_under l.column l.row
