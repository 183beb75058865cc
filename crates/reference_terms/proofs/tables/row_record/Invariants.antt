use Rattle.std.proofs.Common.{◌≡◌, ◌≤◌, length, drop, zip, map}
use Rattle.nq_model.specs.Orders.{by_label}
use Rattle.nq_model.specs.Tables.{names_of}
use Rattle.nq_model.specs.Values.{base, fields_view}
use Rattle.reference_terms.proofs.tables.row_record.Given as goal

abbrev pub invariant-loop-place : goal.invariant-loop-place
invariant-loop-place l = record {
  columns : l.place ≤ length l.columns;
  row : l.place ≤ length l.row;
  made : fields_view l.fields ≡ by_label (drop l.place (zip (names_of l.columns) (map base l.row)));
}

abbrev pub decreases-loop-place : goal.decreases-loop-place
decreases-loop-place l = l.place
