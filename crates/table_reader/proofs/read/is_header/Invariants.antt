use Rattle.std.proofs.Common.{◌≡◌, drop, length}
use Rattle.csv.specs.Records.{fields_of}
use Rattle.std.specs.Str.{bytes_eq}
use Rattle.std.specs.Cmp.Lexicographic.{pointwise}
use Rattle.nq_model.specs.Tables.{names_of}
use Rattle.table_reader.proofs.read.is_header.Given as goal

abbrev pub invariant-loop-at : goal.invariant-loop-at
invariant-loop-at l = record {
  width : length (fields_of l.fields) ≡ length l.shape.columns;
  same : pointwise bytes_eq (fields_of l.fields) (names_of l.shape.columns) ≡ pointwise bytes_eq (drop l.at (fields_of l.fields)) (names_of (drop l.at l.shape.columns));
}
