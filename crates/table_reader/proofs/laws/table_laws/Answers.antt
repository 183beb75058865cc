use Rattle.table_reader.specs.Records.{records_of}
use Rattle.table_reader.specs.Tables.{rows_of, table_of}
use Rattle.table_reader.proofs.TableFacts.{under_given, given_under, under_wrong, wrong_under, either_under, not_both, one_fault, some_rows}
use Rattle.table_reader.proofs.laws.table_laws.Goals as goal

pub returns : goal.returns
unfolding table_of rows_of
returns c = record {
  rows = λ shape text rows. (under_given shape (records_of text) rows, given_under shape (records_of text) rows);
  fault = λ shape text e. (under_wrong shape (records_of text) e, wrong_under shape (records_of text) e);
  either = λ shape text. either_under shape (records_of text);
  not_both = λ shape text. not_both shape (records_of text);
  one_fault = λ shape text. one_fault shape (records_of text);
  rows_of = λ shape text. some_rows (table_of shape text);
}
