use Rattle.nq_json.proofs.TableFacts.{table_given, given_table, table_wrong, wrong_table}
use Rattle.nq_json.proofs.Names.{names_are}
use Rattle.nq_json.proofs.laws.json_table_laws.Goals as goal

pub returns : goal.returns
returns c = record {
  rows = λ shape text rows. (table_given shape text rows, given_table shape text rows);
  names = λ columns ms. names_are columns ms;
  fault = λ shape text e. (table_wrong shape text e, wrong_table shape text e);
}
