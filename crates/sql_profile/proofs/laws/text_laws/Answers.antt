use Rattle.sql_profile.proofs.TextLaws.{at_most_one_tree, at_most_one_fault, spelled_faultless, spelled_or_faulty, bytes_are_deep}
use Rattle.sql_profile.proofs.laws.text_laws.Goals as goal

pub returns : goal.returns
returns c = record {
  one_tree = at_most_one_tree;
  one_fault = at_most_one_fault;
  not_both = spelled_faultless;
  either = spelled_or_faulty;
  bytes_are_deep = bytes_are_deep;
}
