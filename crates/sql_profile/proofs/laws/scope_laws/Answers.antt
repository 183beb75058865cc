use Rattle.sql_profile.proofs.Scoped.{tree_judged, tree_fine, tree_broken}
use Rattle.sql_profile.proofs.Lookups.{found_first, found_none, among_none, among_not}
use Rattle.sql_profile.proofs.laws.scope_laws.Goals as goal

pub returns : goal.returns
returns c = record {
  agree = λ tables tree columns. (tree_judged tables tree columns, tree_fine tables tree columns);
  broken = tree_broken;
  first_found = λ name before after columns. found_first name before after columns;
  none_found = λ name others. found_none name others;
  not_among = λ name names. (among_none name names, among_not name names);
}
