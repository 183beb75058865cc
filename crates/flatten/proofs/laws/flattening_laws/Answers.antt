use Rattle.flatten.proofs.Spellable.{tree_spellable}
use Rattle.flatten.proofs.ScopeTree.{tree_scoped, types_named}
use Rattle.flatten.proofs.Allowed.{allowed_rows}
use Rattle.flatten.proofs.laws.flattening_laws.Goals as goal

pub returns : goal.returns
returns c = record {
  rows = allowed_rows;
  scoped = tree_scoped;
  spellable = tree_spellable;
  types = types_named 0;
}
