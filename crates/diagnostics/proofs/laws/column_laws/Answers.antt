use Rattle.diagnostics.proofs.Characters.{characters, whole}
use Rattle.diagnostics.proofs.laws.column_laws.Goals as goal

pub returns : goal.returns
returns c = record {
  whole = whole;
  characters = characters;
}
