use Rattle.normal_printer.proofs.WordMaps.{spellable}
use Rattle.normal_printer.proofs.laws.printing_laws.Goals as goal

pub returns : goal.returns
returns c = λ schema term form words proper well has. spellable schema term form words proper well has
