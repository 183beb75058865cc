use Rattle.canon.proofs.Apart.{apart}
use Rattle.canon.proofs.Typed.{texts_equal}
use Rattle.canon.proofs.laws.text_laws.Goals as goal

pub returns : goal.returns
returns c = record {
  told = apart;
  same = texts_equal;
}
