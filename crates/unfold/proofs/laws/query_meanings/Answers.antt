use Rattle.unfold.proofs.Meanings.{one_value, value_typed}
use Rattle.unfold.proofs.laws.query_meanings.Goals as goal

pub returns : goal.returns
returns c = record { one = one_value; typed = value_typed }
