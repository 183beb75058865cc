use Rattle.sql_profile.proofs.Spelled.{printed_spelled}
use Rattle.sql_profile.proofs.TokenHolds.{spelled_spellable}
use Rattle.sql_profile.proofs.laws.printing_laws.Goals as goal

pub returns : goal.returns
returns c = record { read_back = printed_spelled; spellable = spelled_spellable }
