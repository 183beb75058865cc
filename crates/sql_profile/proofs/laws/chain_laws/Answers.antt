use Rattle.sql_profile.proofs.Trees.{bare_chain, bare_chain_more, chain_more}
use Rattle.sql_profile.proofs.laws.chain_laws.Goals as goal

pub returns : goal.returns
returns c = record { one_more = chain_more; bare_more = bare_chain_more; bare_of = bare_chain }
