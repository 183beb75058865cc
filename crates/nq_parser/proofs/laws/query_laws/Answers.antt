use Rattle.nq_parser.proofs.ProperTerms.{spelled_proper, spelled_closed}
use Rattle.nq_parser.proofs.Verdicts.{one_holds, not_both, one_term, one_fault, first_spelled}
use Rattle.nq_parser.proofs.laws.query_laws.Goals as goal

pub returns-clause-some : goal.returns-clause-some
returns-clause-some c = one_holds

pub returns-clause-not_both : goal.returns-clause-not_both
returns-clause-not_both c = not_both

pub returns-clause-one_term : goal.returns-clause-one_term
returns-clause-one_term c = one_term

pub returns-clause-one_fault : goal.returns-clause-one_fault
returns-clause-one_fault c = one_fault

pub returns-clause-proper : goal.returns-clause-proper
returns-clause-proper c = spelled_proper

pub returns-clause-closed : goal.returns-clause-closed
returns-clause-closed c = spelled_closed

pub returns-clause-keeps_first : goal.returns-clause-keeps_first
returns-clause-keeps_first c = first_spelled
