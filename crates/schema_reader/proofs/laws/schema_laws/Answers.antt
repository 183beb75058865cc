use Rattle.schema_reader.proofs.Verdicts.{one_holds, not_both, one_schema, one_fault, spelled_proper}
use Rattle.schema_reader.proofs.Verdicts.{spelled_words}
use Rattle.schema_reader.proofs.laws.schema_laws.Goals as goal

pub returns-clause-some : goal.returns-clause-some
returns-clause-some c = one_holds

pub returns-clause-not_both : goal.returns-clause-not_both
returns-clause-not_both c = not_both

pub returns-clause-one_schema : goal.returns-clause-one_schema
returns-clause-one_schema c = one_schema

pub returns-clause-one_fault : goal.returns-clause-one_fault
returns-clause-one_fault c = one_fault

pub returns-clause-proper : goal.returns-clause-proper
returns-clause-proper c = spelled_proper

pub returns-clause-words : goal.returns-clause-words
returns-clause-words c = spelled_words
