use Rattle.std.proofs.Common.{ap}
use Rattle.command_line.specs.Commands.{a_query, an_sql_text}
use Rattle.command_line.specs.Words.{subject_view}
use Rattle.nq_top.proofs.Explainings.{at_subject}
use Rattle.nq_top.proofs.explain.gather_subject.Goals as goal

pub returns-in-Query-clause-tells : goal.returns-in-Query-clause-tells
returns-in-Query-clause-tells g c =
    at_subject (subject_view c.args.subject) (a_query c.in-Query.name.now) _ _ _ _ _
    (ap subject_view c.in-Query.is) c.gather_query.ensures.tells

pub returns-in-Sql-clause-tells : goal.returns-in-Sql-clause-tells
returns-in-Sql-clause-tells g c =
    at_subject (subject_view c.args.subject) (an_sql_text c.in-Sql.name.now) _ _ _ _ _
    (ap subject_view c.in-Sql.is) c.gather_sql.ensures.tells
