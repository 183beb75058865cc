use Rattle.nq_execute.proofs.Writings.{text_same, traced_same, rows_same}
use Rattle.nq_execute.proofs.laws.writing_laws.Goals as goal

pub returns-clause-same : goal.returns-clause-same
returns-clause-same c = text_same

pub returns-clause-traces : goal.returns-clause-traces
returns-clause-traces c = traced_same

pub returns-clause-rows : goal.returns-clause-rows
returns-clause-rows c = rows_same c.row_laws.ensures.one c.row_laws.ensures.text
