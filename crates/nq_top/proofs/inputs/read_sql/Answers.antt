use Rattle.std.proofs.Common.{refl}
use Rattle.nq_top.specs.Reading.{sql_read}
use Rattle.nq_top.specs.Steps.{sql_view}
use Rattle.nq_top.proofs.Readings.{one_reading}
use Rattle.nq_top.proofs.Steps.{text_counts, reading_leads}
use Rattle.nq_top.proofs.inputs.read_sql.Goals as goal

pub returns-clause-counts : goal.returns-clause-counts
returns-clause-counts g c =
    text_counts _ _ sql_view (sql_read one_reading.sqls c.args.schema.now c.in_ok-text.text) c.sql_of.result c.in_ok-text.ensures.counts (c.sql_of.ensures.says one_reading.sqls)

pub returns-clause-leads : goal.returns-clause-leads
returns-clause-leads g c =
    reading_leads _ c.args.name.now c.in_ok-text.text c.in_ok-text.text sql_view (λ reading text. sql_read reading.sqls c.args.schema.now text)
    _ _ c.sql_of.result refl c.in_ok-text.ensures.says c.in_ok-text.ensures.names (λ reading. c.sql_of.ensures.says reading.sqls)
