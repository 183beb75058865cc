use Rattle.nq_top.specs.Reading.{query_read}
use Rattle.nq_top.specs.Steps.{typed_view}
use Rattle.nq_top.proofs.Readings.{one_reading}
use Rattle.nq_top.proofs.Steps.{text_counts, reading_leads}
use Rattle.nq_top.proofs.inputs.read_query.Goals as goal

pub returns-clause-counts : goal.returns-clause-counts
returns-clause-counts g c =
    text_counts _ _ typed_view (query_read one_reading.queries c.args.schema.now c.as_slice.result.now) c.query_of.result c.in_ok-text.ensures.counts (c.query_of.ensures.says one_reading.queries)

pub returns-clause-leads : goal.returns-clause-leads
returns-clause-leads g c =
    reading_leads _ c.args.name.now c.in_ok-text.text c.as_slice.result.now typed_view (λ reading text. query_read reading.queries c.args.schema.now text)
    _ _ c.query_of.result c.as_slice.ensures c.in_ok-text.ensures.says c.in_ok-text.ensures.names (λ reading. c.query_of.ensures.says reading.queries)
