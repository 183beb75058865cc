use Rattle.nq_model.specs.declared.table.Schema.{Schema}
use Rattle.nq_top.specs.Reading.{schema_read}
use Rattle.nq_top.proofs.Readings.{one_reading}
use Rattle.nq_top.proofs.Steps.{text_counts, reading_leads}
use Rattle.nq_top.proofs.inputs.read_schema.Goals as goal

pub returns-clause-counts : goal.returns-clause-counts
returns-clause-counts g c =
    text_counts _ _ (λ (found : Schema). found) (schema_read one_reading.schemas c.as_slice.result.now) c.schema_of.result c.in_ok-text.ensures.counts (c.schema_of.ensures.says one_reading.schemas)

pub returns-clause-leads : goal.returns-clause-leads
returns-clause-leads g c =
    reading_leads _ c.args.name.now c.in_ok-text.text c.as_slice.result.now (λ (found : Schema). found) (λ reading text. schema_read reading.schemas text)
    _ _ c.schema_of.result c.as_slice.ensures c.in_ok-text.ensures.says c.in_ok-text.ensures.names (λ reading. c.schema_of.ensures.says reading.schemas)
