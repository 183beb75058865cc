use Rattle.std.proofs.Common.{rules}
use Rattle.command_line.specs.Words.{subject_view}
use Rattle.nq_top.specs.Judging.{schema_explained}
use Rattle.nq_top.specs.Limits.{text_limit}
use Rattle.nq_top.specs.Reading.{schema_read}
use Rattle.nq_top.proofs.Explainings.{schema_faulty, schema_goes, text_goes}
use Rattle.nq_top.proofs.SchemaTexts.{schema_refused, schema_said}
use Rattle.nq_top.proofs.Steps.{memory_stops}
use Rattle.nq_top.proofs.explain.gather_explained.Goals as goal

pub returns-in-Ok-clause-tells : goal.returns-in-Ok-clause-tells
returns-in-Ok-clause-tells g c =
    text_goes text_limit _ _ c.args.schema.now c.in_ok-text.text c.as_slice-bytes.result.now
    (λ reading files text. schema_explained reading files (subject_view c.args.subject)
    c.args.schema.now text (schema_read reading.schemas text)) _ _ _ _ c.as_slice-bytes.ensures
    c.in_ok-text.ensures.same c.in_ok-text.ensures.says c.in_ok-text.ensures.names
    (schema_goes _ (subject_view c.args.subject) c.args.schema.now
    c.as_slice-bytes.result.now c.in-Ok.found _ _
    c.gather_subject.result
    (λ reading. schema_said reading c.as_slice-bytes.result.now c.read_schema.result c.in-Ok.found
    c.read_schema.ensures.spelled c.read_schema.ensures.faulty c.in-Ok.is)
    c.gather_subject.ensures.tells)

pub returns-in_err-made-in-Err-clause-tells : goal.returns-in_err-made-in-Err-clause-tells
returns-in_err-made-in-Err-clause-tells g c =
    text_goes text_limit _ _ c.args.schema.now c.in_ok-text.text c.as_slice-bytes.result.now
    (λ reading files text. schema_explained reading files (subject_view c.args.subject)
    c.args.schema.now text (schema_read reading.schemas text)) _ _ _ _ c.as_slice-bytes.ensures
    c.in_ok-text.ensures.same c.in_ok-text.ensures.says c.in_ok-text.ensures.names
    (memory_stops _ (λ reading files. schema_explained reading files
    (subject_view c.args.subject)
    c.args.schema.now c.as_slice-bytes.result.now
    (schema_read reading.schemas c.as_slice-bytes.result.now))
    _ _ (search rules))

pub returns-clause-tells : goal.returns-clause-tells
returns-clause-tells g c =
    schema_faulty _ (subject_view c.args.subject) c.args.schema.now c.as_bytes.result.now
    c.in_ok-text.text
    c.as_slice-bytes.result.now c.in-Err.fault c.in_ok-made-in-Err.made _ _ c.as_slice-bytes.ensures
    c.as_bytes.ensures.value c.in_ok-text.ensures.says c.in_ok-text.ensures.names
    (λ reading. schema_refused reading c.as_slice-bytes.result.now c.read_schema.result
    c.in-Err.fault c.read_schema.ensures.spelled c.read_schema.ensures.faulty c.in-Err.is)
    c.in_ok-made-in-Err.ensures
