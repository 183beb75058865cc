use Rattle.std.proofs.Common.{sym, subst, Err}
use Rattle.nq_model.specs.declared.table.Schema.{Schema}
use Rattle.nq_top.specs.Steps.{ReadSays}
use Rattle.nq_top.specs.Reading.{schema_read}
use Rattle.command_line.specs.declared.refusal.InputRefusal.{InputRefusal}
use Rattle.nq_top.proofs.FreeNames.{free_names}
use Rattle.nq_top.proofs.SchemaTexts.{schema_said, schema_refused}
use Rattle.nq_top.proofs.texts.schema_of.Goals as goal

pub returns-in-Ok-clause-says : goal.returns-in-Ok-clause-says
returns-in-Ok-clause-says c =
    λ reading. schema_said reading c.args.text.now c.read_schema.result c.in-Ok.schema c.read_schema.ensures.spelled c.read_schema.ensures.faulty c.in-Ok.is

pub returns-in-Err-clause-says : goal.returns-in-Err-clause-says
returns-in-Err-clause-says c = λ reading.
    subst (λ (r : InputRefusal). ReadSays (λ (found : Schema). found) (schema_read reading c.args.text.now) (Err r)) (sym c.schema_refusal.ensures)
    (schema_refused reading c.args.text.now c.read_schema.result c.in-Err.fault c.read_schema.ensures.spelled c.read_schema.ensures.faulty c.in-Err.is)

pub returns-in-Ok-clause-free : goal.returns-in-Ok-clause-free
returns-in-Ok-clause-free c =
    free_names c.in-Ok.schema
    (c.schema_laws.ensures.words c.args.text.now c.in-Ok.schema c.in-Ok.ensures.ok.1)
