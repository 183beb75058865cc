use Rattle.std.proofs.Common.{◌∙◌, codes}
use Rattle.diagnostics.specs.RuleTexts.{example_schema, schema_lines}
use Rattle.diagnostics.proofs.Pieces.{on_ok, put_two}
use Rattle.diagnostics.proofs.rule_texts.put_schema.Goals as goal

pub returns : goal.returns
unfolding schema_lines
returns c =
    on_ok c.extend_from_slice-2.result
    (put_two c.args.text.now c.extend_from_slice.new.self c.extend_from_slice-2.new.self
    (codes "The examples are over\n") c.as_bytes.result.now example_schema
    c.in_ok-extend_from_slice.ensures.ok (c.as_bytes.ensures.value ∙ c.example_schema.ensures))
    c.extend_from_slice-2.ensures.ok
