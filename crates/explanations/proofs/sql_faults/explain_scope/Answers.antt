use Rattle.explanations.specs.Explanations.{table_names}
use Rattle.explanations.proofs.NoRule.{none_has}
use Rattle.explanations.proofs.sql_faults.explain_scope.Goals as goal

pub returns : goal.returns
returns c =
    none_has c.args.file.now c.args.text.now c.args.place (table_names c.args.schema.now)
    c.args.found.now c.args.number c.excerpt.result c.in-None.ensures c.excerpt.ensures
