use Rattle.std.proofs.Common.{sym, subst, subst₂}
use Rattle.nq_ir.specs.Trees.{FormTree, form_tree}
use Rattle.nq_ir.specs.WellFormed.{IsWellFormed}
use Rattle.nq_model.specs.Tables.{IsProperSchema}
use Rattle.nq_model.specs.declared.table.Schema.{Schema}
use Rattle.lineage.proofs.NumberedTypes.{no_numbers}
use Rattle.lineage.proofs.TypedForms.{form_well}
use Rattle.lineage.proofs.form.trace_form.Goals as goal

pub returns-clause-proper : goal.returns-clause-proper
returns-clause-proper c =
    subst IsProperSchema (sym c.in_ok-numbered_schema.ensures)
    (c.trace_laws.ensures.proper c.args.schema.now c.requires.proper c.requires.free)

pub returns-clause-well_formed : goal.returns-clause-well_formed
returns-clause-well_formed c =
    let schema = c.args.schema.now in
    subst₂ (λ (s : Schema) (f : FormTree). IsWellFormed s.tables f)
    (sym c.in_ok-numbered_schema.ensures) (sym c.in_ok-form_traced.ensures)
    (form_well schema.tables (no_numbers schema c.requires.free) (form_tree c.args.normal.now)
    c.requires.well_formed)
