use Rattle.std.proofs.Common.{List, ap, rules, subst, ◌∙◌}
use Rattle.sql_profile.specs.declared.server.Loaded.{Loaded}
use Rattle.lineage_compile.specs.Tables.{HaveFewRows, with_numbers}
use Rattle.nq_top.specs.Plans.{draft_view}
use Rattle.nq_top.specs.Steps.{typed_view}
use Rattle.nq_top.proofs.TracedRuns.{lineage_goes, lineage_servable, lineage_stops}
use Rattle.nq_top.proofs.TracedRuns.{lineage_unmade, lineage_wants}
use Rattle.nq_top.proofs.gather.gather_lineage.Goals as goal

pub returns-in_err-draft-clause-tells : goal.returns-in_err-draft-clause-tells
returns-in_err-draft-clause-tells g c =
    lineage_unmade c.args.writing (g.I.Inputs.held c.args.inputs.now) c.args.folder.now
    c.args.schema.now (typed_view c.args.query) _ _ (search rules)

pub returns-in_err-tables-clause-tells : goal.returns-in_err-tables-clause-tells
returns-in_err-tables-clause-tells g c =
    lineage_stops c.args.writing (g.I.Inputs.held c.args.inputs.now) c.args.folder.now
    c.args.schema.now (typed_view c.args.query) c.as_slice-shapes.result.now c.new.result
    c.as_slice-shapes.ensures c.new.ensures _ _ c.in_err-tables.field-0.0 _ (search rules)
    c.in_err-tables.ensures.tells

pub returns-in_err-numbered-clause-tells : goal.returns-in_err-numbered-clause-tells
returns-in_err-numbered-clause-tells g c =
    lineage_wants c.args.writing (g.I.Inputs.held c.args.inputs.now) c.args.folder.now
    c.args.schema.now (typed_view c.args.query) c.as_slice-shapes.result.now c.new.result
    c.as_slice-shapes.ensures c.new.ensures _ _ c.in_ok-tables.tables
    c.in_ok-tables.ensures.tells _ (search rules)

pub returns-clause-servable : goal.returns-clause-servable
returns-clause-servable g c =
    let few = subst (λ (ts : List Loaded). HaveFewRows ts) c.as_slice.ensures
    c.in_ok-numbered.ensures.few in
    lineage_servable c.args.writing (g.I.Inputs.held c.args.inputs.now) c.args.folder.now
    c.args.schema.now (typed_view c.args.query) c.as_slice-shapes.result.now c.new.result
    c.as_slice-shapes.ensures c.new.ensures _ _ c.in_ok-tables.tables c.in_ok-tables.ensures.tells
    (draft_view c.in_ok-draft.draft) c.in_ok-numbered.numbered c.plan_of.result
    c.in_ok-tables.ensures.reads few
    (c.in_ok-numbered.ensures.are ∙ ap with_numbers c.as_slice.ensures) c.plan_of.ensures
    c.in_ok-draft.ensures.servable

pub returns-clause-tells : goal.returns-clause-tells
returns-clause-tells g c =
    let few = subst (λ (ts : List Loaded). HaveFewRows ts) c.as_slice.ensures
    c.in_ok-numbered.ensures.few in
    lineage_goes c.args.writing (g.I.Inputs.held c.args.inputs.now) c.args.folder.now
    c.args.schema.now (typed_view c.args.query) c.as_slice-shapes.result.now c.new.result
    c.as_slice-shapes.ensures c.new.ensures _ _ c.in_ok-tables.tables c.in_ok-tables.ensures.tells
    (draft_view c.in_ok-draft.draft) c.in_ok-numbered.numbered c.plan_of.result
    c.in_ok-tables.ensures.reads few
    (c.in_ok-numbered.ensures.are ∙ ap with_numbers c.as_slice.ensures) c.plan_of.ensures
    c.in_ok-draft.ensures.is c.in_ok-draft.ensures.sound
