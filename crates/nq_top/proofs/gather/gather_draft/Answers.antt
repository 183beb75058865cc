use Rattle.std.proofs.Common.{◌≡◌, Result, Err, sym, subst, rules}
use Rattle.nq_top.specs.Plans.{draft_view}
use Rattle.nq_top.specs.declared.gather.Gathered.{Gathered}
use Rattle.command_line.specs.declared.refusal.InputRefusal.{InputRefusal}
use Rattle.nq_top.proofs.Drafts.{DraftTold, draft_stops, draft_servable, draft_goes}
use Rattle.nq_top.proofs.gather.gather_draft.Goals as goal

pub returns-clause-servable : goal.returns-clause-servable
returns-clause-servable g c =
    draft_servable (g.I.Inputs.held c.args.inputs.now) c.args.kind c.args.folder.now c.args.schema.now (draft_view c.args.draft) c.as_slice-shapes.result.now c.new.result c.as_slice-shapes.ensures c.new.ensures
    c.in_ok-tables.tables c.plan_of.result c.in_ok-tables.ensures.reads c.plan_of.ensures c.requires

pub returns-clause-tells : goal.returns-clause-tells
returns-clause-tells g c =
    draft_goes (g.I.Inputs.held c.args.inputs.now) c.args.kind c.args.folder.now c.args.schema.now (draft_view c.args.draft) c.as_slice-shapes.result.now c.new.result c.as_slice-shapes.ensures c.new.ensures
    c.in_ok-tables.tables c.plan_of.result c.in_ok-tables.ensures.reads c.plan_of.ensures _ _ c.in_ok-tables.ensures.tells

pub returns-in_err-tables-clause-tells : goal.returns-in_err-tables-clause-tells
returns-in_err-tables-clause-tells g c =
    let is : c.from_residual.result ≡ Err c.in_err-tables.field-0.0 = search rules in
    let stops = draft_stops (g.I.Inputs.held c.args.inputs.now) c.args.kind c.args.folder.now c.args.schema.now (draft_view c.args.draft) c.as_slice-shapes.result.now c.new.result c.as_slice-shapes.ensures c.new.ensures _ _ c.in_err-tables.field-0.0 c.in_err-tables.ensures.tells in
    subst (λ (r : Result Gathered InputRefusal). DraftTold (g.I.Inputs.held c.args.inputs.now) c.args.kind c.args.folder.now c.args.schema.now (draft_view c.args.draft) (g.I.Inputs.fetched c.args.inputs.now) (g.I.Inputs.fetched c.gather_tables.new.inputs) r) (sym is) stops
