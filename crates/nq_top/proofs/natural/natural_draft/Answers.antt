use Rattle.std.proofs.Common.{◌≡◌, Result, Err, subst, sym, rules}
use Rattle.command_line.specs.declared.refusal.InputRefusal.{InputRefusal}
use Rattle.nq_top.specs.Natural.{natural_draft, natural_read, natural_view}
use Rattle.nq_top.specs.Plans.{draft_view}
use Rattle.nq_top.specs.Steps.{MakesSays, typed_view}
use Rattle.nq_top.specs.declared.plans.Draft.{Draft}
use Rattle.nq_top.proofs.NaturalTexts.{draft_made, keyed_servable, keyed_sound}
use Rattle.nq_top.proofs.natural.natural_draft.Goals as goal

pub returns-clause-servable : goal.returns-clause-servable
returns-clause-servable c =
    keyed_servable c.args.schema.now (typed_view c.args.query) c.requires c.in_ok-made.made
    c.in_ok-made.ensures.stands

pub returns-clause-sound : goal.returns-clause-sound
returns-clause-sound c =
    keyed_sound c.args.schema.now (typed_view c.args.query) c.requires c.in_ok-made.made
    c.in_ok-made.ensures.stands

pub returns-clause-says : goal.returns-clause-says
returns-clause-says c = λ plain. (
  natural_view c.args.schema.now (typed_view c.args.query) c.in_ok-made.made,
  c.in_ok-made.ensures.says plain,
  draft_made c.args.schema.now (typed_view c.args.query) c.requires c.in_ok-made.made
      c.in_ok-made.ensures.stands,
)

pub returns-in_err-made-clause-says : goal.returns-in_err-made-clause-says
returns-in_err-made-clause-says c = λ plain.
    let is : c.from_residual.result ≡ Err c.in_err-made.field-0.0 = search rules in
    subst (λ (r : Result Draft InputRefusal).
    MakesSays (λ natural draft. draft_view draft ≡ natural_draft natural)
    (natural_read plain c.args.schema.now (typed_view c.args.query)) r) (sym is)
    (c.in_err-made.ensures.says plain)
