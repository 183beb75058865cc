use Rattle.std.proofs.Common.{◌≡◌, ℕ, List, Result, Err, subst, sym, rules}
use Rattle.command_line.specs.declared.refusal.InputRefusal.{InputRefusal}
use Rattle.nq_top.specs.Natural.{ShowsNatural, natural_read, natural_view}
use Rattle.nq_top.specs.Steps.{MakesSays, typed_view}
use Rattle.nq_top.proofs.NaturalTexts.{paths_long, shows_made}
use Rattle.nq_top.proofs.natural.natural_text.Goals as goal

pub frames-requires : goal.frames-requires
frames-requires c =
    paths_long c.args.schema.now (typed_view c.args.query) c.requires c.in_ok-made.made
    c.in_ok-made.ensures.stands

pub returns : goal.returns
returns c = λ plain. (
  natural_view c.args.schema.now (typed_view c.args.query) c.in_ok-made.made,
  c.in_ok-made.ensures.says plain,
  shows_made c.args.schema.now (typed_view c.args.query) c.requires c.in_ok-made.made
      c.in_ok-made.ensures.stands c.in_ok-text.text c.in_ok-text.ensures,
)

pub returns-in_err-made : goal.returns-in_err-made
returns-in_err-made c = λ plain.
    let is : c.from_residual.result ≡ Err c.in_err-made.field-0.0 = search rules in
    subst (λ (r : Result (List ℕ) InputRefusal).
    MakesSays (λ natural text. ShowsNatural text natural)
    (natural_read plain c.args.schema.now (typed_view c.args.query)) r) (sym is)
    (c.in_err-made.ensures.says plain)
