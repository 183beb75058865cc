use Rattle.std.proofs.Common.{sym, subst}
use Rattle.nq_model.specs.QueryTokens.{Comma, Sign}
use Rattle.nq_parser.specs.Forms.{part_view}
use Rattle.nq_parser.specs.Machine.{shift}
use Rattle.nq_parser.specs.Stacks.{frames}
use Rattle.nq_parser.specs.States.{Leads}
use Rattle.nq_parser.proofs.inside.comma_behind.Goals as goal

pub returns-in-Some : goal.returns-in-Some
returns-in-Some c ed =
    subst (λ k. Leads c.comma_form.result (frames c.comma_form.new.stack.levels) (shift ed k (part_view c.args.part) (Sign c.args.comma Comma)))
    (sym c.in-Some.ensures) (c.comma_form.ensures ed)
