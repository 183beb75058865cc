use Rattle.std.proofs.Common.{sym, subst}
use Rattle.nq_model.specs.QueryTokens.{Closing, Sign}
use Rattle.nq_parser.specs.Forms.{part_view}
use Rattle.nq_parser.specs.Machine.{shift}
use Rattle.nq_parser.specs.Stacks.{frames}
use Rattle.nq_parser.specs.States.{Leads}
use Rattle.nq_parser.proofs.inside.close.Goals as goal

pub returns-in-Some : goal.returns-in-Some
returns-in-Some c ed =
    subst (λ k. Leads c.close_form.result (frames c.close_form.new.stack.levels) (shift ed k (part_view c.args.part) (Sign c.args.closing Closing)))
    (sym c.in-Some.ensures) (c.close_form.ensures ed)
