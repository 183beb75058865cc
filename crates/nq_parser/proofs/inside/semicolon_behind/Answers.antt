use Rattle.std.proofs.Common.{sym, subst}
use Rattle.nq_model.specs.QueryTokens.{Semicolon, Sign}
use Rattle.nq_parser.specs.Forms.{part_view}
use Rattle.nq_parser.specs.Machine.{shift}
use Rattle.nq_parser.specs.Stacks.{frames}
use Rattle.nq_parser.specs.States.{Leads}
use Rattle.nq_parser.proofs.inside.semicolon_behind.Goals as goal

pub returns-in-Some : goal.returns-in-Some
returns-in-Some c ed =
    subst (λ k. Leads c.semicolon_form.result (frames c.semicolon_form.new.stack.levels) (shift ed k (part_view c.args.value) (Sign c.args.semicolon Semicolon)))
    (sym c.in-Some.ensures) (c.semicolon_form.ensures ed)
