use Rattle.std.proofs.Common.{sym, ◌∙◌, subst}
use Rattle.sql_reader.specs.Stacks.{forms}
use Rattle.sql_reader.specs.States.{Leads, position_view}
use Rattle.sql_reader.specs.Steps.{On, step_at}
use Rattle.sql_reader.specs.Symbols.{token_view}
use Rattle.sql_reader.specs.Views.{base_view}
use Rattle.sql_reader.proofs.Putting.{place_there}
use Rattle.sql_reader.proofs.read.advance.Goals as goal

pub returns-else-branch : goal.returns-else-branch
returns-else-branch c =
    let base = base_view c.step.new.base in
    let around = forms c.step.new.stack.levels in
    let stepped = step_at (position_view c.args.at) (base_view c.args.base.now) (forms c.args.stack.now.levels) (token_view c.args.token) in (
      sym (place_there c.args.token.place c.args.token.symbol),
      (
        On base around (position_view c.in-Some.next),
        subst (λ r. Leads r base around stepped) c.in-Some.is c.in_ok-next.ensures,
        sym c.in_ok-fits-in-Some.ensures ∙ c.if-branch.false,
      ),
    )
