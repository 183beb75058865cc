use Rattle.std.proofs.Common.{sym, subst}
use Rattle.nq_parser.specs.Editions.{edition_view}
use Rattle.nq_parser.specs.Machine.{start}
use Rattle.nq_parser.specs.Stacks.{frames}
use Rattle.nq_parser.specs.States.{Leads}
use Rattle.query_syntax.specs.Symbols.{symbol_view}
use Rattle.nq_parser.proofs.begin.start.Goals as goal

pub returns-in-Closing : goal.returns-in-Closing
returns-in-Closing c =
    subst (λ s. Leads c.no_fields.result (frames c.no_fields.new.stack.levels) (start (edition_view c.args.edition) (frames c.args.stack.now.levels) (symbol_view c.args.token.place s)))
    (sym c.in-Closing.is) (c.no_fields.ensures (edition_view c.args.edition))

pub returns-in-Colon : goal.returns-in-Colon
returns-in-Colon c =
    subst (λ s. Leads c.nil_type.result (frames c.nil_type.new.stack.levels) (start (edition_view c.args.edition) (frames c.args.stack.now.levels) (symbol_view c.args.token.place s)))
    (sym c.in-Colon.is) (c.nil_type.ensures (edition_view c.args.edition))
