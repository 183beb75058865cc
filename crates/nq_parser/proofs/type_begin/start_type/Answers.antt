use Rattle.std.proofs.Common.{sym, subst, Ok}
use Rattle.nq_parser.specs.Editions.{edition_view}
use Rattle.nq_parser.specs.Forms.{around_view}
use Rattle.nq_parser.specs.Machine.{start_type}
use Rattle.nq_parser.specs.States.{Leads}
use Rattle.nq_parser.specs.TypeStacks.{type_frames}
use Rattle.query_syntax.specs.Symbols.{symbol_view}
use Rattle.nq_parser.proofs.Stepping.{stands_leads}
use Rattle.nq_parser.proofs.type_begin.start_type.Goals as goal

pub returns-in-Closing : goal.returns-in-Closing
returns-in-Closing c k =
    subst (λ s. Leads (Ok c.no_types.result) k (start_type (edition_view c.args.edition) (type_frames c.args.ty.forms.levels) (around_view c.args.ty.around) k (symbol_view c.args.token.place s)))
    (sym c.in-Closing.is) (stands_leads c.no_types.result k _ (c.no_types.ensures (edition_view c.args.edition) k))
