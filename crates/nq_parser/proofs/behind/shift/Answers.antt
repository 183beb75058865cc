use Rattle.std.proofs.Common.{sym, subst, Ok}
use Rattle.nq_parser.specs.Editions.{edition_view}
use Rattle.nq_parser.specs.Forms.{part_view}
use Rattle.nq_parser.specs.Machine.{shift}
use Rattle.nq_parser.specs.Stacks.{frames}
use Rattle.nq_parser.specs.States.{Leads}
use Rattle.query_syntax.specs.Symbols.{symbol_view}
use Rattle.nq_parser.proofs.Stepping.{stands_leads}
use Rattle.nq_parser.proofs.behind.shift.Goals as goal

pub returns-in-Operator : goal.returns-in-Operator
returns-in-Operator c =
    subst (λ s. Leads c.shift_operator.result (frames c.shift_operator.new.stack.levels) (shift (edition_view c.args.edition) (frames c.args.stack.now.levels) (part_view c.args.part) (symbol_view c.args.token.place s)))
    (sym c.in-Operator.is) (c.shift_operator.ensures (edition_view c.args.edition))

pub returns-in-Opening : goal.returns-in-Opening
returns-in-Opening c =
    subst (λ s. Leads c.shift_opening.result (frames c.shift_opening.new.stack.levels) (shift (edition_view c.args.edition) (frames c.args.stack.now.levels) (part_view c.args.part) (symbol_view c.args.token.place s)))
    (sym c.in-Opening.is) (c.shift_opening.ensures (edition_view c.args.edition))

pub returns-in-Closing : goal.returns-in-Closing
returns-in-Closing c =
    subst (λ s. Leads c.close.result (frames c.close.new.stack.levels) (shift (edition_view c.args.edition) (frames c.args.stack.now.levels) (part_view c.args.part) (symbol_view c.args.token.place s)))
    (sym c.in-Closing.is) (c.close.ensures (edition_view c.args.edition))

pub returns-in-ClosingBag : goal.returns-in-ClosingBag
returns-in-ClosingBag c =
    subst (λ s. Leads c.close_bag.result (frames c.close_bag.new.stack.levels) (shift (edition_view c.args.edition) (frames c.args.stack.now.levels) (part_view c.args.part) (symbol_view c.args.token.place s)))
    (sym c.in-ClosingBag.is) (c.close_bag.ensures (edition_view c.args.edition))

pub returns-in-Semicolon : goal.returns-in-Semicolon
returns-in-Semicolon c =
    subst (λ s. Leads c.semicolon_behind.result (frames c.semicolon_behind.new.stack.levels) (shift (edition_view c.args.edition) (frames c.args.stack.now.levels) (part_view c.args.part) (symbol_view c.args.token.place s)))
    (sym c.in-Semicolon.is) (c.semicolon_behind.ensures (edition_view c.args.edition))

pub returns-in-Comma : goal.returns-in-Comma
returns-in-Comma c =
    subst (λ s. Leads c.comma_behind.result (frames c.comma_behind.new.stack.levels) (shift (edition_view c.args.edition) (frames c.args.stack.now.levels) (part_view c.args.part) (symbol_view c.args.token.place s)))
    (sym c.in-Comma.is) (c.comma_behind.ensures (edition_view c.args.edition))

pub returns-in-Dot : goal.returns-in-Dot
returns-in-Dot c =
    subst (λ s. Leads (Ok c.shift_dot.result) (frames c.args.stack.now.levels) (shift (edition_view c.args.edition) (frames c.args.stack.now.levels) (part_view c.args.part) (symbol_view c.args.token.place s)))
    (sym c.in-Dot.is) (stands_leads c.shift_dot.result (frames c.args.stack.now.levels) _ (c.shift_dot.ensures (edition_view c.args.edition) (frames c.args.stack.now.levels)))

pub returns-in-End : goal.returns-in-End
returns-in-End c =
    subst (λ s. Leads (Ok c.shift_end.result) (frames c.args.stack.now.levels) (shift (edition_view c.args.edition) (frames c.args.stack.now.levels) (part_view c.args.part) (symbol_view c.args.token.place s)))
    (sym c.in-End.is) (stands_leads c.shift_end.result (frames c.args.stack.now.levels) _ (c.shift_end.ensures (edition_view c.args.edition)))
