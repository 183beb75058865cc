use Rattle.std.proofs.Common.{map, ◌∙◌, sym}
use Rattle.std.proofs.lemmas.List.{length-map}
use Rattle.sql_reader.specs.Symbols.{token_view}
use Rattle.sql_reader.proofs.OpenTexts.{finds_front, finds_none}
use Rattle.sql_reader.proofs.openness.open_front.Goals as goal

pub returns-then-count-tokens : goal.returns-then-count-tokens
returns-then-count-tokens c = finds_none c.args.depth (map token_view c.args.tokens.now)
    c.in_ok-count.count c.in_ok-count.ensures (c.if-count-tokens.true ∙ sym (length-map
    c.args.tokens.now token_view))

pub returns-else-count-tokens : goal.returns-else-count-tokens
returns-else-count-tokens c = finds_front c.args.depth (map token_view c.args.tokens.now)
    c.in_ok-count.count c.in_ok-count.ensures (λ e. c.if-count-tokens.false (e ∙ length-map
    c.args.tokens.now token_view))
