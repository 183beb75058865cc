use Rattle.explanations.proofs.Pieces.{if_ok}
use Rattle.explanations.proofs.SqlClosings.{no_sql_kinds, no_sql_tokens}
use Rattle.explanations.proofs.sql_stops.explain_sql_stop.Goals as goal

pub returns-in-Some : goal.returns-in-Some
returns-in-Some c =
    if_ok _ _ c.excerpt.result (λ made is fault ends.
    absurd (no_sql_kinds c.args.depth c.args.text.now c.args.place c.in_ok-tokens.field-0
    c.in-Some.tokens c.as_slice.result.now c.in_ok-kinds-in-Some.field-0 c.in-Some.is
    c.in_ok-tokens.ensures c.as_slice.ensures c.in-None-2.is c.in_ok-kinds-in-Some.ensures fault
    ends)) c.excerpt.ensures

pub returns : goal.returns
returns c =
    if_ok _ _ c.excerpt-in-None.result (λ made is fault ends.
    absurd (no_sql_tokens c.args.depth c.args.text.now c.args.place c.in_ok-tokens.field-0
    c.in-None.is c.in_ok-tokens.ensures fault ends)) c.excerpt-in-None.ensures
