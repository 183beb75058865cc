use Rattle.std.proofs.Common.{◌==◌, map, length, arith, ap, sym}
use Rattle.std.proofs.lemmas.List.{length-map}
use Rattle.sql_reader.specs.Symbols.{token_view}
use Rattle.sql_reader.proofs.OpenTexts.{tells_open, tells_shallow}
use Rattle.sql_reader.proofs.openness.is_open.Goals as goal

pub returns-then-depth-lt-LEAST_DEPTH : goal.returns-then-depth-lt-LEAST_DEPTH
returns-then-depth-lt-LEAST_DEPTH c =
    let less = c.if-depth-lt-LEAST_DEPTH.true in
    tells_shallow c.args.depth (map token_view c.args.tokens.now) (λ e. omega (arith, less, e))

pub returns : goal.returns
returns c =
    let more = c.if-depth-lt-LEAST_DEPTH.false in
    let xs = c.args.tokens.now in
    tells_open (c.in_ok-count.count == length xs) c.args.depth (map token_view xs)
    c.in_ok-count.count (omega (arith, more)) c.in_ok-count.ensures
    (ap (λ n. c.in_ok-count.count == n) (sym (length-map xs token_view)))
