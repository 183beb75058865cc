use Rattle.std.proofs.Common.{◌≡◌, true}
use Rattle.nq_parser.specs.Editions.{is_nq, is_two, is_semicolon}
use Rattle.query_syntax.specs.Symbols.{token_view}
use Rattle.nq_parser.proofs.Editions.{header_at}
use Rattle.nq_parser.proofs.edition.behind_header.Goals as goal

pub returns-then-is_semicolon : goal.returns-then-is_semicolon
returns-then-is_semicolon c =
    let a = c.word-item.result in
    let b = c.number-item.result in
    let d = c.semicolon-item.result in
    let word : is_nq (token_view a) ≡ true = let e = c.is_nq.ensures in let t = c.if-is_nq.true in cc in
    let number : is_two (token_view b) ≡ true = let e = c.is_two.ensures in let t = c.if-is_two.true in cc in
    let semicolon : is_semicolon (token_view d) ≡ true = let e = c.is_semicolon.ensures in let t = c.if-is_semicolon.true in cc in
    header_at c.args.tokens.now a b d c.in-len3-up.len_at_least c.word-item.is c.number-item.is c.semicolon-item.is word number semicolon
