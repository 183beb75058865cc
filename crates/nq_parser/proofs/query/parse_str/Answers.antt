use Rattle.std.proofs.Common.{◌≡◌, Err, Ok, ap, map, rules, subst, sym}
use Rattle.nq_model.specs.QueryTokens.{tokens_of}
use Rattle.nq_parser.specs.Parsing.{Parsed}
use Rattle.nq_parser.specs.Reading.{Ends, Reads}
use Rattle.query_syntax.specs.Symbols.{token_view}
use Rattle.nq_parser.proofs.Lexed.{text_ends}
use Rattle.nq_parser.proofs.Parsing.{ended, resolved}
use Rattle.nq_parser.proofs.query.parse_str.Goals as goal

pub read-requires : goal.read-requires
read-requires c =
    let ts = map token_view c.in_ok-tokens.tokens in
    let cut : tokens_of c.args.text.now ≡ Ok ts = c.in_ok-tokens.ensures in
    subst Ends (sym (ap (map token_view) c.as_slice.ensures)) (text_ends c.args.text.now ts cut)

pub returns-in_err-syntax : goal.returns-in_err-syntax
returns-in_err-syntax c =
    let ts = map token_view c.in_ok-tokens.tokens in
    let cut : tokens_of c.args.text.now ≡ Ok ts = c.in_ok-tokens.ensures in
    let e = c.in_err-syntax.field-0.0 in
    let read : Reads (Err e) c.args.depth ts = subst (Reads (Err e) c.args.depth) (ap (map token_view) c.as_slice.ensures) c.in_err-syntax.ensures in
    let is : c.from_residual-in_err-syntax.result ≡ Err e = search rules in
    subst (λ r. Parsed r c.args.depth c.args.text.now) (sym is) (ended c.args.depth c.args.text.now ts e (c.utf8.text, cut) read)

pub returns : goal.returns
returns c =
    let ts = map token_view c.in_ok-tokens.tokens in
    let cut : tokens_of c.args.text.now ≡ Ok ts = c.in_ok-tokens.ensures in
    let s = c.in_ok-syntax.syntax in
    let read : Reads (Ok s) c.args.depth ts = subst (Reads (Ok s) c.args.depth) (ap (map token_view) c.as_slice.ensures) c.in_ok-syntax.ensures in
    resolved c.args.depth c.args.text.now ts s c.lower.result (c.utf8.text, cut) read c.lower.ensures
