use Rattle.std.proofs.Common.{◌≡◌, Ok, ap, map, subst, sym}
use Rattle.sql_profile.specs.Tokens.{First, tokens_of}
use Rattle.sql_reader.specs.Reading.{Ends, Reads}
use Rattle.sql_reader.specs.Symbols.{token_view}
use Rattle.sql_reader.proofs.Reaching.{answered, text_ends}
use Rattle.sql_reader.proofs.sql.read_str.Goals as goal

pub read-requires : goal.read-requires
read-requires c =
    let ts = map token_view c.in_ok-tokens.tokens in
    let cut : tokens_of First c.args.text.now ≡ Ok ts = c.in_ok-tokens.ensures in
    subst Ends (sym (ap (map token_view) c.as_slice.ensures)) (text_ends c.args.text.now ts cut)

pub returns : goal.returns
returns c =
    let ts = map token_view c.in_ok-tokens.tokens in
    let cut : tokens_of First c.args.text.now ≡ Ok ts = c.in_ok-tokens.ensures in
    answered c.args.depth c.args.text.now ts c.read.result (c.utf8.text, cut) (text_ends c.args.text.now ts cut)
    (subst (Reads c.read.result c.args.depth) (ap (map token_view) c.as_slice.ensures) c.read.ensures)
