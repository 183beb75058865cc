use Rattle.std.proofs.Common.{map, sym, subst}
use Rattle.query_syntax.specs.Symbols.{token_view}
use Rattle.nq_parser.specs.Reading.{Ends, Reads}
use Rattle.nq_parser.proofs.Programs.{ends_behind, reads_first}
use Rattle.nq_parser.proofs.read.read.Goals as goal

pub read_behind-requires : goal.read_behind-requires
read_behind-requires c =
    let e = c.in-Some.ensures in
    ends_behind (c.in-Some.place, e.0, e.1) (map token_view c.in-Some.body.now) (subst Ends e.2 c.requires)

pub returns-in-None : goal.returns-in-None
returns-in-None c = reads_first c.read_body.result c.args.depth (map token_view c.args.tokens.now) c.in-None.ensures c.read_body.ensures

pub returns-in-Some : goal.returns-in-Some
returns-in-Some c =
    let e = c.in-Some.ensures in
    subst (λ z. Reads c.read_behind.result c.args.depth z) (sym e.2) (c.read_behind.ensures e.0 e.1)
