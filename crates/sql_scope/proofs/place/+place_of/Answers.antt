use Rattle.std.proofs.Common.{◌∙◌, ap, sym}
use Rattle.std.specs.Option.{option_copied}
use Rattle.sql_scope.proofs.Chains.{place_of_first, place_of_last}
use Rattle.sql_scope.proofs.place.+place_of.Goals as goal

pub returns-in-Some : goal.returns-in-Some
returns-in-Some t c =
    place_of_last c.args.expr.now _ c.in-Chain.first c.in-Chain.more c.in-Chain.is c.as_slice.result.now c.in-Some.link.now c.as_slice.ensures (sym c.last.ensures.value ∙ ap option_copied c.in-Some.is)

pub returns-in-None : goal.returns-in-None
returns-in-None t c =
    place_of_first c.args.expr.now _ c.in-Chain.first c.in-Chain.more c.in-Chain.is c.as_slice.result.now c.deref.result.now c.place_of.result c.as_slice.ensures (sym c.last.ensures.value ∙ ap option_copied c.in-None.is) c.deref.ensures c.place_of.ensures
