use Rattle.std.proofs.Common.{◌≡◌, ◌++◌, Ok, reverse}
use Rattle.std.specs.Vec.Iter.{into_iter_items}
use Rattle.nq_model.specs.QueryGrammar.{Syntax}
use Rattle.nq_model.specs.Terms.{placed}
use Rattle.query_syntax.specs.Lowering.{TellsNames, lowered, places_view}
use Rattle.query_syntax.proofs.LoweringLists.{terms_so_far, terms_seen}
use Rattle.query_syntax.proofs.indexes.+lower.Given as goal

abbrev pub invariant-lower_fields-loop-name : goal.invariant-lower_fields-loop-name
invariant-lower_fields-loop-name l = record {
  rest : l.yielded ++ into_iter_items l.name-iterator ≡ l.fn.others;
  so_far : (s : Syntax) → lowered s (reverse l.fn.scope) ≡ Ok (placed l.fn.first) → terms_so_far (reverse l.fn.scope) l.fn.first_name s l.yielded ≡ Ok (places_view l.lowered);
  known : (s : Syntax) → TellsNames (terms_seen l.fn.first_name s l.yielded) l.labels;
  kept : l.scope ≡ l.fn.scope;
}
