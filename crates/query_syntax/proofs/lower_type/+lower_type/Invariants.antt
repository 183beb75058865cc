use Rattle.std.proofs.Common.{◌≡◌, ◌++◌, Ok}
use Rattle.std.specs.Vec.Iter.{into_iter_items}
use Rattle.nq_model.specs.QueryGrammar.{TypeSyntax}
use Rattle.nq_model.specs.Types.{type_tree, fields_view}
use Rattle.query_syntax.specs.Lowering.{TellsNames, type_lowered}
use Rattle.query_syntax.proofs.LoweringLists.{types_so_far, types_seen}
use Rattle.query_syntax.proofs.lower_type.+lower_type.Given as goal

abbrev pub invariant-lower_type_fields-loop-name : goal.invariant-lower_type_fields-loop-name
invariant-lower_type_fields-loop-name l = record {
  rest : l.yielded ++ into_iter_items l.name-iterator ≡ l.fn.others;
  so_far : (s : TypeSyntax) → type_lowered s ≡ Ok (type_tree l.fn.first) → types_so_far l.fn.first_name s l.yielded ≡ Ok (fields_view l.lowered);
  known : (s : TypeSyntax) → TellsNames (types_seen l.fn.first_name s l.yielded) l.labels;
}
