use Rattle.std.proofs.Common.{◌≡◌, ◌++◌, map, drop}
use Rattle.nq_ir.specs.Lets.{columns_in}
use Rattle.nq_ir.specs.Trees.{shapes_of, shapes_view}
use Rattle.nq_ir.specs.WellFormed.{column_names}
use Rattle.flatten.specs.Exprs.{order_keys}
use Rattle.flatten.specs.Emitted.{in_gens, shapes_values}
use Rattle.flatten.specs.Views.{value_tree}
use Rattle.flatten.proofs.values.+values.Given as goal

abbrev pub invariant-push_fields-loop-field : goal.invariant-push_fields-loop-field
invariant-push_fields-loop-field l =
    map value_tree l.values ++ shapes_values (in_gens l.outer) l.tag (order_keys (in_gens l.outer) (columns_in (column_names l.schema.tables) (l.outer ++ l.own))) (shapes_of (shapes_view (drop l.field-index l.fields)))
    ≡ map value_tree l.initial.values ++ shapes_values (in_gens l.outer) l.tag (order_keys (in_gens l.outer) (columns_in (column_names l.schema.tables) (l.outer ++ l.own))) (shapes_of (shapes_view l.fields))
