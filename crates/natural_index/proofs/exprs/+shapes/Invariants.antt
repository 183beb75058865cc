use Rattle.std.proofs.Common.{◌≡◌, ◌++◌, map, drop}
use Rattle.nq_ir.specs.Trees.{shapes_of, shapes_view}
use Rattle.sql_profile.specs.Trees.{expr_tree}
use Rattle.natural_index.specs.Trees.{index_exprs, shapes_exprs}
use Rattle.natural_index.proofs.exprs.+shapes.Given as goal

abbrev pub invariant-push_fields-loop-field : goal.invariant-push_fields-loop-field
invariant-push_fields-loop-field l =
    map expr_tree l.all ++ shapes_exprs (index_exprs l.index.layout l.index.tag l.index.keys.now)
    (shapes_of (shapes_view (drop l.field-index l.fields)))
    ≡ map expr_tree l.initial.all
    ++ shapes_exprs (index_exprs l.index.layout l.index.tag l.index.keys.now)
    (shapes_of (shapes_view l.fields))
