-- The types of the variables in scope.
use Rattle.std.specs.Prelude.{List, [], ◌∷◌}
use Rattle.nq_model.specs.Types.{TypeTree, type_tree}
use Rattle.nq_types.specs.declared.scope.Scope.{Scope}
use Rattle.nq_types.specs.declared.scope.Scope.TheOpen.{Scope-F}
use Rattle.nq_types.specs.declared.scope.Scope.TheFolds.{fold-Scope}

abbrev pub scope_layer : Scope-F (List TypeTree) → List TypeTree
scope_layer Scope-F.Outermost = []
scope_layer (Scope-F.Inner ty outer) = type_tree ty.now ∷ outer.now

-- the types of the variables, the innermost first
abbrev pub types_in : Scope → List TypeTree
types_in = fold-Scope (List TypeTree) scope_layer
