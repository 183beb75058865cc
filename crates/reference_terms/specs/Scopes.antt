-- The values of the variables in scope.
use Rattle.std.specs.Prelude.{List, [], ◌∷◌}
use Rattle.nq_model.specs.Values.{Nested, nested}
use Rattle.reference_terms.specs.declared.scope.Scope.{Scope}
use Rattle.reference_terms.specs.declared.scope.Scope.TheOpen.{Scope-F}
use Rattle.reference_terms.specs.declared.scope.Scope.TheFolds.{fold-Scope}

abbrev pub scope_layer : Scope-F (List Nested) → List Nested
scope_layer Scope-F.Top = []
scope_layer (Scope-F.Inner value outer) = nested value.now ∷ outer.now

-- the innermost first
abbrev pub values : Scope → List Nested
values = fold-Scope (List Nested) scope_layer
