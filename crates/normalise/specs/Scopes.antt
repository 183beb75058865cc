-- The bodies of the variables in scope.
use Rattle.std.specs.Prelude.{List, [], ◌∷◌, map}
use Rattle.nq_ir.specs.RawForms.{RawBody, up_body}
use Rattle.normalise.specs.Raw.{moved_body}
use Rattle.normalise.specs.declared.scope.Scope.{Scope}
use Rattle.normalise.specs.declared.scope.Scope.TheOpen.{Scope-F}
use Rattle.normalise.specs.declared.scope.Scope.TheFolds.{fold-Scope}

abbrev pub scope_layer : Scope-F (List RawBody) → List RawBody
scope_layer Scope-F.Top = []
scope_layer (Scope-F.Inner b outer) = moved_body b.now ∷ outer.now
scope_layer (Scope-F.Under n outer) = map (up_body n 0) outer.now

-- the innermost first
abbrev pub bodies : Scope → List RawBody
bodies = fold-Scope (List RawBody) scope_layer
