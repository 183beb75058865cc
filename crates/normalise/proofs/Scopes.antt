-- What the scopes of the code hold, form by form.
use Rattle.std.proofs.Common.{◌≡◌, ℕ, List, ◌∷◌, map, sym, ap, ◌∙◌, Bor}
use Rattle.nq_ir.specs.RawForms.{RawBody, up_body}
use Rattle.normalise.specs.Raw.{moved_body}
use Rattle.normalise.specs.Scopes.{bodies, scope_layer}
use Rattle.normalise.specs.declared.raw.MovedBody.{MovedBody}
use Rattle.normalise.specs.declared.scope.Scope.{Scope, Scope-F, fold-roll-Scope}
use Rattle.normalise.specs.declared.scope.Scope.TheVariants.{Under, Inner, rolls-Under, rolls-Inner}

pub scope_under : (n : ℕ) (r : Bor Scope) → bodies (Under n r) ≡ map (up_body n 0) (bodies r.now)
scope_under n r = ap bodies (sym (rolls-Under n r)) ∙ fold-roll-Scope (List RawBody) scope_layer (Scope-F.Under n r)

pub scope_inner : (b : Bor MovedBody) (r : Bor Scope) → bodies (Inner b r) ≡ moved_body b.now ∷ bodies r.now
scope_inner b r = ap bodies (sym (rolls-Inner b r)) ∙ fold-roll-Scope (List RawBody) scope_layer (Scope-F.Inner b r)
