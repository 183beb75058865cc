-- Variables further out.
use Rattle.std.proofs.Common.{◌≡◌, ℕ, zero, suc, ◌-◌, List, ◌∷◌, slice_get, refl, ap, sym, ◌∙◌, arith, Bor}
use Rattle.nq_model.specs.Types.{TypeTree, type_tree}
use Rattle.nq_model.specs.declared.ty.Ty.{Ty}
use Rattle.nq_types.specs.Scopes.{scope_layer, types_in}
use Rattle.nq_types.specs.declared.scope.Scope.{Scope, Scope-F, fold-roll-Scope}
use Rattle.nq_types.specs.declared.scope.Scope.TheVariants.{Inner, rolls-Inner}

slice_get_later : (x : TypeTree) (xs : List TypeTree) (k : ℕ) → (k ≡ 0 → ⊥) → slice_get (x ∷ xs) k ≡ slice_get xs (k - 1)
slice_get_later x xs zero h = absurd (h refl)
slice_get_later x xs (suc k) h = let e : suc k - 1 ≡ k = omega arith in rw e refl

pub types_in_inner : (ty : Bor Ty) (outer : Bor Scope) → types_in (Inner ty outer) ≡ type_tree ty.now ∷ types_in outer.now
types_in_inner ty outer = ap types_in (sym (rolls-Inner ty outer)) ∙ fold-roll-Scope (List TypeTree) scope_layer (Scope-F.Inner ty outer)

pub further_out : (ty : Bor Ty) (outer : Bor Scope) (k : ℕ) → (k ≡ 0 → ⊥) → slice_get (types_in (Inner ty outer)) k ≡ slice_get (types_in outer.now) (k - 1)
further_out ty outer k h =
    ap (λ types. slice_get types k) (types_in_inner ty outer) ∙ slice_get_later (type_tree ty.now) (types_in outer.now) k h
