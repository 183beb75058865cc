-- Conditions behind conditions.
use Rattle.std.proofs.Common.{◌≡◌, List, [], ◌∷◌, ◌++◌, map, refl, ap, ap₂, ◌∙◌}
use Rattle.nq_ir.specs.declared.base.Base.{Base}
use Rattle.nq_ir.specs.Spots.{both}
use Rattle.nq_ir.specs.Trees.{BaseTree, and_cond, base_tree, conds_of, conds_tree}

both_listed : (xs ys : List BaseTree) → conds_of (xs ++ ys) ≡ both (conds_of xs) (conds_of ys)
both_listed [] ys = refl
both_listed (x ∷ xs) ys = ap (and_cond x) (both_listed xs ys)

-- copies of these conditions behind copies of those
pub copies_both : (all first second outer own : List Base) → map base_tree all ≡ map base_tree first
    ++ map base_tree second → map base_tree first ≡ map base_tree outer → map base_tree second
    ≡ map base_tree own → conds_tree all ≡ both (conds_tree outer) (conds_tree own)
copies_both all first second outer own a f s =
    ap conds_of a ∙ both_listed (map base_tree first) (map base_tree second)
    ∙ ap₂ (λ (x y : List BaseTree). both (conds_of x) (conds_of y)) f s
