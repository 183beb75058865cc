-- Paths under a path, one after the other.
use Rattle.std.proofs.Common.{◌≡◌, ◌<◌, ◌+◌, suc, length, get_or, arith, Box, Global, ℕ, List, [], ◌∷◌, ◌++◌, map, drop, refl, sym, ap, ap₂, ◌∙◌, append_assoc, append-nil}
use Rattle.std.proofs.lemmas.List.{map-append}
use Rattle.std.proofs.Math.Seq.{drop-cons}
use Rattle.nq_model.specs.Types.{TypeTree, FieldTypes, field_types_of, type_layer, type_tree, fields_view}
use Rattle.nq_model.specs.declared.ty.Ty.{Ty, Ty-F, fold-roll-Ty}
use Rattle.nq_model.specs.declared.ty.Ty.TheVariants.{Bag, rolls-Bag}
use Rattle.nq_ir.specs.declared.path.Step.{Step}
use Rattle.nq_ir.specs.declared.path.Step.TheVariants.{Down, Field}
use Rattle.nq_ir.specs.declared.path.Path.{Path}
use Rattle.nq_ir.specs.Paths.{paths, paths_in}
use Rattle.shred_types.specs.Under.{steps_of, under}

under_step : (steps : List Step) (s : Step) (ps : List (List Step)) → under (steps ++ s ∷ []) ps ≡ under steps (map (λ p. s ∷ p) ps)
under_step steps s [] = refl
under_step steps s (p ∷ ps) = ap₂ (λ x (l : List (List Step)). x ∷ l) (append_assoc steps (s ∷ []) p) (under_step steps s ps)

-- the paths of a bag: its own, and those of its element
pub under_bag : (steps : List Step) (a : TypeTree) (before own all : List (List Step)) → own ≡ before ++ steps ∷ [] → all ≡ own ++ under (steps ++ Down ∷ []) (paths a)
    → all ≡ before ++ under steps (paths (TypeTree.bag a))
under_bag steps a before own all h k =
    k ∙ ap₂ (λ (x y : List (List Step)). x ++ y) h (under_step steps Down (paths a))
    ∙ append_assoc before (steps ∷ []) (under steps (map (λ p. Down ∷ p) (paths a)))
    ∙ ap (λ (x : List Step). before ++ (x ∷ under steps (map (λ p. Down ∷ p) (paths a)))) (sym (append-nil steps))

-- the paths of the next field
pub under_field : (steps : List Step) (l : List ℕ) (a : TypeTree) (rest : List (List Step)) (before all : List (List Step)) → all ≡ before ++ under (steps ++ Field l ∷ []) (paths a)
    → all ++ under steps rest ≡ before ++ under steps (map (λ p. Field l ∷ p) (paths a) ++ rest)
under_field steps l a rest before all h =
    ap (λ (x : List (List Step)). x ++ under steps rest) h
    ∙ append_assoc before (under (steps ++ Field l ∷ []) (paths a)) (under steps rest)
    ∙ ap (λ (x : List (List Step)). before ++ (x ++ under steps rest)) (under_step steps (Field l) (paths a))
    ∙ ap (λ (x : List (List Step)). before ++ x) (sym (map-append (λ (p : List Step). steps ++ p) (map (λ p. Field l ∷ p) (paths a)) rest))

pub steps_pushed : (paths more : List Path) (p : Path) → more ≡ paths ++ p ∷ [] → steps_of more ≡ steps_of paths ++ p.steps ∷ []
steps_pushed paths more p h = ap steps_of h ∙ map-append (λ (q : Path). q.steps) paths (p ∷ [])

pub under_nothing : (ps : List (List Step)) → under [] ps ≡ ps
under_nothing [] = refl
under_nothing (p ∷ ps) = ap (λ (l : List (List Step)). p ∷ l) (under_nothing ps)

-- fields from a place on: the one there, and those after it
pub fields_from : (fields : List (List ℕ × Ty)) (i : ℕ) (x : List ℕ × Ty) → i < length fields → x ≡ get_or fields i x
    → field_types_of (fields_view (drop i fields)) ≡ FieldTypes.field x.0 (type_tree x.1) (field_types_of (fields_view (drop (i + 1) fields)))
fields_from fields i x h e =
    let one : i + 1 ≡ suc i = omega arith in
    ap (λ (l : List (List ℕ × Ty)). field_types_of (fields_view l)) (drop-cons fields i x h)
    ∙ ap₂ (λ (y : List ℕ × Ty) n. FieldTypes.field y.0 (type_tree y.1) (field_types_of (fields_view (drop n fields)))) (sym e) (sym one)

pub field_pushed : (fields : List (List ℕ × Ty)) (i : ℕ) (x : List ℕ × Ty) → i < length fields → x ≡ get_or fields i x
    → (steps deeper : List Step) (before all whole : List (List Step)) → deeper ≡ steps ++ Field x.0 ∷ [] → all ≡ before ++ under deeper (paths (type_tree x.1))
    → before ++ under steps (paths_in (field_types_of (fields_view (drop i fields)))) ≡ whole
    → all ++ under steps (paths_in (field_types_of (fields_view (drop (i + 1) fields)))) ≡ whole
field_pushed fields i x h e steps deeper before all whole d a w =
    under_field steps x.0 (type_tree x.1) (paths_in (field_types_of (fields_view (drop (i + 1) fields)))) before all (a ∙ ap (λ z. before ++ under z (paths (type_tree x.1))) d)
    ∙ ap (λ z. before ++ under steps (paths_in z)) (sym (fields_from fields i x h e))
    ∙ w

pub type_of_bag : (b : Box Ty Global) → type_tree (Bag b) ≡ TypeTree.bag (type_tree b.value)
type_of_bag b = ap type_tree (sym (rolls-Bag b)) ∙ fold-roll-Ty TypeTree type_layer (Ty-F.Bag b)
