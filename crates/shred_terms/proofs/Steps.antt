-- One comprehension or field after the other.
use Rattle.std.proofs.Common.{◌≡◌, ℕ, ◌<◌, ◌+◌, suc, List, [], ◌∷◌, ◌++◌, map, drop, get_or, length, refl, sym, ap, ap₂, ◌∙◌, arith, cond, append_assoc, bytes_eq}
use Rattle.std.proofs.lemmas.List.{map-append}
use Rattle.std.proofs.Math.Seq.{drop-cons}
use Rattle.nq_ir.specs.declared.base.Base.{Base}
use Rattle.nq_ir.specs.declared.base.Gen.{Gen}
use Rattle.nq_ir.specs.declared.normal.Body.{Body}
use Rattle.nq_ir.specs.declared.normal.Comp.{Comp}
use Rattle.nq_ir.specs.declared.path.Step.{Step}
use Rattle.nq_ir.specs.declared.shredded.Strand.{Strand}
use Rattle.nq_ir.specs.Spots.{PlacedComp, StrandTree, both, comps_at, comps_below, placed, shape_of, shape_of_fields, shaped, strand_tree, comps_in}
use Rattle.nq_ir.specs.Trees.{BaseTree, Comps, Conds, and_cond, base_tree, conds_of, body_tree, comp, comp_part, comps_of, conds_tree, shapes_of, with_body, with_shape}
use Rattle.nq_ir.proofs.Forms.{comp_is}
use Rattle.shred_terms.specs.Placed.{at_body, at_field, below, comps_tree, field_shapes, fields_tree, placed_in, whole}
use Rattle.shred_terms.specs.declared.around.Around.{Around}

-- the shapes of fields
pub shapes_are : (fs : List (List ℕ × Body)) → shapes_of (field_shapes fs) ≡ shape_of_fields (fields_tree fs)
shapes_are [] = refl
shapes_are (f ∷ fs) = ap (λ z. with_shape f.0 (shape_of (body_tree f.1)) z) (shapes_are fs)

-- comprehensions from a place on
pub comps_from : (cs : List Comp) (i : ℕ) (c : Comp) → i < length cs → c ≡ get_or cs i c
    → comps_tree (drop i cs) ≡ comp c.tag c.gens (conds_tree c.conds) (body_tree c.body) (comps_tree (drop (i + 1) cs))
comps_from cs i c h e =
    let one : i + 1 ≡ suc i = omega arith in
    ap comps_tree (drop-cons cs i c h)
    ∙ ap₂ (λ (d : Comp) n. comps_of (comp_part d ∷ map comp_part (drop n cs))) (sym e) (sym one)
    ∙ ap (λ d. comps_of (d ∷ map comp_part (drop (i + 1) cs))) (comp_is c)

-- fields from a place on
pub fields_from : (fs : List (List ℕ × Body)) (i : ℕ) (x : List ℕ × Body) → i < length fs → x ≡ get_or fs i x
    → fields_tree (drop i fs) ≡ with_body x.0 (body_tree x.1) (fields_tree (drop (i + 1) fs))
fields_from fs i x h e =
    let one : i + 1 ≡ suc i = omega arith in
    ap fields_tree (drop-cons fs i x h)
    ∙ ap₂ (λ (y : List ℕ × Body) n. with_body y.0 (body_tree y.1) (fields_tree (drop n fs))) (sym e) (sym one)

pub at_field_from : (a : Around) (fs : List (List ℕ × Body)) (i : ℕ) (x : List ℕ × Body) → i < length fs → x ≡ get_or fs i x → (l : List ℕ) (p : List Step)
    → at_field a (drop i fs) l p ≡ cond (bytes_eq l x.0) (at_body a x.1 p) (at_field a (drop (i + 1) fs) l p)
at_field_from a fs i x h e l p = ap (λ z. comps_in a.parent a.gens (conds_tree a.conds) z l p) (fields_from fs i x h e)

append_one : {A : Type 0} (xs : List A) (y : A) (zs : List A) → (xs ++ y ∷ []) ++ zs ≡ xs ++ y ∷ zs
append_one xs y zs = append_assoc xs (y ∷ []) zs

-- the strand of the next comprehension
pub placed_pushed : (a : Around) (cs : List Comp) (i : ℕ) (c : Comp) → i < length cs → c ≡ get_or cs i c → (old new : List Strand) (s : Strand) → new ≡ old ++ s ∷ [] → strand_tree s ≡ shaped (whole a c)
    → (all : List StrandTree) → map strand_tree old ++ map shaped (placed_in a (drop i cs)) ≡ all → map strand_tree new ++ map shaped (placed_in a (drop (i + 1) cs)) ≡ all
placed_pushed a cs i c h e old new s n t all w =
    let rest = map shaped (placed_in a (drop (i + 1) cs)) in
    ap (λ (l : List StrandTree). l ++ rest) (ap (map strand_tree) n ∙ map-append strand_tree old (s ∷ []))
    ∙ append_one (map strand_tree old) (strand_tree s) rest
    ∙ ap (λ (z : StrandTree). map strand_tree old ++ z ∷ rest) t
    ∙ ap (λ (z : Comps). map strand_tree old ++ map shaped (placed a.parent a.gens (conds_tree a.conds) z)) (sym (comps_from cs i c h e))
    ∙ w

-- the strands below the next comprehension
pub below_pushed : (a inner : Around) (cs : List Comp) (i : ℕ) (c : Comp) → i < length cs → c ≡ get_or cs i c → inner.parent ≡ c.tag → inner.gens ≡ a.gens ++ c.gens → conds_tree inner.conds ≡ both (conds_tree a.conds) (conds_tree c.conds) → (p : List Step) (old new : List Strand) → map strand_tree new ≡ map strand_tree old ++ map shaped (at_body inner c.body p)
    → (all : List StrandTree) → map strand_tree old ++ map shaped (below a (drop i cs) p) ≡ all → map strand_tree new ++ map shaped (below a (drop (i + 1) cs) p) ≡ all
below_pushed a inner cs i c h e t g b p old new n all w =
    let rest = below a (drop (i + 1) cs) p in
    let own = comps_at c.tag (a.gens ++ c.gens) (both (conds_tree a.conds) (conds_tree c.conds)) (body_tree c.body) p in
    let is : at_body inner c.body p ≡ own = ap (λ z. comps_at z inner.gens (conds_tree inner.conds) (body_tree c.body) p) t ∙ ap₂ (λ (x : List Gen) (y : Conds). comps_at c.tag x y (body_tree c.body) p) g b in
    ap (λ (l : List StrandTree). l ++ map shaped rest) (n ∙ ap (λ (z : List PlacedComp). map strand_tree old ++ map shaped z) is)
    ∙ append_assoc (map strand_tree old) (map shaped own) (map shaped rest)
    ∙ ap (λ (l : List StrandTree). map strand_tree old ++ l) (sym (map-append shaped own rest))
    ∙ ap (λ (z : Comps). map strand_tree old ++ map shaped (comps_below a.gens (conds_tree a.conds) z p)) (sym (comps_from cs i c h e))
    ∙ w

conds_append : (xs ys : List BaseTree) → conds_of (xs ++ ys) ≡ both (conds_of xs) (conds_of ys)
conds_append [] ys = refl
conds_append (x ∷ xs) ys = ap (λ z. and_cond x z) (conds_append xs ys)

-- conditions and then more
pub conds_joined : (outer own all : List Base) → map base_tree all ≡ map base_tree outer ++ map base_tree own → conds_tree all ≡ both (conds_tree outer) (conds_tree own)
conds_joined outer own all h = ap conds_of h ∙ conds_append (map base_tree outer) (map base_tree own)
