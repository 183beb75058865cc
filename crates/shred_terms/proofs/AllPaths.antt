-- The strands at all paths are those of the form, and make its shredded forms.
use Rattle.std.proofs.Common.{◌≡◌, ℕ, ◌+◌, List, [], ◌∷◌, ◌++◌, map, flat_map, length, refl, sym, ap, ap₂, ◌∙◌, slice_get, Some, None}
use Rattle.std.proofs.lemmas.List.{map-append}
use Rattle.nq_model.specs.Types.{TypeTree, int, bool, text, rec, bag, fun, FieldTypes, none, field}
use Rattle.nq_ir.specs.declared.path.Path.{Path}
use Rattle.nq_ir.specs.declared.path.Step.{Step}
use Rattle.nq_ir.specs.Parts.{slots}
use Rattle.nq_ir.specs.Paths.{element_at}
use Rattle.nq_ir.specs.Shredded.{ShreddedTree, shredded}
use Rattle.nq_ir.specs.Spots.{PlacedComp, StrandTree, by_tag, levels_fields, levels_in, placed, shaped, strands, strands_at, under}
use Rattle.nq_ir.specs.Trees.{FormTree, no_cond}
use Rattle.nq_ir.proofs.Nested.{flat_of_map, map_flat, map_of_map}
use Rattle.shred_terms.specs.Levels.{NodeTree, form_of, node_fields, node_levels, node_of, paired, under_node}

under_are : (s : ℕ) (here : List PlacedComp) → flat_map (under_node s) (map node_of here) ≡ map node_of (flat_map (under s) here)
under_are s here = flat_of_map (under_node s) node_of here ∙ sym (map_flat node_of (under s) here)

mutual
  pub levels_are : (a : TypeTree) (s : ℕ) (here : List PlacedComp) → node_levels a s (map node_of here) ≡ map (map shaped) (levels_in a s here)
  levels_are int s here = refl
  levels_are bool s here = refl
  levels_are text s here = refl
  levels_are (rec fs) s here = fields_are fs s here
  levels_are (bag a) s here =
      ap (λ (l : List NodeTree). map (λ d. d.0) l ∷ node_levels a 0 l) (under_are s here)
      ∙ ap₂ (λ (x : List StrandTree) (y : List (List StrandTree)). x ∷ y) (map_of_map (λ (d : NodeTree). d.0) node_of (flat_map (under s) here)) (levels_are a 0 (flat_map (under s) here))
  levels_are (fun a b) s here = refl

  fields_are : (fs : FieldTypes) (s : ℕ) (here : List PlacedComp) → node_fields fs s (map node_of here) ≡ map (map shaped) (levels_fields fs s here)
  fields_are none s here = refl
  fields_are (field k a fs) s here =
      ap₂ (λ (x y : List (List StrandTree)). x ++ y) (levels_are a s here) (fields_are fs (s + slots a) here)
      ∙ sym (map-append (map shaped) (levels_in a s here) (levels_fields fs (s + slots a) here))

-- strands at each path make the shredded forms
pub paired_is : (form : FormTree) (ps : List (List Step)) (ls : List (List StrandTree)) → map (strands_at form.element form.comps) ps ≡ map by_tag ls → paired (bag form.element) ps ls ≡ map (shredded form) ps
paired_is form [] ls e = refl
paired_is form (p ∷ ps) [] e = absurd (cc)
paired_is form (p ∷ ps) (l ∷ ls) e =
    let one : strands_at form.element form.comps p ≡ by_tag l = cc in
    let rest : map (strands_at form.element form.comps) ps ≡ map by_tag ls = cc in
    ap₂ (λ (x : ShreddedTree) (y : List ShreddedTree). x ∷ y) (ap (λ (d : List StrandTree). record { path = p; element = element_at (bag form.element) p; parts = d }) (sym one)) (paired_is form ps ls rest)

pub none_paired : (a : TypeTree) (ps : List (List Step)) → paired a ps [] ≡ []
none_paired a [] = refl
none_paired a (p ∷ ps) = refl

-- one list of strands more
pub paired_more : (a : TypeTree) (places : List Path) (ls : List (List StrandTree)) (d : List StrandTree) (p : Path) → slice_get places (length (paired a (map (λ q. q.steps) places) ls)) ≡ Some p
    → paired a (map (λ q. q.steps) places) (ls ++ d ∷ []) ≡ paired a (map (λ q. q.steps) places) ls ++ form_of a p.steps d ∷ []
paired_more a [] ls d p e = absurd (cc)
paired_more a (q ∷ places) [] d p e =
    let same : q ≡ p = cc in
    ap₂ (λ (x : Path) (l : List ShreddedTree). form_of a x.steps d ∷ l) same (none_paired a (map (λ q. q.steps) places))
paired_more a (q ∷ places) (l ∷ ls) d p e = ap (λ (x : List ShreddedTree). form_of a q.steps l ∷ x) (paired_more a places ls d p e)

pub paired_enough : (a : TypeTree) (places : List Path) (ls : List (List StrandTree)) (d : List StrandTree) → slice_get places (length (paired a (map (λ q. q.steps) places) ls)) ≡ None
    → paired a (map (λ q. q.steps) places) (ls ++ d ∷ []) ≡ paired a (map (λ q. q.steps) places) ls
paired_enough a [] ls d e = refl
paired_enough a (q ∷ places) [] d e = absurd (cc)
paired_enough a (q ∷ places) (l ∷ ls) d e = ap (λ (x : List ShreddedTree). form_of a q.steps l ∷ x) (paired_enough a places ls d e)

-- the strands at the empty path, and those inside
pub all_from : (form : FormTree) (here : List NodeTree) (inner all : List (List StrandTree)) → here ≡ map node_of (placed 0 [] no_cond form.comps) → inner ≡ node_levels form.element 0 here → all ≡ map (λ d. d.0) here ∷ inner → all ≡ strands form.element form.comps
all_from form here inner all h k e =
    e
    ∙ ap (λ (l : List (List StrandTree)). map (λ d. d.0) here ∷ l) k
    ∙ ap (λ (l : List NodeTree). map (λ d. d.0) l ∷ node_levels form.element 0 l) h
    ∙ ap₂ (λ (x : List StrandTree) (y : List (List StrandTree)). x ∷ y) (map_of_map (λ (d : NodeTree). d.0) node_of (placed 0 [] no_cond form.comps)) (levels_are form.element 0 (placed 0 [] no_cond form.comps))
