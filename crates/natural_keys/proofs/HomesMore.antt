-- Homes, bag by bag and field by field.
use Rattle.std.proofs.Common.{◌≡◌, ℕ, suc, ◌+◌, ◌<◌, List, [], ◌∷◌, ◌++◌, sym, ap, ap₂, ◌∙◌, get_or, length, drop, drop-cons, arith, length-append, append_assoc}
use Rattle.nq_model.specs.Types.{TypeTree, FieldTypes, bag, field, type_tree, field_types_of, fields_view}
use Rattle.nq_model.specs.declared.ty.Ty.{Ty}
use Rattle.nq_ir.specs.Parts.{slots, slots_in, bags}
use Rattle.stitcher.specs.Linked.{Home, homes_in, homes_fields}
use Rattle.stitcher.proofs.Homes.{homes_long}

pub bag_homes : (made pushed after : List Home) (whole a : TypeTree) (q s inner : ℕ) → whole ≡ bag a
    → pushed ≡ made ++ (q, s) ∷ [] → inner ≡ length made → after ≡ pushed
    ++ homes_in a inner 0 (length pushed) → after ≡ made ++ homes_in whole q s (length made)
bag_homes made pushed after whole a q s inner is push at e =
    let long : length pushed ≡ suc (length made) = omega
    (arith, ap length push, length-append made ((q, s) ∷ [])) in
    e
    ∙ ap (λ n. pushed ++ homes_in a inner 0 n) long
    ∙ ap₂ (λ (l : List Home) (m : ℕ). l ++ homes_in a m 0 (suc (length made))) push at
    ∙ append_assoc made ((q, s) ∷ []) (homes_in a (length made) 0 (suc (length made)))
    ∙ ap (λ (t : TypeTree). made ++ homes_in t q s (length made)) (sym is)

abbrev pub types_of : List (List ℕ × Ty) → FieldTypes
types_of fields = field_types_of (fields_view fields)

-- the field at a place, and those behind it
types_here : (fields : List (List ℕ × Ty)) (k : ℕ) (f : List ℕ × Ty) → k < length fields → f
    ≡ get_or fields k f → types_of (drop k fields) ≡ field f.0 (type_tree f.1)
    (types_of (drop (suc k) fields))
types_here fields k f h is = ap types_of (drop-cons fields k f h
    ∙ ap (λ (z : List ℕ × Ty). z ∷ drop (suc k) fields) (sym is))

module _ (fields : List (List ℕ × Ty)) (k : ℕ) (f : List ℕ × Ty) (here : k < length fields)
    (is : f ≡ get_or fields k f) where
  one : suc k ≡ k + 1
  one = omega arith

  -- so many inner bags stand before the next field
  pub slots_more : (next after all : ℕ) → after ≡ next + slots (type_tree f.1)
      → next + slots_in (types_of (drop k fields)) ≡ all
      → after + slots_in (types_of (drop (k + 1) fields)) ≡ all
  slots_more next after all e h =
      let at : slots_in (types_of (drop k fields)) ≡ slots (type_tree f.1) + slots_in
      (types_of (drop (suc k) fields)) = ap slots_in (types_here fields k f here is) in
      let behind : slots_in (types_of (drop (suc k) fields))
      ≡ slots_in (types_of (drop (k + 1) fields)) = ap
      (λ n. slots_in (types_of (drop n fields))) one in
      omega (arith, e, h, at, behind)

  -- and the homes of its paths
  pub homes_more : (made more whole : List Home) (q next after : ℕ) → after
      ≡ next + slots (type_tree f.1) → more ≡ made ++ homes_in (type_tree f.1) q next (length made)
      → made ++ homes_fields (types_of (drop k fields)) q next (length made) ≡ whole → more
      ++ homes_fields (types_of (drop (k + 1) fields)) q after (length more) ≡ whole
  homes_more made more whole q next after e m h =
      let a : TypeTree = type_tree f.1 in
      let rest : FieldTypes = types_of (drop (suc k) fields) in
      let own : List Home = homes_in a q next (length made) in
      let long : length more ≡ length made + bags a = omega
      (arith, ap length m, length-append made own, homes_long a q next (length made)) in
      ap (λ n. more ++ homes_fields (types_of (drop n fields)) q after (length more)) (sym one)
      ∙ ap₂ (λ i n. more ++ homes_fields rest q i n) e long
      ∙ ap (λ (l : List Home). l ++ homes_fields rest q (next + slots a) (length made + bags a)) m
      ∙ append_assoc made own (homes_fields rest q (next + slots a) (length made + bags a))
      ∙ ap (λ (t : FieldTypes). made ++ homes_fields t q next (length made))
      (sym (types_here fields k f here is))
      ∙ h
