-- What flat answers stitch to, in canonical form, part by part.
use Rattle.std.proofs.Common.{◌≡◌, ℕ, ℤ, suc, ◌+◌, ◌-◌, ◌<◌, List, [], ◌∷◌, ◌++◌, refl, sym, ap, ap₂, ◌∙◌, subst, map, get_or, length, length-append, drop, arith, append-nil, codes, pos, Box, Global}
use Rattle.std.proofs.lemmas.List.{get_or_append_left, get_or-append-add, get_or-drop, drop-drop}
use Rattle.std.proofs.lemmas.Simd.{map-map}
use Rattle.nq_model.specs.Canonical.{canonical, canonical_fields, canonical_text, value_cmp, written}
use Rattle.nq_model.specs.NamedRows.{no_cell}
use Rattle.nq_model.specs.Orders.{sorted_by}
use Rattle.nq_model.specs.Types.{TypeTree, int, bool, text, rec, bag, fun, FieldTypes, none, field}
use Rattle.nq_model.specs.Types.{type_tree, type_layer}
use Rattle.nq_model.specs.declared.ty.Ty.{Ty, Ty-F, fold-roll-Ty}
use Rattle.nq_model.specs.declared.ty.Ty.TheVariants as ty
use Rattle.nq_model.specs.Values.{Nested, base, Fields, bag_of}
use Rattle.nq_model.specs.declared.table.Cell.{Cell}
use Rattle.canon.proofs.Canonical.{canonical_bag}
use Rattle.nq_ir.specs.Building.{Source, element, element_fields, built}
use Rattle.nq_ir.specs.NormalForms.{element_type}
use Rattle.nq_ir.specs.Parts.{leaves, leaves_in, slots, slots_in, bags, element_types}
use Rattle.shred_types.specs.Places.{width, leaf_places, leaf_places_in, slot_places, slot_places_in}
use Rattle.stitcher.specs.FlatNumbers.{flat_numbers, index_at}
use Rattle.stitcher.specs.Schemes.{AnswerRows, answers, element_of, stitched}
use Rattle.stitcher.specs.Walks.{TypesIn, TypesFields}
use Rattle.stitcher.proofs.Laid.{types_stand}
use Rattle.answer_text.specs.Elements.{part_value, fields_value, bag_value}
use Rattle.answer_text.specs.Indexes.{rows_under}
use Rattle.answer_text.proofs.Building.{each_same}

mutual
  leaves_long : (a : TypeTree) (n : ℕ) → length (leaf_places a n) ≡ leaves a
  leaves_long int n = refl
  leaves_long bool n = refl
  leaves_long text n = refl
  leaves_long (rec fs) n = leaves_in_long fs n
  leaves_long (bag a) n = refl
  leaves_long (fun a b) n = refl

  leaves_in_long : (fs : FieldTypes) (n : ℕ) → length (leaf_places_in fs n) ≡ leaves_in fs
  leaves_in_long none n = refl
  leaves_in_long (field l a fs) n = length-append (leaf_places a n)
      (leaf_places_in fs (n + width a)) ∙ ap₂ (λ (x y : ℕ). x + y) (leaves_long a n)
      (leaves_in_long fs (n + width a))

mutual
  slots_long : (a : TypeTree) (n : ℕ) → length (slot_places a n) ≡ slots a
  slots_long int n = refl
  slots_long bool n = refl
  slots_long text n = refl
  slots_long (rec fs) n = slots_in_long fs n
  slots_long (bag a) n = refl
  slots_long (fun a b) n = refl

  slots_in_long : (fs : FieldTypes) (n : ℕ) → length (slot_places_in fs n) ≡ slots_in fs
  slots_in_long none n = refl
  slots_in_long (field l a fs) n = length-append (slot_places a n) (slot_places_in fs (n + width a))
      ∙ ap₂ (λ (x y : ℕ). x + y) (slots_long a n) (slots_in_long fs (n + width a))

-- the places from a number on are those of a part
abbrev Follow : List ℕ → ℕ → List ℕ → Type 0
Follow all from own = (k : ℕ) → k < length own → get_or all (from + k) 0 ≡ get_or own k 0

follow_first : (all : List ℕ) (from : ℕ) (own others : List ℕ) → Follow all from (own ++ others)
    → Follow all from own
follow_first all from own others h k below = h k (omega (arith, below, length-append own others))
    ∙ get_or_append_left own others 0 k below

follow_rest : (all : List ℕ) (from count : ℕ) (own others : List ℕ) → length own ≡ count
    → Follow all from (own ++ others) → Follow all (from + count) others
follow_rest all from count own others long h k below =
    let place : from + count + k ≡ from + (length own + k) = omega (arith, long) in
    ap (λ (n : ℕ). get_or all n 0) place ∙ h (length own + k)
    (omega (arith, below, length-append own others)) ∙ get_or-append-add own others k 0

module _ (elements : List TypeTree) (ans : List AnswerRows) where
  abbrev From : Source (ℤ × ℤ) (List Cell)
  From = answers (flat_numbers elements) ans

  abbrev leaves_at : ℕ → List ℕ
  leaves_at q = leaf_places (element_of elements q) 3

  abbrev slots_at : ℕ → List ℕ
  slots_at q = slot_places (element_of elements q) 2

  leaf_is : (q l c : ℕ) (row : List Cell) → Follow (leaves_at q) l ((c + 1) ∷ [])
      → base (From.leaf q l row) ≡ base (get_or row c no_cell)
  leaf_is q l c row h =
      let first : get_or (leaves_at q) (l + 0) 0 ≡ c + 1 = h 0 (omega arith) in
      let same : l + 0 ≡ l = omega arith in
      let place : get_or (leaves_at q) l 0 - 1 ≡ c = omega
      (arith, ap (λ (n : ℕ). get_or (leaves_at q) n 0) same, first) in
      ap (λ (n : ℕ). base (get_or row n no_cell)) place

  own_leaves : (a : TypeTree) (n : ℕ) → element_of elements n ≡ a
      → Follow (leaves_at n) 0 (leaf_places a 3)
  own_leaves a n e k below =
      let same : 0 + k ≡ k = omega arith in
      ap (λ (b : TypeTree). get_or (leaf_places b 3) (0 + k) 0) e
      ∙ ap (λ (m : ℕ). get_or (leaf_places a 3) m 0) same

  own_slots : (a : TypeTree) (n : ℕ) → element_of elements n ≡ a
      → Follow (slots_at n) 0 (slot_places a 2)
  own_slots a n e k below =
      let same : 0 + k ≡ k = omega arith in
      ap (λ (b : TypeTree). get_or (slot_places b 2) (0 + k) 0) e
      ∙ ap (λ (m : ℕ). get_or (slot_places a 2) m 0) same

  -- the bag at a path under an index, from the elements of rows
  bag_from : (a : TypeTree) (n : ℕ) (i : ℤ × ℤ) → ((row : List Cell)
      → canonical (element From a n 0 0 (suc n) row) ≡ part_value a (drop (suc n) ans) 2 row)
      → canonical (bag_of (built From a n i)) ≡ bag_value a (drop n ans) i
  bag_from a n i own =
      let more : suc n ≡ n + 1 = omega arith in
      let left : drop (suc n) ans ≡ drop 1 (drop n ans) = ap (λ (m : ℕ). drop m ans) more
      ∙ sym (drop-drop 1 n ans) in
      let here : n + 0 ≡ n = omega arith in
      let rows : get_or ans n [] ≡ get_or (drop n ans) 0 []
      = sym (get_or-drop n ans 0 [] ∙ ap (λ (m : ℕ). get_or ans m []) here) in
      let each : (row : List Cell) → canonical (element From a n 0 0 (suc n) row)
      ≡ part_value a (drop 1 (drop n ans)) 2 row = λ row. own row
      ∙ ap (λ (x : List AnswerRows). part_value a x 2 row) left in
      canonical_bag (built From a n i)
      ∙ ap (λ (vs : List Nested). bag_of (sorted_by value_cmp vs))
      (map-map canonical (λ r. element From a n 0 0 (suc n) r) (From.rows n i)
      ∙ each_same (λ r. canonical (element From a n 0 0 (suc n) r))
      (λ r. part_value a (drop 1 (drop n ans)) 2 r) each (From.rows n i))
      ∙ ap (λ (x : AnswerRows). bag_of (sorted_by value_cmp
      (map (λ r. part_value a (drop 1 (drop n ans)) 2 r) (rows_under i x)))) rows

  mutual
    part_is : (a : TypeTree) (q l s n c : ℕ) (row : List Cell)
        → Follow (leaves_at q) l (leaf_places a (c + 1)) → Follow (slots_at q) s (slot_places a c)
        → TypesIn elements a n
        → canonical (element From a q l s n row) ≡ part_value a (drop n ans) c row
    part_is int q l s n c row ls ss t = leaf_is q l c row ls
    part_is bool q l s n c row ls ss t = leaf_is q l c row ls
    part_is text q l s n c row ls ss t = leaf_is q l c row ls
    part_is (rec fs) q l s n c row ls ss t = ap Nested.rec (fields_are fs q l s n c row ls ss t)
    part_is (bag a) q l s n c row ls ss t =
        let first : get_or (slots_at q) (s + 0) 0 ≡ c = ss 0 (omega arith) in
        let same : s ≡ s + 0 = omega arith in
        let place : get_or (slots_at q) s 0 ≡ c = ap (λ (m : ℕ). get_or (slots_at q) m 0) same
        ∙ first in
        bag_from a n (index_at row (get_or (slots_at q) s 0))
        (λ r. part_is a n 0 0 (suc n) 2 r (own_leaves a n t.0) (own_slots a n t.0) t.1)
        ∙ ap (λ (k : ℕ). bag_value a (drop n ans) (index_at row k)) place
    part_is (fun a b) q l s n c row ls ss t = refl

    fields_are : (fs : FieldTypes) (q l s n c : ℕ) (row : List Cell)
        → Follow (leaves_at q) l (leaf_places_in fs (c + 1))
        → Follow (slots_at q) s (slot_places_in fs c) → TypesFields elements fs n
        → canonical_fields (element_fields From fs q l s n row) ≡ fields_value fs (drop n ans) c row
    fields_are none q l s n c row ls ss t = refl
    fields_are (field k a fs) q l s n c row ls ss t =
        let next : c + 1 + width a ≡ c + width a + 1 = omega arith in
        let more : Follow (leaves_at q) (l + leaves a) (leaf_places_in fs (c + width a + 1))
        = subst (λ (m : ℕ). Follow (leaves_at q) (l + leaves a) (leaf_places_in fs m)) next
        (follow_rest (leaves_at q) l (leaves a) (leaf_places a (c + 1))
        (leaf_places_in fs (c + 1 + width a)) (leaves_long a (c + 1)) ls) in
        let others = fields_are fs q (l + leaves a) (s + slots a) (n + bags a)
        (c + width a) row more
        (follow_rest (slots_at q) s (slots a) (slot_places a c) (slot_places_in fs (c + width a))
        (slots_long a c) ss) t.1 in
        ap₂ (λ (v : Nested) (vs : Fields). Fields.field k v vs)
        (part_is a q l s n c row (follow_first (leaves_at q) l (leaf_places a (c + 1))
        (leaf_places_in fs (c + 1 + width a)) ls) (follow_first (slots_at q) s (slot_places a c)
        (slot_places_in fs (c + width a)) ss) t.0)
        (others ∙ ap (λ (x : List AnswerRows). fields_value fs x (c + width a) row)
        (sym (drop-drop (bags a) n ans)))

  -- the bag at a path under an index
  pub bag_is : (a : TypeTree) (n : ℕ) (i : ℤ × ℤ) → TypesIn elements (bag a) n
      → canonical (bag_of (built From a n i)) ≡ bag_value a (drop n ans) i
  bag_is a n i t = bag_from a n i (λ r. part_is a n 0 0 (suc n) 2 r (own_leaves a n t.0)
      (own_slots a n t.0) t.1)

bag_type : (box : Box Ty Global) → type_tree (ty.Bag box) ≡ bag (type_tree box.value)
bag_type box = ap type_tree (sym (ty.rolls-Bag box)) ∙ fold-roll-Ty TypeTree type_layer
    (Ty-F.Bag box)

-- the text of the bag under the top's index
pub text_is : (type a : TypeTree) (ans : List AnswerRows) (bytes : List ℕ) → type ≡ bag a → bytes
    ≡ written (bag_value a ans (pos 0, pos 1)) ++ codes "\n"
    → bytes ≡ canonical_text (stitched (flat_numbers (element_types type)) (element_type type) ans)
text_is type a ans bytes e is =
    let elements : List TypeTree = element_types (bag a) in
    let stands : TypesIn elements (bag a) 0 = types_stand (bag a) elements 0 [] []
    (sym (append-nil elements)) refl in
    let whole : canonical (stitched (flat_numbers elements) a ans) ≡ bag_value a ans (pos 0, pos 1)
    = bag_is elements ans a 0 (pos 0, pos 1) stands in
    let P : TypeTree → Type 0 = λ t. bytes ≡ canonical_text
    (stitched (flat_numbers (element_types t)) (element_type t) ans) in
    subst P (sym e) (is ∙ ap (λ (v : Nested). written v ++ codes "\n") (sym whole))

-- of a type of the program
pub text_of_bag : (of : Ty) (box : Box Ty Global) (ans : List AnswerRows) (bytes : List ℕ) → of
    ≡ ty.Bag box → bytes ≡ written (bag_value (type_tree box.value) ans (pos 0, pos 1))
    ++ codes "\n"
    → bytes ≡ canonical_text (stitched (flat_numbers (element_types (type_tree of)))
    (element_type (type_tree of)) ans)
text_of_bag of box ans bytes is whole = text_is (type_tree of) (type_tree box.value) ans bytes
    (ap type_tree is ∙ bag_type box) whole
