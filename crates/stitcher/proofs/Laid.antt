-- Rows laid out in cells follow the rows, by tag and number.
use Rattle.std.proofs.Common.{◌≡◌, ℕ, ℤ, pos, suc, ◌+◌, ◌-◌, ◌<◌, ◌≤◌, List, [], ◌∷◌, ◌++◌, map, refl, sym, ap, ap₂, ◌∙◌, subst, Bool, true, false, length, arith, filter, nat_eq, get_or, length-append, append_assoc, ◌&&◌}
use Rattle.std.specs.Ordering.{int_eq}
use Rattle.std.proofs.lemmas.Bool.Decides.{Decides-eqb, Decides-int_eq}
use Rattle.nq_model.proofs.Bags.{matched_filter, matched_weaker}
use Rattle.nq_model.specs.Bags.{Matched, here}
use Rattle.nq_model.specs.Operators.{int_of}
use Rattle.nq_model.specs.Types.{TypeTree, FieldTypes, int, bool, text, rec, bag, fun, none, field}
use Rattle.nq_model.specs.declared.table.Cell.{Cell}
use Rattle.nq_ir.proofs.Spots.{found}
use Rattle.nq_ir.specs.Building.{Alike, AlikeFields, FollowsAt, FollowsIn, FollowsFields}
use Rattle.nq_ir.specs.Lets.{FlatRow, flat}
use Rattle.nq_model.specs.NamedRows.{no_cell}
use Rattle.nq_ir.specs.Parts.{leaves, leaves_in, slots, slots_in, bags, bags_in, element_types, element_types_in}
use Rattle.shred_types.proofs.Places.{row_leaf, row_slot}
use Rattle.shred_types.specs.Columns.{row_cells}
use Rattle.shred_types.specs.Places.{leaf_places, slot_places}
use Rattle.stitcher.specs.Schemes.{AnswerRows, answers, element_of}
use Rattle.stitcher.specs.FlatNumbers.{index_at, flat_numbers}
use Rattle.stitcher.specs.Walks.{TypesIn, TypesFields}

-- a pair of integers writes this tag and this number
abbrev pub IsWritten : ℕ → (ℤ × ℤ) → (ℕ × ℕ) → Type 0
IsWritten q i j = i ≡ (pos j.0, pos j.1)

one_truth : (a b : Bool) → (a ≡ true → b ≡ true) → (b ≡ true → a ≡ true) → a ≡ b
one_truth true b f g = sym (f refl)
one_truth false true f g = g refl
one_truth false false f g = refl

same_test : (m n : ℕ) → int_eq (pos m) (pos n) ≡ nat_eq m n
same_test m n =
    one_truth (int_eq (pos m) (pos n)) (nat_eq m n)
    (λ e. let p : pos m ≡ pos n = (Decides-int_eq (pos m) (pos n)).0 e in let q : m ≡ n = cc in (Decides-eqb m n).1 q)
    (λ e. (Decides-int_eq (pos m) (pos n)).1 (ap pos ((Decides-eqb m n).0 e)))

mutual
  pub types_length : (A : TypeTree) → length (element_types A) ≡ bags A
  types_length int = refl
  types_length bool = refl
  types_length text = refl
  types_length (rec fs) = types_fields_length fs
  types_length (bag A) = ap suc (types_length A)
  types_length (fun A B) = refl

  types_fields_length : (fs : FieldTypes) → length (element_types_in fs) ≡ bags_in fs
  types_fields_length none = refl
  types_fields_length (field k A fs) = length-append (element_types A) (element_types_in fs) ∙ ap₂ (λ x y. x + y) (types_length A) (types_fields_length fs)

mutual
  pub types_stand : (A : TypeTree) (all : List TypeTree) (n : ℕ) (before after : List TypeTree) → all ≡ before ++ (element_types A ++ after) → length before ≡ n → TypesIn all A n
  types_stand int all n before after e h = tt
  types_stand bool all n before after e h = tt
  types_stand text all n before after e h = tt
  types_stand (rec fs) all n before after e h = types_stand_fields fs all n before after e h
  types_stand (bag A) all n before after e h =
      (found all before (element_types A ++ after) A int n e h, types_stand A all (suc n) (before ++ A ∷ []) after (e ∙ sym (append_assoc before (A ∷ []) (element_types A ++ after))) (omega (arith, length-append before (A ∷ []), h)))
  types_stand (fun A B) all n before after e h = tt

  types_stand_fields : (fs : FieldTypes) (all : List TypeTree) (n : ℕ) (before after : List TypeTree) → all ≡ before ++ (element_types_in fs ++ after) → length before ≡ n → TypesFields all fs n
  types_stand_fields none all n before after e h = tt
  types_stand_fields (field k A fs) all n before after e h =
      let e1 : all ≡ before ++ (element_types A ++ (element_types_in fs ++ after)) = e ∙ ap (λ (l : List TypeTree). before ++ l) (append_assoc (element_types A) (element_types_in fs) after) in
      (types_stand A all n before (element_types_in fs ++ after) e1 h, types_stand_fields fs all (n + bags A) (before ++ element_types A) after (e1 ∙ sym (append_assoc before (element_types A) (element_types_in fs ++ after))) (omega (arith, length-append before (element_types A), types_length A, h)))

map_matched : {A B : Type 0} (f : B → A) (xs : List B) → Matched (λ c r. c ≡ f r) (map f xs) xs
map_matched f [] = refl
map_matched f (x ∷ xs) = (x, xs, here, refl, map_matched f xs)

module _ (elements : List TypeTree) (rows : List (List FlatRow)) (ans : List AnswerRows) (laid_out : (n : ℕ) → get_or ans n [] ≡ map (row_cells (element_of elements n)) (get_or rows n [])) where
  one_leaf : (A : TypeTree) (n l : ℕ) (r : FlatRow) → element_of elements n ≡ A → l < leaves A → get_or (row_cells A r) (get_or (leaf_places (element_of elements n) 3) l 0 - 1) no_cell ≡ get_or r.leaf_cells l no_cell
  one_leaf A n l r e h = ap (λ z. get_or (row_cells A r) (get_or (leaf_places z 3) l 0 - 1) no_cell) e ∙ row_leaf A r l h

  one_slot : (A : TypeTree) (n s : ℕ) (r : FlatRow) → element_of elements n ≡ A → s < slots A → index_at (row_cells A r) (get_or (slot_places (element_of elements n) 2) s 0) ≡ (pos (get_or r.inners s (0, 0)).0, pos (get_or r.inners s (0, 0)).1)
  one_slot A n s r e h =
      let f = row_slot A r s h in
      ap (λ z. index_at (row_cells A r) (get_or (slot_places z 2) s 0)) e ∙ ap₂ {C = ℤ × ℤ} (λ (x y : Cell). (int_of x, int_of y)) f.0 f.1

  mutual
    cells_alike : (B A : TypeTree) (n l s k : ℕ) (r : FlatRow) → element_of elements n ≡ A → l + leaves B ≤ leaves A → s + slots B ≤ slots A → Alike IsWritten (answers (flat_numbers elements) ans) (flat rows) B n l s k (row_cells A r) r
    cells_alike int A n l s k r e h i = one_leaf A n l r e (omega arith)
    cells_alike bool A n l s k r e h i = one_leaf A n l r e (omega arith)
    cells_alike text A n l s k r e h i = one_leaf A n l r e (omega arith)
    cells_alike (rec fs) A n l s k r e h i = cells_alike_fields fs A n l s k r e h i
    cells_alike (bag B) A n l s k r e h i = one_slot A n s r e (omega arith)
    cells_alike (fun B C) A n l s k r e h i = tt

    cells_alike_fields : (fs : FieldTypes) (A : TypeTree) (n l s k : ℕ) (r : FlatRow) → element_of elements n ≡ A → l + leaves_in fs ≤ leaves A → s + slots_in fs ≤ slots A → AlikeFields IsWritten (answers (flat_numbers elements) ans) (flat rows) fs n l s k (row_cells A r) r
    cells_alike_fields none A n l s k r e h i = tt
    cells_alike_fields (field j B fs) A n l s k r e h i =
        (cells_alike B A n l s k r e (omega arith) (omega arith), cells_alike_fields fs A n (l + leaves B) (s + slots B) (k + bags B) r e (omega arith) (omega arith))

  follow_at : (A : TypeTree) (n : ℕ) → element_of elements n ≡ A → FollowsAt IsWritten (answers (flat_numbers elements) ans) (flat rows) A n
  follow_at A n t i j e =
      let rs = get_or rows n [] in
      let test : FlatRow → Bool = λ r. nat_eq r.outer.0 j.0 && nat_eq r.outer.1 j.1 in
      let own : List Cell → Bool = λ c. int_eq (index_at c 0).0 i.0 && int_eq (index_at c 0).1 i.1 in
      let start : Matched (λ c r. c ≡ row_cells A r) (map (row_cells A) rs) rs = map_matched (row_cells A) rs in
      let m : Matched (λ c r. c ≡ row_cells A r) (filter own (map (row_cells A) rs)) (filter test rs) = matched_filter (λ c r. c ≡ row_cells A r) own test (λ c r h. ap own h ∙ ap (λ (z : ℤ × ℤ). int_eq (pos r.outer.0) z.0 && int_eq (pos r.outer.1) z.1) e ∙ ap₂ (λ (x y : Bool). x && y) (same_test r.outer.0 j.0) (same_test r.outer.1 j.1)) (map (row_cells A) rs) rs start in
      let w : Matched (λ c r. Alike IsWritten (answers (flat_numbers elements) ans) (flat rows) A n 0 0 (suc n) c r) (filter own (map (row_cells A) rs)) (filter test rs) = matched_weaker (λ c r. c ≡ row_cells A r) (λ c r. Alike IsWritten (answers (flat_numbers elements) ans) (flat rows) A n 0 0 (suc n) c r) (λ c r h. subst (λ z. Alike IsWritten (answers (flat_numbers elements) ans) (flat rows) A n 0 0 (suc n) z r) (sym h) (cells_alike A A n 0 0 (suc n) r t (omega arith) (omega arith))) (filter own (map (row_cells A) rs)) (filter test rs) m in
      subst (λ (l : List (List Cell)). Matched (λ c r. Alike IsWritten (answers (flat_numbers elements) ans) (flat rows) A n 0 0 (suc n) c r) (filter own l) (filter test rs)) (sym (laid_out n ∙ ap (λ z. map (row_cells z) rs) t)) w

  mutual
    pub follow_in : (A : TypeTree) (n : ℕ) → TypesIn elements A n → FollowsIn IsWritten (answers (flat_numbers elements) ans) (flat rows) A n
    follow_in int n t = tt
    follow_in bool n t = tt
    follow_in text n t = tt
    follow_in (rec fs) n t = follow_fields fs n t
    follow_in (bag A) n t = (follow_at A n t.0, follow_in A (suc n) t.1)
    follow_in (fun A B) n t = tt

    follow_fields : (fs : FieldTypes) (n : ℕ) → TypesFields elements fs n → FollowsFields IsWritten (answers (flat_numbers elements) ans) (flat rows) fs n
    follow_fields none n t = tt
    follow_fields (field k A fs) n t = (follow_in A n t.0, follow_fields fs (n + bags A) t.1)
