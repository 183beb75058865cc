-- Where base parts and inner bags stand in a row, and what stands there.
use Rattle.std.proofs.Common.{◌≡◌, ℕ, zero, suc, ◌+◌, ◌-◌, ◌<◌, ◌≤◌, List, [], ◌∷◌, ◌++◌, map, refl, sym, ap, ap₂, ◌∙◌, subst, Bool, true, false, length, arith, get_or, nat_lt, length-append, ltb-true, ltb-false}
use Rattle.std.proofs.lemmas.List.{map-append}
use Rattle.std.proofs.Math.Seq.{get_or-append_right}
use Rattle.std.proofs.Math.ListN.{get_or-append}
use Rattle.nq_model.specs.Types.{TypeTree, int, bool, text, rec, bag, fun, FieldTypes, none, field}
use Rattle.nq_model.specs.declared.table.Cell.{Cell}
use Rattle.nq_model.specs.declared.table.ColumnType.{ColumnType}
use Rattle.nq_ir.specs.Lets.{FlatRow}
use Rattle.nq_model.specs.NamedRows.{no_cell}
use Rattle.nq_ir.specs.Parts.{leaves, leaves_in, slots, slots_in}
use Rattle.shred_types.specs.Columns.{element_columns, fields_columns, number_cell, laid, laid_fields, row_cells}
use Rattle.shred_types.specs.Places.{leaf_types, leaf_types_in, width, leaf_places, leaf_places_in, slot_places, slot_places_in}

-- the list xs stands in ys from the place n on
abbrev pub StandsAt : {A : Type 0} → A → List A → ℕ → List A → Type 0
StandsAt d ys n xs = (k : ℕ) → k < length xs → get_or ys (n + k) d ≡ get_or xs k d

stands_left : {A : Type 0} (d : A) (ys : List A) (n : ℕ) (xs zs : List A) → StandsAt d ys n (xs ++ zs) → StandsAt d ys n xs
stands_left d ys n xs zs h k l = h k (omega (arith, length-append xs zs)) ∙ get_or-append xs zs d k l

stands_right : {A : Type 0} (d : A) (ys : List A) (n w : ℕ) (xs zs : List A) → length xs ≡ w → StandsAt d ys n (xs ++ zs) → StandsAt d ys (n + w) zs
stands_right d ys n w xs zs e h k l =
    let at : n + (w + k) ≡ n + w + k = omega arith in
    let back : w + k - length xs ≡ k = omega arith in
    ap (λ j. get_or ys j d) (sym at) ∙ h (w + k) (omega (arith, length-append xs zs)) ∙ get_or-append_right xs zs (w + k) d (omega arith) ∙ ap (λ j. get_or zs j d) back

split : (P : Type 0) (m n : ℕ) → (m < n → P) → (n ≤ m → P) → P
split P m n f g = go (nat_lt m n) refl
  where
    go : (b : Bool) → nat_lt m n ≡ b → P
    go true e = f (ltb-true m n e)
    go false e = g (ltb-false m n e)

mutual
  pub leaves_long : (a : TypeTree) (n : ℕ) → length (leaf_places a n) ≡ leaves a
  leaves_long int n = refl
  leaves_long bool n = refl
  leaves_long text n = refl
  leaves_long (rec fs) n = leaves_long_in fs n
  leaves_long (bag a) n = refl
  leaves_long (fun a b) n = refl

  leaves_long_in : (fs : FieldTypes) (n : ℕ) → length (leaf_places_in fs n) ≡ leaves_in fs
  leaves_long_in none n = refl
  leaves_long_in (field l a fs) n = length-append (leaf_places a n) (leaf_places_in fs (n + width a)) ∙ ap₂ (λ x y. x + y) (leaves_long a n) (leaves_long_in fs (n + width a))

mutual
  pub slots_long : (a : TypeTree) (n : ℕ) → length (slot_places a n) ≡ slots a
  slots_long int n = refl
  slots_long bool n = refl
  slots_long text n = refl
  slots_long (rec fs) n = slots_long_in fs n
  slots_long (bag a) n = refl
  slots_long (fun a b) n = refl

  slots_long_in : (fs : FieldTypes) (n : ℕ) → length (slot_places_in fs n) ≡ slots_in fs
  slots_long_in none n = refl
  slots_long_in (field l a fs) n = length-append (slot_places a n) (slot_places_in fs (n + width a)) ∙ ap₂ (λ x y. x + y) (slots_long a n) (slots_long_in fs (n + width a))

mutual
  types_long : (a : TypeTree) → length (leaf_types a) ≡ leaves a
  types_long int = refl
  types_long bool = refl
  types_long text = refl
  types_long (rec fs) = types_long_in fs
  types_long (bag a) = refl
  types_long (fun a b) = refl

  types_long_in : (fs : FieldTypes) → length (leaf_types_in fs) ≡ leaves_in fs
  types_long_in none = refl
  types_long_in (field l a fs) = length-append (leaf_types a) (leaf_types_in fs) ∙ ap₂ (λ x y. x + y) (types_long a) (types_long_in fs)

mutual
  laid_long : (a : TypeTree) (l s : ℕ) (r : FlatRow) → length (laid a l s r) ≡ width a
  laid_long int l s r = refl
  laid_long bool l s r = refl
  laid_long text l s r = refl
  laid_long (rec fs) l s r = laid_long_in fs l s r
  laid_long (bag a) l s r = refl
  laid_long (fun a b) l s r = refl

  laid_long_in : (fs : FieldTypes) (l s : ℕ) (r : FlatRow) → length (laid_fields fs l s r) ≡ length (fields_columns fs)
  laid_long_in none l s r = refl
  laid_long_in (field k a fs) l s r =
      length-append (laid a l s r) (laid_fields fs (l + leaves a) (s + slots a) r) ∙ ap₂ (λ x y. x + y) (laid_long a l s r) (laid_long_in fs (l + leaves a) (s + slots a) r) ∙ sym (length-append (element_columns a) (fields_columns fs))

only : {A : Type 0} (d x : A) (ys : List A) (n m : ℕ) → StandsAt d ys n (x ∷ []) → m < 1 → get_or ys (get_or (n ∷ []) m 0) d ≡ x
only d x ys n zero h l =
    let at : n + 0 ≡ n = omega arith in
    ap (λ j. get_or ys j d) (sym at) ∙ h 0 l
only d x ys n (suc m) h l = absurd (omega arith)

-- the place of a part of the first field, or of one of the others
in_first : (xs ys : List ℕ) (n m : ℕ) → length xs ≡ n → m < n → get_or (xs ++ ys) m 0 ≡ get_or xs m 0
in_first xs ys n m e l = get_or-append xs ys 0 m (omega arith)

in_others : (xs ys : List ℕ) (n m : ℕ) → length xs ≡ n → n ≤ m → get_or (xs ++ ys) m 0 ≡ get_or ys (m - n) 0
in_others xs ys n m e l =
    let back : m - length xs ≡ m - n = omega arith in
    get_or-append_right xs ys m 0 (omega arith) ∙ ap (λ j. get_or ys j 0) back

leaf_only : (n l m : ℕ) (r : FlatRow) (cs : List Cell) → StandsAt no_cell cs n (get_or r.leaf_cells l no_cell ∷ []) → m < 1 → get_or cs (get_or (n ∷ []) m 0) no_cell ≡ get_or r.leaf_cells (l + m) no_cell
leaf_only n l m r cs h b =
    let at : l ≡ l + m = omega arith in
    only no_cell (get_or r.leaf_cells l no_cell) cs n m h b ∙ ap (λ j. get_or r.leaf_cells j no_cell) at

type_only : (d : ColumnType) (a : TypeTree) (n m : ℕ) (cs : List ColumnType) → StandsAt d cs n (get_or (leaf_types a) 0 d ∷ []) → m < 1 → get_or cs (get_or (n ∷ []) m 0) d ≡ get_or (leaf_types a) m d
type_only d a n m cs h b =
    let at : 0 ≡ m = omega arith in
    only d (get_or (leaf_types a) 0 d) cs n m h b ∙ ap (λ j. get_or (leaf_types a) j d) at

-- the cell of a base part
mutual
  leaf_cell : (a : TypeTree) (n l s m : ℕ) (r : FlatRow) (cs : List Cell) → StandsAt no_cell cs n (laid a l s r) → m < leaves a → get_or cs (get_or (leaf_places a n) m 0) no_cell ≡ get_or r.leaf_cells (l + m) no_cell
  leaf_cell int n l s m r cs h b = leaf_only n l m r cs h b
  leaf_cell bool n l s m r cs h b = leaf_only n l m r cs h b
  leaf_cell text n l s m r cs h b = leaf_only n l m r cs h b
  leaf_cell (rec fs) n l s m r cs h b = leaf_cell_in fs n l s m r cs h b
  leaf_cell (bag a) n l s m r cs h b = absurd (omega arith)
  leaf_cell (fun a c) n l s m r cs h b = absurd (omega arith)

  leaf_cell_in : (fs : FieldTypes) (n l s m : ℕ) (r : FlatRow) (cs : List Cell) → StandsAt no_cell cs n (laid_fields fs l s r) → m < leaves_in fs → get_or cs (get_or (leaf_places_in fs n) m 0) no_cell ≡ get_or r.leaf_cells (l + m) no_cell
  leaf_cell_in none n l s m r cs h b = absurd (omega arith)
  leaf_cell_in (field k a fs) n l s m r cs h b =
      let own = laid a l s r in
      let others = laid_fields fs (l + leaves a) (s + slots a) r in
      split (get_or cs (get_or (leaf_places a n ++ leaf_places_in fs (n + width a)) m 0) no_cell ≡ get_or r.leaf_cells (l + m) no_cell) m (leaves a)
      (λ u. ap (λ j. get_or cs j no_cell) (in_first (leaf_places a n) (leaf_places_in fs (n + width a)) (leaves a) m (leaves_long a n) u) ∙ leaf_cell a n l s m r cs (stands_left no_cell cs n own others h) u)
      (λ u.
      let at : l + leaves a + (m - leaves a) ≡ l + m = omega arith in
      ap (λ j. get_or cs j no_cell) (in_others (leaf_places a n) (leaf_places_in fs (n + width a)) (leaves a) m (leaves_long a n) u)
      ∙ leaf_cell_in fs (n + width a) (l + leaves a) (s + slots a) (m - leaves a) r cs (stands_right no_cell cs n (width a) own others (laid_long a l s r) h) (omega arith)
      ∙ ap (λ j. get_or r.leaf_cells j no_cell) at)

-- the two cells of an inner bag
abbrev pub SlotAt : List Cell → ℕ → FlatRow → ℕ → Type 0
SlotAt cs k r m = (get_or cs k no_cell ≡ number_cell (get_or r.inners m (0, 0)).0) × (get_or cs (k + 1) no_cell ≡ number_cell (get_or r.inners m (0, 0)).1)

mutual
  slot_cell : (a : TypeTree) (n l s m : ℕ) (r : FlatRow) (cs : List Cell) → StandsAt no_cell cs n (laid a l s r) → m < slots a → SlotAt cs (get_or (slot_places a n) m 0) r (s + m)
  slot_cell int n l s m r cs h b = absurd (omega arith)
  slot_cell bool n l s m r cs h b = absurd (omega arith)
  slot_cell text n l s m r cs h b = absurd (omega arith)
  slot_cell (rec fs) n l s m r cs h b = slot_cell_in fs n l s m r cs h b
  slot_cell (bag a) n l s zero r cs h b =
      let at : n + 0 ≡ n = omega arith in
      let same : s ≡ s + 0 = omega arith in
      subst (λ j. SlotAt cs n r j) same (ap (λ j. get_or cs j no_cell) (sym at) ∙ h 0 (omega arith), h 1 (omega arith))
  slot_cell (bag a) n l s (suc m) r cs h b = absurd (omega arith)
  slot_cell (fun a c) n l s m r cs h b = absurd (omega arith)

  slot_cell_in : (fs : FieldTypes) (n l s m : ℕ) (r : FlatRow) (cs : List Cell) → StandsAt no_cell cs n (laid_fields fs l s r) → m < slots_in fs → SlotAt cs (get_or (slot_places_in fs n) m 0) r (s + m)
  slot_cell_in none n l s m r cs h b = absurd (omega arith)
  slot_cell_in (field k a fs) n l s m r cs h b =
      let own = laid a l s r in
      let others = laid_fields fs (l + leaves a) (s + slots a) r in
      split (SlotAt cs (get_or (slot_places a n ++ slot_places_in fs (n + width a)) m 0) r (s + m)) m (slots a)
      (λ u. subst (λ j. SlotAt cs j r (s + m)) (sym (in_first (slot_places a n) (slot_places_in fs (n + width a)) (slots a) m (slots_long a n) u)) (slot_cell a n l s m r cs (stands_left no_cell cs n own others h) u))
      (λ u.
      let at : s + slots a + (m - slots a) ≡ s + m = omega arith in
      subst (λ j. SlotAt cs (get_or (slot_places a n ++ slot_places_in fs (n + width a)) m 0) r j) at (subst (λ j. SlotAt cs j r (s + slots a + (m - slots a))) (sym (in_others (slot_places a n) (slot_places_in fs (n + width a)) (slots a) m (slots_long a n) u)) (slot_cell_in fs (n + width a) (l + leaves a) (s + slots a) (m - slots a) r cs (stands_right no_cell cs n (width a) own others (laid_long a l s r) h) (omega arith))))

-- the type of the column of a base part
mutual
  leaf_type : (d : ColumnType) (a : TypeTree) (n m : ℕ) (cs : List ColumnType) → StandsAt d cs n (element_columns a) → m < leaves a → get_or cs (get_or (leaf_places a n) m 0) d ≡ get_or (leaf_types a) m d
  leaf_type d int n m cs h b = type_only d int n m cs h b
  leaf_type d bool n m cs h b = type_only d bool n m cs h b
  leaf_type d text n m cs h b = type_only d text n m cs h b
  leaf_type d (rec fs) n m cs h b = leaf_type_in d fs n m cs h b
  leaf_type d (bag a) n m cs h b = absurd (omega arith)
  leaf_type d (fun a c) n m cs h b = absurd (omega arith)

  leaf_type_in : (d : ColumnType) (fs : FieldTypes) (n m : ℕ) (cs : List ColumnType) → StandsAt d cs n (fields_columns fs) → m < leaves_in fs → get_or cs (get_or (leaf_places_in fs n) m 0) d ≡ get_or (leaf_types_in fs) m d
  leaf_type_in d none n m cs h b = absurd (omega arith)
  leaf_type_in d (field k a fs) n m cs h b =
      split (get_or cs (get_or (leaf_places a n ++ leaf_places_in fs (n + width a)) m 0) d ≡ get_or (leaf_types a ++ leaf_types_in fs) m d) m (leaves a)
      (λ u. ap (λ j. get_or cs j d) (in_first (leaf_places a n) (leaf_places_in fs (n + width a)) (leaves a) m (leaves_long a n) u) ∙ leaf_type d a n m cs (stands_left d cs n (element_columns a) (fields_columns fs) h) u ∙ sym (get_or-append (leaf_types a) (leaf_types_in fs) d m (subst (λ j. m < j) (sym (types_long a)) u)))
      (λ u.
      let back : m - length (leaf_types a) ≡ m - leaves a = ap (λ j. m - j) (types_long a) in
      ap (λ j. get_or cs j d) (in_others (leaf_places a n) (leaf_places_in fs (n + width a)) (leaves a) m (leaves_long a n) u)
      ∙ leaf_type_in d fs (n + width a) (m - leaves a) cs (stands_right d cs n (width a) (element_columns a) (fields_columns fs) refl h) (omega arith)
      ∙ ap (λ j. get_or (leaf_types_in fs) j d) (sym back) ∙ sym (get_or-append_right (leaf_types a) (leaf_types_in fs) m d (subst (λ j. j ≤ m) (sym (types_long a)) u)))

-- columns counted from 1 in place of 0
mutual
  places_up : (a : TypeTree) (n : ℕ) → leaf_places a (suc n) ≡ map suc (leaf_places a n)
  places_up int n = refl
  places_up bool n = refl
  places_up text n = refl
  places_up (rec fs) n = places_up_in fs n
  places_up (bag a) n = refl
  places_up (fun a b) n = refl

  places_up_in : (fs : FieldTypes) (n : ℕ) → leaf_places_in fs (suc n) ≡ map suc (leaf_places_in fs n)
  places_up_in none n = refl
  places_up_in (field l a fs) n =
      let at : suc n + width a ≡ suc (n + width a) = omega arith in
      ap₂ (λ (x y : List ℕ). x ++ y) (places_up a n) (ap (leaf_places_in fs) at ∙ places_up_in fs (n + width a)) ∙ sym (map-append suc (leaf_places a n) (leaf_places_in fs (n + width a)))

up_at : (xs : List ℕ) (m : ℕ) → m < length xs → get_or (map suc xs) m 0 ≡ suc (get_or xs m 0)
up_at [] m h = absurd (omega arith)
up_at (x ∷ xs) zero h = refl
up_at (x ∷ xs) (suc m) h = up_at xs m (omega arith)

pub base_up : (a : TypeTree) (n m : ℕ) → m < leaves a → get_or (leaf_places a (suc n)) m 0 ≡ suc (get_or (leaf_places a n) m 0)
base_up a n m h = ap (λ (l : List ℕ). get_or l m 0) (places_up a n) ∙ up_at (leaf_places a n) m (subst (λ j. m < j) (sym (leaves_long a n)) h)

after_two : {A : Type 0} (d x y : A) (xs : List A) → StandsAt d (x ∷ y ∷ xs) 2 xs
after_two d x y xs k h =
    let at : 2 + k ≡ suc (suc k) = omega arith in
    ap (λ j. get_or (x ∷ y ∷ xs) j d) at

minus_one : (k : ℕ) → suc k - 1 ≡ k
minus_one k = omega arith

-- base parts, inner bags and column types of a whole row
pub row_leaf : (a : TypeTree) (r : FlatRow) (m : ℕ) → m < leaves a → get_or (row_cells a r) (get_or (leaf_places a 3) m 0 - 1) no_cell ≡ get_or r.leaf_cells m no_cell
row_leaf a r m h =
    ap (λ j. get_or (row_cells a r) (j - 1) no_cell) (base_up a 2 m h)
    ∙ ap (λ j. get_or (row_cells a r) j no_cell) (minus_one (get_or (leaf_places a 2) m 0))
    ∙ leaf_cell a 2 0 0 m r (row_cells a r) (after_two no_cell (number_cell r.outer.0) (number_cell r.outer.1) (laid a 0 0 r)) h
    ∙ ap (λ j. get_or r.leaf_cells j no_cell) (let u : 0 + m ≡ m = omega arith in u)

pub row_slot : (a : TypeTree) (r : FlatRow) (m : ℕ) → m < slots a → SlotAt (row_cells a r) (get_or (slot_places a 2) m 0) r m
row_slot a r m h =
    let at : 0 + m ≡ m = omega arith in
    subst (λ j. SlotAt (row_cells a r) (get_or (slot_places a 2) m 0) r j) at (slot_cell a 2 0 0 m r (row_cells a r) (after_two no_cell (number_cell r.outer.0) (number_cell r.outer.1) (laid a 0 0 r)) h)

pub base_typed : (a : TypeTree) (ot on : ColumnType) (m : ℕ) → m < leaves a → (0 < get_or (leaf_places a 3) m 0) × ((d : ColumnType) → get_or (ot ∷ on ∷ element_columns a) (get_or (leaf_places a 3) m 0 - 1) d ≡ get_or (leaf_types a) m d)
base_typed a ot on m h = (
  subst (λ j. 0 < j) (sym (base_up a 2 m h)) (omega arith),
  λ d.
      ap (λ j. get_or (ot ∷ on ∷ element_columns a) (j - 1) d) (base_up a 2 m h)
      ∙ ap (λ j. get_or (ot ∷ on ∷ element_columns a) j d) (minus_one (get_or (leaf_places a 2) m 0))
      ∙ leaf_type d a 2 m (ot ∷ on ∷ element_columns a) (after_two d ot on (element_columns a)) h,
)
