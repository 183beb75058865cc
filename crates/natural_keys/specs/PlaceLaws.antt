-- Where the parts of an element stand, whose inner bags have these columns for an index.
use Rattle.std.proofs.Common.{◌≡◌, ℕ, zero, suc, ◌+◌, ◌-◌, ◌<◌, ◌≤◌, List, [], ◌∷◌, ◌++◌, map, refl, sym, ap, ap₂, ◌∙◌, subst, Bool, true, false, length, arith, get_or, nat_lt, length-append, ltb-true, ltb-false}
use Rattle.std.proofs.lemmas.List.{map-append}
use Rattle.std.proofs.Math.Seq.{get_or-append_right}
use Rattle.std.proofs.Math.ListN.{get_or-append}
use Rattle.nq_model.specs.Types.{TypeTree, int, bool, text, rec, bag, fun, FieldTypes, none, field}
use Rattle.nq_model.specs.declared.table.ColumnType.{ColumnType}
use Rattle.nq_ir.specs.Parts.{leaves, leaves_in, slots, slots_in}
use Rattle.shred_types.specs.Places.{leaf_types, leaf_types_in}
use Rattle.shred_types.proofs.Places.{StandsAt}
use Rattle.stitcher.specs.Schemes.{BasesAreTyped, element_of}
use Rattle.natural_keys.specs.declared.layout.Layout.{Layout}
use Rattle.natural_keys.specs.Layouts.{layout_at}
use Rattle.natural_keys.specs.NaturalKeys.{element_columns, fields_columns, element_width, leaf_places, leaf_places_in, slot_places, slot_places_in, index_columns, natural_scheme}

pub stands_left : {A : Type 0} (d : A) (ys : List A) (n : ℕ) (xs zs : List A)
    → StandsAt d ys n (xs ++ zs) → StandsAt d ys n xs
stands_left d ys n xs zs h k l = h k (omega (arith, length-append xs zs))
    ∙ get_or-append xs zs d k l

pub stands_right : {A : Type 0} (d : A) (ys : List A) (n w : ℕ) (xs zs : List A) → length xs ≡ w
    → StandsAt d ys n (xs ++ zs) → StandsAt d ys (n + w) zs
stands_right d ys n w xs zs e h k l =
    let at : n + (w + k) ≡ n + w + k = omega arith in
    let back : w + k - length xs ≡ k = omega arith in
    ap (λ j. get_or ys j d) (sym at) ∙ h (w + k) (omega (arith, length-append xs zs))
    ∙ get_or-append_right xs zs (w + k) d (omega arith) ∙ ap (λ j. get_or zs j d) back

-- the list xs stands behind the list before it
pub stands_behind : {A : Type 0} (d : A) (before xs : List A)
    → StandsAt d (before ++ xs) (length before) xs
stands_behind d before xs k l =
    let back : length before + k - length before ≡ k = omega arith in
    get_or-append_right before xs (length before + k) d (omega arith) ∙ ap (λ j. get_or xs j d) back

pub split : (P : Type 0) (m n : ℕ) → (m < n → P) → (n ≤ m → P) → P
split P m n f g = go (nat_lt m n) refl
  where
    go : (b : Bool) → nat_lt m n ≡ b → P
    go true e = f (ltb-true m n e)
    go false e = g (ltb-false m n e)

-- the place of a part of the first field, or of one of the others
pub in_first : (xs ys : List ℕ) (n m : ℕ) → length xs ≡ n → m < n → get_or (xs ++ ys) m 0
    ≡ get_or xs m 0
in_first xs ys n m e l = get_or-append xs ys 0 m (omega arith)

pub in_others : (xs ys : List ℕ) (n m : ℕ) → length xs ≡ n → n ≤ m → get_or (xs ++ ys) m 0
    ≡ get_or ys (m - n) 0
in_others xs ys n m e l =
    let back : m - length xs ≡ m - n = omega arith in
    get_or-append_right xs ys m 0 (omega arith) ∙ ap (λ j. get_or ys j 0) back

only : {A : Type 0} (d x : A) (ys : List A) (n m : ℕ) → StandsAt d ys n (x ∷ []) → m < 1
    → get_or ys (get_or (n ∷ []) m 0) d ≡ x
only d x ys n zero h l =
    let at : n + 0 ≡ n = omega arith in
    ap (λ j. get_or ys j d) (sym at) ∙ h 0 l
only d x ys n (suc m) h l = absurd (omega arith)

mutual
  pub types_long : (a : TypeTree) → length (leaf_types a) ≡ leaves a
  types_long int = refl
  types_long bool = refl
  types_long text = refl
  types_long (rec fs) = types_long_in fs
  types_long (bag a) = refl
  types_long (fun a b) = refl

  types_long_in : (fs : FieldTypes) → length (leaf_types_in fs) ≡ leaves_in fs
  types_long_in none = refl
  types_long_in (field l a fs) = length-append (leaf_types a) (leaf_types_in fs)
      ∙ ap₂ (λ x y. x + y) (types_long a) (types_long_in fs)

type_only : (d : ColumnType) (a : TypeTree) (n m : ℕ) (cs : List ColumnType)
    → StandsAt d cs n (get_or (leaf_types a) 0 d ∷ []) → m < 1 → get_or cs (get_or (n ∷ []) m 0) d
    ≡ get_or (leaf_types a) m d
type_only d a n m cs h b =
    let at : 0 ≡ m = omega arith in
    only d (get_or (leaf_types a) 0 d) cs n m h b ∙ ap (λ j. get_or (leaf_types a) j d) at

module _ (ix : List ColumnType) where
  mutual
    pub leaves_long : (a : TypeTree) (n : ℕ) → length (leaf_places ix a n) ≡ leaves a
    leaves_long int n = refl
    leaves_long bool n = refl
    leaves_long text n = refl
    leaves_long (rec fs) n = leaves_long_in fs n
    leaves_long (bag a) n = refl
    leaves_long (fun a b) n = refl

    leaves_long_in : (fs : FieldTypes) (n : ℕ) → length (leaf_places_in ix fs n) ≡ leaves_in fs
    leaves_long_in none n = refl
    leaves_long_in (field l a fs) n = length-append (leaf_places ix a n)
        (leaf_places_in ix fs (n + element_width ix a)) ∙ ap₂ (λ x y. x + y) (leaves_long a n)
        (leaves_long_in fs (n + element_width ix a))

  mutual
    pub slots_long : (a : TypeTree) (n : ℕ) → length (slot_places ix a n) ≡ slots a
    slots_long int n = refl
    slots_long bool n = refl
    slots_long text n = refl
    slots_long (rec fs) n = slots_long_in fs n
    slots_long (bag a) n = refl
    slots_long (fun a b) n = refl

    slots_long_in : (fs : FieldTypes) (n : ℕ) → length (slot_places_in ix fs n) ≡ slots_in fs
    slots_long_in none n = refl
    slots_long_in (field l a fs) n = length-append (slot_places ix a n)
        (slot_places_in ix fs (n + element_width ix a)) ∙ ap₂ (λ x y. x + y) (slots_long a n)
        (slots_long_in fs (n + element_width ix a))

  -- the type of the column of a base part
  mutual
    pub leaf_type : (d : ColumnType) (a : TypeTree) (n m : ℕ) (cs : List ColumnType)
        → StandsAt d cs n (element_columns ix a) → m < leaves a
        → get_or cs (get_or (leaf_places ix a n) m 0) d ≡ get_or (leaf_types a) m d
    leaf_type d int n m cs h b = type_only d int n m cs h b
    leaf_type d bool n m cs h b = type_only d bool n m cs h b
    leaf_type d text n m cs h b = type_only d text n m cs h b
    leaf_type d (rec fs) n m cs h b = leaf_type_in d fs n m cs h b
    leaf_type d (bag a) n m cs h b = absurd (omega arith)
    leaf_type d (fun a c) n m cs h b = absurd (omega arith)

    leaf_type_in : (d : ColumnType) (fs : FieldTypes) (n m : ℕ) (cs : List ColumnType)
        → StandsAt d cs n (fields_columns ix fs) → m < leaves_in fs
        → get_or cs (get_or (leaf_places_in ix fs n) m 0) d ≡ get_or (leaf_types_in fs) m d
    leaf_type_in d none n m cs h b = absurd (omega arith)
    leaf_type_in d (field k a fs) n m cs h b =
        let w = element_width ix a in
        split (get_or cs (get_or (leaf_places ix a n ++ leaf_places_in ix fs (n + w)) m 0) d
        ≡ get_or (leaf_types a ++ leaf_types_in fs) m d) m (leaves a)
        (λ u. ap (λ j. get_or cs j d) (in_first (leaf_places ix a n) (leaf_places_in ix fs (n + w))
        (leaves a) m (leaves_long a n) u) ∙ leaf_type d a n m cs
        (stands_left d cs n (element_columns ix a) (fields_columns ix fs) h) u
        ∙ sym (get_or-append (leaf_types a) (leaf_types_in fs) d m
        (subst (λ j. m < j) (sym (types_long a)) u)))
        (λ u.
        let back : m - length (leaf_types a) ≡ m - leaves a = ap (λ j. m - j) (types_long a) in
        ap (λ j. get_or cs j d) (in_others (leaf_places ix a n) (leaf_places_in ix fs (n + w))
        (leaves a) m (leaves_long a n) u)
        ∙ leaf_type_in d fs (n + w) (m - leaves a) cs (stands_right d cs n w (element_columns ix a)
        (fields_columns ix fs) refl h) (omega arith)
        ∙ ap (λ j. get_or (leaf_types_in fs) j d) (sym back)
        ∙ sym (get_or-append_right (leaf_types a) (leaf_types_in fs) m d
        (subst (λ j. j ≤ m) (sym (types_long a)) u)))

  -- columns counted from 1 in place of 0
  mutual
    places_up : (a : TypeTree) (n : ℕ) → leaf_places ix a (suc n) ≡ map suc (leaf_places ix a n)
    places_up int n = refl
    places_up bool n = refl
    places_up text n = refl
    places_up (rec fs) n = places_up_in fs n
    places_up (bag a) n = refl
    places_up (fun a b) n = refl

    places_up_in : (fs : FieldTypes) (n : ℕ) → leaf_places_in ix fs (suc n)
        ≡ map suc (leaf_places_in ix fs n)
    places_up_in none n = refl
    places_up_in (field l a fs) n =
        let w = element_width ix a in
        let at : suc n + w ≡ suc (n + w) = omega arith in
        ap₂ (λ (x y : List ℕ). x ++ y) (places_up a n) (ap (leaf_places_in ix fs) at
        ∙ places_up_in fs (n + w)) ∙ sym (map-append suc (leaf_places ix a n)
        (leaf_places_in ix fs (n + w)))

  up_at : (xs : List ℕ) (m : ℕ) → m < length xs → get_or (map suc xs) m 0 ≡ suc (get_or xs m 0)
  up_at [] m h = absurd (omega arith)
  up_at (x ∷ xs) zero h = refl
  up_at (x ∷ xs) (suc m) h = up_at xs m (omega arith)

  pub base_up : (a : TypeTree) (n m : ℕ) → m < leaves a → get_or (leaf_places ix a (suc n)) m 0
      ≡ suc (get_or (leaf_places ix a n) m 0)
  base_up a n m h = ap (λ (l : List ℕ). get_or l m 0) (places_up a n)
      ∙ up_at (leaf_places ix a n) m (subst (λ j. m < j) (sym (leaves_long a n)) h)

  minus_one : (k : ℕ) → suc k - 1 ≡ k
  minus_one k = omega arith

  -- the column of a base part behind others is there, and has its type
  pub base_typed : (a : TypeTree) (before : List ColumnType) (m : ℕ) → m < leaves a
      → (0 < get_or (leaf_places ix a (length before + 1)) m 0)
      × ((d : ColumnType) → get_or (before ++ element_columns ix a)
      (get_or (leaf_places ix a (length before + 1)) m 0 - 1) d ≡ get_or (leaf_types a) m d)
  base_typed a before m h =
      let n = length before in
      let next : n + 1 ≡ suc n = omega arith in
      let up : get_or (leaf_places ix a (n + 1)) m 0 ≡ suc (get_or (leaf_places ix a n) m 0)
      = ap (λ j. get_or (leaf_places ix a j) m 0) next ∙ base_up a n m h in (
        subst (λ j. 0 < j) (sym up) (omega arith),
        λ d.
            ap (λ j. get_or (before ++ element_columns ix a) (j - 1) d) up
            ∙ ap (λ j. get_or (before ++ element_columns ix a) j d)
            (minus_one (get_or (leaf_places ix a n) m 0))
            ∙ leaf_type d a n m (before ++ element_columns ix a)
            (stands_behind d before (element_columns ix a)) h,
      )

-- the columns of base parts are there and have their types
pub bases_typed : (elements : List TypeTree) (outers inners : List Layout)
    → BasesAreTyped (natural_scheme elements outers inners)
bases_typed elements outers inners q l h = base_typed (index_columns (layout_at inners q))
    (element_of elements q) (index_columns (layout_at outers q)) l h.1
