-- What stands in a natural row: base parts, and the indexes of the bag around and of inner bags.
use Rattle.std.proofs.Common.{◌≡◌, ℕ, zero, suc, ◌+◌, ◌-◌, ◌<◌, ◌≤◌, pos, List, [], ◌∷◌, ◌++◌, map, refl, sym, ap, ap₂, ◌∙◌, subst, length, arith, get_or, take, drop, length-append, append_assoc, append-nil, ⊎_elim}
use Rattle.std.specs.Prelude.{replicate}
use Rattle.std.proofs.lemmas.Bool.{cases_lt}
use Rattle.std.proofs.lemmas.List.{length-replicate}
use Rattle.std.proofs.Math.Seq.{get_or-append_right, take-append_seam}
use Rattle.std.proofs.Math.ListN.{get_or-append}
use Rattle.nq_model.specs.NamedRows.{no_cell}
use Rattle.nq_model.specs.Operators.{int_of}
use Rattle.nq_model.specs.Types.{TypeTree, int, bool, text, rec, bag, fun, FieldTypes, none, field}
use Rattle.nq_model.specs.declared.table.Cell.{Cell}
use Rattle.nq_model.specs.declared.table.Cell.TheVariants as cell
use Rattle.nq_model.specs.declared.table.ColumnType.{ColumnType}
use Rattle.nq_model.specs.declared.table.ColumnType.TheVariants as column_type
use Rattle.nq_model.specs.declared.table.TableShape.{TableShape}
use Rattle.nq_model.proofs.Numberings.{length_map}
use Rattle.nq_ir.specs.Meanings.{Env, Tables, value}
use Rattle.nq_ir.specs.Parts.{leaves, leaves_in, slots, slots_in}
use Rattle.nq_ir.specs.Spots.{PlacedComp, shaped, shape_of, shape_of_fields, shape_leaves, shape_leaves_in}
use Rattle.nq_ir.specs.Trees.{BaseTree, literal, BodyTree, plain_body, rec_body, bag_body, Bodies, no_body, with_body}
use Rattle.nq_ir.proofs.Fits.{FitsBody, FitsFields}
use Rattle.nq_ir.proofs.Spots.{found, fits_leaves}
use Rattle.natural_keys.specs.declared.layout.KeyColumn.{KeyColumn}
use Rattle.natural_keys.specs.declared.layout.Layout.{Layout}
use Rattle.natural_keys.specs.Layouts.{key_columns, scope_key, of_type, count_in, width, group}
use Rattle.natural_keys.specs.Indexes.{key_cell, zero_cell, index_cells}
use Rattle.natural_keys.specs.NaturalKeys.{index_columns, element_columns, fields_columns, element_width, leaf_places, leaf_places_in, slot_places, slot_places_in, key_at}
use Rattle.natural_keys.specs.PlaceLaws.{leaves_long, slots_long}
use Rattle.natural_keys.proofs.LayoutFacts.{types_long}
use Rattle.natural_index.proofs.NaturalRows.{shape_cells, shapes_cells, inner_cells, natural_row}

-- a layout has room for the key columns of each type
abbrev pub Fits : Layout → List KeyColumn → Type 0
Fits l ks = (t : ColumnType) → length (of_type t ks) ≤ count_in l t

group_long : (l : Layout) (ks : List KeyColumn) (e : Env) (t : ColumnType) → Fits l ks
    → length (group (key_cell e) zero_cell l ks t) ≡ count_in l t
group_long l ks e t h =
    let own : List Cell = map (key_cell e) (of_type t ks) in
    let long : length own ≡ length (of_type t ks) = length_map (key_cell e) (of_type t ks) in
    let room : length (of_type t ks) ≤ count_in l t = h t in
    let rest : length (replicate (count_in l t - length own) (zero_cell t))
    ≡ count_in l t - length own = length-replicate (count_in l t - length own)
    (zero_cell t) in
    length-append own (replicate (count_in l t - length own) (zero_cell t))
    ∙ omega (arith, long, room, rest)

-- an index has as many cells as its layout
pub index_long : (l : Layout) (ks : List KeyColumn) (e : Env) → Fits l ks
    → length (index_cells l ks e) ≡ width l
index_long l ks e h =
    let g : ColumnType → List Cell = group (key_cell e) zero_cell l ks in
    length-append (g column_type.Int) (g column_type.Bool ++ g column_type.Text)
    ∙ ap₂ (λ m n. m + n) (group_long l ks e column_type.Int h)
    (length-append (g column_type.Bool) (g column_type.Text)
    ∙ ap₂ (λ m n. m + n) (group_long l ks e column_type.Bool h)
    (group_long l ks e column_type.Text h))

-- the first part of a list
take_front : {A : Type 0} (xs ys : List A) (n : ℕ) → length xs ≡ n → take n (xs ++ ys) ≡ xs
take_front xs ys n e = ap (λ k. take k (xs ++ ys)) (sym e) ∙ take-append_seam xs ys

drop_past : {A : Type 0} (before : List A) (x : A) (rest : List A)
    → drop (suc (length before)) (before ++ x ∷ rest) ≡ rest
drop_past [] x rest = refl
drop_past (b ∷ before) x rest = drop_past before x rest

-- the place of a part of the first field, or of one of the others
in_first : {A : Type 0} (d : A) (xs ys : List A) (n m : ℕ) → length xs ≡ n → m < n
    → get_or (xs ++ ys) m d ≡ get_or xs m d
in_first d xs ys n m e l = get_or-append xs ys d m (omega (arith, e, l))

in_others : {A : Type 0} (d : A) (xs ys : List A) (n m : ℕ) → length xs ≡ n → n ≤ m
    → get_or (xs ++ ys) m d ≡ get_or ys (m - n) d
in_others d xs ys n m e l =
    let back : m - length xs ≡ m - n = ap (λ k. m - k) e in
    get_or-append_right xs ys m d (omega (arith, e, l)) ∙ ap (λ j. get_or ys j d) back

module _ (ts : Tables) (e : Env) (index : List ColumnType) (cells : List Cell)
    (as_many : length cells ≡ length index) where
  -- the cells of a body
  abbrev cells_of : BodyTree → List Cell
  cells_of b = shape_cells ts cells (shape_of b) e

  abbrev cells_in : Bodies → List Cell
  cells_in fs = shapes_cells ts cells (shape_of_fields fs) e

  mutual
    -- there are as many as columns
    body_long : (b : BodyTree) (a : TypeTree) → FitsBody b a → length (cells_of b)
        ≡ element_width index a
    body_long (plain_body x) int f = refl
    body_long (plain_body x) bool f = refl
    body_long (plain_body x) text f = refl
    body_long (plain_body x) (rec gs) f = absurd f
    body_long (plain_body x) (bag a) f = absurd f
    body_long (plain_body x) (fun a c) f = absurd f
    body_long (rec_body fs) int f = absurd f
    body_long (rec_body fs) bool f = absurd f
    body_long (rec_body fs) text f = absurd f
    body_long (rec_body fs) (rec gs) f = bodies_long fs gs f
    body_long (rec_body fs) (bag a) f = absurd f
    body_long (rec_body fs) (fun a c) f = absurd f
    body_long (bag_body ty cs) int f = absurd f
    body_long (bag_body ty cs) bool f = absurd f
    body_long (bag_body ty cs) text f = absurd f
    body_long (bag_body ty cs) (rec gs) f = absurd f
    body_long (bag_body ty cs) (bag a) f = as_many
    body_long (bag_body ty cs) (fun a c) f = absurd f

    bodies_long : (fs : Bodies) (gs : FieldTypes) → FitsFields fs gs → length (cells_in fs)
        ≡ length (fields_columns index gs)
    bodies_long no_body none f = refl
    bodies_long no_body (field k a gs) f = absurd f
    bodies_long (with_body l b fs) none f = absurd f
    bodies_long (with_body l b fs) (field k a gs) f =
        length-append (cells_of b) (cells_in fs) ∙ ap₂ (λ m n. m + n) (body_long b a f.1)
        (bodies_long fs gs f.2) ∙ sym (length-append (element_columns index a)
        (fields_columns index gs))

  -- a part stands in a row behind n cells
  abbrev Behind : List Cell → ℕ → List Cell → Type 0
  Behind row n part = (before : List Cell) × (after : List Cell) × (row ≡ before ++ (part ++ after))
      × (length before ≡ n)

  behind_left : (row : List Cell) (n : ℕ) (own others : List Cell) → Behind row n (own ++ others)
      → Behind row n own
  behind_left row n own others h = (
    h.0,
    others ++ h.1,
    h.2
        ∙ ap (λ (l : List Cell). h.0 ++ l) (append_assoc own others h.1),
    h.3,
  )

  behind_right : (row : List Cell) (n w : ℕ) (own others : List Cell) → length own ≡ w
      → Behind row n (own ++ others) → Behind row (n + w) others
  behind_right row n w own others e h = (
    h.0 ++ own,
    h.1,
    h.2 ∙ ap (λ (l : List Cell). h.0 ++ l) (append_assoc own others h.1)
        ∙ sym (append_assoc h.0 own (others ++ h.1)),
    length-append h.0 own ∙ ap₂ (λ x y. x + y) h.3 e,
  )

  one_leaf : (row : List Cell) (n m : ℕ) (b : BaseTree) → Behind row n (value ts b e ∷ []) → m < 1
      → get_or row (get_or (suc n ∷ []) m 0 - 1) no_cell
      ≡ value ts (get_or (b ∷ []) m (literal no_cell)) e
  one_leaf row n zero b h l =
      let back : suc n - 1 ≡ n = omega arith in
      ap (λ k. get_or row k no_cell) back ∙ found row h.0 h.1 (value ts b e) no_cell n h.2 h.3
  one_leaf row n (suc m) b h l = absurd (omega (arith, l))

  mutual
    leaf_read : (row : List Cell) (b : BodyTree) (a : TypeTree) → FitsBody b a → (n m : ℕ)
        → Behind row n (cells_of b) → m < leaves a → get_or row
        (get_or (leaf_places index a (suc n)) m 0 - 1) no_cell
        ≡ value ts (get_or (shape_leaves (shape_of b)) m (literal no_cell)) e
    leaf_read row (plain_body x) int f n m h l = one_leaf row n m x h l
    leaf_read row (plain_body x) bool f n m h l = one_leaf row n m x h l
    leaf_read row (plain_body x) text f n m h l = one_leaf row n m x h l
    leaf_read row (plain_body x) (rec gs) f n m h l = absurd f
    leaf_read row (plain_body x) (bag a) f n m h l = absurd f
    leaf_read row (plain_body x) (fun a c) f n m h l = absurd f
    leaf_read row (rec_body fs) int f n m h l = absurd f
    leaf_read row (rec_body fs) bool f n m h l = absurd f
    leaf_read row (rec_body fs) text f n m h l = absurd f
    leaf_read row (rec_body fs) (rec gs) f n m h l = leaf_read_in row fs gs f n m h l
    leaf_read row (rec_body fs) (bag a) f n m h l = absurd f
    leaf_read row (rec_body fs) (fun a c) f n m h l = absurd f
    leaf_read row (bag_body ty cs) int f n m h l = absurd f
    leaf_read row (bag_body ty cs) bool f n m h l = absurd f
    leaf_read row (bag_body ty cs) text f n m h l = absurd f
    leaf_read row (bag_body ty cs) (rec gs) f n m h l = absurd f
    leaf_read row (bag_body ty cs) (bag a) f n m h l = absurd (omega (arith, l))
    leaf_read row (bag_body ty cs) (fun a c) f n m h l = absurd f

    leaf_read_in : (row : List Cell) (fs : Bodies) (gs : FieldTypes) → FitsFields fs gs → (n m : ℕ)
        → Behind row n (cells_in fs) → m < leaves_in gs → get_or row
        (get_or (leaf_places_in index gs (suc n)) m 0 - 1) no_cell
        ≡ value ts (get_or (shape_leaves_in (shape_of_fields fs)) m (literal no_cell)) e
    leaf_read_in row no_body none f n m h l = absurd (omega (arith, l))
    leaf_read_in row no_body (field k a gs) f n m h l = absurd f
    leaf_read_in row (with_body j b fs) none f n m h l = absurd f
    leaf_read_in row (with_body j b fs) (field k a gs) f n m h l =
        let w : ℕ = element_width index a in
        let own : List Cell = cells_of b in
        let others : List Cell = cells_in fs in
        let mine : List ℕ = leaf_places index a (suc n) in
        let rest : List ℕ = leaf_places_in index gs (suc n + w) in
        let leaf : List BaseTree = shape_leaves (shape_of b) in
        let more : List BaseTree = shape_leaves_in (shape_of_fields fs) in
        let long : length mine ≡ leaves a = leaves_long index a (suc n) in
        let count : length leaf ≡ leaves a = fits_leaves b a f.1 in
        ⊎_elim
        (λ u.
        ap (λ k. get_or row (k - 1) no_cell) (in_first 0 mine rest (leaves a) m long u)
        ∙ leaf_read row b a f.1 n m (behind_left row n own others h) u
        ∙ ap (λ x. value ts x e) (sym (in_first (literal no_cell) leaf more (leaves a) m count u)))
        (λ u.
        let at : suc n + w ≡ suc (n + w) = omega arith in
        let low : m - leaves a < leaves_in gs = omega (arith, l, u) in
        ap (λ k. get_or row (k - 1) no_cell) (in_others 0 mine rest (leaves a) m long u
        ∙ ap (λ k. get_or (leaf_places_in index gs k) (m - leaves a) 0) at)
        ∙ leaf_read_in row fs gs f.2 (n + w) (m - leaves a)
        (behind_right row n w own others (body_long b a f.1) h) low
        ∙ ap (λ x. value ts x e) (sym (in_others (literal no_cell) leaf more (leaves a) m count u)))
        (cases_lt m (leaves a))

-- the index of an inner bag
module _ (ts : Tables) (e : Env) (index : List ColumnType) (l : Layout) (tag : ℕ) (keys : List Cell)
    (as_many : length (cell.Int (pos tag) ∷ keys) ≡ length index)
    (long : length keys ≡ width l) where
  abbrev given : List Cell
  given = cell.Int (pos tag) ∷ keys

  abbrev IndexAt : List Cell → ℕ → Type 0
  IndexAt row place = key_at (width l) row place ≡ record { tag = pos tag; cells = keys }

  one_slot : (row : List Cell) (n m : ℕ) → Behind ts e index given as_many row n given → m < 1
      → IndexAt row (get_or (n ∷ []) m 0)
  one_slot row n zero h u =
      let before : List Cell = h.0 in
      let after : List Cell = h.1 in
      let own : int_of (get_or row n no_cell) ≡ pos tag = ap int_of
      (found row before (keys ++ after) (cell.Int (pos tag)) no_cell n h.2 h.3) in
      let next : n + 1 ≡ suc (length before) = omega (arith, h.3) in
      let past : drop (n + 1) row ≡ keys ++ after = ap₂ (λ k (r : List Cell). drop k r) next h.2
      ∙ drop_past before (cell.Int (pos tag)) (keys ++ after) in
      ap₂ (λ t (c : List Cell). record { tag = t; cells = c }) own
      (ap (λ (r : List Cell). take (width l) r) past ∙ take_front keys after (width l) long)
  one_slot row n (suc m) h u = absurd (omega (arith, u))

  mutual
    slot_read : (row : List Cell) (b : BodyTree) (a : TypeTree) → FitsBody b a → (n m : ℕ)
        → Behind ts e index given as_many row n (cells_of ts e index given as_many b) → m < slots a
        → IndexAt row (get_or (slot_places index a n) m 0)
    slot_read row (plain_body x) int f n m h u = absurd (omega (arith, u))
    slot_read row (plain_body x) bool f n m h u = absurd (omega (arith, u))
    slot_read row (plain_body x) text f n m h u = absurd (omega (arith, u))
    slot_read row (plain_body x) (rec gs) f n m h u = absurd f
    slot_read row (plain_body x) (bag a) f n m h u = absurd f
    slot_read row (plain_body x) (fun a c) f n m h u = absurd f
    slot_read row (rec_body fs) int f n m h u = absurd f
    slot_read row (rec_body fs) bool f n m h u = absurd f
    slot_read row (rec_body fs) text f n m h u = absurd f
    slot_read row (rec_body fs) (rec gs) f n m h u = slot_read_in row fs gs f n m h u
    slot_read row (rec_body fs) (bag a) f n m h u = absurd f
    slot_read row (rec_body fs) (fun a c) f n m h u = absurd f
    slot_read row (bag_body ty cs) int f n m h u = absurd f
    slot_read row (bag_body ty cs) bool f n m h u = absurd f
    slot_read row (bag_body ty cs) text f n m h u = absurd f
    slot_read row (bag_body ty cs) (rec gs) f n m h u = absurd f
    slot_read row (bag_body ty cs) (bag a) f n m h u = one_slot row n m h u
    slot_read row (bag_body ty cs) (fun a c) f n m h u = absurd f

    slot_read_in : (row : List Cell) (fs : Bodies) (gs : FieldTypes) → FitsFields fs gs → (n m : ℕ)
        → Behind ts e index given as_many row n (cells_in ts e index given as_many fs)
        → m < slots_in gs → IndexAt row (get_or (slot_places_in index gs n) m 0)
    slot_read_in row no_body none f n m h u = absurd (omega (arith, u))
    slot_read_in row no_body (field k a gs) f n m h u = absurd f
    slot_read_in row (with_body j b fs) none f n m h u = absurd f
    slot_read_in row (with_body j b fs) (field k a gs) f n m h u =
        let w : ℕ = element_width index a in
        let own : List Cell = cells_of ts e index given as_many b in
        let others : List Cell = cells_in ts e index given as_many fs in
        let mine : List ℕ = slot_places index a n in
        let rest : List ℕ = slot_places_in index gs (n + w) in
        ⊎_elim
        (λ v. subst (λ k. IndexAt row k)
        (sym (in_first 0 mine rest (slots a) m (slots_long index a n) v))
        (slot_read row b a f.1 n m (behind_left ts e index given as_many row n own others h) v))
        (λ v.
        let low : m - slots a < slots_in gs = omega (arith, u, v) in
        subst (λ k. IndexAt row k)
        (sym (in_others 0 mine rest (slots a) m (slots_long index a n) v))
        (slot_read_in row fs gs f.2 (n + w) (m - slots a)
        (behind_right ts e index given as_many row n w own others
        (body_long ts e index given as_many b a f.1) h) low))
        (cases_lt m (slots a))

module _ (S : List TableShape) (ts : Tables) (outer inner : Layout) (c : PlacedComp) (e : Env) where
  -- the key cells of the bag around
  abbrev around : List Cell
  around = index_cells outer (key_columns S c.outer_gens) e

  -- the row
  abbrev pub row_of : List Cell
  row_of = natural_row S ts outer inner (shaped c) e

  -- the bag in which a row stands
  pub outer_read : Fits outer (key_columns S c.outer_gens) → key_at (width outer) row_of 0
      ≡ record { tag = pos c.parent; cells = around }
  outer_read fit =
      ap (λ (l : List Cell). record {
        tag = pos c.parent;
        cells = l;
      }) (take_front around (shape_cells ts (inner_cells S inner (shaped c) e)
      (shape_of c.body) e) (width outer) (index_long outer (key_columns S c.outer_gens) e fit))

  abbrev inner_index : List Cell
  inner_index = inner_cells S inner (shaped c) e

  inner_many : Fits inner (scope_key S (shaped c)) → length inner_index
      ≡ length (index_columns inner)
  inner_many room = ap suc (index_long inner (scope_key S (shaped c)) e room
      ∙ sym (types_long inner))

  behind : (room : Fits inner (scope_key S (shaped c))) → Fits outer (key_columns S c.outer_gens)
      → Behind ts e (index_columns inner) inner_index (inner_many room) row_of
      (length (index_columns outer)) (shape_cells ts inner_index (shape_of c.body) e)
  behind room fit = (
    cell.Int (pos c.parent) ∷ around,
    [],
    ap (λ (l : List Cell). cell.Int (pos c.parent) ∷ (around ++ l))
        (sym (append-nil (shape_cells ts inner_index (shape_of c.body) e))),
    ap suc (index_long outer (key_columns S c.outer_gens) e fit ∙ sym (types_long outer)),
  )

  module _ (a : TypeTree) (f : FitsBody c.body a) (fit : Fits outer (key_columns S c.outer_gens))
      (room : Fits inner (scope_key S (shaped c))) where
    -- a base part
    pub row_leaf : (m : ℕ) → m < leaves a → get_or row_of
        (get_or (leaf_places (index_columns inner) a (length (index_columns outer) + 1)) m 0 - 1)
        no_cell ≡ value ts (get_or (shape_leaves (shape_of c.body)) m (literal no_cell)) e
    row_leaf m h =
        let at : length (index_columns outer) + 1 ≡ suc (length (index_columns outer))
        = omega arith in
        ap (λ k. get_or row_of (get_or (leaf_places (index_columns inner) a k) m 0 - 1) no_cell) at
        ∙ leaf_read ts e (index_columns inner) inner_index (inner_many room) row_of c.body a f
        (length (index_columns outer)) m (behind room fit) h

    -- the bag that a row holds
    pub row_slot : (m : ℕ) → m < slots a → key_at (width inner) row_of
        (get_or (slot_places (index_columns inner) a (length (index_columns outer))) m 0)
        ≡ record { tag = pos c.tag; cells = index_cells inner (scope_key S (shaped c)) e }
    row_slot m h =
        slot_read ts e (index_columns inner) inner c.tag
        (index_cells inner (scope_key S (shaped c)) e) (inner_many room)
        (index_long inner (scope_key S (shaped c)) e room) row_of c.body a f
        (length (index_columns outer)) m (behind room fit) h
