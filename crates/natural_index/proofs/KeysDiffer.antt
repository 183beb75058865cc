-- Keys tell choices apart: where each table of the generators has a key, no two choices have equal
-- key cells.
use Rattle.std.proofs.Common.{◌≡◌, ◌≢◌, ℕ, suc, ◌-◌, List, [], ◌∷◌, ◌++◌, map, refl, sym, ap, ap₂, ◌∙◌, subst, Bool, true, false, cond, length, nat_eq, append_assoc}
use Rattle.std.specs.Prelude.{replicate, zip, Some}
use Rattle.std.specs.Str.{bytes_eq}
use Rattle.std.specs.List.{AllByRecursion as Each}
use Rattle.std.proofs.lemmas.List.{map-append}
use Rattle.std.proofs.lemmas.Bool.Decides.{Decides-eqb}
use Rattle.nq_model.specs.Databases.{database}
use Rattle.nq_model.specs.NamedRows.{Label, Row, cell_under, named}
use Rattle.nq_model.specs.Orders.{AreDistinct}
use Rattle.nq_model.specs.SchemaTables.{AreTablesOf, key_of}
use Rattle.nq_model.specs.Tables.{names_of}
use Rattle.nq_model.specs.Typing.{shape_named}
use Rattle.nq_model.specs.declared.table.Cell.{Cell}
use Rattle.nq_model.specs.declared.table.ColumnType.{ColumnType}
use Rattle.nq_model.specs.declared.table.ColumnType.TheVariants as column_type
use Rattle.nq_model.specs.declared.table.TableShape.{TableShape}
use Rattle.nq_model.proofs.Numberings.{length_map}
use Rattle.nq_ir.specs.declared.base.Gen.{Gen}
use Rattle.nq_ir.specs.Meanings.{Env, Tables, all_true, choices, kept, row_of, rows_in}
use Rattle.nq_ir.specs.Trees.{Conds}
use Rattle.nq_ir.specs.WellFormed.{numbers, table_columns}
use Rattle.nq_ir.proofs.Distinct.{Distinct, each_join}
use Rattle.nq_ir.proofs.Equal.{nat_same}
use Rattle.nq_ir.proofs.Nested.{map_of_map}
use Rattle.sql_profile.specs.Scope.{same_type}
use Rattle.natural_keys.specs.declared.layout.KeyColumn.{KeyColumn}
use Rattle.natural_keys.specs.declared.layout.Layout.{Layout}
use Rattle.natural_keys.specs.Layouts.{table_key, key_or_none, type_in, key_columns, of_type, filled, group}
use Rattle.natural_keys.specs.Indexes.{key_cell, zero_cell, index_cells}
use Rattle.natural_index.proofs.Apart.{EachLater, Differ, distinct_differ, later_mapped, later_flat, later_filter}

-- the cells of key columns, in their order
abbrev pub key_cells : List KeyColumn → Env → List Cell
key_cells ks e = map (key_cell e) ks

-- two lists as long, then more: equal wholes have equal parts
pub parts_same : {A : Type 0} (xs ys us vs : List A) → length xs ≡ length ys → xs ++ us ≡ ys ++ vs
    → (xs ≡ ys) × (us ≡ vs)
parts_same [] [] us vs e h = (refl, h)
parts_same [] (y ∷ ys) us vs e h = absurd (let z : 0 ≡ suc (length ys) = e in cc)
parts_same (x ∷ xs) [] us vs e h = absurd (let z : suc (length xs) ≡ 0 = e in cc)
parts_same (x ∷ xs) (y ∷ ys) us vs e h =
    let long : length xs ≡ length ys = cc in
    let one : x ≡ y = cc in
    let rest : xs ++ us ≡ ys ++ vs = cc in
    let r = parts_same xs ys us vs long rest in
    (ap₂ (λ z (l : List _). z ∷ l) one r.0, r.1)

-- Filled lists of one length, then more: equal wholes have equal parts.
filled_same : (n : ℕ) (xs ys us vs : List Cell) (z : Cell) → length xs ≡ length ys → filled n xs z
    ++ us ≡ filled n ys z ++ vs → (xs ≡ ys) × (us ≡ vs)
filled_same n xs ys us vs z e h =
    let pad : List Cell = replicate (n - length xs) z in
    let other : List Cell = replicate (n - length ys) z in
    let whole : xs ++ (pad ++ us) ≡ ys ++ (other ++ vs) = sym (append_assoc xs pad us) ∙ h
    ∙ append_assoc ys other vs in
    let r = parts_same xs ys (pad ++ us) (other ++ vs) e whole in
    let pads : pad ≡ other = ap (λ m. replicate (n - m) z) e in
    (r.0, (parts_same pad other us vs (ap length pads) r.1).1)

filled_alone : (n : ℕ) (xs ys : List Cell) (z : Cell) → length xs ≡ length ys → filled n xs z
    ≡ filled n ys z → xs ≡ ys
filled_alone n xs ys z e h = (parts_same xs ys (replicate (n - length xs) z)
    (replicate (n - length ys) z) e h).0

-- the types of cells lose none of them
by_types : (ks : List KeyColumn) (c d : KeyColumn → Cell)
    → ((t : ColumnType) → map c (of_type t ks) ≡ map d (of_type t ks)) → map c ks ≡ map d ks
by_types [] c d h = refl
by_types (k ∷ ks) c d h =
    ap₂ (λ x (l : List Cell). x ∷ l) (here (same_type k.of k.of) (own k.of) (h k.of))
    (by_types ks c d (λ t. later t (same_type k.of t) (h t)))
  where
    own : (t : ColumnType) → same_type t t ≡ true
    own column_type.Int = refl
    own column_type.Bool = refl
    own column_type.Text = refl

    here : (b : Bool) → b ≡ true → map c (cond b (k ∷ of_type k.of ks) (of_type k.of ks))
        ≡ map d (cond b (k ∷ of_type k.of ks) (of_type k.of ks)) → c k ≡ d k
    here true e g = cc
    here false e g = absurd (cc)

    later : (t : ColumnType) (b : Bool) → map c (cond b (k ∷ of_type t ks) (of_type t ks))
        ≡ map d (cond b (k ∷ of_type t ks) (of_type t ks)) → map c (of_type t ks)
        ≡ map d (of_type t ks)
    later t true g = cc
    later t false g = g

-- equal indexes of one comprehension have equal key cells
pub index_tells : (l : Layout) (ks : List KeyColumn) (e f : Env) → index_cells l ks e
    ≡ index_cells l ks f → key_cells ks e ≡ key_cells ks f
index_tells l ks e f h =
    let of : ColumnType → Env → List Cell = λ t e. map (key_cell e) (of_type t ks) in
    let long : (t : ColumnType) → length (of t e) ≡ length (of t f)
    = λ t. length_map (key_cell e) (of_type t ks) ∙ sym
    (length_map (key_cell f) (of_type t ks)) in
    let texts : Env → List Cell = λ e. group (key_cell e) zero_cell l ks column_type.Text in
    let others : Env → List Cell = λ e. group (key_cell e) zero_cell l ks column_type.Bool
    ++ texts e in
    let a = filled_same l.ints (of column_type.Int e) (of column_type.Int f) (others e) (others f)
    (zero_cell column_type.Int) (long column_type.Int) h in
    let b = filled_same l.bools (of column_type.Bool e) (of column_type.Bool f) (texts e) (texts f)
    (zero_cell column_type.Bool) (long column_type.Bool) a.1 in
    let c = filled_alone l.texts (of column_type.Text e) (of column_type.Text f)
    (zero_cell column_type.Text) (long column_type.Text) b.1 in
    by_types ks (key_cell e) (key_cell f) (each a.0 b.0 c)
  where
    each : map (key_cell e) (of_type column_type.Int ks)
        ≡ map (key_cell f) (of_type column_type.Int ks) → map (key_cell e)
        (of_type column_type.Bool ks) ≡ map (key_cell f) (of_type column_type.Bool ks)
        → map (key_cell e) (of_type column_type.Text ks)
        ≡ map (key_cell f) (of_type column_type.Text ks) → (t : ColumnType)
        → map (key_cell e) (of_type t ks) ≡ map (key_cell f) (of_type t ks)
    each i b x column_type.Int = i
    each i b x column_type.Bool = b
    each i b x column_type.Text = x

module _ (S : List TableShape) where
  -- the cells of a row under the key of its table
  abbrev pub row_key : Label → Row → List Cell
  row_key t r = map (λ k. cell_under k r) (table_key S t)

  -- a key column of a generator, with its type
  abbrev keyed_by : Gen → Label → KeyColumn
  keyed_by g k = record { generator = g.number; name = k; of = type_in k (table_columns S g.table) }

  own_key : (g : Gen) (r : Row) (e : Env) (ls : List Label)
      → key_cells (map (keyed_by g) ls) ((g.number, r) ∷ e) ≡ map (λ k. cell_under k r) ls
  own_key g r e [] = refl
  own_key g r e (l ∷ ls) = ap₂ (λ x (z : List Cell). x ∷ z)
      (ap (λ b. cell_under l (cond b r (row_of g.number e))) (nat_same g.number g.number refl))
      (own_key g r e ls)

  -- no key column is of this generator
  abbrev Skips : ℕ → List KeyColumn → Type 0
  Skips n ks = Each (λ k. nat_eq k.generator n ≡ false) ks

  skipped : (n : ℕ) (r : Row) (e : Env) (ks : List KeyColumn) → Skips n ks
      → key_cells ks ((n, r) ∷ e) ≡ key_cells ks e
  skipped n r e [] h = refl
  skipped n r e (k ∷ ks) h = ap₂ (λ x (z : List Cell). x ∷ z)
      (ap (λ b. cell_under k.name (cond b r (row_of k.generator e))) h.0) (skipped n r e ks h.1)

  turned : (m n : ℕ) → nat_eq n m ≡ false → nat_eq m n ≡ false
  turned m n h = go (nat_eq m n) refl
    where
      go : (b : Bool) → nat_eq m n ≡ b → b ≡ false
      go true e = let w : true ≡ false = sym (nat_same n m (sym ((Decides-eqb m n).0 e))) ∙ h in w
      go false e = refl

  block_skips : (n : ℕ) (g : Gen) (ls : List Label) → nat_eq n g.number ≡ false
      → Skips n (map (keyed_by g) ls)
  block_skips n g [] h = tt
  block_skips n g (l ∷ ls) h = (turned g.number n h, block_skips n g ls h)

  keys_skip : (n : ℕ) (gens : List Gen) → Each (λ m. nat_eq n m ≡ false) (numbers gens)
      → Skips n (key_columns S gens)
  keys_skip n [] h = tt
  keys_skip n (g ∷ gens) h = each_join (λ k. nat_eq k.generator n ≡ false)
      (map (keyed_by g) (table_key S g.table)) (key_columns S gens)
      (block_skips n g (table_key S g.table) h.0) (keys_skip n gens h.1)

  -- the key cells of a choice: those of its first row, and those of the others
  keys_next : (g : Gen) (gens : List Gen) (r : Row) (e : Env) → Distinct (numbers (g ∷ gens))
      → key_cells (key_columns S (g ∷ gens)) ((g.number, r) ∷ e) ≡ row_key g.table r
      ++ key_cells (key_columns S gens) e
  keys_next g gens r e d =
      map-append (key_cell ((g.number, r) ∷ e)) (map (keyed_by g) (table_key S g.table))
      (key_columns S gens)
      ∙ ap₂ (λ (x y : List Cell). x ++ y) (own_key g r e (table_key S g.table))
      (skipped g.number r e (key_columns S gens) (keys_skip g.number gens d.0))

  module _ (ts : Tables) where
    -- the key of each generator's table tells its rows apart
    abbrev pub TellRows : List Gen → Type 0
    TellRows gens = Each (λ g. Differ (row_key g.table) (ts g.table)) gens

    pub choices_differ : (gens : List Gen) → Distinct (numbers gens) → TellRows gens
        → Differ (key_cells (key_columns S gens)) (choices ts gens)
    choices_differ [] d h = (tt, tt)
    choices_differ (g ∷ gens) d h =
        let cells : Env → List Cell = key_cells (key_columns S gens) in
        let whole : Env → List Cell = key_cells (key_columns S (g ∷ gens)) in
        let next : (r : Row) (e : Env) → whole ((g.number, r) ∷ e) ≡ row_key g.table r ++ cells e
        = λ r e. keys_next g gens r e d in
        let as_long : (r s : Row) → length (row_key g.table r) ≡ length (row_key g.table s)
        = λ r s. length_map (λ k. cell_under k r) (table_key S g.table)
        ∙ sym (length_map (λ k. cell_under k s) (table_key S g.table)) in
        let split : (r s : Row) (e f : Env) → whole ((g.number, r) ∷ e) ≡ whole ((g.number, s) ∷ f)
        → (row_key g.table r ≡ row_key g.table s) × (cells e ≡ cells f)
        = λ r s e f q. parts_same (row_key g.table r) (row_key g.table s) (cells e) (cells f)
        (as_long r s) (sym (next r e) ∙ q ∙ next s f) in
        let R : Env → Env → Type 0 = λ x y. whole x ≢ whole y in
        let mine : Row → List Env = λ r. map (λ rs. (g.number, r) ∷ rs) (choices ts gens) in
        later_flat (λ r s. row_key g.table r ≢ row_key g.table s) R mine
        (λ r. later_mapped (λ rs. (g.number, r) ∷ rs) (λ e f. cells e ≢ cells f) R
        (λ e f n q. n (split r r e f q).1) (choices ts gens) (choices_differ gens d.1 h.1))
        (λ r s n. each_two_of r s n (λ e f q. n (split r s e f q).0) (choices ts gens))
        (ts g.table) h.0
      where
        each_two_of : (r s : Row) → row_key g.table r ≢ row_key g.table s
            → ((e f : Env) → key_cells (key_columns S (g ∷ gens)) ((g.number, r) ∷ e) ≢ key_cells
            (key_columns S (g ∷ gens)) ((g.number, s) ∷ f)) → (es : List Env)
            → Each (λ u. Each (λ v. key_cells (key_columns S (g ∷ gens)) u ≢ key_cells
            (key_columns S (g ∷ gens)) v) (map (λ rs. (g.number, s) ∷ rs) (choices ts gens)))
            (map (λ rs. (g.number, r) ∷ rs) es)
        each_two_of r s n h [] = tt
        each_two_of r s n h (e ∷ es) = (each_of e (choices ts gens), each_two_of r s n h es)
          where
            each_of : (e : Env) (fs : List Env) → Each (λ v. key_cells (key_columns S (g ∷ gens))
                ((g.number, r) ∷ e) ≢ key_cells (key_columns S (g ∷ gens)) v)
                (map (λ rs. (g.number, s) ∷ rs) fs)
            each_of e [] = tt
            each_of e (f ∷ fs) = (h e f, each_of e fs)

    same_of : (rs : List Env) → map (λ e. [] ++ e) rs ≡ rs
    same_of [] = refl
    same_of (r ∷ rs) = ap (λ (l : List Env). r ∷ l) (same_of rs)

    -- also of those that are kept
    pub kept_differ : (gens : List Gen) (conds : Conds) → Distinct (numbers gens) → TellRows gens
        → Differ (key_cells (key_columns S gens)) (kept ts gens conds [])
    kept_differ gens conds d h =
        let R : Env → Env → Type 0 = λ x y. key_cells (key_columns S gens) x ≢ key_cells
        (key_columns S gens) y in
        later_filter R (λ e. all_true ts conds e) (map (λ rs. [] ++ rs) (choices ts gens))
        (subst (λ (l : List Env). EachLater R l) (sym (same_of (choices ts gens)))
        (choices_differ gens d h))

-- the key of a table of the schema tells its rows apart
pub rows_differ : (S : List TableShape) (tables : List (List (List Cell))) → AreTablesOf S tables
    → (t : Label) → table_key S t ≢ [] → Differ (row_key S t) (rows_in (database S tables) t)
rows_differ [] tables h t n = tt
rows_differ (shape ∷ shapes) [] h t n = absurd h
rows_differ (shape ∷ shapes) (rows ∷ tables) h t n = go (bytes_eq t shape.name)
    (rows_differ shapes tables h.1 t) n
  where
    in_names : map (λ (r : Row). map (λ k. cell_under k r) shape.key)
        (named (names_of shape.columns) rows) ≡ map (key_of shape) rows
    in_names = map_of_map (λ (r : Row). map (λ k. cell_under k r) shape.key)
        (λ row. zip (names_of shape.columns) row) rows

    go : (b : Bool) → (table_key shapes t ≢ [] → Differ (row_key shapes t)
        (rows_in (database shapes tables) t)) → key_or_none
        (cond b (Some shape) (shape_named t shapes)) ≢ []
        → Differ (λ (r : Row). map (λ k. cell_under k r)
        (key_or_none (cond b (Some shape) (shape_named t shapes))))
        (cond b (named (names_of shape.columns) rows) (rows_in (database shapes tables) t))
    go true i m = distinct_differ (λ (r : Row). map (λ k. cell_under k r) shape.key)
        (named (names_of shape.columns) rows) (subst AreDistinct (sym in_names) (h.0.keys_differ m))
    go false i m = i m
