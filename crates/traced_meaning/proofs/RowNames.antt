-- The names of rows: that they are read back, what bodies say them, and that elements that are the
-- same have the same.
use Rattle.std.proofs.Common.{◌≡◌, ℕ, zero, suc, pos, ◌+◌, ◌<◌, ◌≤◌, List, [], ◌∷◌, ◌++◌, map, refl, sym, ap, ap₂, ◌∙◌, subst, cond, flat_map, length, get_or, length-append, get_or-append-add, arith, lt→ltb}
use Rattle.std.specs.Cmp.{int_cmp_is}
use Rattle.std.specs.Int.Signed.{lt_z_yes}
use Rattle.std.specs.List.{AllByRecursion as Each}
use Rattle.std.specs.Ordering.{int_cmp, ordering_then, is_gt}
use Rattle.std.specs.declared.cmp.Ordering.{Ordering}
use Rattle.std.specs.declared.cmp.Ordering.TheVariants.{Less, Equal, Greater}
use Rattle.std.specs.Cmp.Lexicographic.{slice_cmp}
use Rattle.nq_model.proofs.Canonical.{canonical_same}
use Rattle.nq_model.proofs.Sameness.{elements_back, same_refl}
use Rattle.nq_model.specs.Canonical.{canonical_elements, value_cmp, fields_cmp, elements_cmp}
use Rattle.nq_model.specs.Meaning.{elements_in}
use Rattle.nq_model.specs.NamedRows.{Label, Row, cell_under}
use Rattle.nq_model.specs.Orders.{label_cmp, put_by}
use Rattle.nq_model.specs.Values.{Nested, base, rec, bag, Fields, none, field, elements_of, bag_of, Same}
use Rattle.nq_model.specs.declared.table.Cell.TheVariants as cell
use Rattle.nq_ir.proofs.Distinct.{each_join}
use Rattle.nq_ir.proofs.Nested.{each_mapped}
use Rattle.nq_ir.proofs.RawMeanings.{picks, raw_meaning, raw_comps_meaning, pick_length}
use Rattle.nq_ir.specs.Meanings.{Tables}
use Rattle.nq_ir.specs.RawForms.{RawBody}
use Rattle.traced_meaning.proofs.Wrapped.{row_comps, element_body}
use Rattle.traced_meaning.specs.NumberedTables.{number_column}
use Rattle.traced_meaning.specs.TracedForms.{number_in}
use Rattle.traced_meaning.specs.TracedValues.{RowName, name_cmp, place_label, table_label, number_label, element_of, value_part, rows_part, row_at, rows_from, rows_value, name_of, names_in, with_rows}

-- places rise, so rows are in order
one_less : (k : ℕ) → Less ≡ int_cmp (pos k) (pos (suc k))
one_less k = int_cmp_is (pos k) (pos (suc k)) Less (lt_z_yes (lt→ltb k (suc k) (omega arith)))

rises : (k : ℕ) (n m : RowName) → value_cmp (row_at k n) (row_at (suc k) m) ≡ Less
rises k n m = ap (λ o. ordering_then o (fields_cmp (rest n) (rest m))) (sym (one_less k))
  where
    rest : RowName → Fields
    rest n = field table_label (base (cell.Text n.0)) (field number_label
        (base (cell.Int n.1)) none)

in_order : (k : ℕ) (ns : List RowName) → canonical_elements (elements_of (rows_from k ns))
    ≡ rows_from k ns
in_order k [] = refl
in_order k (n ∷ []) = refl
in_order k (n ∷ m ∷ ns) =
    ap (put_by value_cmp (row_at k n)) (in_order (suc k) (m ∷ ns))
    ∙ ap (λ o. cond (is_gt o) (row_at (suc k) m ∷ put_by value_cmp (row_at k n)
    (rows_from (suc (suc k)) ns)) (row_at k n ∷ rows_from (suc k) (m ∷ ns))) (rises k n m)

-- the names that were given are read back
pub names_back : (ns : List RowName) → names_in (rows_value ns) ≡ ns
names_back ns = ap (map name_of) (elements_back (canonical_elements (elements_of (rows_from 1 ns)))
    ∙ in_order 1 ns) ∙ go 1 ns
  where
    go : (k : ℕ) (ns : List RowName) → map name_of (rows_from k ns) ≡ ns
    go k [] = refl
    go k (n ∷ ns) = ap (λ (l : List RowName). n ∷ l) (go (suc k) ns)

-- elements that are the same have the same value and the same names
pub same_value : (v w : Nested) → Same v w → Same (value_part v) (value_part w)
same_value (base c) (base d) s = s
same_value (base c) (rec gs) s = absurd s
same_value (base c) (bag ws) s = absurd s
same_value (rec fs) (base d) s = absurd s
same_value (rec none) (rec none) s = tt
same_value (rec none) (rec (field l w gs)) s = absurd s
same_value (rec (field k v fs)) (rec none) s = absurd s
same_value (rec (field k v fs)) (rec (field l w gs)) s = s.1
same_value (rec fs) (bag ws) s = absurd s
same_value (bag vs) (base d) s = absurd s
same_value (bag vs) (rec gs) s = absurd s
same_value (bag vs) (bag ws) s = s

pub same_names : (v w : Nested) → Same v w → names_in (rows_part v) ≡ names_in (rows_part w)
same_names v w s = ap (λ (z : Nested). map name_of (elements_in z))
    (canonical_same (rows_part v) (rows_part w) (go v w s))
  where
    go : (v w : Nested) → Same v w → Same (rows_part v) (rows_part w)
    go (base c) (base d) s = refl
    go (base c) (rec gs) s = absurd s
    go (base c) (bag ws) s = absurd s
    go (rec fs) (base d) s = absurd s
    go (rec none) (rec none) s = refl
    go (rec none) (rec (field l w gs)) s = absurd s
    go (rec (field k v fs)) (rec none) s = absurd s
    go (rec (field k v none)) (rec (field l w none)) s = refl
    go (rec (field k v none)) (rec (field l w (field m x gs))) s = absurd s.2
    go (rec (field k v (field j u fs))) (rec (field l w none)) s = absurd s.2
    go (rec (field k v (field j u fs))) (rec (field l w (field m x gs))) s = s.2.1
    go (rec fs) (bag ws) s = absurd s
    go (bag vs) (base d) s = absurd s
    go (bag vs) (rec gs) s = absurd s
    go (bag vs) (bag ws) s = refl

pub same_with : (ns : List RowName) (v w : Nested) → Same v w
    → Same (with_rows ns v) (with_rows ns w)
same_with ns v w s = (
  refl,
  same_value v w s,
  (
    refl,
    subst (λ (l : List RowName). Same
        (rows_value (ns ++ names_in (rows_part v))) (rows_value (ns ++ l))) (same_names v w s)
        (same_refl (rows_value (ns ++ names_in (rows_part v)))),
    tt,
  ),
)

pub same_elements : (v w : Nested) (ms ns : List RowName) → Same v w → ms ≡ ns
    → Same (element_of v (rows_value ms)) (element_of w (rows_value ns))
same_elements v w ms ns s e = (
  refl,
  s,
  (
    refl,
    subst (λ (l : List RowName). Same (rows_value ms) (rows_value l)) e
        (same_refl (rows_value ms)),
    tt,
  ),
)

pub names_of_same : (v w : Nested) (ms ns : List RowName)
    → Same (element_of v (rows_value ms)) (element_of w (rows_value ns)) → ms ≡ ns
names_of_same v w ms ns s =
    sym (names_back ms) ∙ same_names (element_of v (rows_value ms)) (element_of w (rows_value ns)) s
    ∙ names_back ns

-- elements in order
then_equal : (o : Ordering) → ordering_then o Equal ≡ o
then_equal Less = refl
then_equal Equal = refl
then_equal Greater = refl

rows_compared : (k : ℕ) (ms ns : List RowName) → elements_cmp (elements_of (rows_from k ms))
    (elements_of (rows_from k ns)) ≡ slice_cmp name_cmp ms ns
rows_compared k [] [] = refl
rows_compared k [] (n ∷ ns) = refl
rows_compared k (m ∷ ms) [] = refl
rows_compared k (m ∷ ms) (n ∷ ns) =
    ap₂ ordering_then (ap (λ o. ordering_then o (ordering_then (label_cmp m.0 n.0)
    (ordering_then (int_cmp m.1 n.1) Equal))) (sym one_place)
    ∙ ap (ordering_then (label_cmp m.0 n.0)) (then_equal (int_cmp m.1 n.1)))
    (rows_compared (suc k) ms ns)
  where
    one_place : Equal ≡ int_cmp (pos k) (pos k)
    one_place = int_cmp_is (pos k) (pos k) Equal refl

pub elements_compared : (v w : Nested) (ms ns : List RowName)
    → value_cmp (element_of v (rows_value ms)) (element_of w (rows_value ns))
    ≡ ordering_then (value_cmp v w) (slice_cmp name_cmp ms ns)
elements_compared v w ms ns =
    ap (ordering_then (value_cmp v w)) (then_equal (value_cmp (rows_value ms) (rows_value ns))
    ∙ rows_compared 1 ms ns)

-- rows with a number
abbrev pub IsNumbered : Row → Type 0
IsNumbered row = cell_under number_column row ≡ cell.Int (number_in row)

abbrev pub AreNumbered : Tables → Type 0
AreNumbered ts = (t : Label) → Each IsNumbered (ts t)

-- what holds of each element of what each element gives
pub each_over : {A B : Type 0} (P : A → Type 0) (Q : B → Type 0) (g : A → List B)
    → ((x : A) → P x → Each Q (g x)) → (xs : List A) → Each P xs → Each Q (flat_map g xs)
each_over P Q g h [] e = tt
each_over P Q g h (x ∷ xs) e = each_join Q (g x) (flat_map g xs) (h x e.0)
    (each_over P Q g h xs e.1)

-- rows that generators take, one for each, with numbers
abbrev pub Picked : List Label → List Row → Type 0
Picked gs rs = (length rs ≡ length gs) × Each IsNumbered rs

pub picked : (ts : Tables) → AreNumbered ts → (gs : List Label) → Each (Picked gs) (picks ts gs)
picked ts all gs = go (picks ts gs) (pick_length ts gs) (numbers gs)
  where
    numbers : (gs : List Label) → Each (Each IsNumbered) (picks ts gs)
    numbers [] = (tt, tt)
    numbers (t ∷ gs) =
        each_over IsNumbered (Each IsNumbered) (λ r. map (λ rs. rs ++ r ∷ []) (picks ts gs))
        (λ r n. each_mapped (λ rs. rs ++ r ∷ []) (Each IsNumbered) (Each IsNumbered)
        (λ rs h. each_join IsNumbered rs (r ∷ []) h (n, tt)) (picks ts gs) (numbers gs)) (ts t)
        (all t)

    go : (l : List (List Row)) → Each (λ rs. length rs ≡ length gs) l → Each (Each IsNumbered) l
        → Each (Picked gs) l
    go [] g h = tt
    go (rs ∷ l) g h = ((g.0, h.0), go l g.1 h.1)

-- the names of the rows of generators, those rows being in front, the innermost first
abbrev pub row_names : List Label → List Row → List RowName
row_names [] env = []
row_names (t ∷ gs) env = (t, number_in (get_or env (length gs) [])) ∷ row_names gs env

numbered_at : (rs env : List Row) (i : ℕ) → Each IsNumbered rs → i < length rs
    → IsNumbered (get_or (rs ++ env) i [])
numbered_at [] env i e h = absurd (omega arith)
numbered_at (r ∷ rs) env zero e h = e.0
numbered_at (r ∷ rs) env (suc i) e h = numbered_at rs env i e.1 (omega arith)

rows_mean : (ts : Tables) (rs env : List Row) → Each IsNumbered rs → (gs : List Label) (k : ℕ)
    → length gs ≤ length rs → raw_comps_meaning ts (row_comps k gs) (rs ++ env)
    ≡ rows_from k (row_names gs (rs ++ env))
rows_mean ts rs env e [] k h = refl
rows_mean ts rs env e (t ∷ gs) k h =
    ap₂ (λ c (l : List Nested). rec (field place_label (base (cell.Int (pos k)))
    (field table_label (base (cell.Text t)) (field number_label (base c) none))) ∷ l)
    (numbered_at rs env (length gs) e (omega arith))
    (rows_mean ts rs env e gs (suc k) (omega arith))

-- the record of an element
pub element_means : (ts : Tables) (b : RawBody) (gs : List Label) (rs env : List Row)
    → Each IsNumbered rs → length gs ≤ length rs → raw_meaning ts (element_body b gs) (rs ++ env)
    ≡ element_of (raw_meaning ts b (rs ++ env)) (rows_value (row_names gs (rs ++ env)))
element_means ts b gs rs env e h =
    ap (λ (l : List Nested). element_of (raw_meaning ts b (rs ++ env)) (bag_of l))
    (rows_mean ts rs env e gs 1 h)

-- generators one after the other
pub names_join : (gs hs : List Label) (qs env : List Row) → length qs ≡ length hs
    → row_names (gs ++ hs) (qs ++ env) ≡ row_names gs env ++ row_names hs (qs ++ env)
names_join [] hs qs env h = refl
names_join (t ∷ gs) hs qs env h =
    let at : length (gs ++ hs) ≡ length qs + length gs = omega (arith, length-append gs hs, h) in
    ap₂ (λ (r : Row) (l : List RowName). (t, number_in r) ∷ l)
    (ap (λ i. get_or (qs ++ env) i []) at ∙ get_or-append-add qs env (length gs) [])
    (names_join gs hs qs env h)
