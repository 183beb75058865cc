-- The traced meaning without its rows is the meaning.
use Rattle.std.proofs.Common.{◌≡◌, ℕ, suc, List, [], ◌∷◌, ◌++◌, map, zip, refl, sym, ap, ap₂, ◌∙◌, Bool, true, false, cond, flat_map, length, pos, Option, Some, None, find}
use Rattle.std.proofs.lemmas.List.{map-append}
use Rattle.std.specs.Int.{int_wrap, w64}
use Rattle.std.specs.List.{AllByRecursion as Each}
use Rattle.std.specs.Ordering.{is_gt}
use Rattle.std.specs.declared.cmp.Ordering.{Ordering}
use Rattle.std.specs.Str.{bytes_eq}
use Rattle.nq_model.proofs.Numberings.{length_map}
use Rattle.nq_model.proofs.Sameness.{elements_back}
use Rattle.nq_model.specs.Databases.{FilledTable, table_meaning, rows_value as table_rows_value}
use Rattle.nq_model.specs.Meaning.{meaning, field_meanings, cell_of, elements_in, value_under, field_in, put_field, aggregate_value}
use Rattle.nq_model.specs.NamedRows.{Label}
use Rattle.nq_model.specs.Operators.{is_true, unary_value, binary_value}
use Rattle.nq_model.specs.Orders.{label_cmp, put_by, sorted_by, by_label}
use Rattle.nq_model.specs.Tables.{names_of, row_record}
use Rattle.nq_model.specs.Terms.{TermTree, TermFields, Aggregate, Emptiness, Count, Sum}
use Rattle.nq_model.specs.Totals.{sum_of}
use Rattle.nq_model.specs.Values.{Nested, base, rec, bag, Fields, field, Elements, end, more, elements, elements_of, fields_of, bag_of, rec_of}
use Rattle.nq_model.specs.declared.table.Cell.{Cell}
use Rattle.nq_model.specs.declared.table.Cell.TheVariants as cell
use Rattle.nq_ir.proofs.Nested.{map_flat, map_of_map, map_same, flat_same, flat_of_map}
use Rattle.nq_ir.proofs.Spots.{get_or_map}
use Rattle.traced_meaning.specs.TracedValues.{value_part, rows_part, names_in, with_rows, erased, erased_fields, erased_elements, erased_element}
use Rattle.traced_meaning.specs.Traces.{traced_rows, traced_table, trace, trace_fields}

-- the parts of an erased value
cell_erased : (v : Nested) → cell_of (erased v) ≡ cell_of v
cell_erased (base c) = refl
cell_erased (rec fs) = refl
cell_erased (bag vs) = refl

part_erased : (v : Nested) → erased_element v ≡ erased (value_part v)
part_erased (base c) = refl
part_erased (rec Fields.none) = refl
part_erased (rec (field l v fs)) = refl
part_erased (bag vs) = refl

elements_erased : (v : Nested) → elements_in (erased v) ≡ map erased_element (elements_in v)
elements_erased (base c) = refl
elements_erased (rec fs) = refl
elements_erased (bag vs) = go vs
  where
    go : (vs : Elements) → elements (erased_elements vs) ≡ map erased_element (elements vs)
    go end = refl
    go (more v vs) = ap (λ (l : List Nested). erased_element v ∷ l) (go vs)

-- where a value erases to another
cells_agree : (v w : Nested) → erased v ≡ w → cell_of v ≡ cell_of w
cells_agree v w e = sym (cell_erased v) ∙ ap cell_of e

elements_agree : (v w : Nested) → erased v ≡ w → map erased_element (elements_in v) ≡ elements_in w
elements_agree v w e = sym (elements_erased v) ∙ ap elements_in e

-- rows before those of the elements are erased with them
each_agrees : (x : Nested) (ys : List Nested) → map erased_element
    (map (with_rows (names_in (rows_part x))) ys) ≡ map erased_element ys
each_agrees x ys =
    map_of_map erased_element (with_rows (names_in (rows_part x))) ys
    ∙ map_same (λ y. erased_element (with_rows (names_in (rows_part x)) y)) erased_element
    (λ y. sym (part_erased y)) ys

erased_bag : (vs : List Nested) → erased (bag_of vs) ≡ bag_of (map erased_element vs)
erased_bag vs = ap bag (go vs)
  where
    go : (vs : List Nested) → erased_elements (elements_of vs) ≡ elements_of (map erased_element vs)
    go [] = refl
    go (v ∷ vs) = ap (more (erased_element v)) (go vs)

under_erased : (l : Label) (fs : Fields) → erased (value_under l fs)
    ≡ value_under l (erased_fields fs)
under_erased l Fields.none = refl
under_erased l (field k v fs) = go (bytes_eq k l) (under_erased l fs)
  where
    go : (t : Bool) → erased (value_under l fs) ≡ value_under l (erased_fields fs)
        → erased (cond t v (value_under l fs)) ≡ cond t (erased v)
        (value_under l (erased_fields fs))
    go true e = refl
    go false e = e

field_erased : (l : Label) (v : Nested) → erased (field_in l v) ≡ field_in l (erased v)
field_erased l (base c) = refl
field_erased l (rec fs) = under_erased l fs
field_erased l (bag vs) = refl

abbrev fields_erased : List (Label × Nested) → List (Label × Nested)
fields_erased fs = map (λ f. (f.0, erased f.1)) fs

erased_record : (fs : List (Label × Nested)) → erased (rec_of fs) ≡ rec_of (fields_erased fs)
erased_record fs = ap rec (go fs)
  where
    go : (fs : List (Label × Nested)) → erased_fields (fields_of fs) ≡ fields_of (fields_erased fs)
    go [] = refl
    go (f ∷ fs) = ap (field f.0 (erased f.1)) (go fs)

put_erased : (l : Label) (v : Nested) (fs : List (Label × Nested))
    → fields_erased (put_field l v fs) ≡ put_field l (erased v) (fields_erased fs)
put_erased l v [] = refl
put_erased l v (f ∷ fs) = go (is_gt (label_cmp l f.0)) (put_erased l v fs)
  where
    go : (t : Bool) → fields_erased (put_field l v fs) ≡ put_field l (erased v) (fields_erased fs)
        → fields_erased (cond t (f ∷ put_field l v fs) ((l, v) ∷ f ∷ fs))
        ≡ cond t ((f.0, erased f.1) ∷ put_field l (erased v) (fields_erased fs))
        ((l, erased v) ∷ (f.0, erased f.1) ∷ fields_erased fs)
    go true e = ap (λ (z : List (Label × Nested)). (f.0, erased f.1) ∷ z) e
    go false e = refl

choice_erased : (t : Bool) (v w x y : Nested) → erased v ≡ x → erased w ≡ y → erased (cond t v w)
    ≡ cond t x y
choice_erased true v w x y d e = d
choice_erased false v w x y d e = e

guard_erased : (t : Bool) (vs ws : List Nested) → map erased_element vs ≡ ws
    → map erased_element (cond t vs []) ≡ cond t ws []
guard_erased true vs ws e = e
guard_erased false vs ws e = refl

-- what is asked of elements is asked of their cells
pub asked_of_cells : (g : Aggregate) (xs ys : List Nested) → map cell_of xs ≡ map cell_of ys
    → aggregate_value g xs ≡ aggregate_value g ys
asked_of_cells Emptiness [] [] e = refl
asked_of_cells Emptiness [] (y ∷ ys) e = absurd (cc)
asked_of_cells Emptiness (x ∷ xs) [] e = absurd (cc)
asked_of_cells Emptiness (x ∷ xs) (y ∷ ys) e = refl
asked_of_cells Count xs ys e =
    ap (λ n. cell.Int (int_wrap w64 (pos n))) (sym (length_map cell_of xs) ∙ ap length e
    ∙ length_map cell_of ys)
asked_of_cells Sum xs ys e = ap (λ (l : List Cell). cell.Int (sum_of l)) e

-- the rows of tables hold no bags
abbrev IsFlat : Nested → Type 0
IsFlat v = erased v ≡ v

each_put : {A : Type 0} (P : A → Type 0) (cmp : A → A → Ordering) (x : A) (ys : List A) → P x
    → Each P ys → Each P (put_by cmp x ys)
each_put P cmp x [] p e = (p, tt)
each_put P cmp x (y ∷ ys) p e = go (is_gt (cmp x y)) (each_put P cmp x ys p e.1)
  where
    go : (t : Bool) → Each P (put_by cmp x ys) → Each P (cond t (y ∷ put_by cmp x ys) (x ∷ y ∷ ys))
    go true k = (e.0, k)
    go false k = (p, e)

each_sorted : {A : Type 0} (P : A → Type 0) (cmp : A → A → Ordering) (xs : List A) → Each P xs
    → Each P (sorted_by cmp xs)
each_sorted P cmp [] e = tt
each_sorted P cmp (x ∷ xs) e = each_put P cmp x (sorted_by cmp xs) e.0 (each_sorted P cmp xs e.1)

flat_fields : (fs : List (Label × Nested)) → Each (λ f. IsFlat f.1) fs → fields_erased fs ≡ fs
flat_fields [] e = refl
flat_fields (f ∷ fs) e = ap₂ (λ v (z : List (Label × Nested)). (f.0, v) ∷ z) e.0
    (flat_fields fs e.1)

flat_row : (names : List Label) (row : List Cell) → IsFlat (row_record names row)
flat_row names row =
    let cells = zip names (map base row) in
    erased_record (by_label cells) ∙ ap rec_of (flat_fields (by_label cells)
    (each_sorted (λ f. IsFlat f.1) (λ f g. label_cmp f.0 g.0) cells (go names row)))
  where
    go : (names : List Label) (row : List Cell) → Each (λ f. IsFlat f.1) (zip names (map base row))
    go [] row = tt
    go (n ∷ names) [] = tt
    go (n ∷ names) (c ∷ row) = (refl, go names row)

flat_rows : (o : Option FilledTable) → Each IsFlat (elements_in (table_rows_value o))
flat_rows None = tt
flat_rows (Some table) = go table.rows
  where
    go : (rows : List (List Cell)) → Each IsFlat (elements
        (elements_of (map (row_record (names_of table.columns)) rows)))
    go [] = tt
    go (row ∷ rows) = (flat_row (names_of table.columns) row, go rows)

bag_again : (o : Option FilledTable) → bag_of (elements_in (table_rows_value o))
    ≡ table_rows_value o
bag_again None = refl
bag_again (Some table) = ap bag_of
    (elements_back (map (row_record (names_of table.columns)) table.rows))

rows_erased : (t : Label) (n : ℕ) (vs : List Nested) → Each IsFlat vs
    → map erased_element (traced_rows t n vs) ≡ vs
rows_erased t n [] e = refl
rows_erased t n (v ∷ vs) e = ap₂ (λ x (l : List Nested). x ∷ l) e.0 (rows_erased t (suc n) vs e.1)

module _ (tables : List FilledTable) where
  table_erased : (t : Label) → erased (traced_table tables t) ≡ table_meaning tables t
  table_erased t =
      let o = find (λ (table : FilledTable). bytes_eq table.name t) tables in
      let rows = elements_in (table_meaning tables t) in
      erased_bag (traced_rows t 1 rows) ∙ ap bag_of (rows_erased t 1 rows (flat_rows o))
      ∙ bag_again o

  mutual
    pub trace_erased : (env : List Nested) (m : TermTree) → erased (trace tables env m)
        ≡ meaning tables (map erased env) m
    trace_erased env (TermTree.var k) = sym (get_or_map erased env k (base (cell.Bool false)))
    trace_erased env (TermTree.int n) = refl
    trace_erased env (TermTree.bool b) = refl
    trace_erased env (TermTree.text t) = refl
    trace_erased env (TermTree.table t) = table_erased t
    trace_erased env (TermTree.unary op a) = ap (λ c. base (unary_value op c))
        (cells_agree (trace tables env a) (meaning tables (map erased env) a) (trace_erased env a))
    trace_erased env (TermTree.binary op a b) = ap₂ (λ c d. base (binary_value op c d))
        (cells_agree (trace tables env a) (meaning tables (map erased env) a) (trace_erased env a))
        (cells_agree (trace tables env b) (meaning tables (map erased env) b) (trace_erased env b))
    trace_erased env (TermTree.choose x a b) =
        choice_erased (is_true (cell_of (trace tables env x))) (trace tables env a)
        (trace tables env b) (meaning tables (map erased env) a)
        (meaning tables (map erased env) b) (trace_erased env a) (trace_erased env b)
        ∙ ap (λ c. cond (is_true c) (meaning tables (map erased env) a)
        (meaning tables (map erased env) b)) (cells_agree (trace tables env x)
        (meaning tables (map erased env) x) (trace_erased env x))
    trace_erased env (TermTree.rec fs) = erased_record (trace_fields tables env fs)
        ∙ ap rec_of (fields_agree env fs)
    trace_erased env (TermTree.field a l) = field_erased l (trace tables env a)
        ∙ ap (field_in l) (trace_erased env a)
    trace_erased env (TermTree.aggregate g a) =
        ap base (asked_of_cells g (map value_part (elements_in (trace tables env a)))
        (elements_in (meaning tables (map erased env) a))
        (map_of_map cell_of value_part (elements_in (trace tables env a))
        ∙ map_same (λ x. cell_of (value_part x)) (λ x. cell_of (erased_element x))
        (λ x. sym (ap cell_of (part_erased x) ∙ cell_erased (value_part x)))
        (elements_in (trace tables env a)) ∙ sym (map_of_map cell_of erased_element
        (elements_in (trace tables env a))) ∙ ap (map cell_of)
        (elements_agree (trace tables env a) (meaning tables (map erased env) a)
        (trace_erased env a))))
    trace_erased env (TermTree.single a) = ap (λ v. bag_of (v ∷ [])) (trace_erased env a)
    trace_erased env (TermTree.nil type) = refl
    trace_erased env (TermTree.union a b) =
        let xs = elements_in (trace tables env a) in
        let ys = elements_in (trace tables env b) in
        erased_bag (xs ++ ys) ∙ ap bag_of (map-append erased_element xs ys
        ∙ ap₂ (λ (x y : List Nested). x ++ y) (elements_agree (trace tables env a)
        (meaning tables (map erased env) a) (trace_erased env a))
        (elements_agree (trace tables env b) (meaning tables (map erased env) b)
        (trace_erased env b)))
    trace_erased env (TermTree.for a b) =
        let xs = elements_in (trace tables env a) in
        let f : Nested → List Nested = λ x. map (with_rows (names_in (rows_part x)))
        (elements_in (trace tables (value_part x ∷ env) b)) in
        let g : Nested → List Nested = λ v. elements_in (meaning tables (v ∷ map erased env) b) in
        erased_bag (flat_map f xs) ∙ ap bag_of (map_flat erased_element f xs
        ∙ flat_same (λ x. map erased_element (f x)) (λ x. g (erased_element x))
        (λ x. each_agrees x (elements_in (trace tables (value_part x ∷ env) b))
        ∙ elements_agree (trace tables (value_part x ∷ env) b)
        (meaning tables (erased (value_part x) ∷ map erased env) b)
        (trace_erased (value_part x ∷ env) b) ∙ ap (λ v. elements_in
        (meaning tables (v ∷ map erased env) b)) (sym (part_erased x))) xs
        ∙ sym (flat_of_map g erased_element xs) ∙ ap (flat_map g)
        (elements_agree (trace tables env a) (meaning tables (map erased env) a)
        (trace_erased env a)))
    trace_erased env (TermTree.guard x a) =
        let xs = elements_in (trace tables env a) in
        let t = is_true (cell_of (trace tables env x)) in
        erased_bag (cond t xs []) ∙ ap bag_of (guard_erased t xs
        (elements_in (meaning tables (map erased env) a))
        (elements_agree (trace tables env a) (meaning tables (map erased env) a)
        (trace_erased env a)) ∙ ap (λ c. cond (is_true c)
        (elements_in (meaning tables (map erased env) a)) [])
        (cells_agree (trace tables env x) (meaning tables (map erased env) x)
        (trace_erased env x)))
    trace_erased env (TermTree.fun taken a) = refl
    trace_erased env (TermTree.apply a b) = refl
    trace_erased env (TermTree.bind a b) = refl

    fields_agree : (env : List Nested) (fs : TermFields)
        → fields_erased (trace_fields tables env fs) ≡ field_meanings tables (map erased env) fs
    fields_agree env TermFields.none = refl
    fields_agree env (TermFields.with_field l a fs) =
        put_erased l (trace tables env a) (trace_fields tables env fs)
        ∙ ap₂ (λ v (z : List (Label × Nested)). put_field l v z) (trace_erased env a)
        (fields_agree env fs)
