-- The wrapped body of a typed plain term, over tables with numbers, means the traced meaning of the
-- term.
use Rattle.std.proofs.Common.{◌≡◌, List, [], ◌∷◌, ◌++◌, map, refl, sym, ap, ap₂, ◌∙◌, subst, subst₂, Bool, true, false, cond, filter, flat_map, length, append-nil, Some}
use Rattle.std.specs.List.{AllByRecursion as Each}
use Rattle.nq_model.proofs.Aggregates.{same_aggregate}
use Rattle.nq_model.proofs.Bags.{matched_append, matched_flat_map, matched_map, matched_reordered}
use Rattle.nq_model.proofs.Sameness.{elements_back, same_refl, same_trans, same_bag}
use Rattle.nq_model.specs.Bags.{here, Matched}
use Rattle.nq_model.specs.Databases.{FilledTable, rows_value as table_rows_value}
use Rattle.nq_model.specs.Meaning.{cell_of, elements_in}
use Rattle.nq_model.specs.NamedRows.{Label, Row}
use Rattle.nq_model.specs.Operators.{is_true, unary_value, binary_value}
use Rattle.nq_model.specs.Proper.{IsProperTerm, AreProperTerms, IsPlainTerm, ArePlainTerms}
use Rattle.nq_model.specs.Tables.{Columns, names_of, base_type, row_record, IsProperShape}
use Rattle.nq_model.specs.Terms.{TermTree, TermFields}
use Rattle.nq_model.specs.Types.{TypeTree, FieldTypes}
use Rattle.nq_model.specs.Typing.{HasType, HaveTypes, shape_named}
use Rattle.nq_model.specs.Values.{Nested, Fields, fields_of, bag_of, Same, SameFields}
use Rattle.nq_model.specs.declared.table.Schema.{Schema}
use Rattle.nq_model.specs.declared.table.TableShape.{TableShape}
use Rattle.nq_ir.proofs.Nested.{map_of_map, map_same}
use Rattle.nq_ir.proofs.RawChoices.{matched_unmap, matched_each, Related, related_up, related_at, cell_means, elements_mean, field_means, where_means, put_value, put_listed, same_put, put_means, aggregate_means}
use Rattle.nq_ir.proofs.RawMeanings.{raw_value, raw_kept, raw_meaning, raw_fields_meaning, raw_comps_meaning, Run, runs, append_means, each_comp_means}
use Rattle.nq_ir.proofs.RawTypes.{under, RawBodyHas, EachHas, bodies_under, comps_have, raw_has, shape_found}
use Rattle.nq_ir.proofs.Spots.{get_or_map}
use Rattle.nq_ir.specs.Meanings.{Tables}
use Rattle.nq_ir.specs.RawForms.{RawBody, raw_plain, raw_rec, raw_bag, RawComps, no_raw_comp, raw_comp, no_raw, up_body, raw_base_in, raw_comps_in, append_raw, where_raw, choice, columns_body, no_raw_body, each_comp, raw_form, raw_fields}
use Rattle.nq_ir.specs.WellFormed.{columns_or_none, table_columns}
use Rattle.traced_meaning.proofs.Choices.{choice_traced}
use Rattle.traced_meaning.proofs.Erasing.{asked_of_cells}
use Rattle.traced_meaning.proofs.RowNames.{AreNumbered, Picked, row_names, names_back, same_value, same_names, same_with}
use Rattle.traced_meaning.proofs.Sources.{run_element, under_rows, runs_elements, runs_known}
use Rattle.traced_meaning.proofs.Tables.{HaveNoNumber, table_elements, AreTraced}
use Rattle.traced_meaning.proofs.Wrapped.{element_body, wrapped, wrapped_fields, wrapped_comps, base_wrapped, comps_wrapped, field_wrapped, put_wrapped, append_wrapped, each_wrapped, where_wrapped, choice_wrapped, up_wrapped}
use Rattle.traced_meaning.specs.TracedValues.{RowName, element_of, value_part, rows_part, rows_value, names_in, with_rows}
use Rattle.traced_meaning.specs.Traces.{traced_rows, traced_table, trace, trace_fields}

-- what is asked of the values of wrapped comprehensions is asked of the comprehensions
wrapped_cells : (ts : Tables) (cs : RawComps) (env : List Row)
    → map cell_of (map value_part (raw_comps_meaning ts (wrapped_comps [] cs) env))
    ≡ map cell_of (raw_comps_meaning ts cs env)
wrapped_cells ts no_raw_comp env = refl
wrapped_cells ts (raw_comp gs bs b cs) env = go (raw_kept ts gs bs env) (wrapped_cells ts cs env)
  where
    one : (b : RawBody) (e : List Row) → cell_of (raw_meaning ts (wrapped b) e)
        ≡ cell_of (raw_meaning ts b e)
    one (raw_plain b) e = refl
    one (raw_rec fs) e = refl
    one (raw_bag cs) e = refl

    go : (l : List (List Row)) → map cell_of (map value_part
        (raw_comps_meaning ts (wrapped_comps [] cs) env))
        ≡ map cell_of (raw_comps_meaning ts cs env) → map cell_of
        (map value_part (map (λ e. raw_meaning ts (element_body (wrapped b) gs) e) l
        ++ raw_comps_meaning ts (wrapped_comps [] cs) env))
        ≡ map cell_of (map (λ e. raw_meaning ts b e) l ++ raw_comps_meaning ts cs env)
    go [] i = i
    go (e ∷ l) i = ap₂ (λ c (z : List _). c ∷ z) (one b e) (go l i)

-- variables' bodies, wrapped
related_wrapped : (ts : Tables) (vs : List Nested) (es : List RawBody) (gs : List Label)
    (rs env : List Row) → length rs ≡ length gs → Related ts vs (map wrapped es) env
    → Related ts vs (map wrapped (map (up_body (length gs) 0) es)) (rs ++ env)
related_wrapped ts vs es gs rs env h r =
    let e : map wrapped (map (up_body (length gs) 0) es)
    ≡ map (up_body (length gs) 0) (map wrapped es)
    = map_of_map wrapped (up_body (length gs) 0) es
    ∙ map_same (λ b. wrapped (up_body (length gs) 0 b))
    (λ b. up_body (length gs) 0 (wrapped b)) (λ b. up_wrapped (length gs) 0 b) es
    ∙ sym (map_of_map (up_body (length gs) 0) wrapped es) in
    subst (λ (z : List RawBody). Related ts vs z (rs ++ env)) (sym e)
    (related_up ts vs (map wrapped es) (length gs) rs env h r)

same_choice : (t : Bool) (v w x y : Nested) → Same v x → Same w y → Same (cond t v w) (cond t x y)
same_choice true v w x y s k = s
same_choice false v w x y s k = k

same_guard : (t : Bool) (xs ys : List Nested) → Matched Same xs ys
    → Matched Same (cond t xs []) (cond t ys [])
same_guard true xs ys m = m
same_guard false xs ys m = refl

-- the cell and the elements of a value that a wrapped body means
wrapped_cell : (ts : Tables) (env : List Row) (v : Nested) (b : RawBody)
    → Same v (raw_meaning ts (wrapped b) env) → cell_of v ≡ raw_value ts (raw_base_in b) env
wrapped_cell ts env v b s = cell_means ts env v (wrapped b) s
    ∙ ap (λ z. raw_value ts z env) (base_wrapped b)

wrapped_elements : (ts : Tables) (env : List Row) (v : Nested) (b : RawBody)
    → Same v (raw_meaning ts (wrapped b) env) → Matched Same (elements_in v)
    (raw_comps_meaning ts (wrapped_comps [] (raw_comps_in b)) env)
wrapped_elements ts env v b s =
    subst (λ z. Matched Same (elements_in v) (raw_comps_meaning ts z env)) (comps_wrapped b)
    (elements_mean ts env v (wrapped b) s)

-- the elements of the body for one element of the source, with its rows before theirs
run_means : (ts : Tables) → AreNumbered ts → (env : List Row) (x : Run) (v : Nested)
    (ys : List Nested) (ds : RawComps) → Picked x.0 x.2 → Same v (run_element ts env x)
    → Matched Same ys (raw_comps_meaning ts (wrapped_comps [] ds) (x.2 ++ env))
    → Matched Same (map (with_rows (names_in (rows_part v))) ys)
    (raw_comps_meaning ts (wrapped_comps x.0 ds) (x.2 ++ env))
run_means ts all env x v ys ds p s m =
    let outer = row_names x.0 (x.2 ++ env) in
    let named : names_in (rows_part v) ≡ outer = same_names v (run_element ts env x) s
    ∙ names_back outer in
    subst₂ (λ (ns : List RowName) (l : List Nested). Matched Same (map (with_rows ns) ys) l)
    (sym named) (sym (under_rows ts all x.0 ds x.2 env p.0 p.1))
    (matched_map Same Same (with_rows outer) (with_rows outer) (same_with outer) ys
    (raw_comps_meaning ts (wrapped_comps [] ds) (x.2 ++ env)) m)

-- over tables of a proper schema, and those tables with numbers
module _ (schema : Schema) (proper : Each IsProperShape schema.tables)
    (none : Each (λ (shape : TableShape). HaveNoNumber shape.columns) schema.tables)
    (tables : List FilledTable) (ts : Tables) (all : AreNumbered ts)
    (there : AreTraced schema.tables tables ts) where
  table_means : (t : Label) (shape : TableShape) → shape_named t schema.tables ≡ Some shape
      → (env : List Row) → Same (traced_table tables t) (raw_meaning ts
      (wrapped (raw_bag (raw_comp (t ∷ []) no_raw (raw_rec
      (columns_body (table_columns schema.tables t))) no_raw_comp))) env)
  table_means t shape e env =
      let cols : shape.columns ≡ table_columns schema.tables t = sym (ap columns_or_none e) in
      let found = there t shape e in
      let good = shape_found IsProperShape t schema.tables shape proper e in
      let free = shape_found (λ (s : TableShape). HaveNoNumber s.columns) t schema.tables shape none
      e in
      let records : List Nested = map (row_record (names_of shape.columns)) found.0 in
      let own : List Nested = traced_rows t 1 records in
      let body : Columns → RawBody = λ z. element_body (raw_rec (wrapped_fields (columns_body z)))
      (t ∷ []) in
      let given : List Row → Columns → List Nested = λ l z. map (λ e. raw_meaning ts (body z) e)
      (map (λ rs. rs ++ env) (filter (λ rs. true) (flat_map (λ r. (r ∷ []) ∷ []) l))) in
      let rows : traced_table tables t ≡ bag_of own = ap
      (λ o. bag_of (traced_rows t 1 (elements_in (table_rows_value o)))) found.1
      ∙ ap (λ (l : List Nested). bag_of (traced_rows t 1 l)) (elements_back records) in
      let elements : own ≡ given (ts t) (table_columns schema.tables t) ++ []
      = table_elements ts t env shape.columns free good.columns_differ 1 found.0 found.3
      ∙ ap₂ (λ (l : List Row) (z : Columns). given l z) (sym found.2) cols
      ∙ sym (append-nil (given (ts t) (table_columns schema.tables t))) in
      subst₂ (λ (v : Nested) (l : List Nested). Same v (bag_of l)) (sym rows) elements
      (same_refl (bag_of own))

  mutual
    pub wrapped_means : (m : TermTree) (g : List TypeTree) (A : TypeTree) → IsProperTerm m
        → IsPlainTerm m → HasType schema g m A → (vs : List Nested) (es : List RawBody)
        (sc : List Label) (env : List Row) → EachHas schema.tables sc es g
        → Related ts vs (map wrapped es) env → Same (trace tables vs m)
        (raw_meaning ts (wrapped (raw_form schema.tables m es)) env)
    wrapped_means (TermTree.var k) g A p q h vs es sc env w r =
        subst (λ b. Same (trace tables vs (TermTree.var k)) (raw_meaning ts b env))
        (get_or_map wrapped es k no_raw_body) (related_at ts vs (map wrapped es) env k r)
    wrapped_means (TermTree.int n) g A p q h vs es sc env w r = refl
    wrapped_means (TermTree.bool b) g A p q h vs es sc env w r = refl
    wrapped_means (TermTree.text t) g A p q h vs es sc env w r = refl
    wrapped_means (TermTree.table t) g A p q h vs es sc env w r = table_means t h.0 h.1 env
    wrapped_means (TermTree.unary o a) g A p q h vs es sc env w r =
        ap (unary_value o) (wrapped_cell ts env (trace tables vs a) (raw_form schema.tables a es)
        (wrapped_means a g (base_type h.0) p q h.2 vs es sc env w r))
    wrapped_means (TermTree.binary o a b) g A p q h vs es sc env w r =
        ap₂ (binary_value o) (wrapped_cell ts env (trace tables vs a) (raw_form schema.tables a es)
        (wrapped_means a g (base_type h.0) p.0 q.0 h.3 vs es sc env w r))
        (wrapped_cell ts env (trace tables vs b) (raw_form schema.tables b es)
        (wrapped_means b g (base_type h.1) p.1 q.1 h.4 vs es sc env w r))
    wrapped_means (TermTree.choose x a b) g A p q h vs es sc env w r =
        let bx = raw_base_in (raw_form schema.tables x es) in
        let na = raw_form schema.tables a es in
        let nb = raw_form schema.tables b es in
        let cell : cell_of (trace tables vs x) ≡ raw_value ts bx env
        = wrapped_cell ts env (trace tables vs x) (raw_form schema.tables x es)
        (wrapped_means x g TypeTree.bool p.0 q.0 h.0 vs es sc env w r) in
        let each : Same (cond (is_true (cell_of (trace tables vs x))) (trace tables vs a)
        (trace tables vs b)) (cond (is_true (raw_value ts bx env))
        (raw_meaning ts (wrapped na) env) (raw_meaning ts (wrapped nb) env)) = subst
        (λ c. Same (cond (is_true (cell_of (trace tables vs x))) (trace tables vs a)
        (trace tables vs b)) (cond (is_true c) (raw_meaning ts (wrapped na) env)
        (raw_meaning ts (wrapped nb) env))) cell (same_choice
        (is_true (cell_of (trace tables vs x))) (trace tables vs a) (trace tables vs b)
        (raw_meaning ts (wrapped na) env) (raw_meaning ts (wrapped nb) env)
        (wrapped_means a g A p.1 q.1 h.1 vs es sc env w r)
        (wrapped_means b g A p.2 q.2 h.2 vs es sc env w r)) in
        subst (λ z. Same (cond (is_true (cell_of (trace tables vs x))) (trace tables vs a)
        (trace tables vs b)) (raw_meaning ts z env)) (sym (choice_wrapped bx na nb))
        (same_trans (cond (is_true (cell_of (trace tables vs x))) (trace tables vs a)
        (trace tables vs b)) (cond (is_true (raw_value ts bx env))
        (raw_meaning ts (wrapped na) env) (raw_meaning ts (wrapped nb) env))
        (raw_meaning ts (choice bx (wrapped na) (wrapped nb)) env) each
        (choice_traced ts bx env schema.tables sc na nb A
        (raw_has schema proper a g A p.1 q.1 h.1 es sc w)
        (raw_has schema proper b g A p.2 q.2 h.2 es sc w)))
    wrapped_means (TermTree.rec fs) g A p q h vs es sc env w r
        = wrapped_fields_mean fs g h.0 p.1 q h.1 vs es sc env w r
    wrapped_means (TermTree.field a l) g A p q h vs es sc env w r =
        let na = raw_form schema.tables a es in
        subst (λ z. Same (trace tables vs (TermTree.field a l)) (raw_meaning ts z env))
        (sym (field_wrapped l na)) (field_means ts env l (trace tables vs a) (wrapped na)
        (wrapped_means a g (TypeTree.rec h.0) p.0 q h.1 vs es sc env w r))
    wrapped_means (TermTree.single a) g A p q h vs es sc env w r =
        let v = raw_meaning ts (wrapped (raw_form schema.tables a es)) env in
        same_bag (element_of (trace tables vs a) (rows_value []) ∷ [])
        (element_of v (rows_value []) ∷ []) (
          element_of v (rows_value []),
          [],
          here,
          (refl, wrapped_means a g h.0 p q h.1 vs es sc env w r, (refl, refl, tt)),
          refl,
        )
    wrapped_means (TermTree.nil B) g A p q h vs es sc env w r = refl
    wrapped_means (TermTree.union a b) g A p q h vs es sc env w r =
        let ca = raw_comps_in (raw_form schema.tables a es) in
        let cb = raw_comps_in (raw_form schema.tables b es) in
        let xs = elements_in (trace tables vs a) in
        let ys = elements_in (trace tables vs b) in
        let joined : raw_comps_meaning ts (wrapped_comps [] (append_raw ca cb)) env
        ≡ raw_comps_meaning ts (wrapped_comps [] ca) env
        ++ raw_comps_meaning ts (wrapped_comps [] cb) env
        = ap (λ z. raw_comps_meaning ts z env) (append_wrapped [] ca cb)
        ∙ append_means ts (wrapped_comps [] ca) (wrapped_comps [] cb) env in
        same_bag (xs ++ ys) (raw_comps_meaning ts (wrapped_comps [] (append_raw ca cb)) env)
        (subst (λ (l : List Nested). Matched Same (xs ++ ys) l) (sym joined)
        (matched_append Same xs ys (raw_comps_meaning ts (wrapped_comps [] ca) env)
        (raw_comps_meaning ts (wrapped_comps [] cb) env)
        (wrapped_elements ts env (trace tables vs a) (raw_form schema.tables a es)
        (wrapped_means a g A p.0 q.0 h.2 vs es sc env w r))
        (wrapped_elements ts env (trace tables vs b) (raw_form schema.tables b es)
        (wrapped_means b g A p.1 q.1 h.3 vs es sc env w r))))
    wrapped_means (TermTree.for a b) g A p q h vs es sc env w r =
        let na = raw_form schema.tables a es in
        let cs = raw_comps_in na in
        let rest : List Label → RawBody → RawComps = λ gs d. raw_comps_in
        (raw_form schema.tables b (d ∷ map (up_body (length gs) 0) es)) in
        let under_own : List Label → RawBody → RawComps = λ gs d. wrapped_comps gs (rest gs d) in
        let xs = elements_in (trace tables vs a) in
        let f : Nested → List Nested = λ x. map (with_rows (names_in (rows_part x)))
        (elements_in (trace tables (value_part x ∷ vs) b)) in
        let P : Run → Type 0 = λ x. Picked x.0 x.2 × RawBodyHas schema.tables
        (under x.0 sc) x.1 h.0 in
        let source : Matched Same xs (map (run_element ts env) (runs ts cs env))
        = subst (λ (l : List Nested). Matched Same xs l) (runs_elements ts all cs env)
        (wrapped_elements ts env (trace tables vs a) na
        (wrapped_means a g (TypeTree.bag h.0) p.0 q.0 h.2 vs es sc env w r)) in
        let paired : Matched (λ v (x : Run). Same v (run_element ts env x) × P x) xs
        (runs ts cs env) = matched_each (λ v (x : Run). Same v (run_element ts env x)) P xs
        (runs ts cs env) (matched_unmap Same (run_element ts env) xs (runs ts cs env) source)
        (runs_known ts all schema.tables sc cs h.0 env
        (comps_have schema.tables sc na (TypeTree.bag h.0) h.0 refl
        (raw_has schema proper a g (TypeTree.bag h.0) p.0 q.0 h.2 es sc w))) in
        let each : Matched Same (flat_map f xs) (flat_map
        (λ (x : Run). raw_comps_meaning ts (under_own x.0 x.1) (x.2 ++ env))
        (runs ts cs env)) = matched_flat_map (λ v (x : Run). Same v (run_element ts env x)
        × P x) Same f (λ (x : Run). raw_comps_meaning ts (under_own x.0 x.1) (x.2 ++ env))
        (λ v x k. run_means ts all env x v (elements_in (trace tables (value_part v ∷ vs) b))
        (rest x.0 x.1) k.1.0 k.0 (wrapped_elements ts (x.2 ++ env)
        (trace tables (value_part v ∷ vs) b) (raw_form schema.tables b
        (x.1 ∷ map (up_body (length x.0) 0) es)) (wrapped_means b (h.0 ∷ g) A p.1 q.1 h.3
        (value_part v ∷ vs) (x.1 ∷ map (up_body (length x.0) 0) es) (under x.0 sc)
        (x.2 ++ env) (k.1.1, bodies_under schema.tables x.0 sc es g w) (
          same_value v (run_element ts env x) k.0,
          related_wrapped ts vs es x.0 x.2 env k.1.0.0
              r,
        )))) xs (runs ts cs env) paired in
        subst (λ z. Same (bag_of (flat_map f xs)) (bag_of (raw_comps_meaning ts z env)))
        (sym (each_wrapped cs rest)) (same_bag (flat_map f xs)
        (raw_comps_meaning ts (each_comp cs under_own) env)
        (matched_reordered Same (flat_map f xs) (flat_map
        (λ (x : Run). raw_comps_meaning ts (under_own x.0 x.1) (x.2 ++ env)) (runs ts cs env))
        (raw_comps_meaning ts (each_comp cs under_own) env) each
        (each_comp_means ts cs under_own env)))
    wrapped_means (TermTree.guard x a) g A p q h vs es sc env w r =
        let bx = raw_base_in (raw_form schema.tables x es) in
        let ca = raw_comps_in (raw_form schema.tables a es) in
        let left = elements_in (trace tables vs a) in
        let right = raw_comps_meaning ts (wrapped_comps [] ca) env in
        let t = is_true (cell_of (trace tables vs x)) in
        let cell : cell_of (trace tables vs x) ≡ raw_value ts bx env
        = wrapped_cell ts env (trace tables vs x) (raw_form schema.tables x es)
        (wrapped_means x g TypeTree.bool p.0 q.0 h.1 vs es sc env w r) in
        let kept : Matched Same (cond t left []) (cond (is_true (raw_value ts bx env)) right [])
        = subst (λ c. Matched Same (cond t left []) (cond (is_true c) right [])) cell
        (same_guard t left right (wrapped_elements ts env (trace tables vs a)
        (raw_form schema.tables a es) (wrapped_means a g A p.1 q.1 h.2 vs es sc env w r))) in
        subst (λ z. Same (bag_of (cond t left [])) (bag_of (raw_comps_meaning ts z env)))
        (sym (where_wrapped bx ca)) (same_bag (cond t left [])
        (raw_comps_meaning ts (where_raw bx (wrapped_comps [] ca)) env)
        (matched_reordered Same (cond t left []) (cond (is_true (raw_value ts bx env)) right [])
        (raw_comps_meaning ts (where_raw bx (wrapped_comps [] ca)) env) kept
        (where_means ts bx (wrapped_comps [] ca) env)))
    wrapped_means (TermTree.aggregate f a) g A p q h vs es sc env w r =
        let cs = raw_comps_in (raw_form schema.tables a es) in
        let xs = elements_in (trace tables vs a) in
        let ys = raw_comps_meaning ts (wrapped_comps [] cs) env in
        same_aggregate f (map value_part xs) (map value_part ys)
        (matched_map Same Same value_part value_part same_value xs ys
        (wrapped_elements ts env (trace tables vs a) (raw_form schema.tables a es)
        (wrapped_means a g (TypeTree.bag h.0) p q h.1 vs es sc env w r)))
        ∙ asked_of_cells f (map value_part ys) (raw_comps_meaning ts cs env)
        (wrapped_cells ts cs env) ∙ sym (aggregate_means ts f cs env)
    wrapped_means (TermTree.fun a t) g A p q h vs es sc env w r = absurd q
    wrapped_means (TermTree.apply a b) g A p q h vs es sc env w r = absurd q
    wrapped_means (TermTree.bind a b) g A p q h vs es sc env w r = absurd q

    wrapped_fields_mean : (fs : TermFields) (g : List TypeTree) (gs : FieldTypes)
        → AreProperTerms fs → ArePlainTerms fs → HaveTypes schema g fs gs
        → (vs : List Nested) (es : List RawBody) (sc : List Label) (env : List Row)
        → EachHas schema.tables sc es g → Related ts vs (map wrapped es) env
        → SameFields (fields_of (trace_fields tables vs fs))
        (raw_fields_meaning ts (wrapped_fields (raw_fields schema.tables fs es)) env)
    wrapped_fields_mean TermFields.none g gs p q h vs es sc env w r = tt
    wrapped_fields_mean (TermFields.with_field l a fs) g gs p q h vs es sc env w r =
        let na = raw_form schema.tables a es in
        let rest = wrapped_fields (raw_fields schema.tables fs es) in
        let put : SameFields (put_value l (trace tables vs a)
        (fields_of (trace_fields tables vs fs))) (put_value l
        (raw_meaning ts (wrapped na) env) (raw_fields_meaning ts rest env)) = same_put l
        (trace tables vs a) (raw_meaning ts (wrapped na) env)
        (fields_of (trace_fields tables vs fs)) (raw_fields_meaning ts rest env)
        (wrapped_means a g h.0 p.1 q.0 h.2 vs es sc env w r)
        (wrapped_fields_mean fs g h.1 p.2 q.1 h.3 vs es sc env w r) in
        subst₂ (λ (y z : Fields). SameFields y z)
        (sym (put_listed l (trace tables vs a) (trace_fields tables vs fs)))
        (sym (ap (λ z. raw_fields_meaning ts z env) (put_wrapped l na
        (raw_fields schema.tables fs es)) ∙ put_means ts l (wrapped na) rest env)) put
