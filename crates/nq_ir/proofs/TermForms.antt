-- The body of a typed plain term means what the term means.
use Rattle.nq_model.proofs.Aggregates.{same_aggregate}
use Rattle.std.proofs.Common.{◌≡◌, List, [], ◌∷◌, ◌++◌, map, zip, refl, sym, ap, ap₂, ◌∙◌, subst, subst₂, Bool, true, false, cond, filter, flat_map, length, append-nil, Some, find}
use Rattle.std.specs.List.{AllByRecursion as Each}
use Rattle.std.specs.Str.{bytes_eq}
use Rattle.nq_model.specs.Bags.{here, Matched}
use Rattle.nq_model.specs.Cells.{RowFits, column_type_of}
use Rattle.nq_model.specs.Databases.{FilledTable, filled, rows_value}
use Rattle.nq_model.specs.Meaning.{meaning, field_meanings, cell_of, elements_in}
use Rattle.nq_model.specs.Operators.{is_true, unary_value, binary_value}
use Rattle.nq_model.specs.Orders.{AreDistinct, by_label}
use Rattle.nq_model.specs.Proper.{IsProperTerm, AreProperTerms, IsPlainTerm, ArePlainTerms}
use Rattle.nq_model.specs.Tables.{Columns, names_of, types_of, base_type, row_record, IsProperShape}
use Rattle.nq_model.specs.Terms.{TermTree, TermFields}
use Rattle.nq_model.specs.Types.{TypeTree, FieldTypes}
use Rattle.nq_model.specs.Typing.{HasType, HaveTypes, shape_named}
use Rattle.nq_model.specs.Values.{Nested, base, rec, fields_of, bag_of, Same, SameFields}
use Rattle.nq_model.specs.declared.table.Cell.{Cell}
use Rattle.nq_model.specs.declared.table.Schema.{Schema}
use Rattle.nq_model.specs.declared.table.TableShape.{TableShape}
use Rattle.nq_model.proofs.Bags.{matched_append, matched_flat_map, matched_refl, matched_reordered}
use Rattle.nq_model.proofs.Sameness.{same_refl, same_trans, same_bag}
use Rattle.nq_model.specs.NamedRows.{Label, Row, cell_under, named}
use Rattle.nq_ir.specs.Meanings.{Tables, rows_in}
use Rattle.nq_ir.specs.RawForms.{RawBody, raw_plain, raw_rec, RawComps, no_raw_comp, raw_comp, no_raw, and_raw, raw_column, up_body, raw_base_in, raw_comps_in, append_raw, inside, choice, columns_body, each_comp, raw_form, raw_fields}
use Rattle.nq_ir.specs.WellFormed.{columns_or_none, table_columns}
use Rattle.nq_ir.proofs.Equal.{bytes_same, bytes_differ}
use Rattle.nq_ir.proofs.RawMeanings.{raw_value, raw_meaning, raw_fields_meaning, raw_comps_meaning, Run, runs, runs_values, runs_length, append_means, each_comp_means}
use Rattle.nq_ir.proofs.RawTypes.{under, RawBodyHas, RawCompsHave, EachHas, bodies_under, comps_have, raw_has, shape_found}
use Rattle.nq_ir.proofs.RawChoices.{matched_unmap, matched_each, Related, related_up, related_at, cell_means, elements_mean, field_means, where_means, put_value, put_listed, same_put, put_means, choose_means, aggregate_means}
use Rattle.nq_ir.proofs.RawMeanings.{picks, raw_true}
use Rattle.nq_ir.proofs.Distinct.{each_join}

-- the bodies of the kept choices have the element type
runs_have : (ts : Tables) (S : List TableShape) (sc : List Label) (cs : RawComps) (B : TypeTree) (env : List Row) → RawCompsHave S sc cs B → Each (λ (x : Run). RawBodyHas S (under x.0 sc) x.1 B) (runs ts cs env)
unfolding runs
runs_have ts S sc no_raw_comp B env h = tt
runs_have ts S sc (raw_comp gs bs b cs) B env h =
    each_join (λ (x : Run). RawBodyHas S (under x.0 sc) x.1 B) (map (λ rs. (gs, b, rs)) (filter (λ rs. raw_true ts bs (rs ++ env)) (picks ts gs))) (runs ts cs env) (all (filter (λ rs. raw_true ts bs (rs ++ env)) (picks ts gs))) (runs_have ts S sc cs B env h.3)
  where
    all : (l : List (List Row)) → Each (λ (x : Run). RawBodyHas S (under x.0 sc) x.1 B) (map (λ rs. (gs, b, rs)) l)
    all [] = tt
    all (r ∷ l) = (h.2, all l)

each_and : {A : Type 0} (P Q : A → Type 0) (xs : List A) → Each P xs → Each Q xs → Each (λ x. P x × Q x) xs
each_and P Q [] g h = tt
each_and P Q (x ∷ xs) g h = ((g.0, h.0), each_and P Q xs g.1 h.1)

-- the cells of a row, each found under the name of its column
cells_found : (ns : List Label) (row : List Cell) → AreDistinct ns → Each (λ d. cell_under d.0 (zip ns row) ≡ d.1) (zip ns row)
cells_found [] row h = tt
cells_found (n ∷ ns) [] h = tt
cells_found (n ∷ ns) (c ∷ row) h =
    (ap (λ z. cond z c (cell_under n (zip ns row))) (bytes_same n n refl), over ns row h.0 (cells_found ns row h.1))
  where
    over : (ms : List Label) (cs : List Cell) → Each (λ m. n ≡ m → ⊥) ms → Each (λ d. cell_under d.0 (zip ns row) ≡ d.1) (zip ms cs) → Each (λ d. cond (bytes_eq d.0 n) c (cell_under d.0 (zip ns row)) ≡ d.1) (zip ms cs)
    over [] cs g k = tt
    over (m ∷ ms) [] g k = tt
    over (m ∷ ms) (x ∷ cs) g k = (ap (λ z. cond z c (cell_under m (zip ns row))) (bytes_differ m n (λ e. g.0 (sym e))) ∙ k.0, over ms cs g.1 k.1)

row_means : (ts : Tables) (whole : Row) (env : List Row) (xs : Columns) (row : List Cell) → RowFits (types_of xs) row → Each (λ d. cell_under d.0 whole ≡ d.1) (zip (names_of xs) row) → raw_fields_meaning ts (columns_body xs) (whole ∷ env) ≡ fields_of (by_label (zip (names_of xs) (map base row)))
row_means ts whole env [] row e h = refl
row_means ts whole env (x ∷ xs) [] e h = absurd (cc)
row_means ts whole env (x ∷ xs) (c ∷ row) e h =
    let rest : map column_type_of row ≡ types_of xs = cc in
    put_means ts x.0 (raw_plain (raw_column 0 x.0)) (columns_body xs) (whole ∷ env)
    ∙ ap₂ (λ y z. put_value x.0 (base y) z) h.0 (row_means ts whole env xs row rest h.1)
    ∙ sym (put_listed x.0 (base c) (by_label (zip (names_of xs) (map base row))))

-- each table of the schema is there, with rows that fit
abbrev pub AreFilled : List TableShape → List FilledTable → Type 0
AreFilled shapes tables =
    (t : Label) (shape : TableShape) → shape_named t shapes ≡ Some shape → (rows : List (List Cell)) × (find (λ table. bytes_eq table.name t) tables ≡ Some (filled shape rows)) × (rows_in tables t ≡ named (names_of shape.columns) rows) × Each (RowFits (types_of shape.columns)) rows

-- over tables of a proper schema
module _ (schema : Schema) (proper : Each IsProperShape schema.tables) (tables : List FilledTable) (there : AreFilled schema.tables tables) where
  abbrev ts : Tables
  ts = rows_in tables

  table_rows : (columns : Columns) → AreDistinct (names_of columns) → (env : List Row) (rows : List (List Cell)) → Each (RowFits (types_of columns)) rows → map (row_record (names_of columns)) rows ≡ map (λ e. rec (raw_fields_meaning ts (columns_body columns) e)) (map (λ rs. rs ++ env) (filter (λ rs. true) (flat_map (λ r. (r ∷ []) ∷ []) (map (λ row. zip (names_of columns) row) rows))))
  table_rows columns d env [] h = refl
  table_rows columns d env (row ∷ rows) h =
      ap₂ (λ x (z : List Nested). rec x ∷ z) (sym (row_means ts (zip (names_of columns) row) env columns row h.0 (cells_found (names_of columns) row d))) (table_rows columns d env rows h.1)

  mutual
    -- the meaning of the body is that of the term, for related values and bodies
    pub raw_means : (m : TermTree) (g : List TypeTree) (A : TypeTree) → IsProperTerm m → IsPlainTerm m → HasType schema g m A → (vs : List Nested) (es : List RawBody) (sc : List Label) (env : List Row) → EachHas schema.tables sc es g → Related ts vs es env → Same (meaning tables vs m) (raw_meaning ts (raw_form schema.tables m es) env)
    raw_means (TermTree.var k) g A p q h vs es sc env w r = related_at ts vs es env k r
    raw_means (TermTree.int n) g A p q h vs es sc env w r = refl
    raw_means (TermTree.bool b) g A p q h vs es sc env w r = refl
    raw_means (TermTree.text t) g A p q h vs es sc env w r = refl
    raw_means (TermTree.table t) g A p q h vs es sc env w r =
        let cols : h.0.columns ≡ table_columns schema.tables t = sym (ap columns_or_none h.1) in
        let found = there t h.0 h.1 in
        let good = shape_found IsProperShape t schema.tables h.0 proper h.1 in
        let own : List Nested = map (row_record (names_of h.0.columns)) found.0 in
        let rows : map (λ row. zip (names_of h.0.columns) row) found.0 ≡ ts t = sym found.2 in
        let all : own ≡ raw_comps_meaning ts (raw_comp (t ∷ []) no_raw (raw_rec (columns_body (table_columns schema.tables t))) no_raw_comp) env = table_rows h.0.columns good.columns_differ env found.0 found.3 ∙ ap₂ (λ (z : Columns) (l : List Row). map (λ e. rec (raw_fields_meaning ts (columns_body z) e)) (map (λ rs. rs ++ env) (filter (λ rs. true) (flat_map (λ r. (r ∷ []) ∷ []) l)))) cols rows ∙ sym (append-nil (map (λ e. rec (raw_fields_meaning ts (columns_body (table_columns schema.tables t)) e)) (map (λ rs. rs ++ env) (filter (λ rs. true) (flat_map (λ r. (r ∷ []) ∷ []) (ts t)))))) in
        subst (λ z. Same z (bag_of (raw_comps_meaning ts (raw_comp (t ∷ []) no_raw (raw_rec (columns_body (table_columns schema.tables t))) no_raw_comp) env))) (sym (ap rows_value found.1)) (same_bag own (raw_comps_meaning ts (raw_comp (t ∷ []) no_raw (raw_rec (columns_body (table_columns schema.tables t))) no_raw_comp) env) (subst (λ (l : List Nested). Matched Same own l) all (matched_refl Same same_refl own)))
    raw_means (TermTree.unary o a) g A p q h vs es sc env w r =
        ap (unary_value o) (cell_means ts env (meaning tables vs a) (raw_form schema.tables a es) (raw_means a g (base_type h.0) p q h.2 vs es sc env w r))
    raw_means (TermTree.binary o a b) g A p q h vs es sc env w r =
        ap₂ (binary_value o) (cell_means ts env (meaning tables vs a) (raw_form schema.tables a es) (raw_means a g (base_type h.0) p.0 q.0 h.3 vs es sc env w r)) (cell_means ts env (meaning tables vs b) (raw_form schema.tables b es) (raw_means b g (base_type h.1) p.1 q.1 h.4 vs es sc env w r))
    raw_means (TermTree.choose x a b) g A p q h vs es sc env w r =
        let bx = raw_base_in (raw_form schema.tables x es) in
        let cell : cell_of (meaning tables vs x) ≡ raw_value ts bx env = cell_means ts env (meaning tables vs x) (raw_form schema.tables x es) (raw_means x g TypeTree.bool p.0 q.0 h.0 vs es sc env w r) in
        same_trans (cond (is_true (cell_of (meaning tables vs x))) (meaning tables vs a) (meaning tables vs b)) (cond (is_true (raw_value ts bx env)) (raw_meaning ts (raw_form schema.tables a es) env) (raw_meaning ts (raw_form schema.tables b es) env)) (raw_meaning ts (choice bx (raw_form schema.tables a es) (raw_form schema.tables b es)) env) (subst (λ z. Same (cond (is_true (cell_of (meaning tables vs x))) (meaning tables vs a) (meaning tables vs b)) (cond (is_true z) (raw_meaning ts (raw_form schema.tables a es) env) (raw_meaning ts (raw_form schema.tables b es) env))) cell (each_way (is_true (cell_of (meaning tables vs x))) (raw_means a g A p.1 q.1 h.1 vs es sc env w r) (raw_means b g A p.2 q.2 h.2 vs es sc env w r))) (choose_means ts schema.tables sc bx (raw_form schema.tables a es) (raw_form schema.tables b es) A env (raw_has schema proper a g A p.1 q.1 h.1 es sc w) (raw_has schema proper b g A p.2 q.2 h.2 es sc w))
      where
        each_way : (t : Bool) → Same (meaning tables vs a) (raw_meaning ts (raw_form schema.tables a es) env) → Same (meaning tables vs b) (raw_meaning ts (raw_form schema.tables b es) env) → Same (cond t (meaning tables vs a) (meaning tables vs b)) (cond t (raw_meaning ts (raw_form schema.tables a es) env) (raw_meaning ts (raw_form schema.tables b es) env))
        each_way true s k = s
        each_way false s k = k
    raw_means (TermTree.rec fs) g A p q h vs es sc env w r = fields_mean fs g h.0 p.1 q h.1 vs es sc env w r
    raw_means (TermTree.field a l) g A p q h vs es sc env w r =
        field_means ts env l (meaning tables vs a) (raw_form schema.tables a es) (raw_means a g (TypeTree.rec h.0) p.0 q h.1 vs es sc env w r)
    raw_means (TermTree.single a) g A p q h vs es sc env w r =
        same_bag (meaning tables vs a ∷ []) (raw_meaning ts (raw_form schema.tables a es) env ∷ []) (raw_meaning ts (raw_form schema.tables a es) env, [], here, raw_means a g h.0 p q h.1 vs es sc env w r, refl)
    raw_means (TermTree.nil B) g A p q h vs es sc env w r = refl
    raw_means (TermTree.union a b) g A p q h vs es sc env w r =
        let ca = raw_comps_in (raw_form schema.tables a es) in
        let cb = raw_comps_in (raw_form schema.tables b es) in
        same_bag (elements_in (meaning tables vs a) ++ elements_in (meaning tables vs b)) (raw_comps_meaning ts (append_raw ca cb) env) (subst (λ (l : List Nested). Matched Same (elements_in (meaning tables vs a) ++ elements_in (meaning tables vs b)) l) (sym (append_means ts ca cb env)) (matched_append Same (elements_in (meaning tables vs a)) (elements_in (meaning tables vs b)) (raw_comps_meaning ts ca env) (raw_comps_meaning ts cb env) (elements_mean ts env (meaning tables vs a) (raw_form schema.tables a es) (raw_means a g A p.0 q.0 h.2 vs es sc env w r)) (elements_mean ts env (meaning tables vs b) (raw_form schema.tables b es) (raw_means b g A p.1 q.1 h.3 vs es sc env w r))))
    raw_means (TermTree.for a b) g A p q h vs es sc env w r =
        let na = raw_form schema.tables a es in
        let cs = raw_comps_in na in
        let rest : List Label → RawBody → RawComps = λ gs d. raw_comps_in (raw_form schema.tables b (d ∷ map (up_body (length gs) 0) es)) in
        let xs = elements_in (meaning tables vs a) in
        let P : Run → Type 0 = λ x. (length x.2 ≡ length x.0) × RawBodyHas schema.tables (under x.0 sc) x.1 h.0 in
        let source : Matched Same xs (map (λ (x : Run). raw_meaning ts x.1 (x.2 ++ env)) (runs ts cs env)) = subst (λ (l : List Nested). Matched Same xs l) (runs_values ts cs env) (elements_mean ts env (meaning tables vs a) na (raw_means a g (TypeTree.bag h.0) p.0 q.0 h.2 vs es sc env w r)) in
        let paired : Matched (λ v (x : Run). Same v (raw_meaning ts x.1 (x.2 ++ env)) × P x) xs (runs ts cs env) = matched_each (λ v (x : Run). Same v (raw_meaning ts x.1 (x.2 ++ env))) P xs (runs ts cs env) (matched_unmap Same (λ (x : Run). raw_meaning ts x.1 (x.2 ++ env)) xs (runs ts cs env) source) (each_and (λ (x : Run). length x.2 ≡ length x.0) (λ (x : Run). RawBodyHas schema.tables (under x.0 sc) x.1 h.0) (runs ts cs env) (runs_length ts cs env) (runs_have ts schema.tables sc cs h.0 env (comps_have schema.tables sc na (TypeTree.bag h.0) h.0 refl (raw_has schema proper a g (TypeTree.bag h.0) p.0 q.0 h.2 es sc w)))) in
        let each : Matched Same (flat_map (λ v. elements_in (meaning tables (v ∷ vs) b)) xs) (flat_map (λ (x : Run). raw_comps_meaning ts (rest x.0 x.1) (x.2 ++ env)) (runs ts cs env)) = matched_flat_map (λ v (x : Run). Same v (raw_meaning ts x.1 (x.2 ++ env)) × P x) Same (λ v. elements_in (meaning tables (v ∷ vs) b)) (λ (x : Run). raw_comps_meaning ts (rest x.0 x.1) (x.2 ++ env)) (λ v x k. elements_mean ts (x.2 ++ env) (meaning tables (v ∷ vs) b) (raw_form schema.tables b (x.1 ∷ map (up_body (length x.0) 0) es)) (raw_means b (h.0 ∷ g) A p.1 q.1 h.3 (v ∷ vs) (x.1 ∷ map (up_body (length x.0) 0) es) (under x.0 sc) (x.2 ++ env) (k.1.1, bodies_under schema.tables x.0 sc es g w) (k.0, related_up ts vs es (length x.0) x.2 env k.1.0 r))) xs (runs ts cs env) paired in
        same_bag (flat_map (λ v. elements_in (meaning tables (v ∷ vs) b)) xs) (raw_comps_meaning ts (each_comp cs rest) env) (matched_reordered Same (flat_map (λ v. elements_in (meaning tables (v ∷ vs) b)) xs) (flat_map (λ (x : Run). raw_comps_meaning ts (rest x.0 x.1) (x.2 ++ env)) (runs ts cs env)) (raw_comps_meaning ts (each_comp cs rest) env) each (each_comp_means ts cs rest env))
    raw_means (TermTree.guard x a) g A p q h vs es sc env w r =
        let bx = raw_base_in (raw_form schema.tables x es) in
        let ca = raw_comps_in (raw_form schema.tables a es) in
        let left = elements_in (meaning tables vs a) in
        let cell : cell_of (meaning tables vs x) ≡ raw_value ts bx env = cell_means ts env (meaning tables vs x) (raw_form schema.tables x es) (raw_means x g TypeTree.bool p.0 q.0 h.1 vs es sc env w r) in
        same_bag (cond (is_true (cell_of (meaning tables vs x))) left []) (raw_comps_meaning ts (inside [] (and_raw bx no_raw) ca) env) (matched_reordered Same (cond (is_true (cell_of (meaning tables vs x))) left []) (cond (is_true (raw_value ts bx env)) (raw_comps_meaning ts ca env) []) (raw_comps_meaning ts (inside [] (and_raw bx no_raw) ca) env) (subst (λ z. Matched Same (cond (is_true (cell_of (meaning tables vs x))) left []) (cond (is_true z) (raw_comps_meaning ts ca env) [])) cell (same_choice (is_true (cell_of (meaning tables vs x))) left (raw_comps_meaning ts ca env) (elements_mean ts env (meaning tables vs a) (raw_form schema.tables a es) (raw_means a g A p.1 q.1 h.2 vs es sc env w r)))) (where_means ts bx ca env))
      where
        same_choice : (b : Bool) (xs ys : List Nested) → Matched Same xs ys → Matched Same (cond b xs []) (cond b ys [])
        same_choice true xs ys m = m
        same_choice false xs ys m = refl
    raw_means (TermTree.aggregate f a) g A p q h vs es sc env w r =
        same_aggregate f (elements_in (meaning tables vs a)) (raw_comps_meaning ts (raw_comps_in (raw_form schema.tables a es)) env) (elements_mean ts env (meaning tables vs a) (raw_form schema.tables a es) (raw_means a g (TypeTree.bag h.0) p q h.1 vs es sc env w r)) ∙ sym (aggregate_means ts f (raw_comps_in (raw_form schema.tables a es)) env)
    raw_means (TermTree.fun a t) g A p q h vs es sc env w r = absurd q
    raw_means (TermTree.apply a b) g A p q h vs es sc env w r = absurd q
    raw_means (TermTree.bind a b) g A p q h vs es sc env w r = absurd q

    fields_mean : (fs : TermFields) (g : List TypeTree) (gs : FieldTypes) → AreProperTerms fs → ArePlainTerms fs → HaveTypes schema g fs gs → (vs : List Nested) (es : List RawBody) (sc : List Label) (env : List Row) → EachHas schema.tables sc es g → Related ts vs es env → SameFields (fields_of (field_meanings tables vs fs)) (raw_fields_meaning ts (raw_fields schema.tables fs es) env)
    fields_mean TermFields.none g gs p q h vs es sc env w r = tt
    fields_mean (TermFields.with_field l a fs) g gs p q h vs es sc env w r =
        let put : SameFields (put_value l (meaning tables vs a) (fields_of (field_meanings tables vs fs))) (put_value l (raw_meaning ts (raw_form schema.tables a es) env) (raw_fields_meaning ts (raw_fields schema.tables fs es) env)) = same_put l (meaning tables vs a) (raw_meaning ts (raw_form schema.tables a es) env) (fields_of (field_meanings tables vs fs)) (raw_fields_meaning ts (raw_fields schema.tables fs es) env) (raw_means a g h.0 p.1 q.0 h.2 vs es sc env w r) (fields_mean fs g h.1 p.2 q.1 h.3 vs es sc env w r) in
        subst₂ (λ y z. SameFields y z) (sym (put_listed l (meaning tables vs a) (field_meanings tables vs fs))) (sym (put_means ts l (raw_form schema.tables a es) (raw_fields schema.tables fs es) env)) put
