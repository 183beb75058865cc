-- What the traced form means is decoded to the form's traced meaning.
use Rattle.std.proofs.Common.{◌≡◌, ℕ, zero, suc, pos, ◌<◌, ◌≤◌, ◌^◌, List, [], ◌∷◌, ◌++◌, map, refl}
use Rattle.std.proofs.Common.{sym, ap, ap₂, ◌∙◌, subst, Bool, true, false, cond, flat_map, length}
use Rattle.std.proofs.Common.{arith, append_assoc}
use Rattle.std.proofs.lemmas.List.{map-append}
use Rattle.std.proofs.lemmas.Slice.Eq.{bytes_eq-Decides}
use Rattle.std.specs.List.{AllByRecursion as Each}
use Rattle.std.specs.Str.{bytes_eq}
use Rattle.nq_ir.proofs.Equal.{bytes_turned}
use Rattle.nq_ir.proofs.Nested.{map_of_map, map_same}
use Rattle.nq_ir.specs.Among.{Among}
use Rattle.nq_ir.specs.Meanings.{Tables, Env, kept, body_meaning, bodies_meaning, comps_meaning}
use Rattle.nq_ir.specs.Meanings.{form_meaning}
use Rattle.nq_ir.specs.Trees.{BodyTree, plain_body, rec_body, bag_body, Bodies, no_body, with_body}
use Rattle.nq_ir.specs.Trees.{Comps, no_comp, comp, FormTree}
use Rattle.nq_ir.specs.WellFormed.{IsWellFormed}
use Rattle.nq_ir.specs.declared.base.Gen.{Gen}
use Rattle.nq_model.proofs.Numberings.{length_map}
use Rattle.nq_model.proofs.Sameness.{elements_back, elements_of_back}
use Rattle.nq_model.specs.Meaning.{cell_of}
use Rattle.nq_model.specs.NamedRows.{Label}
use Rattle.nq_model.specs.Operators.{int_of}
use Rattle.nq_model.specs.Values.{Nested, base, rec, bag, field, fields_of, elements, elements_of}
use Rattle.nq_model.specs.Values.{bag_of}
use Rattle.nq_model.specs.declared.table.Cell.TheVariants as cell
use Rattle.nq_model.specs.declared.table.TableShape.{TableShape}
use Rattle.traced_meaning.specs.TracedForms.{names, traced_body, traced_bodies, traced_comps}
use Rattle.traced_meaning.specs.TracedForms.{traced_meaning}
use Rattle.traced_meaning.specs.TracedValues.{RowName, element_of, rows_value}
use Rattle.lineage.proofs.Covers.{Covers, CoversFields, CoversComps, covers_comps, Narrow}
use Rattle.lineage.proofs.Covers.{form_narrow, most_narrow, bodies_narrow, width_narrow}
use Rattle.lineage.proofs.Covers.{inside_narrow, under_narrow}
use Rattle.lineage.proofs.Lookups.{Finds, FindsFields, FindsComps, finds_own, tables_found}
use Rattle.lineage.proofs.Marks.{found, or_false, value_found, body_found, whole_found, tag_found}
use Rattle.lineage.proofs.Marks.{RowsFound, rows_found, element_mapped, bodies_mean}
use Rattle.lineage.proofs.Sameness.{elements_decoded}
use Rattle.lineage.specs.Decoding.{number_under, rows_under, tables_at, tables_of, element_rows}
use Rattle.lineage.specs.Decoding.{decoded, decoded_fields, decoded_elements, decoded_element}
use Rattle.lineage.specs.Decoding.{decoded_whole, form_decoded}
use Rattle.lineage.specs.ListedTables.{ByTag, gen_tables, listed}
use Rattle.lineage.specs.Places.{comps_in, own_tags, own_bodies, most_gens, tags_in, inside, width}
use Rattle.lineage.specs.Places.{field_body, body_under, under}
use Rattle.lineage.specs.TraceForms.{tag_label, row_label, whole_label, element_fields, int_body}
use Rattle.lineage.specs.TraceForms.{number_bodies, whole_body, body_traced, bodies_traced}
use Rattle.lineage.specs.TraceForms.{comps_traced, form_traced}

numbers_length : (n : ℕ) (gens : List Gen) → length (number_bodies n gens) ≡ n
numbers_length zero gens = refl
numbers_length (suc n) [] = ap suc (numbers_length n [])
numbers_length (suc n) (g ∷ gens) = ap suc (numbers_length n gens)

numbers_few : (n : ℕ) (gens : List Gen) → n < 2 ^ 64 → length (number_bodies n gens) < 2 ^ 64
numbers_few n gens b = subst (λ k. k < 2 ^ 64) (sym (numbers_length n gens)) b

-- the bodies of the traced form that stand at a place
abbrev all_traced : List BodyTree → List BodyTree
all_traced here = map (body_traced here) here

flat_joined : {A B : Type 0} (f : A → List B) (xs ys : List A)
    → flat_map f (xs ++ ys) ≡ flat_map f xs ++ flat_map f ys
flat_joined f [] ys = refl
flat_joined {A} {B} f (x ∷ xs) ys =
    ap (λ (l : List B). f x ++ l) (flat_joined f xs ys)
    ∙ sym (append_assoc (f x) (flat_map f xs) (flat_map f ys))

field_traced : (l : Label) (all : List BodyTree) (fs : Bodies)
    → field_body l (bodies_traced all fs) ≡ map (body_traced (under l all)) (field_body l fs)
field_traced l all no_body = refl
field_traced l all (with_body k b fs) = go (bytes_eq l k) refl (field_traced l all fs)
  where
    go : (t : Bool) → bytes_eq l k ≡ t
        → field_body l (bodies_traced all fs) ≡ map (body_traced (under l all)) (field_body l fs)
        → cond t (body_traced (under k all) b ∷ []) (field_body l (bodies_traced all fs))
        ≡ map (body_traced (under l all)) (cond t (b ∷ []) (field_body l fs))
    go true e h = ap (λ (x : Label). body_traced (under x all) b ∷ [])
        (sym ((bytes_eq-Decides l k).0 e))
    go false e h = h

body_under_traced : (l : Label) (all : List BodyTree) (b : BodyTree)
    → body_under l (body_traced all b) ≡ map (body_traced (under l all)) (body_under l b)
body_under_traced l all (plain_body b) = refl
body_under_traced l all (rec_body fs) = field_traced l all fs
body_under_traced l all (bag_body e cs) = refl

under_traced : (l : Label) (all bs : List BodyTree)
    → under l (map (body_traced all) bs) ≡ map (body_traced (under l all)) (under l bs)
under_traced l all [] = refl
under_traced l all (b ∷ bs) =
    ap₂ (λ (x y : List BodyTree). x ++ y) (body_under_traced l all b) (under_traced l all bs)
    ∙ sym (map-append (body_traced (under l all)) (body_under l b) (under l bs))

comp_tags_traced : (n : ℕ) (here : List BodyTree) (cs : Comps)
    → own_tags (comps_traced n here cs) ≡ own_tags cs
comp_tags_traced n here no_comp = refl
comp_tags_traced n here (comp t gens conds b cs) =
    ap (λ (l : List ℕ). t ∷ l) (comp_tags_traced n here cs)

body_tags_traced : (all : List BodyTree) (b : BodyTree)
    → own_tags (comps_in (body_traced all b)) ≡ own_tags (comps_in b)
body_tags_traced all (plain_body b) = refl
body_tags_traced all (rec_body fs) = refl
body_tags_traced all (bag_body e cs) = comp_tags_traced (width all) (inside all) cs

tags_traced : (all bs : List BodyTree) → tags_in (map (body_traced all) bs) ≡ tags_in bs
tags_traced all [] = refl
tags_traced all (b ∷ bs) =
    ap₂ (λ (x y : List ℕ). x ++ y) (body_tags_traced all b) (tags_traced all bs)

-- the bodies in the elements of the traced form
comps_inside : (n : ℕ) → n < 2 ^ 64 → (here : List BodyTree) (cs : Comps)
    → under whole_label (own_bodies (comps_traced n here cs))
    ≡ map (body_traced here) (own_bodies cs)
comps_inside n b here no_comp = refl
comps_inside n b here (comp t gens conds c cs) =
    ap₂ (λ (x y : List BodyTree). x ++ y) (body_found whole_label
    (element_fields (int_body t) (number_bodies n gens) (body_traced here c))
    ∙ whole_found (int_body t) (number_bodies n gens) (body_traced here c) (numbers_few n gens b))
    (comps_inside n b here cs)

body_inside : (all : List BodyTree) → width all < 2 ^ 64 → (b : BodyTree)
    → under whole_label (own_bodies (comps_in (body_traced all b)))
    ≡ map (body_traced (inside all)) (own_bodies (comps_in b))
body_inside all n (plain_body b) = refl
body_inside all n (rec_body fs) = refl
body_inside all n (bag_body e cs) = comps_inside (width all) n (inside all) cs

inside_traced : (all : List BodyTree) → width all < 2 ^ 64 → (bs : List BodyTree)
    → under whole_label (inside (map (body_traced all) bs))
    ≡ map (body_traced (inside all)) (inside bs)
inside_traced all n [] = refl
inside_traced all n (b ∷ bs) =
    flat_joined (body_under whole_label) (own_bodies (comps_in (body_traced all b)))
    (inside (map (body_traced all) bs))
    ∙ ap₂ (λ (x y : List BodyTree). x ++ y) (body_inside all n b) (inside_traced all n bs)
    ∙ sym (map-append (body_traced (inside all)) (own_bodies (comps_in b)) (inside bs))

whole_decoded : (es : ByTag) (hs : List BodyTree) (fs : List (Label × Nested))
    → decoded_whole es hs (fields_of fs) ≡ decoded es hs (or_false (found whole_label fs))
whole_decoded es hs [] = refl
whole_decoded es hs (f ∷ fs) =
    ap (λ b. cond b (decoded es hs f.1) (decoded_whole es hs (fields_of fs)))
    (bytes_turned f.0 whole_label)
    ∙ ap (λ v. cond (bytes_eq whole_label f.0) (decoded es hs f.1) v) (whole_decoded es hs fs)
    ∙ go (bytes_eq whole_label f.0)
  where
    go : (b : Bool) → cond b (decoded es hs f.1) (decoded es hs (or_false (found whole_label fs)))
        ≡ decoded es hs (or_false (cond b (f.1 ∷ []) (found whole_label fs)))
    go true = refl
    go false = refl

module _ (ts : Tables) (es : ByTag) where
  rows_told : (k n : ℕ) (gens : List Gen) (e : Env) (fs : List (Label × Nested)) → length gens ≤ n
      → RowsFound k (map (λ b. body_meaning ts b e) (number_bodies n gens)) fs
      → rows_under k (gen_tables gens) (rec (fields_of fs)) ≡ names gens e
  rows_told k n [] e fs l h = refl
  rows_told k zero (g ∷ gens) e fs l h = absurd (omega arith)
  rows_told k (suc n) (g ∷ gens) e fs l h =
      ap₂ (λ m (x : List RowName). (g.table, m) ∷ x) (ap (λ v. int_of (cell_of v))
      (value_found (row_label k) fs ∙ ap or_false h.0))
      (rows_told (suc k) n gens e fs (omega arith) h.1)

  element_told : (tags : List ℕ) (hs : List BodyTree) (n t : ℕ) (gens : List Gen) (b : BodyTree)
      (e : Env)
      → Among t tags → tables_of es t ≡ gen_tables gens → length gens ≤ n → n < 2 ^ 64
      → decoded_element es tags hs (body_meaning ts (whole_body n t gens b) e)
      ≡ element_of (decoded es hs (body_meaning ts b e)) (rows_value (names gens e))
  element_told tags hs n t gens b e m f l few =
      let mean : BodyTree → Nested = λ x. body_meaning ts x e in
      let rs = map mean (number_bodies n gens) in
      let tag = base (cell.Int (pos t)) in
      let fs : List (Label × Nested) = element_fields tag rs (mean b) in
      let small : length rs < 2 ^ 64 = subst (λ k. k < 2 ^ 64)
      (sym (length_map mean (number_bodies n gens))) (numbers_few n gens few) in
      let is : body_meaning ts (whole_body n t gens b) e ≡ rec (fields_of fs) = ap rec
      (bodies_mean ts (element_fields (int_body t) (number_bodies n gens) b) e
      ∙ ap fields_of (element_mapped mean (int_body t) (number_bodies n gens) b)) in
      let own : number_under tag_label (rec (fields_of fs)) ≡ pos t = ap (λ v. int_of (cell_of v))
      (value_found tag_label fs ∙ ap or_false (tag_found tag rs (mean b) small)) in
      let rows : element_rows es tags (rec (fields_of fs)) ≡ names gens e =
      ap (λ k. rows_under 1 (tables_at es tags k) (rec (fields_of fs))) own
      ∙ ap (λ (x : List Label). rows_under 1 x (rec (fields_of fs))) (tables_found es tags t m ∙ f)
      ∙ rows_told 1 n gens e fs l (rows_found tag rs (mean b) small) in
      ap (decoded_element es tags hs) is
      ∙ ap₂ (λ v (x : List RowName). element_of v (rows_value x))
      (whole_decoded es hs fs ∙ ap (λ (x : List Nested). decoded es hs (or_false x))
      (whole_found tag rs (mean b) small)) rows

  -- a bag whose elements are decoded to these
  pub bag_told : (tags : List ℕ) (hs : List BodyTree) (vs ws : List Nested)
      → map (decoded_element es tags hs) vs ≡ ws
      → bag (decoded_elements es tags hs (elements_of vs)) ≡ bag_of ws
  bag_told tags hs vs ws e =
      ap bag (sym (elements_of_back (decoded_elements es tags hs (elements_of vs)))
      ∙ ap elements_of (elements_decoded es tags hs (elements_of vs)
      ∙ ap (map (decoded_element es tags hs)) (elements_back vs) ∙ e))

  mutual
    body_told : (here : List BodyTree) → Each Narrow here → (b : BodyTree) (env : Env)
        → Covers here b
        → Finds es b → decoded es (all_traced here) (body_meaning ts (body_traced here b) env)
        ≡ traced_body ts b env
    body_told here n (plain_body b) env c f = refl
    body_told here n (rec_body fs) env c f = ap rec (fields_told here n fs env c f)
    body_told here n (bag_body e cs) env c f =
        let w = width_narrow here n in
        let all : List Nested = comps_meaning ts (comps_traced (width here) (inside here) cs) env in
        ap₂ (λ (x : List ℕ) (y : List BodyTree). bag (decoded_elements es x y (elements_of all)))
        (tags_traced here here) (inside_traced here w here)
        ∙ bag_told (tags_in here) (all_traced (inside here)) all (traced_comps ts cs env)
        (comps_told (tags_in here) (width here) (inside here) w (inside_narrow here n) cs env c f)

    fields_told : (here : List BodyTree) → Each Narrow here → (fs : Bodies) (env : Env)
        → CoversFields here fs → FindsFields es fs
        → decoded_fields es (all_traced here) (bodies_meaning ts (bodies_traced here fs) env)
        ≡ traced_bodies ts fs env
    fields_told here n no_body env c f = refl
    fields_told here n (with_body l b fs) env c f =
        ap₂ (field l) (ap (λ (x : List BodyTree). decoded es x
        (body_meaning ts (body_traced (under l here) b) env))
        (under_traced l here here) ∙ body_told (under l here) (under_narrow l here n) b env c.0 f.0)
        (fields_told here n fs env c.1 f.1)

    pub comps_told : (tags : List ℕ) (n : ℕ) (here : List BodyTree) → n < 2 ^ 64 → Each Narrow here
        → (cs : Comps) (env : Env) → CoversComps tags n here cs → FindsComps es cs
        → map (decoded_element es tags (all_traced here))
        (comps_meaning ts (comps_traced n here cs) env)
        ≡ traced_comps ts cs env
    comps_told tags n here few narrow no_comp env c f = refl
    comps_told tags n here few narrow (comp t gens conds b cs) env c f =
        let hs = all_traced here in
        map-append (decoded_element es tags hs)
        (map (λ e. body_meaning ts (whole_body n t gens (body_traced here b)) e)
        (kept ts gens conds env)) (comps_meaning ts (comps_traced n here cs) env)
        ∙ ap₂ (λ (x y : List Nested). x ++ y) (map_of_map (decoded_element es tags hs)
        (λ e. body_meaning ts (whole_body n t gens (body_traced here b)) e) (kept ts gens conds env)
        ∙ map_same (λ e. decoded_element es tags hs
        (body_meaning ts (whole_body n t gens (body_traced here b)) e))
        (λ e. element_of (traced_body ts b e) (rows_value (names gens e)))
        (λ e. element_told tags hs n t gens (body_traced here b) e c.0 f.0 c.1 few
        ∙ ap (λ v. element_of v (rows_value (names gens e))) (body_told here narrow b e c.2 f.1))
        (kept ts gens conds env)) (comps_told tags n here few narrow cs env c.3 f.2)

pub form_told : (S : List TableShape) (form : FormTree) → IsWellFormed S form → (ts : Tables)
    → form_decoded (listed form.comps) (form_traced form) (form_meaning ts (form_traced form))
    ≡ traced_meaning ts form
form_told S form w ts =
    let n = most_gens form.comps in
    let here = own_bodies form.comps in
    let narrow = form_narrow S form w in
    let few = most_narrow form.comps narrow in
    let es = listed form.comps in
    let all : List Nested = comps_meaning ts (comps_traced n here form.comps) [] in
    ap₂ (λ (x : List ℕ) (y : List BodyTree). bag
    (decoded_elements es x y (elements_of (elements (elements_of all)))))
    (comp_tags_traced n here form.comps) (comps_inside n few here form.comps)
    ∙ ap (λ (x : List Nested). bag
    (decoded_elements es (own_tags form.comps) (all_traced here) (elements_of x)))
    (elements_back all)
    ∙ bag_told ts es (own_tags form.comps) (all_traced here) all (traced_comps ts form.comps [])
    (comps_told ts es (own_tags form.comps) n here few (bodies_narrow form.comps narrow) form.comps
    []
    (covers_comps S [] (own_tags form.comps) n here form.comps form.element w.typed w.labels_rise
    (λ t m. m) (omega arith) (λ b m. m)) (finds_own form.comps w.tags_differ))
