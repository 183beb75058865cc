-- Values that are the same are decoded to traced values that are.
use Rattle.std.proofs.Common.{◌≡◌, ℕ, suc, List, [], ◌∷◌, map, refl, sym, ap, ap₂, ◌∙◌, subst, Bool}
use Rattle.std.proofs.Common.{true, false, cond}
use Rattle.std.specs.Str.{bytes_eq}
use Rattle.nq_ir.specs.Trees.{BodyTree, FormTree}
use Rattle.nq_model.proofs.Sameness.{same_refl, elements_back, elements_of_back, matched_same}
use Rattle.nq_model.proofs.Sameness.{same_matched}
use Rattle.nq_model.specs.Bags.{Pick, here, there, Matched}
use Rattle.nq_model.specs.Meaning.{cell_of, elements_in, value_under}
use Rattle.nq_model.specs.NamedRows.{Label}
use Rattle.nq_model.specs.Operators.{int_of}
use Rattle.nq_model.specs.Values.{Nested, base, rec, bag, Fields, none, field, Elements, end, more}
use Rattle.nq_model.specs.Values.{elements, elements_of, Same, SameFields, SameElements}
use Rattle.nq_model.specs.declared.table.Cell.TheVariants as cell
use Rattle.traced_meaning.specs.TracedValues.{RowName, element_of, rows_value}
use Rattle.lineage.specs.Decoding.{number_under, rows_under, tables_at, element_rows, decoded}
use Rattle.lineage.specs.Decoding.{decoded_fields, decoded_elements, decoded_element, decoded_whole}
use Rattle.lineage.specs.Decoding.{form_decoded}
use Rattle.lineage.specs.ListedTables.{ByTag}
use Rattle.lineage.specs.Places.{inside, under, tags_in, own_tags, own_bodies}
use Rattle.lineage.specs.TraceForms.{tag_label, row_label, whole_label}

-- the cells of the same values
cells_same : (v w : Nested) → Same v w → cell_of v ≡ cell_of w
cells_same (base c) (base d) s = s
cells_same (rec fs) (rec gs) s = refl
cells_same (bag vs) (bag ws) s = refl
cells_same v w s = absurd s

fields_under : (l : Label) (fs gs : Fields) → SameFields fs gs
    → Same (value_under l fs) (value_under l gs)
fields_under l none none s = refl
fields_under l (field k v fs) (field m w gs) s =
    subst (λ (x : Label). Same (cond (bytes_eq k l) v (value_under l fs))
    (cond (bytes_eq x l) w (value_under l gs))) s.0
    (go (bytes_eq k l) (fields_under l fs gs s.2))
  where
    go : (b : Bool) → Same (value_under l fs) (value_under l gs)
        → Same (cond b v (value_under l fs)) (cond b w (value_under l gs))
    go true e = s.1
    go false e = e
fields_under l fs gs s = absurd s

numbers_same : (l : Label) (v w : Nested) → Same v w → number_under l v ≡ number_under l w
numbers_same l (base c) (base d) s = refl
numbers_same l (rec fs) (rec gs) s =
    ap int_of (cells_same (value_under l fs) (value_under l gs) (fields_under l fs gs s))
numbers_same l (bag vs) (bag ws) s = refl
numbers_same l v w s = absurd s

rows_same : (k : ℕ) (tables : List Label) (v w : Nested) → Same v w
    → rows_under k tables v ≡ rows_under k tables w
rows_same k [] v w s = refl
rows_same k (t ∷ tables) v w s =
    ap₂ (λ n (l : List RowName). (t, n) ∷ l) (numbers_same (row_label k) v w s)
    (rows_same (suc k) tables v w s)

names_same : (es : ByTag) (ts : List ℕ) (v w : Nested) → Same v w
    → element_rows es ts v ≡ element_rows es ts w
names_same es ts v w s =
    ap (λ n. rows_under 1 (tables_at es ts n) v) (numbers_same tag_label v w s)
    ∙ rows_same 1 (tables_at es ts (number_under tag_label w)) v w s

element_same : (v w : Nested) (ns ms : List RowName) → Same v w → ns ≡ ms
    → Same (element_of v (rows_value ns)) (element_of w (rows_value ms))
element_same v w ns ms s e =
    subst (λ (l : List RowName). Same (element_of v (rows_value ns)) (element_of w (rows_value l)))
    e
    (refl, s, (refl, same_refl (rows_value ns), tt))

pick_mapped : {A B : Type 0} (f : A → B) {y : A} {ys rest : List A} → Pick y ys rest
    → Pick (f y) (map f ys) (map f rest)
pick_mapped f here = here
pick_mapped f (there p) = there (pick_mapped f p)

pub elements_decoded : (es : ByTag) (ts : List ℕ) (hs : List BodyTree) (vs : Elements)
    → elements (decoded_elements es ts hs vs) ≡ map (decoded_element es ts hs) (elements vs)
elements_decoded es ts hs end = refl
elements_decoded es ts hs (more v vs) =
    ap (λ (l : List Nested). decoded_element es ts hs v ∷ l) (elements_decoded es ts hs vs)

module _ (es : ByTag) where
  mutual
    decoded_same : (hs : List BodyTree) (v w : Nested) → Same v w
        → Same (decoded es hs v) (decoded es hs w)
    decoded_same hs (base c) (base d) s = s
    decoded_same hs (rec fs) (rec gs) s = fields_same hs fs gs s
    decoded_same hs (bag vs) (bag ws) s =
        let ts = tags_in hs in
        let inner = under whole_label (inside hs) in
        subst (λ (l : List Nested). SameElements (decoded_elements es ts inner vs) l)
        (sym (elements_decoded es ts inner ws)) (elements_same ts inner vs (elements ws) s)
    decoded_same hs v w s = absurd s

    fields_same : (hs : List BodyTree) (fs gs : Fields) → SameFields fs gs
        → SameFields (decoded_fields es hs fs) (decoded_fields es hs gs)
    fields_same hs none none s = tt
    fields_same hs (field l v fs) (field m w gs) s = (
      s.0,
      subst (λ (x : Label). Same (decoded es (under l hs) v) (decoded es (under x hs) w)) s.0
          (decoded_same (under l hs) v w s.1),
      fields_same hs fs gs s.2,
    )
    fields_same hs fs gs s = absurd s

    pub elements_same : (ts : List ℕ) (hs : List BodyTree) (vs : Elements) (ws : List Nested)
        → SameElements vs ws
        → SameElements (decoded_elements es ts hs vs) (map (decoded_element es ts hs) ws)
    elements_same ts hs end ws s = ap (map (decoded_element es ts hs)) s
    elements_same ts hs (more v vs) ws s = (
      decoded_element es ts hs s.0,
      map (decoded_element es ts hs) s.1,
      pick_mapped (decoded_element es ts hs) s.2,
      one_same ts hs v s.0 s.3,
      elements_same ts hs vs s.1 s.4,
    )

    one_same : (ts : List ℕ) (hs : List BodyTree) (v w : Nested) → Same v w
        → Same (decoded_element es ts hs v) (decoded_element es ts hs w)
    one_same ts hs (base c) (base d) s =
        element_same (base (cell.Bool false)) (base (cell.Bool false)) (element_rows es ts (base c))
        (element_rows es ts (base d)) refl (names_same es ts (base c) (base d) s)
    one_same ts hs (rec fs) (rec gs) s =
        element_same (decoded_whole es hs fs) (decoded_whole es hs gs) (element_rows es ts (rec fs))
        (element_rows es ts (rec gs)) (whole_same hs fs gs s) (names_same es ts (rec fs) (rec gs) s)
    one_same ts hs (bag vs) (bag ws) s =
        element_same (base (cell.Bool false)) (base (cell.Bool false)) (element_rows es ts (bag vs))
        (element_rows es ts (bag ws)) refl (names_same es ts (bag vs) (bag ws) s)
    one_same ts hs v w s = absurd s

    whole_same : (hs : List BodyTree) (fs gs : Fields) → SameFields fs gs
        → Same (decoded_whole es hs fs) (decoded_whole es hs gs)
    whole_same hs none none s = refl
    whole_same hs (field l v fs) (field m w gs) s =
        subst (λ (x : Label). Same
        (cond (bytes_eq l whole_label) (decoded es hs v) (decoded_whole es hs fs))
        (cond (bytes_eq x whole_label) (decoded es hs w) (decoded_whole es hs gs))) s.0
        (go (bytes_eq l whole_label) (decoded_same hs v w s.1) (whole_same hs fs gs s.2))
      where
        go : (b : Bool) → Same (decoded es hs v) (decoded es hs w)
            → Same (decoded_whole es hs fs) (decoded_whole es hs gs)
            → Same (cond b (decoded es hs v) (decoded_whole es hs fs))
            (cond b (decoded es hs w) (decoded_whole es hs gs))
        go true p q = p
        go false p q = q
    whole_same hs fs gs s = absurd s

-- the elements of the same bags
elements_in_same : (v : Nested) (ws : List Nested) → Same v (bag (elements_of ws))
    → SameElements (elements_of (elements_in v)) ws
elements_in_same (base c) ws s = absurd s
elements_in_same (rec fs) ws s = absurd s
elements_in_same (bag vs) ws s =
    same_matched (elements_of (elements vs)) ws
    (subst (λ (l : List Nested). Matched Same l ws) (sym (elements_back (elements vs)))
    (subst (λ (l : List Nested). Matched Same (elements vs) l) (elements_back ws)
    (matched_same vs (elements (elements_of ws)) s)))

pub form_same : (es : ByTag) (form : FormTree) (v : Nested) (ws : List Nested)
    → Same v (bag (elements_of ws))
    → Same (form_decoded es form v) (form_decoded es form (bag (elements_of ws)))
form_same es form v ws s =
    let ts = own_tags form.comps in
    let hs = under whole_label (own_bodies form.comps) in
    subst (λ (l : List Nested). SameElements
    (decoded_elements es ts hs (elements_of (elements_in v))) l)
    (sym (elements_decoded es ts hs (elements_of (elements (elements_of ws)))
    ∙ ap (map (decoded_element es ts hs)) (elements_back (elements (elements_of ws))
    ∙ elements_back ws)))
    (elements_same es ts hs (elements_of (elements_in v)) ws (elements_in_same v ws s))

-- of any two values
pub forms_same : (es : ByTag) (form : FormTree) (v w : Nested) → Same v w
    → Same (form_decoded es form v) (form_decoded es form w)
forms_same es form (base c) (base d) s = refl
forms_same es form (rec fs) (rec gs) s = refl
forms_same es form (bag vs) (bag ws) s =
    subst (λ (x : Elements). Same (bag vs) (bag x)
    → Same (form_decoded es form (bag vs)) (form_decoded es form (bag x))) (elements_of_back ws)
    (form_same es form (bag vs) (elements ws)) s
forms_same es form v w s = absurd s
