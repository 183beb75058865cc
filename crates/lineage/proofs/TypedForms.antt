-- The traced form of a well-formed form is well formed over the schema with numbers.
use Rattle.std.proofs.Common.{◌≡◌, ℕ, zero, suc, pos, ◌<◌, ◌^◌, List, [], ◌∷◌, ◌++◌, map, refl, sym}
use Rattle.std.proofs.Common.{ap, ap₂, ◌∙◌, subst, subst₂, Bool, true, false, length, arith, Some}
use Rattle.std.proofs.Common.{◌&&◌}
use Rattle.std.specs.List.{AllByRecursion as Each}
use Rattle.nq_ir.proofs.Distinct.{each_left, each_right, each_join}
use Rattle.nq_ir.specs.Trees.{literal, column, BodyTree, plain_body, rec_body, bag_body, Bodies}
use Rattle.nq_ir.specs.Trees.{no_body, with_body, bodies_of, Comps, no_comp, comp, FormTree}
use Rattle.nq_ir.specs.WellFormed.{AreTables, gen_columns, column_type_in, BodyHas, BodiesHave}
use Rattle.nq_ir.specs.WellFormed.{CompsHave, IsNumber, IsWellFormed, comps_tags, body_tags}
use Rattle.nq_ir.specs.WellFormed.{bodies_tags, numbers, conds_numbers, comps_numbers, body_numbers}
use Rattle.nq_ir.specs.WellFormed.{bodies_numbers}
use Rattle.nq_ir.specs.declared.base.Gen.{Gen}
use Rattle.nq_model.specs.NamedRows.{Label}
use Rattle.nq_model.specs.Orders.{AreDistinct, AreRising}
use Rattle.nq_model.specs.Proper.{labels_of, IsOrdered, AreOrdered}
use Rattle.nq_model.specs.Types.{TypeTree, int, bool, text, rec, bag, fun, FieldTypes, none, field}
use Rattle.nq_model.specs.Types.{field_types_of, is_plain, are_plain}
use Rattle.nq_model.specs.declared.table.Cell.TheVariants as cell
use Rattle.nq_model.specs.declared.table.ColumnType.TheVariants as column_type
use Rattle.nq_model.specs.declared.table.TableShape.{TableShape}
use Rattle.traced_meaning.specs.NumberedTables.{number_column}
use Rattle.lineage.proofs.Covers.{Narrow, form_narrow, width_narrow, inside_narrow, under_narrow}
use Rattle.lineage.proofs.Covers.{most_narrow, bodies_narrow}
use Rattle.lineage.proofs.Marks.{each_ordered, labels_rise, types_plain, types_ordered, bodies_have}
use Rattle.lineage.proofs.Marks.{element_flat, tags_flat, numbers_flat, element_mapped}
use Rattle.lineage.proofs.Marks.{element_differs}
use Rattle.lineage.proofs.NumberedTypes.{HaveNoNumber, numbered, tables_more, base_more, conds_more}
use Rattle.lineage.proofs.NumberedTypes.{own_numbers}
use Rattle.lineage.specs.Places.{inside, under, width, own_bodies, most_gens}
use Rattle.lineage.specs.TraceForms.{tag_label, whole_label, row_fields, element_fields, ints}
use Rattle.lineage.specs.TraceForms.{with_numbers, type_traced, types_traced, int_body}
use Rattle.lineage.specs.TraceForms.{number_bodies, whole_body, body_traced, bodies_traced}
use Rattle.lineage.specs.TraceForms.{comps_traced, form_traced}

-- what holds of a tag, of numbers and of a value holds of the fields of their element
rows_each : {A : Type 0} (P : A → Type 0) (k : ℕ) (rs : List A) (v : A) → Each P rs → P v
    → Each (λ (f : Label × A). P f.1) (row_fields k rs ((whole_label, v) ∷ []))
rows_each P k [] v h p = (p, tt)
rows_each P k (r ∷ rs) v h p = (h.0, rows_each P (suc k) rs v h.1 p)

element_each : {A : Type 0} (P : A → Type 0) (tag : A) (rs : List A) (v : A) → P tag → Each P rs
    → P v → Each (λ (f : Label × A). P f.1) (element_fields tag rs v)
element_each P tag rs v t h p =
    each_ordered (λ (f : Label × _). P f.1) ((
      tag_label,
      tag,
    ) ∷ row_fields 1 rs ((whole_label, v) ∷ []))
    (t, rows_each P 1 rs v h p)

ints_each : (P : TypeTree → Type 0) (n : ℕ) → P int → Each P (ints n)
ints_each P zero p = tt
ints_each P (suc n) p = (p, ints_each P n p)

ints_length : (n : ℕ) → length (ints n) ≡ n
ints_length zero = refl
ints_length (suc n) = ap suc (ints_length n)

-- types
with_plain : (n : ℕ) (a : TypeTree) → is_plain a ≡ true → is_plain (with_numbers n a) ≡ true
with_plain n a h =
    types_plain (element_fields int (ints n) a) (element_each (λ (x : TypeTree). is_plain x
    ≡ true) int
    (ints n) a refl (ints_each (λ (x : TypeTree). is_plain x ≡ true) n refl) h)

with_ordered : (n : ℕ) (a : TypeTree) → n < 2 ^ 64 → IsOrdered a → IsOrdered (with_numbers n a)
with_ordered n a b h =
    let few : length (ints n) < 2 ^ 64 = subst (λ k. k < 2 ^ 64) (sym (ints_length n)) b in (
      labels_rise ((tag_label, int) ∷ row_fields 1 (ints n) ((whole_label, a) ∷ []))
          (element_differs int (ints n) a few),
      types_ordered (element_fields int (ints n) a)
          (element_each IsOrdered int (ints n) a tt (ints_each IsOrdered n tt) h),
    )

both_true : (a b : Bool) → (a && b) ≡ true → (a ≡ true) × (b ≡ true)
both_true true b h = (refl, h)
both_true false b h = absurd (cc)

mutual
  type_plain : (here : List BodyTree) (a : TypeTree) → is_plain a ≡ true
      → is_plain (type_traced here a) ≡ true
  type_plain here int h = refl
  type_plain here bool h = refl
  type_plain here text h = refl
  type_plain here (rec fs) h = fields_plain here fs h
  type_plain here (bag a) h = with_plain (width here) (type_traced (inside here) a)
      (type_plain (inside here) a h)
  type_plain here (fun a b) h = h

  fields_plain : (here : List BodyTree) (fs : FieldTypes) → are_plain fs ≡ true
      → are_plain (types_traced here fs) ≡ true
  fields_plain here none h = refl
  fields_plain here (field l a fs) h =
      let p = both_true (is_plain a) (are_plain fs) h in
      ap (λ b. b && are_plain (types_traced here fs)) (type_plain (under l here) a p.0)
      ∙ fields_plain here fs p.1

labels_same : (here : List BodyTree) (fs : FieldTypes) → labels_of (types_traced here fs)
    ≡ labels_of fs
labels_same here none = refl
labels_same here (field l a fs) = ap (λ (ls : List Label). l ∷ ls) (labels_same here fs)

mutual
  type_ordered : (here : List BodyTree) (a : TypeTree) → Each Narrow here → IsOrdered a
      → IsOrdered (type_traced here a)
  type_ordered here int n h = tt
  type_ordered here bool n h = tt
  type_ordered here text n h = tt
  type_ordered here (rec fs) n h = (
    subst (λ (ls : List Label). AreRising ls) (sym (labels_same here fs)) h.0,
    fields_ordered here fs n h.1,
  )
  type_ordered here (bag a) n h = with_ordered (width here) (type_traced (inside here) a)
      (width_narrow here n) (type_ordered (inside here) a (inside_narrow here n) h)
  type_ordered here (fun a b) n h = h

  fields_ordered : (here : List BodyTree) (fs : FieldTypes) → Each Narrow here → AreOrdered fs
      → AreOrdered (types_traced here fs)
  fields_ordered here none n h = tt
  fields_ordered here (field l a fs) n h =
      (type_ordered (under l here) a (under_narrow l here n) h.0, fields_ordered here fs n h.1)

-- tags and numbers stay
numbers_none : {X : Type 0} (t : BodyTree → List X) → ((b : _) → t (plain_body b) ≡ []) → (n : ℕ)
    (gens : List Gen) → Each (λ b. t b ≡ []) (number_bodies n gens)
numbers_none t e zero gens = tt
numbers_none t e (suc n) [] = (e (literal (cell.Int (pos 0))), numbers_none t e n [])
numbers_none t e (suc n) (g ∷ gens) = (e (column g.number number_column), numbers_none t e n gens)

whole_tags : (n t : ℕ) (gens : List Gen) (b : BodyTree) → body_tags (whole_body n t gens b)
    ≡ body_tags b
whole_tags n t gens b =
    tags_flat (element_fields (int_body t) (number_bodies n gens) b)
    ∙ element_flat body_tags (int_body t) (number_bodies n gens) b refl
    (numbers_none body_tags (λ x. refl) n gens)

mutual
  tags_body : (here : List BodyTree) (b : BodyTree) → body_tags (body_traced here b) ≡ body_tags b
  tags_body here (plain_body b) = refl
  tags_body here (rec_body fs) = tags_fields here fs
  tags_body here (bag_body e cs) = tags_comps (width here) (inside here) cs

  tags_fields : (here : List BodyTree) (fs : Bodies) → bodies_tags (bodies_traced here fs)
      ≡ bodies_tags fs
  tags_fields here no_body = refl
  tags_fields here (with_body l b fs) =
      ap₂ (λ (x y : List ℕ). x ++ y) (tags_body (under l here) b) (tags_fields here fs)

  tags_comps : (n : ℕ) (here : List BodyTree) (cs : Comps) → comps_tags (comps_traced n here cs)
      ≡ comps_tags cs
  tags_comps n here no_comp = refl
  tags_comps n here (comp t gens conds b cs) =
      ap₂ (λ (x y : List ℕ). t ∷ (x ++ y)) (whole_tags n t gens (body_traced here b)
      ∙ tags_body here b)
      (tags_comps n here cs)

plain_numbers : (n : ℕ) (gens : List Gen) → Each (λ b. body_numbers b ≡ []) (number_bodies n gens)
plain_numbers zero gens = tt
plain_numbers (suc n) [] = (refl, plain_numbers n [])
plain_numbers (suc n) (g ∷ gens) = (refl, plain_numbers n gens)

whole_numbers : (n t : ℕ) (gens : List Gen) (b : BodyTree)
    → body_numbers (whole_body n t gens b) ≡ body_numbers b
whole_numbers n t gens b =
    numbers_flat (element_fields (int_body t) (number_bodies n gens) b)
    ∙ element_flat body_numbers (int_body t) (number_bodies n gens) b refl (plain_numbers n gens)

mutual
  numbers_body : (here : List BodyTree) (b : BodyTree) → body_numbers (body_traced here b)
      ≡ body_numbers b
  numbers_body here (plain_body b) = refl
  numbers_body here (rec_body fs) = numbers_fields here fs
  numbers_body here (bag_body e cs) = numbers_comps (width here) (inside here) cs

  numbers_fields : (here : List BodyTree) (fs : Bodies)
      → bodies_numbers (bodies_traced here fs) ≡ bodies_numbers fs
  numbers_fields here no_body = refl
  numbers_fields here (with_body l b fs) =
      ap₂ (λ (x y : List ℕ). x ++ y) (numbers_body (under l here) b) (numbers_fields here fs)

  numbers_comps : (n : ℕ) (here : List BodyTree) (cs : Comps)
      → comps_numbers (comps_traced n here cs) ≡ comps_numbers cs
  numbers_comps n here no_comp = refl
  numbers_comps n here (comp t gens conds b cs) =
      ap₂ (λ (x y : List ℕ). numbers gens ++ (conds_numbers conds ++ (x ++ y)))
      (whole_numbers n t gens (body_traced here b) ∙ numbers_body here b) (numbers_comps n here cs)

-- the parts of an element have their types
module _ (S : List TableShape) (none_named : Each (λ (s : TableShape). HaveNoNumber s.columns) S)
  where
    number_pairs : (sc gens : List Gen) (n : ℕ)
        → Each (λ (g : Gen). column_type_in number_column (gen_columns (numbered S) sc g.number)
        ≡ Some column_type.Int) gens
        → Each (λ (z : BodyTree × TypeTree). BodyHas (numbered S) sc z.0 z.1)
        (map (λ b. (b, int)) (number_bodies n gens))
    number_pairs sc gens zero h = tt
    number_pairs sc [] (suc n) h =
        ((refl, record { digits = 0; value = refl; small = omega arith }), number_pairs sc [] n tt)
    number_pairs sc (g ∷ gens) (suc n) h = (h.0, number_pairs sc gens n h.1)

    types_of_pairs : (gens : List Gen) (n : ℕ)
        → map (λ (z : BodyTree × TypeTree). z.1) (map (λ b. (b, int)) (number_bodies n gens))
        ≡ ints n
    types_of_pairs gens zero = refl
    types_of_pairs [] (suc n) = ap (λ (l : List TypeTree). int ∷ l) (types_of_pairs [] n)
    types_of_pairs (g ∷ gens) (suc n) = ap (λ (l : List TypeTree). int ∷ l) (types_of_pairs gens n)

    bodies_of_pairs : (bs : List BodyTree)
        → map (λ (z : BodyTree × TypeTree). z.0) (map (λ b. (b, int)) bs) ≡ bs
    bodies_of_pairs [] = refl
    bodies_of_pairs (b ∷ bs) = ap (λ (l : List BodyTree). b ∷ l) (bodies_of_pairs bs)

    whole_has : (sc gens : List Gen) (n t : ℕ) (b : BodyTree) (a : TypeTree) → IsNumber t
        → Each (λ (g : Gen). column_type_in number_column (gen_columns (numbered S) sc g.number)
        ≡ Some column_type.Int) gens
        → BodyHas (numbered S) sc b a
        → BodyHas (numbered S) sc (whole_body n t gens b) (with_numbers n a)
    whole_has sc gens n t b a k h e =
        let pairs = map (λ x. (x, int)) (number_bodies n gens) in
        let tag : BodyHas (numbered S) sc (int_body t) int =
        (refl, record { digits = t; value = refl; small = k.1 }) in
        let zs : List (Label × (BodyTree × TypeTree)) =
        element_fields (int_body t, int) pairs (b, a) in
        subst₂ (λ (x : List (Label × BodyTree)) (y : List (Label × TypeTree)).
        BodiesHave (numbered S) sc (bodies_of x) (field_types_of y))
        (element_mapped (λ (z : BodyTree × TypeTree). z.0) (int_body t, int) pairs (b, a)
        ∙ ap (λ (l : List BodyTree). element_fields (int_body t) l b)
        (bodies_of_pairs (number_bodies n gens)))
        (element_mapped (λ (z : BodyTree × TypeTree). z.1) (int_body t, int) pairs (b, a)
        ∙ ap (λ (l : List TypeTree). element_fields int l a) (types_of_pairs gens n))
        (bodies_have (numbered S) sc zs (element_each
        (λ (z : BodyTree × TypeTree). BodyHas (numbered S) sc z.0 z.1) (int_body t, int) pairs (
          b,
          a,
        )
        tag (number_pairs sc gens n h) e))

    mutual
      body_has : (sc : List Gen) → AreTables S sc
          → (here : List BodyTree) (b : BodyTree) (a : TypeTree)
          → Each IsNumber (body_tags b) → BodyHas S sc b a
          → BodyHas (numbered S) sc (body_traced here b) (type_traced here a)
      body_has sc k here (plain_body b) int t h = base_more S sc b column_type.Int h
      body_has sc k here (plain_body b) bool t h = base_more S sc b column_type.Bool h
      body_has sc k here (plain_body b) text t h = base_more S sc b column_type.Text h
      body_has sc k here (plain_body b) (rec gs) t h = absurd h
      body_has sc k here (plain_body b) (bag a) t h = absurd h
      body_has sc k here (plain_body b) (fun a c) t h = absurd h
      body_has sc k here (rec_body fs) int t h = absurd h
      body_has sc k here (rec_body fs) bool t h = absurd h
      body_has sc k here (rec_body fs) text t h = absurd h
      body_has sc k here (rec_body fs) (rec gs) t h = fields_have sc k here fs gs t h
      body_has sc k here (rec_body fs) (bag a) t h = absurd h
      body_has sc k here (rec_body fs) (fun a c) t h = absurd h
      body_has sc k here (bag_body e cs) int t h = absurd h
      body_has sc k here (bag_body e cs) bool t h = absurd h
      body_has sc k here (bag_body e cs) text t h = absurd h
      body_has sc k here (bag_body e cs) (rec gs) t h = absurd h
      body_has sc k here (bag_body e cs) (bag a) t h = (
        ap (λ (x : TypeTree). with_numbers (width here) (type_traced (inside here) x)) h.0,
        comps_have sc k (width here) (inside here) cs a t h.1,
      )
      body_has sc k here (bag_body e cs) (fun a c) t h = absurd h

      fields_have : (sc : List Gen) → AreTables S sc
          → (here : List BodyTree) (fs : Bodies) (gs : FieldTypes)
          → Each IsNumber (bodies_tags fs) → BodiesHave S sc fs gs
          → BodiesHave (numbered S) sc (bodies_traced here fs) (types_traced here gs)
      fields_have sc k here no_body none t h = tt
      fields_have sc k here no_body (field l a gs) t h = absurd h
      fields_have sc k here (with_body l b fs) none t h = absurd h
      fields_have sc k here (with_body l b fs) (field m a gs) t h = (
        h.0,
        subst (λ (x : Label). BodyHas (numbered S) sc (body_traced (under l here) b)
            (type_traced (under x here) a)) h.0 (body_has sc k (under l here) b a
            (each_left IsNumber (body_tags b) (bodies_tags fs) t) h.1),
        fields_have sc k here fs gs (each_right IsNumber (body_tags b) (bodies_tags fs) t) h.2,
      )

      pub comps_have : (sc : List Gen) → AreTables S sc
          → (n : ℕ) (here : List BodyTree) (cs : Comps)
          (a : TypeTree) → Each IsNumber (comps_tags cs) → CompsHave S sc cs a
          → CompsHave (numbered S) sc (comps_traced n here cs) (with_numbers n (type_traced here a))
      comps_have sc k n here no_comp a t h = tt
      comps_have sc k n here (comp u gens conds b cs) a t h =
          let all : AreTables S (sc ++ gens) = each_join _ sc gens k h.0 in (
            tables_more S gens h.0,
            conds_more S (sc ++ gens) conds h.1,
            whole_has (sc ++ gens) gens n u (body_traced here b) (type_traced here a) t.0
                (own_numbers S none_named sc gens k h.0) (body_has (sc ++ gens) all here b a
                (each_left IsNumber (body_tags b) (comps_tags cs) t.1) h.2),
            comps_have sc k n here cs a (each_right IsNumber (body_tags b) (comps_tags cs) t.1) h.3,
          )

    pub form_well : (form : FormTree) → IsWellFormed S form
        → IsWellFormed (numbered S) (form_traced form)
    form_well form w =
        let narrow = form_narrow S form w in
        let n = most_gens form.comps in
        let here = own_bodies form.comps in
        record {
          element_plain = with_plain n (type_traced here form.element)
              (type_plain here form.element w.element_plain);
          labels_rise = with_ordered n (type_traced here form.element)
              (most_narrow form.comps narrow)
              (type_ordered here form.element (bodies_narrow form.comps narrow) w.labels_rise);
          typed = comps_have [] tt n here form.comps form.element w.tags_fit w.typed;
          tags_differ = subst (λ (l : List ℕ). AreDistinct l) (sym (tags_comps n here form.comps))
              w.tags_differ;
          tags_fit = subst (λ (l : List ℕ). Each IsNumber l) (sym (tags_comps n here form.comps))
              w.tags_fit;
          numbers_differ = subst (λ (l : List ℕ). AreDistinct l)
              (sym (numbers_comps n here form.comps)) w.numbers_differ;
          numbers_fit = subst (λ (l : List ℕ). Each IsNumber l)
              (sym (numbers_comps n here form.comps)) w.numbers_fit;
        }
