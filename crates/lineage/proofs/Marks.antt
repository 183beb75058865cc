-- Fields in label order, and those of the elements of traced forms.
use Rattle.std.proofs.Common.{◌≡◌, ◌≢◌, ℕ, suc, ◌+◌, ◌<◌, ◌≤◌, ◌^◌, List, [], ◌∷◌, ◌++◌, map, refl}
use Rattle.std.proofs.Common.{sym, ap, ◌∙◌, subst, Bool, true, false, cond, flat_map, length, arith}
use Rattle.std.proofs.Common.{drop, get_or, append-nil, ◌&&◌}
use Rattle.std.proofs.lemmas.Fmt.{decimal_injective}
use Rattle.std.proofs.lemmas.Slice.Eq.{bytes_eq-Decides}
use Rattle.std.specs.List.{AllByRecursion as Each}
use Rattle.std.specs.Ordering.{is_gt}
use Rattle.std.specs.Str.{bytes_eq}
use Rattle.nq_ir.proofs.Equal.{bytes_same, bytes_differ, bytes_turned}
use Rattle.nq_ir.specs.Meanings.{Tables, Env, body_meaning, bodies_meaning}
use Rattle.nq_ir.specs.Trees.{BodyTree, bodies_of}
use Rattle.nq_ir.specs.WellFormed.{BodyHas, BodiesHave, body_tags, bodies_tags, body_numbers}
use Rattle.nq_ir.specs.WellFormed.{bodies_numbers}
use Rattle.nq_ir.specs.declared.base.Gen.{Gen}
use Rattle.nq_model.proofs.FieldOrders.{rising_put}
use Rattle.nq_model.proofs.Orders.{sorted_mapped}
use Rattle.nq_model.specs.Meaning.{value_under}
use Rattle.nq_model.specs.NamedRows.{Label}
use Rattle.nq_model.specs.Orders.{label_cmp, put_by, by_label, AreRising}
use Rattle.nq_model.specs.Proper.{labels_of, IsOrdered, AreOrdered}
use Rattle.nq_model.specs.Types.{TypeTree, FieldTypes, field_types_of, is_plain, are_plain}
use Rattle.nq_model.specs.Typing.{put_type}
use Rattle.nq_model.specs.Values.{Nested, base, field, fields_of}
use Rattle.nq_model.specs.declared.table.Cell.TheVariants as cell
use Rattle.nq_model.specs.declared.table.TableShape.{TableShape}
use Rattle.lineage.specs.Places.{field_body}
use Rattle.lineage.specs.TraceForms.{tag_label, row_label, whole_label, row_fields, element_fields}

-- a field put among others by its label
abbrev pub put_in : {A : Type 0} → (Label × A) → List (Label × A) → List (Label × A)
put_in f fs = put_by (λ (x y : Label × _). label_cmp x.0 y.0) f fs

-- no two fields have one label
abbrev pub Differ : {A : Type 0} → List (Label × A) → Type 0
Differ [] = Unit {0}
Differ (f ∷ fs) = Each (λ (g : Label × _). f.0 ≢ g.0) fs × Differ fs

-- what stands under a label, the first if there are more
abbrev pub found : {A : Type 0} → Label → List (Label × A) → List A
found l [] = []
found l (f ∷ fs) = cond (bytes_eq l f.0) (f.1 ∷ []) (found l fs)

-- what holds of each holds of each in order
pub each_put : {A : Type 0} (P : (Label × A) → Type 0) (f : Label × A) (fs : List (Label × A)) → P f
    → Each P fs → Each P (put_in f fs)
each_put P f [] p h = (p, tt)
each_put {A} P f (g ∷ fs) p h = go (is_gt (label_cmp f.0 g.0)) (each_put P f fs p h.1)
  where
    go : (b : Bool) → Each P (put_in f fs) → Each P (cond b (g ∷ put_in f fs) (f ∷ g ∷ fs))
    go true q = (h.0, q)
    go false q = (p, h)

pub each_ordered : {A : Type 0} (P : (Label × A) → Type 0) (fs : List (Label × A)) → Each P fs
    → Each P (by_label fs)
each_ordered P [] h = tt
each_ordered P (f ∷ fs) h = each_put P f (by_label fs) h.0 (each_ordered P fs h.1)

-- what is found among fields in order
found_put : {A : Type 0} (l : Label) (f : Label × A) (fs : List (Label × A))
    → Each (λ (g : Label × A). f.0 ≢ g.0) fs
    → found l (put_in f fs) ≡ cond (bytes_eq l f.0) (f.1 ∷ []) (found l fs)
found_put l f [] d = refl
found_put {A} l f (g ∷ fs) d = go (is_gt (label_cmp f.0 g.0)) (found_put l f fs d.1)
  where
    both : (s t : Bool) → bytes_eq l f.0 ≡ s → bytes_eq l g.0 ≡ t
        → cond t (g.1 ∷ []) (cond s (f.1 ∷ []) (found l fs))
        ≡ cond s (f.1 ∷ []) (cond t (g.1 ∷ []) (found l fs))
    both true true e h = absurd (d.0 (sym ((bytes_eq-Decides l f.0).0 e)
        ∙ (bytes_eq-Decides l g.0).0 h))
    both true false e h = refl
    both false true e h = refl
    both false false e h = refl

    go : (b : Bool) → found l (put_in f fs) ≡ cond (bytes_eq l f.0) (f.1 ∷ []) (found l fs)
        → found l (cond b (g ∷ put_in f fs) (f ∷ g ∷ fs))
        ≡ cond (bytes_eq l f.0) (f.1 ∷ []) (cond (bytes_eq l g.0) (g.1 ∷ []) (found l fs))
    go true e = ap (λ (x : List A). cond (bytes_eq l g.0) (g.1 ∷ []) x) e
        ∙ both (bytes_eq l f.0) (bytes_eq l g.0) refl refl
    go false e = refl

pub found_ordered : {A : Type 0} (l : Label) (fs : List (Label × A)) → Differ fs
    → found l (by_label fs) ≡ found l fs
found_ordered l [] d = refl
found_ordered {A} l (f ∷ fs) d =
    found_put l f (by_label fs) (each_ordered (λ (g : Label × A). f.0 ≢ g.0) fs d.0)
    ∙ ap (λ (x : List A). cond (bytes_eq l f.0) (f.1 ∷ []) x) (found_ordered l fs d.1)

-- what is found in a body's fields, and in a value's
pub body_found : (l : Label) (fs : List (Label × BodyTree)) → field_body l (bodies_of fs)
    ≡ found l fs
body_found l [] = refl
body_found l (f ∷ fs) =
    ap (λ (x : List BodyTree). cond (bytes_eq l f.0) (f.1 ∷ []) x) (body_found l fs)

abbrev pub or_false : List Nested → Nested
or_false [] = base (cell.Bool false)
or_false (v ∷ vs) = v

pub value_found : (l : Label) (fs : List (Label × Nested))
    → value_under l (fields_of fs) ≡ or_false (found l fs)
value_found l [] = refl
value_found l (f ∷ fs) =
    ap (λ b. cond b f.1 (value_under l (fields_of fs))) (bytes_turned f.0 l)
    ∙ ap (λ v. cond (bytes_eq l f.0) f.1 v) (value_found l fs)
    ∙ go (bytes_eq l f.0)
  where
    go : (b : Bool) → cond b f.1 (or_false (found l fs)) ≡ or_false (cond b (f.1 ∷ []) (found l fs))
    go true = refl
    go false = refl

-- the labels of types in order rise
put_listed : (f : Label × TypeTree) (fs : List (Label × TypeTree))
    → field_types_of (put_in f fs) ≡ put_type f.0 f.1 (field_types_of fs)
put_listed f [] = refl
put_listed f (g ∷ fs) = go (is_gt (label_cmp f.0 g.0)) (put_listed f fs)
  where
    go : (b : Bool) → field_types_of (put_in f fs) ≡ put_type f.0 f.1 (field_types_of fs)
        → field_types_of (cond b (g ∷ put_in f fs) (f ∷ g ∷ fs))
        ≡ cond b (FieldTypes.field g.0 g.1 (put_type f.0 f.1 (field_types_of fs)))
        (FieldTypes.field f.0 f.1 (FieldTypes.field g.0 g.1 (field_types_of fs)))
    go true e = ap (FieldTypes.field g.0 g.1) e
    go false e = refl

labels_differ : (l : Label) (fs : List (Label × TypeTree))
    → Each (λ (g : Label × TypeTree). l ≢ g.0) fs
    → Each (λ m. l ≢ m) (labels_of (field_types_of fs))
labels_differ l [] h = tt
labels_differ l (f ∷ fs) h = (h.0, labels_differ l fs h.1)

pub labels_rise : (fs : List (Label × TypeTree)) → Differ fs
    → AreRising (labels_of (field_types_of (by_label fs)))
labels_rise [] d = tt
labels_rise (f ∷ fs) d =
    subst (λ (z : FieldTypes). AreRising (labels_of z)) (sym (put_listed f (by_label fs)))
    (rising_put f.0 f.1 (field_types_of (by_label fs)) (labels_differ f.0 (by_label fs)
    (each_ordered (λ (g : Label × TypeTree). f.0 ≢ g.0) fs d.0)) (labels_rise fs d.1))

pub types_plain : (fs : List (Label × TypeTree))
    → Each (λ (f : Label × TypeTree). is_plain f.1 ≡ true) fs
    → are_plain (field_types_of fs) ≡ true
types_plain [] h = refl
types_plain (f ∷ fs) h =
    ap (λ b. b && are_plain (field_types_of fs)) h.0 ∙ types_plain fs h.1

pub types_ordered : (fs : List (Label × TypeTree))
    → Each (λ (f : Label × TypeTree). IsOrdered f.1) fs
    → AreOrdered (field_types_of fs)
types_ordered [] h = tt
types_ordered (f ∷ fs) h = (h.0, types_ordered fs h.1)

-- bodies and their types, label by label
pub bodies_have : (S : List TableShape) (sc : List Gen) (zs : List (Label × (BodyTree × TypeTree)))
    → Each (λ (z : Label × (BodyTree × TypeTree)). BodyHas S sc z.1.0 z.1.1) zs
    → BodiesHave S sc (bodies_of (map (λ z. (z.0, z.1.0)) zs))
    (field_types_of (map (λ z. (z.0, z.1.1)) zs))
bodies_have S sc [] h = tt
bodies_have S sc (z ∷ zs) h = (refl, h.0, bodies_have S sc zs h.1)

-- parts that add nothing may stand anywhere
flat_put : {A X : Type 0} (t : A → List X) (f : Label × A) (fs : List (Label × A)) → t f.1 ≡ []
    → flat_map (λ (g : Label × A). t g.1) (put_in f fs) ≡ flat_map (λ (g : Label × A). t g.1) fs
flat_put t f [] e = append-nil (t f.1) ∙ e
flat_put {A} {X} t f (g ∷ fs) e = go (is_gt (label_cmp f.0 g.0)) (flat_put t f fs e)
  where
    go : (b : Bool) → flat_map (λ (h : Label × A). t h.1) (put_in f fs)
        ≡ flat_map (λ (h : Label × A). t h.1) fs
        → flat_map (λ (h : Label × A). t h.1) (cond b (g ∷ put_in f fs) (f ∷ g ∷ fs))
        ≡ t g.1 ++ flat_map (λ (h : Label × A). t h.1) fs
    go true k = ap (λ (l : List X). t g.1 ++ l) k
    go false k = ap (λ (l : List X). l ++ (t g.1 ++ flat_map (λ (h : Label × A). t h.1) fs)) e

rows_flat : {A X : Type 0} (t : A → List X) (k : ℕ) (rs : List A) (v : A) → Each (λ r. t r ≡ []) rs
    → flat_map (λ (g : Label × A). t g.1) (by_label (row_fields k rs ((whole_label, v) ∷ []))) ≡ t v
rows_flat t k [] v h = append-nil (t v)
rows_flat t k (r ∷ rs) v h =
    flat_put t (row_label k, r) (by_label (row_fields (suc k) rs ((whole_label, v) ∷ []))) h.0
    ∙ rows_flat t (suc k) rs v h.1

pub element_flat : {A X : Type 0} (t : A → List X) (tag : A) (rs : List A) (v : A) → t tag ≡ []
    → Each (λ r. t r ≡ []) rs
    → flat_map (λ (g : Label × A). t g.1) (element_fields tag rs v) ≡ t v
element_flat t tag rs v e h =
    flat_put t (tag_label, tag) (by_label (row_fields 1 rs ((whole_label, v) ∷ []))) e
    ∙ rows_flat t 1 rs v h

pub tags_flat : (fs : List (Label × BodyTree))
    → bodies_tags (bodies_of fs) ≡ flat_map (λ (f : Label × BodyTree). body_tags f.1) fs
tags_flat [] = refl
tags_flat (f ∷ fs) = ap (λ (l : List ℕ). body_tags f.1 ++ l) (tags_flat fs)

pub numbers_flat : (fs : List (Label × BodyTree))
    → bodies_numbers (bodies_of fs) ≡ flat_map (λ (f : Label × BodyTree). body_numbers f.1) fs
numbers_flat [] = refl
numbers_flat (f ∷ fs) = ap (λ (l : List ℕ). body_numbers f.1 ++ l) (numbers_flat fs)

-- an element's fields, each by a function
rows_mapped : {A B : Type 0} (h : A → B) (k : ℕ) (rs : List A) (v : A)
    → map (λ (f : Label × A). (f.0, h f.1)) (row_fields k rs ((whole_label, v) ∷ []))
    ≡ row_fields k (map h rs) ((whole_label, h v) ∷ [])
rows_mapped h k [] v = refl
rows_mapped {A} {B} h k (r ∷ rs) v =
    ap (λ (l : List (Label × B)). (row_label k, h r) ∷ l) (rows_mapped h (suc k) rs v)

pub element_mapped : {A B : Type 0} (h : A → B) (tag : A) (rs : List A) (v : A)
    → map (λ (f : Label × A). (f.0, h f.1)) (element_fields tag rs v)
    ≡ element_fields (h tag) (map h rs) (h v)
element_mapped {A} {B} h tag rs v =
    sym (sorted_mapped (λ (f : Label × A). (f.0, h f.1)) (λ f g. label_cmp f.0 g.0)
    (λ f g. label_cmp f.0 g.0) (λ f g. refl)
    ((tag_label, tag) ∷ row_fields 1 rs ((whole_label, v) ∷ [])))
    ∙ ap (λ (l : List (Label × B)). by_label ((tag_label, h tag) ∷ l)) (rows_mapped h 1 rs v)

-- the labels of an element differ
first_byte : (a b : Label) → (get_or a 0 0 ≡ get_or b 0 0 → ⊥) → a ≢ b
first_byte a b h e = h (ap (λ (l : Label). get_or l 0 0) e)

row_not_row : (j k : ℕ) → j < k → k < 2 ^ 64 → row_label j ≢ row_label k
row_not_row j k l b e =
    let h : j ≡ k = decimal_injective j k (omega arith) b (ap (λ (x : Label). drop 1 x) e) in
    absurd (omega arith)

rows_past : {A : Type 0} (j k : ℕ) (rs : List A) (v : A) → j < k → k + length rs ≤ 2 ^ 64
    → Each (λ (g : Label × A). row_label j ≢ g.0) (row_fields k rs ((whole_label, v) ∷ []))
rows_past j k [] v l b = (first_byte (row_label j) whole_label (λ e. absurd (omega (arith, e))), tt)
rows_past j k (r ∷ rs) v l b =
    (row_not_row j k l (omega arith), rows_past j (suc k) rs v (omega arith) (omega arith))

rows_differ : {A : Type 0} (k : ℕ) (rs : List A) (v : A) → k + length rs ≤ 2 ^ 64
    → Differ (row_fields k rs ((whole_label, v) ∷ []))
rows_differ k [] v b = (tt, tt)
rows_differ k (r ∷ rs) v b =
    (rows_past k (suc k) rs v (omega arith) (omega arith), rows_differ (suc k) rs v (omega arith))

tag_apart : {A : Type 0} (k : ℕ) (rs : List A) (v : A)
    → Each (λ (g : Label × A). tag_label ≢ g.0) (row_fields k rs ((whole_label, v) ∷ []))
tag_apart k [] v = (first_byte tag_label whole_label (λ e. absurd (omega (arith, e))), tt)
tag_apart k (r ∷ rs) v =
    (first_byte tag_label (row_label k) (λ e. absurd (omega (arith, e))), tag_apart (suc k) rs v)

pub element_differs : {A : Type 0} (tag : A) (rs : List A) (v : A) → length rs < 2 ^ 64
    → Differ ((tag_label, tag) ∷ row_fields 1 rs ((whole_label, v) ∷ []))
element_differs tag rs v b = (tag_apart 1 rs v, rows_differ 1 rs v (omega arith))

-- what is found in an element
whole_in_rows : {A : Type 0} (k : ℕ) (rs : List A) (v : A)
    → found whole_label (row_fields k rs ((whole_label, v) ∷ [])) ≡ v ∷ []
whole_in_rows k [] v = refl
whole_in_rows k (r ∷ rs) v = whole_in_rows (suc k) rs v

pub whole_found : {A : Type 0} (tag : A) (rs : List A) (v : A) → length rs < 2 ^ 64
    → found whole_label (element_fields tag rs v) ≡ v ∷ []
whole_found tag rs v b =
    found_ordered whole_label ((tag_label, tag) ∷ row_fields 1 rs ((whole_label, v) ∷ []))
    (element_differs tag rs v b) ∙ whole_in_rows 1 rs v

pub tag_found : {A : Type 0} (tag : A) (rs : List A) (v : A) → length rs < 2 ^ 64
    → found tag_label (element_fields tag rs v) ≡ tag ∷ []
tag_found tag rs v b =
    found_ordered tag_label ((tag_label, tag) ∷ row_fields 1 rs ((whole_label, v) ∷ []))
    (element_differs tag rs v b)

-- each number, found from the k-th on
abbrev pub RowsFound : {A : Type 0} → ℕ → List A → List (Label × A) → Type 0
RowsFound k [] fs = Unit {0}
RowsFound k (r ∷ rs) fs = (found (row_label k) fs ≡ r ∷ []) × RowsFound (suc k) rs fs

rows_in_rows : {A : Type 0} (k : ℕ) (rs : List A) (v : A) → k + length rs ≤ 2 ^ 64
    → RowsFound k rs (row_fields k rs ((whole_label, v) ∷ []))
rows_in_rows k [] v b = tt
rows_in_rows {A} k (r ∷ rs) v b =
    let rest : List (Label × A) = row_fields (suc k) rs ((whole_label, v) ∷ []) in (
      ap (λ t. cond t (r ∷ []) (found (row_label k) rest))
          (bytes_same (row_label k) (row_label k) refl),
      over rest (suc k) rs (omega arith) (omega arith) (rows_in_rows (suc k) rs v (omega arith)),
    )
  where
    over : (rest : List (Label × A)) (j : ℕ) (ss : List A) → k < j → j + length ss ≤ 2 ^ 64
        → RowsFound j ss rest → RowsFound j ss ((row_label k, r) ∷ rest)
    over rest j [] l c h = tt
    over rest j (s ∷ ss) l c h = (
      ap (λ t. cond t (r ∷ []) (found (row_label j) rest)) (bytes_differ (row_label j) (row_label k)
          (λ e. row_not_row k j l (omega arith) (sym e))) ∙ h.0,
      over rest (suc j) ss (omega arith) (omega arith) h.1,
    )

pub rows_found : {A : Type 0} (tag : A) (rs : List A) (v : A) → length rs < 2 ^ 64
    → RowsFound 1 rs (element_fields tag rs v)
rows_found {A} tag rs v b = go 1 rs (rows_in_rows 1 rs v (omega arith))
  where
    go : (k : ℕ) (ss : List A) → RowsFound k ss (row_fields 1 rs ((whole_label, v) ∷ []))
        → RowsFound k ss (element_fields tag rs v)
    go k [] h = tt
    go k (s ∷ ss) h = (
      found_ordered (row_label k) ((tag_label, tag) ∷ row_fields 1 rs ((whole_label, v) ∷ []))
          (element_differs tag rs v b) ∙ h.0,
      go (suc k) ss h.1,
    )

-- the meaning of bodies under labels
pub bodies_mean : (ts : Tables) (fs : List (Label × BodyTree)) (env : Env)
    → bodies_meaning ts (bodies_of fs) env
    ≡ fields_of (map (λ (f : Label × BodyTree). (f.0, body_meaning ts f.1 env)) fs)
bodies_mean ts [] env = refl
bodies_mean ts (f ∷ fs) env = ap (field f.0 (body_meaning ts f.1 env)) (bodies_mean ts fs env)
