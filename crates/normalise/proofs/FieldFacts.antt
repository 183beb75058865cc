-- Fields of bodies, in label order and found by label.
use Rattle.std.proofs.Common.{◌≡◌, ℕ, zero, suc, ◌<◌, List, [], ◌∷◌, map, refl, sym, ap, ◌∙◌, Bool, true, false, cond, length, arith, Some, option_map, slice_get, slice_index_or, drop, bytes_eq}
use Rattle.std.specs.declared.cmp.Ordering.{Ordering}
use Rattle.std.specs.Ordering.{is_lt, is_gt}
use Rattle.std.specs.Cmp.{IsTotalOrder}
use Rattle.std.specs.List.Sorted.{IsSortedBy, IsStableBy}
use Rattle.nq_model.specs.NamedRows.{Label}
use Rattle.nq_model.specs.Orders.{label_cmp, by_label, put_by}
use Rattle.nq_model.specs.Tables.{Columns}
use Rattle.nq_model.specs.Terms.{TermTree, term_fields_of}
use Rattle.nq_model.specs.declared.table.TableShape.{TableShape}
use Rattle.nq_model.proofs.Canonical.{label_order}
use Rattle.nq_model.proofs.Orders.{sorted_mapped}
use Rattle.nq_model.proofs.StableSorts.{stable_sort}
use Rattle.nq_ir.specs.RawForms.{RawBody, RawFields, no_raw_field, raw_field, raw_plain, raw_rec, raw_column, put_raw, columns_body, raw_field_among, raw_field_in, raw_form, raw_fields, no_raw_body, up_body, up_fields}
use Rattle.normalise.specs.Raw.{fields_of, fields_view, moved_body, raw_fields_of}
use Rattle.normalise.specs.declared.raw.MovedBody.{MovedBody}

abbrev pub field_cmp : (Label × MovedBody) → (Label × MovedBody) → Ordering
field_cmp f g = label_cmp f.0 g.0

fields_total : IsTotalOrder field_cmp
fields_total = record {
  antisymm = λ f g. label_order.total.antisymm f.0 g.0;
  trans = λ f g h p q. label_order.total.trans f.0 g.0 h.0 p q;
  congr = λ f g h p. label_order.total.congr f.0 g.0 h.0 p;
}

-- what a stable sort by labels gives
pub labels_sorted : (xs ys : List (Label × MovedBody)) → IsStableBy (λ f g. is_lt (field_cmp f g)) xs ys → IsSortedBy (λ f g. is_lt (field_cmp f g)) ys → fields_view ys ≡ by_label (fields_view xs)
labels_sorted xs ys stable up =
    ap (map (λ (f : Label × MovedBody). (f.0, moved_body f.1))) (stable_sort field_cmp fields_total xs ys stable up)
    ∙ sym (sorted_mapped (λ (f : Label × MovedBody). (f.0, moved_body f.1)) field_cmp (λ f g. label_cmp f.0 g.0) (λ f g. refl) xs)

put_is : (l : Label) (b : RawBody) (fs : List (Label × RawBody)) → fields_of (put_by (λ f g. label_cmp f.0 g.0) (l, b) fs) ≡ put_raw l b (fields_of fs)
put_is l b [] = refl
put_is l b (f ∷ fs) = go (is_gt (label_cmp l f.0)) (put_is l b fs)
  where
    go : (t : Bool) → fields_of (put_by (λ f g. label_cmp f.0 g.0) (l, b) fs) ≡ put_raw l b (fields_of fs) → fields_of (cond t (f ∷ put_by (λ f g. label_cmp f.0 g.0) (l, b) fs) ((l, b) ∷ f ∷ fs)) ≡ cond t (raw_field f.0 f.1 (put_raw l b (fields_of fs))) (raw_field l b (raw_field f.0 f.1 (fields_of fs)))
    go true i = ap (raw_field f.0 f.1) i
    go false i = refl

pub columns_are : (cs : Columns) → fields_of (by_label (map (λ c. (c.0, raw_plain (raw_column 0 c.0))) cs)) ≡ columns_body cs
columns_are [] = refl
columns_are (c ∷ cs) =
    put_is c.0 (raw_plain (raw_column 0 c.0)) (by_label (map (λ c. (c.0, raw_plain (raw_column 0 c.0))) cs))
    ∙ ap (put_raw c.0 (raw_plain (raw_column 0 c.0))) (columns_are cs)

pub fields_are : (S : List TableShape) (es : List RawBody) (fs : List (Label × TermTree)) → fields_of (by_label (map (λ f. (f.0, raw_form S f.1 es)) fs)) ≡ raw_fields S (term_fields_of fs) es
fields_are S es [] = refl
fields_are S es (f ∷ fs) =
    put_is f.0 (raw_form S f.1 es) (by_label (map (λ f. (f.0, raw_form S f.1 es)) fs))
    ∙ ap (put_raw f.0 (raw_form S f.1 es)) (fields_are S es fs)

pub got : {X : Type 0} (xs : List X) (i : ℕ) (x d : X) → i < length xs → x ≡ slice_index_or xs i d → slice_get xs i ≡ Some x
got [] i x d h e = absurd (omega (arith, h))
got (y ∷ xs) zero x d h e = ap Some (sym e)
got (y ∷ xs) (suc i) x d h e = got xs i x d (omega (arith, h)) e

pub found : (l : Label) (fs : List (Label × MovedBody)) (i : ℕ) (x d : Label × MovedBody) → i < length fs → x ≡ slice_index_or fs i d → bytes_eq l x.0 ≡ true → Some (raw_field_among l (raw_fields_of (drop i fs))) ≡ option_map (λ f. moved_body f.1) (slice_get fs i)
found l [] i x d h e b = absurd (omega (arith, h))
found l (y ∷ fs) zero x d h e b =
    ap (λ t. Some (cond t (moved_body y.1) (raw_field_among l (raw_fields_of fs)))) (sym (ap (λ (z : Label × MovedBody). bytes_eq l z.0) e) ∙ b)
found l (y ∷ fs) (suc i) x d h e b = found l fs i x d (omega (arith, h)) e b

-- a field of a body under n more generators is the field under as many
field_up : (n c : ℕ) (l : Label) (fs : RawFields) → raw_field_among l (up_fields n c fs) ≡ up_body n c (raw_field_among l fs)
field_up n c l no_raw_field = refl
field_up n c l (raw_field k b fs) = go (bytes_eq l k) (field_up n c l fs)
  where
    go : (t : Bool) → raw_field_among l (up_fields n c fs) ≡ up_body n c (raw_field_among l fs) → cond t (up_body n c b) (raw_field_among l (up_fields n c fs)) ≡ up_body n c (cond t b (raw_field_among l fs))
    go true i = refl
    go false i = i

-- the field that stands at a place, under n more generators
pub field_under : (n c : ℕ) (l : Label) (fs : List (Label × MovedBody)) (i : ℕ) (x : Label × MovedBody) → i < length fs → x ≡ slice_index_or fs i x → Some (raw_field_among l (raw_fields_of fs)) ≡ option_map (λ f. moved_body f.1) (slice_get fs i) → up_body n c (moved_body x.1) ≡ raw_field_in l (up_body n c (raw_rec (raw_fields_of fs)))
field_under n c l fs i x below here found =
    let p : Some (raw_field_among l (raw_fields_of fs)) ≡ Some (moved_body x.1) = found ∙ ap (option_map (λ f. moved_body f.1)) (got fs i x x below here) in
    let q : moved_body x.1 ≡ raw_field_among l (raw_fields_of fs) = cc in
    ap (up_body n c) q ∙ sym (field_up n c l (raw_fields_of fs))

-- a field that no record has
pub field_none : (n c : ℕ) (l : Label) (fs : RawFields) → raw_field_among l fs ≡ no_raw_body → no_raw_body ≡ raw_field_in l (up_body n c (raw_rec fs))
field_none n c l fs e = sym (field_up n c l fs ∙ ap (up_body n c) e)
