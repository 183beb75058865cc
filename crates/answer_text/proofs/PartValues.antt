-- The values of parts, form by form.
use Rattle.std.proofs.Common.{◌≡◌, ℕ, ℤ, List, [], ◌∷◌, refl, ap, sym, ◌∙◌, true, Box, Global}
use Rattle.std.proofs.lemmas.Simd.{map-map}
use Rattle.std.specs.declared.cmp.Ordering.{Ordering}
use Rattle.std.specs.declared.cmp.Ordering.TheVariants.{Less, Equal, Greater}
use Rattle.std.specs.Ordering.{ordering_then, ordering_reverse}
use Rattle.std.specs.Cmp.Lexicographic.{slice_cmp}
use Rattle.nq_model.specs.Canonical.{value_cmp, fields_cmp}
use Rattle.nq_model.specs.Orders.{label_cmp}
use Rattle.nq_model.specs.Values.{Nested, base, rec, rec_of, labels}
use Rattle.nq_model.specs.declared.table.Cell.{Cell}
use Rattle.nq_model.proofs.Canonical.{label_order, value_order}
use Rattle.row_order.specs.Keys.{cell_at}
use Rattle.stitcher.specs.FlatNumbers.{index_at}
use Rattle.answer_text.specs.Parts.{part_layer, value_in, fields_in, bag_in, places_under}
use Rattle.answer_text.specs.declared.groups.Groups.{Groups}
use Rattle.answer_text.specs.declared.part.Part.{Part, Part-F, fold-roll-Part}
use Rattle.answer_text.specs.declared.part.Part.TheVariants as part
use Rattle.answer_text.specs.Indexes.{is_index}
use Rattle.answer_text.proofs.Spanning.{same_index}

at_row : {f g : List Cell → Nested} → f ≡ g → (row : List Cell) → f row ≡ g row
at_row e row = ap (λ (h : List Cell → Nested). h row) e

pub value_of_cell : (column : ℕ) (row : List Cell) → value_in (part.Cell column) row
    ≡ base (cell_at column row)
value_of_cell column row = at_row (ap value_in (sym (part.rolls-Cell column))
    ∙ fold-roll-Part (List Cell → Nested) part_layer (Part-F.Cell column)) row

pub value_of_record : (fields : List (List ℕ × Part)) (row : List Cell)
    → value_in (part.Record fields) row ≡ rec (fields_in fields row)
value_of_record fields row =
    at_row (ap value_in (sym (part.rolls-Record fields))
    ∙ fold-roll-Part (List Cell → Nested) part_layer (Part-F.Record fields)) row
    ∙ ap rec_of (map-map (λ (f : List ℕ × (List Cell → Nested)). (f.0, f.1 row))
    (λ (f : List ℕ × Part). (f.0, value_in f.1)) fields)

pub value_of_bag : (column : ℕ) (groups : Groups) (element : Box Part Global) (row : List Cell)
    → value_in (part.Bag column groups element) row ≡ bag_in element.value groups.rows
    (places_under groups (index_at row column))
value_of_bag column groups element row =
    at_row (ap value_in (sym (part.rolls-Bag column groups element))
    ∙ fold-roll-Part (List Cell → Nested) part_layer (Part-F.Bag column groups element)) row

not_turned : (r : Ordering) → r ≡ ordering_reverse r → r ≡ Equal
not_turned Less e = absurd (cc)
not_turned Equal e = refl
not_turned Greater e = absurd (cc)

same_label : (l : List ℕ) → label_cmp l l ≡ Equal
same_label l = not_turned (label_cmp l l) (label_order.total.antisymm l l)

same_labels : (fields : List (List ℕ × Part)) (left right : List Cell)
    → slice_cmp label_cmp (labels (fields_in fields left)) (labels (fields_in fields right)) ≡ Equal
same_labels [] left right = refl
same_labels (f ∷ fields) left right = ap (λ (o : Ordering). ordering_then o
    (slice_cmp label_cmp (labels (fields_in fields left)) (labels (fields_in fields right))))
    (same_label f.0) ∙ same_labels fields left right

-- records of the same labels compare by their fields
pub records_compare : (fields : List (List ℕ × Part)) (left right : List Cell)
    → value_cmp (rec (fields_in fields left)) (rec (fields_in fields right))
    ≡ fields_cmp (fields_in fields left) (fields_in fields right)
records_compare fields left right = ap (λ (o : Ordering). ordering_then o
    (fields_cmp (fields_in fields left) (fields_in fields right))) (same_labels fields left right)

-- under one index stands one bag
pub one_bag : (element : Part) (groups : Groups) (i j : ℤ × ℤ) → is_index i j ≡ true
    → Equal ≡ value_cmp (bag_in element groups.rows (places_under groups i))
    (bag_in element groups.rows (places_under groups j))
one_bag element groups i j h =
    let bag : ℤ × ℤ → Nested = λ k. bag_in element groups.rows (places_under groups k) in
    sym (ap (λ (k : ℤ × ℤ). value_cmp (bag i) (bag k)) (sym (same_index i j h))
    ∙ not_turned (value_cmp (bag i) (bag i)) (value_order.total.antisymm (bag i) (bag i)))

pub ruleset part_values = (value_of_cell, value_of_record, value_of_bag, records_compare)
