-- The values of parts of elements in rows, each bag in its order.
use Rattle.std.specs.Prelude.{ℕ, ℤ, List, map}
use Rattle.nq_model.specs.Values.{Nested, Fields, base, rec_of, bag_of, fields_of}
use Rattle.nq_model.specs.declared.table.Cell.{Cell}
use Rattle.rows.specs.Places.{rows_at}
use Rattle.row_order.specs.Keys.{cell_at}
use Rattle.stitcher.specs.FlatNumbers.{index_at}
use Rattle.answer_text.specs.Spans.{spanned}
use Rattle.answer_text.specs.declared.groups.Groups.{Groups}
use Rattle.answer_text.specs.declared.part.Part.{Part, fold-Part}
use Rattle.answer_text.specs.declared.part.Part.TheOpen.{Part-F}

-- the places of the rows of the bag under an index, in its order
abbrev pub places_under : Groups → ℤ × ℤ → List ℕ
places_under groups i = spanned groups.runs.spans groups.runs.places i

-- the value of a part in a row: a cell; a record of parts; or the bag under the index that stands
-- there, of which each row in the group is an element
abbrev pub part_layer : Part-F (List Cell → Nested) → List Cell → Nested
part_layer (Part-F.Cell column) = λ row. base (cell_at column row)
part_layer (Part-F.Record fields) = λ row. rec_of (map (λ f. (f.0, f.1 row)) fields)
part_layer (Part-F.Bag column groups element) = λ row.
    bag_of (map element.value (rows_at groups.rows (places_under groups (index_at row column))))

abbrev pub value_in : Part → List Cell → Nested
value_in = fold-Part (List Cell → Nested) part_layer

-- each field's label and value
abbrev pub fields_in : List (List ℕ × Part) → List Cell → Fields
fields_in fields row = fields_of (map (λ f. (f.0, value_in f.1 row)) fields)

-- the bag of the elements of the rows at these places
abbrev pub bag_in : Part → List (List Cell) → List ℕ → Nested
bag_in element rows places = bag_of (map (value_in element) (rows_at rows places))
