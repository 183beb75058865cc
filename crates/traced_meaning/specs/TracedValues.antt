-- Traced values: each element of a bag stands with the names of the table rows that made it.
--
-- They are coded as values. An element is the record of its value and its rows. The rows are a bag
-- of records, each with its place from 1, the name of a table and the number of a row in it. So the
-- order of values compares traced values: elements by value and then by their rows, a prefix
-- before, rows by table and then by number. And two traced values are the same multiset, rows in
-- their order included, where the coded values are.
use Rattle.std.specs.Prelude.{ℕ, suc, ℤ, pos, List, [], ◌∷◌, ◌++◌, map, codes}
use Rattle.std.specs.Ordering.{int_cmp, ordering_then}
use Rattle.std.specs.declared.cmp.Ordering.{Ordering}
use Rattle.nq_model.specs.Canonical.{canonical}
use Rattle.nq_model.specs.Meaning.{cell_of, elements_in, field_in}
use Rattle.nq_model.specs.NamedRows.{Label}
use Rattle.nq_model.specs.Operators.{int_of}
use Rattle.nq_model.specs.Orders.{label_cmp}
use Rattle.nq_model.specs.Values.{Nested, base, rec, bag, Fields, none, field, Elements, end, more, bag_of}
use Rattle.nq_model.specs.declared.table.Cell.{Cell}
use Rattle.nq_model.specs.declared.table.Cell.TheVariants as cell

-- the name of a row: its table, and its number from 1
abbrev pub RowName : Type 0
RowName = Label × ℤ

-- by table in byte order, and then by number
abbrev pub name_cmp : RowName → RowName → Ordering
name_cmp m n = ordering_then (label_cmp m.0 n.0) (int_cmp m.1 n.1)

-- the labels of an element's value and rows, and those of a row's place, table and number
abbrev pub value_label : Label
value_label = codes "e"

abbrev pub rows_label : Label
rows_label = codes "r"

abbrev pub place_label : Label
place_label = codes "a"

abbrev pub table_label : Label
table_label = codes "b"

abbrev pub number_label : Label
number_label = codes "c"

-- the element with this value and these rows
abbrev pub element_of : Nested → Nested → Nested
element_of value rows = rec (field value_label value (field rows_label rows none))

-- the value of an element; what is no element is its own value
abbrev pub value_part : Nested → Nested
value_part (base c) = base c
value_part (rec none) = rec none
value_part (rec (field l v fs)) = v
value_part (bag vs) = bag vs

-- the rows of an element; what is no element has none
abbrev pub rows_part : Nested → Nested
rows_part (base c) = bag_of []
rows_part (rec none) = bag_of []
rows_part (rec (field l v none)) = bag_of []
rows_part (rec (field l v (field m w fs))) = w
rows_part (bag vs) = bag_of []

-- the record of a row's name at a place
abbrev pub row_at : ℕ → RowName → Nested
row_at place name =
    rec (field place_label (base (cell.Int (pos place)))
    (field table_label (base (cell.Text name.0))
    (field number_label (base (cell.Int name.1)) none)))

-- the records of rows at the places from this one on
abbrev pub rows_from : ℕ → List RowName → List Nested
rows_from place [] = []
rows_from place (name ∷ names) = row_at place name ∷ rows_from (suc place) names

-- the rows of an element with these names, in this order
abbrev pub rows_value : List RowName → Nested
rows_value names = bag_of (rows_from 1 names)

abbrev pub text_of : Cell → List ℕ
text_of (cell.Int n) = []
text_of (cell.Bool b) = []
text_of (cell.Text t) = t

abbrev pub name_of : Nested → RowName
name_of row =
    (text_of (cell_of (field_in table_label row)), int_of (cell_of (field_in number_label row)))

-- the names of rows, in the order of their places
abbrev pub names_in : Nested → List RowName
names_in rows = map name_of (elements_in (canonical rows))

-- the element with these names of rows before its own
abbrev pub with_rows : List RowName → Nested → Nested
with_rows names element =
    element_of (value_part element) (rows_value (names ++ names_in (rows_part element)))

-- the value without rows
abbrev mutual
  pub erased : Nested → Nested
  erased (base c) = base c
  erased (rec fs) = rec (erased_fields fs)
  erased (bag vs) = bag (erased_elements vs)

  pub erased_fields : Fields → Fields
  erased_fields none = none
  erased_fields (field l v fs) = field l (erased v) (erased_fields fs)

  pub erased_elements : Elements → Elements
  erased_elements end = end
  erased_elements (more v vs) = more (erased_element v) (erased_elements vs)

  pub erased_element : Nested → Nested
  erased_element (base c) = base c
  erased_element (rec none) = rec none
  erased_element (rec (field l v fs)) = erased v
  erased_element (bag vs) = bag (erased_elements vs)
