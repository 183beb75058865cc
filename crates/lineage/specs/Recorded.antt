-- Traced values as values of records alone: each element is a record of its rows, in order, each a
-- bag of its table and its number, and of its value.
use Rattle.std.specs.Prelude.{[], ◌∷◌, codes, false, map}
use Rattle.nq_model.specs.Meaning.{elements_in}
use Rattle.nq_model.specs.NamedRows.{Label}
use Rattle.nq_model.specs.Values.{Nested, base, rec, bag, Fields, none, field, Elements, end, more}
use Rattle.nq_model.specs.Values.{bag_of}
use Rattle.nq_model.specs.declared.table.Cell.TheVariants as cell
use Rattle.traced_meaning.specs.TracedValues.{RowName, name_of}

-- the labels of an element's rows and value
abbrev pub rows_key : Label
rows_key = codes "rows"

abbrev pub value_key : Label
value_key = codes "value"

abbrev pub name_listed : RowName → Nested
name_listed name = bag_of (base (cell.Text name.0) ∷ base (cell.Int name.1) ∷ [])

-- the row that stands as a value
abbrev pub row_listed : Nested → Nested
row_listed row = name_listed (name_of row)

-- the rows in the first of these fields
abbrev pub rows_listed : Fields → Nested
rows_listed none = bag_of []
rows_listed (field l v fs) = bag_of (map row_listed (elements_in v))

-- a traced value as it stands; what is no element counts as false
abbrev mutual
  pub recorded : Nested → Nested
  recorded (base c) = base c
  recorded (rec fs) = rec (fields_recorded fs)
  recorded (bag vs) = bag (elements_recorded vs)

  pub fields_recorded : Fields → Fields
  fields_recorded none = none
  fields_recorded (field l v fs) = field l (recorded v) (fields_recorded fs)

  pub elements_recorded : Elements → Elements
  elements_recorded end = end
  elements_recorded (more v vs) = more (element_recorded v) (elements_recorded vs)

  pub element_recorded : Nested → Nested
  element_recorded (base c) = base (cell.Bool false)
  element_recorded (rec none) = base (cell.Bool false)
  element_recorded (rec (field l v fs)) =
      rec (field rows_key (rows_listed fs) (field value_key (recorded v) none))
  element_recorded (bag vs) = base (cell.Bool false)
