-- The text of a traced value: that of its value, each element followed by ` @ [` and the names of
-- its rows, as `employees 1`, with `, ` between them, and `]`.
use Rattle.std.specs.Prelude.{ℕ, suc, List, [], ◌∷◌, ◌++◌, codes}
use Rattle.std.specs.Fmt.{signed_decimal}
use Rattle.nq_model.specs.Canonical.{canonical, cell_text}
use Rattle.nq_model.specs.Meaning.{elements_in}
use Rattle.nq_model.specs.Separators.{separator}
use Rattle.nq_model.specs.Values.{Nested, base, rec, bag, Fields, none, field, Elements, end, more}
use Rattle.traced_meaning.specs.TracedValues.{RowName, name_of}

abbrev pub name_text : RowName → List ℕ
name_text name = name.0 ++ (codes " " ++ signed_decimal name.1)

-- rows as they stand, from the one at a place on, and all
abbrev pub names_text : ℕ → List Nested → List ℕ
names_text place [] = []
names_text place (row ∷ rows) =
    separator place ++ (name_text (name_of row) ++ names_text (suc place) rows)

abbrev pub rows_text : Nested → List ℕ
rows_text rows = codes " @ [" ++ (names_text 0 (elements_in rows) ++ codes "]")

-- a traced value as it stands, and fields and elements from the one at a place on
abbrev mutual
  pub traced_written : Nested → List ℕ
  traced_written (base c) = cell_text c
  traced_written (rec fs) = codes "(" ++ (fields_written 0 fs ++ codes ")")
  traced_written (bag vs) = codes "{" ++ (elements_written 0 vs ++ codes "}")

  pub fields_written : ℕ → Fields → List ℕ
  fields_written place none = []
  fields_written place (field l v fs) = separator place
      ++ (l ++ (codes " = " ++ (traced_written v ++ fields_written (suc place) fs)))

  pub elements_written : ℕ → Elements → List ℕ
  elements_written place end = []
  elements_written place (more v vs) =
      separator place ++ (element_written v ++ elements_written (suc place) vs)

  pub element_written : Nested → List ℕ
  element_written (base c) = []
  element_written (rec none) = []
  element_written (rec (field l v fs)) = traced_written v ++ rows_written fs
  element_written (bag vs) = []

  -- what stands behind the value of an element
  pub rows_written : Fields → List ℕ
  rows_written none = []
  rows_written (field l v fs) = rows_text v ++ rows_written fs

-- the text of the canonical form, and a newline
abbrev pub traced_text : Nested → List ℕ
traced_text v = traced_written (canonical v) ++ codes "\n"
