-- Traced values of the program as traced values.
use Rattle.std.specs.Prelude.{List, ℕ, map}
use Rattle.nq_model.specs.Values.{Nested, base, rec, bag, fields_of, elements_of}
use Rattle.nq_model.specs.declared.table.Cell.TheVariants as cell
use Rattle.traced_meaning.specs.TracedValues.{RowName, element_of, rows_value}
use Rattle.lineage.specs.declared.traced.RowName.{RowName as Named}
use Rattle.lineage.specs.declared.traced.Traced.{Traced}
use Rattle.lineage.specs.declared.traced.TracedElement.{TracedElement}
use Rattle.lineage.specs.declared.traced.Traced.TheFolds.{fold-Traced, fold-TracedElement}
use Rattle.lineage.specs.declared.traced.Traced.TheOpen.{Traced-F, TracedElement-F}

-- the name of a row
abbrev pub row_name : Named → RowName
row_name r = (r.table, r.row)

abbrev pub traced_layer : Traced-F Nested Nested → Nested
traced_layer (Traced-F.Int n) = base (cell.Int n)
traced_layer (Traced-F.Bool b) = base (cell.Bool b)
traced_layer (Traced-F.Text t) = base (cell.Text t)
traced_layer (Traced-F.Rec fs) = rec (fields_of fs)
traced_layer (Traced-F.Bag vs) = bag (elements_of vs)

abbrev pub element_layer : TracedElement-F Nested Nested → Nested
element_layer e = element_of e.value (rows_value (map row_name e.rows))

-- the traced value that one of the program is, and the same for an element
abbrev pub traced : Traced → Nested
traced = fold-Traced Nested Nested traced_layer element_layer

abbrev pub traced_element : TracedElement → Nested
traced_element = fold-TracedElement Nested Nested traced_layer element_layer

-- each field's label and traced value
abbrev pub traced_fields : List (List ℕ × Traced) → List (List ℕ × Nested)
traced_fields fs = map (λ f. (f.0, traced f.1)) fs
