-- What values of a traced form's type are as traced values.
--
-- An element whose tag is that of a comprehension at the element's own path has a row of each
-- table that is listed for the tag, in order, the k-th with the k-th number. Any other element has
-- no rows. A value that is no such element counts as false.
use Rattle.std.specs.Prelude.{ℕ, suc, ℤ, pos, List, [], ◌∷◌, cond, nat_eq, false}
use Rattle.std.specs.Ordering.{int_eq}
use Rattle.std.specs.Str.{bytes_eq}
use Rattle.nq_model.specs.Meaning.{cell_of, elements_in, field_in}
use Rattle.nq_model.specs.NamedRows.{Label}
use Rattle.nq_model.specs.Operators.{int_of}
use Rattle.nq_model.specs.Values.{Nested, base, rec, bag, Fields, none, field, Elements, end, more}
use Rattle.nq_model.specs.Values.{elements_of}
use Rattle.nq_model.specs.declared.table.Cell.TheVariants as cell
use Rattle.nq_ir.specs.Trees.{BodyTree, FormTree}
use Rattle.traced_meaning.specs.TracedValues.{RowName, element_of, rows_value}
use Rattle.lineage.specs.ListedTables.{ByTag}
use Rattle.lineage.specs.Places.{inside, under, tags_in, own_tags, own_bodies}
use Rattle.lineage.specs.TraceForms.{tag_label, row_label, whole_label}

-- the tables that are listed for a tag
abbrev pub tables_of : ByTag → ℕ → List Label
tables_of [] t = []
tables_of (e ∷ es) t = cond (nat_eq t e.0) e.1 (tables_of es t)

-- those of the tag that a number is, if it is one of these tags
abbrev pub tables_at : ByTag → List ℕ → ℤ → List Label
tables_at es [] n = []
tables_at es (t ∷ ts) n = cond (int_eq (pos t) n) (tables_of es t) (tables_at es ts n)

-- the number in a field
abbrev pub number_under : Label → Nested → ℤ
number_under l v = int_of (cell_of (field_in l v))

-- rows of these tables, the first with the k-th number of the element
abbrev pub rows_under : ℕ → List Label → Nested → List RowName
rows_under k [] v = []
rows_under k (table ∷ tables) v =
    (table, number_under (row_label k) v) ∷ rows_under (suc k) tables v

-- the rows of an element, where the comprehensions at its path have these tags
abbrev pub element_rows : ByTag → List ℕ → Nested → List RowName
element_rows es ts v = rows_under 1 (tables_at es ts (number_under tag_label v)) v

-- The traced value of a value, where these are the bodies of the traced form that stand at its
-- place; the same for the elements of a bag, with the tags at their path and the bodies inside.
abbrev mutual
  pub decoded : ByTag → List BodyTree → Nested → Nested
  decoded es here (base c) = base c
  decoded es here (rec fs) = rec (decoded_fields es here fs)
  decoded es here (bag vs) =
      bag (decoded_elements es (tags_in here) (under whole_label (inside here)) vs)

  pub decoded_fields : ByTag → List BodyTree → Fields → Fields
  decoded_fields es here none = none
  decoded_fields es here (field l v fs) =
      field l (decoded es (under l here) v) (decoded_fields es here fs)

  pub decoded_elements : ByTag → List ℕ → List BodyTree → Elements → Elements
  decoded_elements es ts here end = end
  decoded_elements es ts here (more v vs) =
      more (decoded_element es ts here v) (decoded_elements es ts here vs)

  pub decoded_element : ByTag → List ℕ → List BodyTree → Nested → Nested
  decoded_element es ts here (base c) =
      element_of (base (cell.Bool false)) (rows_value (element_rows es ts (base c)))
  decoded_element es ts here (rec fs) =
      element_of (decoded_whole es here fs) (rows_value (element_rows es ts (rec fs)))
  decoded_element es ts here (bag vs) =
      element_of (base (cell.Bool false)) (rows_value (element_rows es ts (bag vs)))

  pub decoded_whole : ByTag → List BodyTree → Fields → Nested
  decoded_whole es here none = base (cell.Bool false)
  decoded_whole es here (field l v fs) =
      cond (bytes_eq l whole_label) (decoded es here v) (decoded_whole es here fs)

-- the traced value of a value of a traced form
abbrev pub form_decoded : ByTag → FormTree → Nested → Nested
form_decoded es form v = bag (decoded_elements es (own_tags form.comps)
    (under whole_label (own_bodies form.comps)) (elements_of (elements_in v)))
