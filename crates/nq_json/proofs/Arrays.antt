-- The rows of an array, one element after the other.
use Rattle.std.proofs.Common.{◌≡◌, ◌<◌, ◌+◌, ℕ, Some, None, Ok, Err, List, [], ◌∷◌, ◌++◌, length, drop, get_or, refl, sym, ap, ◌∙◌}
use Rattle.std.proofs.lemmas.List.{drop_more}
use Rattle.nq_model.specs.declared.table.Cell.{Cell}
use Rattle.nq_model.specs.declared.table.TableShape.{TableShape}
use Rattle.serde_json.specs.Data.{Data, Items}
use Rattle.serde_json.specs.Find.{as_array}
use Rattle.serde_json.specs.View.{view, items_view}
use Rattle.serde_json.specs.declared.value.Value.{Value as Json}
use Rattle.nq_json.specs.Tables.{data_of, next_row, rows_after, table_of}
use Rattle.nq_json.specs.declared.tables.JsonTableFault.{JsonTableFault}
use Rattle.nq_json.specs.declared.tables.JsonTableFault.TheVariants as fault

module _ (shape : TableShape) (text : List ℕ) where
  pub not_json : data_of text ≡ None → table_of shape text ≡ Err fault.NotJson
  unfolding table_of
  not_json none = rw none refl

  pub not_array : (d : Data) → data_of text ≡ Some d → as_array d ≡ None → table_of shape text ≡ Err fault.NotArray
  unfolding table_of
  not_array d parsed none = rw (parsed, none) refl

  pub array_is : (d : Data) (items : Items) → data_of text ≡ Some d → as_array d ≡ Some items → table_of shape text ≡ rows_after shape [] items
  unfolding table_of
  array_is d items parsed found = rw (parsed, found) refl

module _ (shape : TableShape) (items : List Json) (i : ℕ) (json : Json) (below : i < length items) (is : json ≡ get_or items i json) (rows : List (List Cell)) where
  front : drop i items ≡ json ∷ drop (i + 1) items
  front = drop_more items i json below ∙ ap (λ (j : Json). j ∷ drop (i + 1) items) (sym is)

  pub row_more : (row : List Cell) → next_row shape rows (view json) ≡ Ok row
      → rows_after shape rows (items_view (drop i items)) ≡ rows_after shape (rows ++ row ∷ []) (items_view (drop (i + 1) items))
  row_more row next = rw (front, next) refl

  pub row_stop : (e : JsonTableFault) → next_row shape rows (view json) ≡ Err e → rows_after shape rows (items_view (drop i items)) ≡ Err e
  row_stop e next = rw (front, next) refl
