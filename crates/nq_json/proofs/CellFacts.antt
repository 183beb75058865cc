-- The cells of an object, one column after the other.
use Rattle.std.proofs.Common.{◌≡◌, ◌<◌, ◌+◌, ℕ, suc, true, false, Bor, Option, Some, None, is_some, option_map, Result, Ok, Err, List, [], ◌∷◌, ◌++◌, length, take, drop, get_or, refl, sym, ap, ap₂, ◌∙◌, append_assoc}
use Rattle.std.proofs.lemmas.List.{take_more, map-append, drop_more}
use Rattle.nq_model.specs.Cells.{column_type_of, RowFits}
use Rattle.nq_model.specs.Tables.{Columns, types_of}
use Rattle.nq_model.specs.declared.table.Cell.{Cell}
use Rattle.nq_model.specs.declared.table.ColumnType.{ColumnType}
use Rattle.serde_json.specs.Data.{Data, Members}
use Rattle.serde_json.specs.Find.{get_member}
use Rattle.nq_json.specs.Tables.{cell_under, cells_from, has_columns, and_then}
use Rattle.serde_json.specs.View.{view, members_view}
use Rattle.serde_json.specs.declared.value.Value.{Value as Json}
use Rattle.serde_json.proofs.Views.{Entry}
use Rattle.nq_json.specs.Shapes.{keys_of}
use Rattle.nq_json.specs.declared.tables.JsonTableFault.{JsonTableFault}
use Rattle.nq_json.specs.declared.tables.JsonTableFault.TheVariants as fault

-- cells, and then those that follow, or the fault
abbrev pub cells_then : List Cell → Result (List Cell) JsonTableFault → Result (List Cell) JsonTableFault
cells_then cells v = and_then v (λ more. Ok (cells ++ more))

-- the members of a map are as many as its entries
pub keys_long : (es : List Entry) → length (keys_of (members_view es)) ≡ length es
keys_long [] = refl
keys_long (e ∷ es) = ap suc (keys_long es)

pub found_is : (r : Option (Bor Json)) (o : Option Data) → option_map (λ json. view json.now) r ≡ o → is_some o ≡ is_some r
found_is None o e = rw (sym e) refl
found_is (Some json) o e = rw (sym e) refl

module _ (cs : Columns) (i : ℕ) (c : List ℕ × ColumnType) (below : i < length cs) (is : c ≡ get_or cs i c) (ms : Members) where
  front : drop i cs ≡ c ∷ drop (i + 1) cs
  front = drop_more cs i c below ∙ ap (λ (x : List ℕ × ColumnType). x ∷ drop (i + 1) cs) (sym is)

  pub column_found : is_some (get_member c.0 ms) ≡ true → has_columns (drop i cs) ms ≡ has_columns (drop (i + 1) cs) ms
  column_found found = rw (front, found) refl

  pub column_lacking : is_some (get_member c.0 ms) ≡ false → has_columns (drop i cs) ms ≡ false
  column_lacking none = rw (front, none) refl

  -- one cell more
  pub cells_more : (row at : ℕ) (cells : List Cell) (x : Cell) → cell_under c ms ≡ Some x
      → cells_then cells (cells_from row at (drop i cs) ms) ≡ cells_then (cells ++ x ∷ []) (cells_from row (at + 1) (drop (i + 1) cs) ms)
  cells_more row at cells x found = rw (front, found) (by (cells_from row (at + 1) (drop (i + 1) cs) ms))
    where
      by : (r : Result (List Cell) JsonTableFault) → and_then (and_then r (λ more. Ok (x ∷ more))) (λ more. Ok (cells ++ more)) ≡ and_then r (λ more. Ok ((cells ++ x ∷ []) ++ more))
      by (Ok more) = ap Ok (sym (append_assoc cells (x ∷ []) more))
      by (Err e) = refl

  pub cells_stop : (row at : ℕ) (cells : List Cell) → cell_under c ms ≡ None
      → cells_then cells (cells_from row at (drop i cs) ms) ≡ Err (fault.BadCell row at)
  cells_stop row at cells none = rw (front, none) refl

  pub fit_more : (cells : List Cell) (x : Cell) → column_type_of x ≡ c.1 → RowFits (types_of (take i cs)) cells → RowFits (types_of (take (i + 1) cs)) (cells ++ x ∷ [])
  fit_more cells x typed fit =
      let whole : take (i + 1) cs ≡ take i cs ++ c ∷ [] = take_more cs i c below ∙ ap (λ (y : List ℕ × ColumnType). take i cs ++ y ∷ []) (sym is) in
      map-append column_type_of cells (x ∷ []) ∙ ap₂ (λ (l : List ColumnType) t. l ++ t ∷ []) fit typed ∙ sym (ap types_of whole ∙ map-append _ (take i cs) (c ∷ []))
