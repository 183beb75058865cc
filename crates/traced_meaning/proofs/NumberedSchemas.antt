-- A schema and its tables stay proper with the column of numbers.
use Rattle.std.proofs.Common.{◌≡◌, ◌≢◌, ℕ, suc, pos, ◌+◌, ◌<◌, ◌≤◌, ◌^◌, List, [], ◌∷◌, ◌++◌, map, zip, refl, sym, ap, ap₂, ◌∙◌, subst, true, cond, length, arith}
use Rattle.std.proofs.lemmas.List.{map-append}
use Rattle.std.proofs.lemmas.List.Elements.{recursion_from_All, All-from_recursion, All-append, All-weaker, All-contains, Contains-append_left}
use Rattle.std.specs.List.{AllByRecursion as Each}
use Rattle.std.specs.Prelude.{All, Contains}
use Rattle.std.specs.Str.{bytes_eq}
use Rattle.nq_ir.proofs.Distinct.{each_join}
use Rattle.nq_ir.proofs.Equal.{bytes_same}
use Rattle.nq_ir.proofs.Nested.{map_of_map}
use Rattle.nq_model.proofs.Numberings.{each_map}
use Rattle.nq_model.specs.Cells.{RowFits, column_type_of}
use Rattle.nq_model.specs.NamedRows.{Label, Row, cell_under}
use Rattle.nq_model.specs.Orders.{AreDistinct}
use Rattle.nq_model.specs.SchemaTables.{AreTablesOf, IsTableOf, IsSound, key_of}
use Rattle.nq_model.specs.Tables.{Columns, IsProperName, IsProperShape, IsProperSchema, names_of, types_of}
use Rattle.nq_model.specs.declared.table.Cell.{Cell}
use Rattle.nq_model.specs.declared.table.Cell.TheVariants as cell
use Rattle.nq_model.specs.declared.table.ColumnType.TheVariants as column_type
use Rattle.nq_model.specs.declared.table.Schema.{Schema}
use Rattle.nq_model.specs.declared.table.TableShape.{TableShape}
use Rattle.traced_meaning.proofs.Tables.{HaveNoNumber, no_numbers, whole_row}
use Rattle.traced_meaning.specs.NumberedTables.{number_column, HasNoNumbers, numbered_shape, numbered_schema, numbered_from, numbered_rows, numbered_tables}

names_more : (columns : Columns) → names_of (columns ++ (number_column, column_type.Int) ∷ [])
    ≡ names_of columns ++ number_column ∷ []
names_more columns = map-append (λ column. column.0) columns ((number_column, column_type.Int) ∷ [])

number_named : IsProperName number_column
number_named = record {
  some_byte = omega arith;
  short = omega arith;
  no_quote = λ h. absurd (omega (arith, All-contains (λ b. b ≡ 35) number_column 34 only h));
  no_dot = λ h. absurd (omega (arith, All-contains (λ b. b ≡ 35) number_column 46 only h));
}
  where
    only : All (λ b. b ≡ 35) number_column
    only = All-from_recursion (λ b. b ≡ 35) number_column (refl, tt)

distinct_more : (columns : Columns) → HaveNoNumber columns → AreDistinct (names_of columns)
    → AreDistinct (names_of columns ++ number_column ∷ [])
distinct_more [] none d = (tt, tt)
distinct_more (c ∷ columns) none d = (
  each_join (λ m. c.0 ≢ m) (names_of columns) (number_column ∷ []) d.0 (none.0, tt),
  distinct_more columns none.1 d.1,
)

proper_shape : (shape : TableShape) → HaveNoNumber shape.columns → IsProperShape shape
    → IsProperShape (numbered_shape shape)
proper_shape shape none p =
    let names = names_of shape.columns in
    let more = sym (names_more shape.columns) in
    record {
      named = p.named;
      columns_named = subst (λ (l : List Label). All IsProperName l) more
          (All-append IsProperName names (number_column ∷ []) p.columns_named
          (All-from_recursion IsProperName (number_column ∷ []) (number_named, tt)));
      columns_differ = subst (λ (l : List Label). AreDistinct l) more
          (distinct_more shape.columns none p.columns_differ);
      key_of_columns = All-weaker (Contains names) (Contains
          (names_of (shape.columns ++ (number_column, column_type.Int) ∷ [])))
          (λ k h. subst (λ (l : List Label). Contains l k) more
          (Contains-append_left names (number_column ∷ []) k h)) shape.key p.key_of_columns;
      key_differs = p.key_differs;
    }

pub proper_with_numbers : (schema : Schema) → IsProperSchema schema → HasNoNumbers schema
    → IsProperSchema (numbered_schema schema)
proper_with_numbers schema p free =
    record {
      tables_differ = subst (λ (l : List Label). AreDistinct l)
          (sym (map_of_map (λ (shape : TableShape). shape.name) numbered_shape schema.tables))
          p.tables_differ;
      proper = All-from_recursion IsProperShape (map numbered_shape schema.tables)
          (go schema.tables (no_numbers schema free)
          (recursion_from_All IsProperShape schema.tables p.proper));
    }
  where
    go : (shapes : List TableShape)
        → Each (λ (shape : TableShape). HaveNoNumber shape.columns) shapes
        → Each IsProperShape shapes → Each IsProperShape (map numbered_shape shapes)
    go [] n p = tt
    go (s ∷ shapes) n p = (proper_shape s n.0 p.0, go shapes n.1 p.1)

-- a row with a number
row_fits : (columns : Columns) (row : List Cell) (k : ℕ) → RowFits (types_of columns) row
    → RowFits (types_of (columns ++ (number_column, column_type.Int) ∷ []))
    (row ++ cell.Int (pos k) ∷ [])
row_fits columns row k h =
    map-append column_type_of row (cell.Int (pos k) ∷ [])
    ∙ ap (λ (l : List _). l ++ column_type.Int ∷ []) h
    ∙ sym (map-append (λ column. column.1) columns ((number_column, column_type.Int) ∷ []))

rows_fit : (columns : Columns) (k : ℕ) (rows : List (List Cell))
    → Each (RowFits (types_of columns)) rows → Each (RowFits
    (types_of (columns ++ (number_column, column_type.Int) ∷ []))) (numbered_from k rows)
rows_fit columns k [] h = tt
rows_fit columns k (row ∷ rows) h = (row_fits columns row k h.0, rows_fit columns (suc k) rows h.1)

rows_sound : (k : ℕ) (rows : List (List Cell)) → k + length rows ≤ 2 ^ 63 → Each (All IsSound) rows
    → Each (All IsSound) (numbered_from k rows)
rows_sound k [] b h = tt
rows_sound k (row ∷ rows) b h = (
  All-append IsSound row (cell.Int (pos k) ∷ []) h.0 (All-from_recursion IsSound
      (cell.Int (pos k) ∷ []) (omega arith, tt)),
  rows_sound (suc k) rows (omega arith) h.1,
)

-- the cells of the key are the same
cells_before : (columns : Columns) (row : List Cell) (more : Row) → RowFits (types_of columns) row
    → Each (λ name. cell_under name (zip (names_of columns) row ++ more)
    ≡ cell_under name (zip (names_of columns) row)) (names_of columns)
cells_before [] row more h = tt
cells_before (x ∷ xs) [] more h = absurd (cc)
cells_before (x ∷ xs) (d ∷ row) more h =
    let rest : map column_type_of row ≡ types_of xs = cc in
    let own : bytes_eq x.0 x.0 ≡ true = bytes_same x.0 x.0 refl in (
      ap (λ t. cond t d (cell_under x.0 (zip (names_of xs) row ++ more))) own
          ∙ sym (ap (λ t. cond t d (cell_under x.0 (zip (names_of xs) row))) own),
      each_map
          (λ name. cell_under name (zip (names_of xs) row ++ more)
          ≡ cell_under name (zip (names_of xs) row)) (λ name. cell_under name
          (zip (names_of (x ∷ xs)) (d ∷ row) ++ more) ≡ cell_under name
          (zip (names_of (x ∷ xs)) (d ∷ row))) (λ name e. ap (λ c. cond (bytes_eq name x.0) d c) e)
          (names_of xs) (cells_before xs row more rest),
    )

key_before : (shape : TableShape) → IsProperShape shape → (row : List Cell) (c : Cell)
    → RowFits (types_of shape.columns) row → key_of (numbered_shape shape) (row ++ c ∷ [])
    ≡ key_of shape row
key_before shape p row c h =
    let more = (number_column, c) ∷ [] in
    let P : Label → Type 0 = λ name. cell_under name (zip (names_of shape.columns) row ++ more)
    ≡ cell_under name (zip (names_of shape.columns) row) in
    let found = All-from_recursion P (names_of shape.columns)
    (cells_before shape.columns row more h) in
    ap (λ (r : Row). map (λ name. cell_under name r) shape.key) (whole_row shape.columns row c h)
    ∙ go shape.key (recursion_from_All P shape.key (All-weaker
    (Contains (names_of shape.columns)) P (λ k i. All-contains P
    (names_of shape.columns) k found i) shape.key p.key_of_columns))
  where
    go : (key : List Label) → Each (λ name. cell_under name
        (zip (names_of shape.columns) row ++ (number_column, c) ∷ [])
        ≡ cell_under name (zip (names_of shape.columns) row)) key
        → map (λ name. cell_under name (zip (names_of shape.columns) row ++ (number_column, c)
        ∷ [])) key ≡ map (λ name. cell_under name (zip (names_of shape.columns) row)) key
    go [] e = refl
    go (k ∷ key) e = ap₂ (λ d (l : List Cell). d ∷ l) e.0 (go key e.1)

keys_before : (shape : TableShape) → IsProperShape shape → (k : ℕ) (rows : List (List Cell))
    → Each (RowFits (types_of shape.columns)) rows → map (key_of (numbered_shape shape))
    (numbered_from k rows) ≡ map (key_of shape) rows
keys_before shape p k [] h = refl
keys_before shape p k (row ∷ rows) h =
    ap₂ (λ c (l : List (List Cell)). c ∷ l) (key_before shape p row (cell.Int (pos k)) h.0)
    (keys_before shape p (suc k) rows h.1)

table_with_numbers : (shape : TableShape) (rows : List (List Cell)) → IsProperShape shape
    → length rows < 2 ^ 63 → IsTableOf shape rows → IsTableOf (numbered_shape shape)
    (numbered_rows rows)
table_with_numbers shape rows p few t =
    let fit = recursion_from_All (RowFits (types_of shape.columns)) rows t.fit in
    record {
      fit = All-from_recursion (RowFits (types_of (numbered_shape shape).columns))
          (numbered_rows rows) (rows_fit shape.columns 1 rows fit);
      sound = All-from_recursion (All IsSound) (numbered_rows rows)
          (rows_sound 1 rows (omega arith) (recursion_from_All (All IsSound) rows t.sound));
      keys_differ = λ key. subst (λ (l : List (List Cell)). AreDistinct l)
          (sym (keys_before shape p 1 rows fit)) (t.keys_differ key);
    }

tables_with : (shapes : List TableShape) (tables : List (List (List Cell)))
    → Each IsProperShape shapes → Each (λ (rows : List (List Cell)). length rows < 2 ^ 63) tables
    → AreTablesOf shapes tables → AreTablesOf (map numbered_shape shapes) (numbered_tables tables)
tables_with [] [] p few h = tt
tables_with [] (rows ∷ tables) p few h = absurd h
tables_with (s ∷ shapes) [] p few h = absurd h
tables_with (s ∷ shapes) (rows ∷ tables) p few h =
    (table_with_numbers s rows p.0 few.0 h.0, tables_with shapes tables p.1 few.1 h.1)

pub tables_with_numbers : (schema : Schema) → IsProperSchema schema
    → (tables : List (List (List Cell))) → AreTablesOf schema.tables tables
    → All (λ (rows : List (List Cell)). length rows < 2 ^ 63) tables
    → AreTablesOf (numbered_schema schema).tables (numbered_tables tables)
tables_with_numbers schema p tables h few =
    tables_with schema.tables tables (recursion_from_All IsProperShape schema.tables p.proper)
    (recursion_from_All (λ (rows : List (List Cell)). length rows < 2 ^ 63) tables few) h
