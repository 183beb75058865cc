-- The rows of tables, with their numbers in a column more.
use Rattle.std.proofs.Common.{◌≡◌, ◌≢◌, ℕ, suc, pos, List, [], ◌∷◌, ◌++◌, map, zip, refl, sym, ap, ap₂, ◌∙◌, subst, Bool, true, false, cond, filter, flat_map, Some, find}
use Rattle.std.proofs.lemmas.List.Elements.{recursion_from_All}
use Rattle.std.specs.List.{AllByRecursion as Each}
use Rattle.std.specs.Prelude.{All}
use Rattle.std.specs.Str.{bytes_eq}
use Rattle.nq_ir.proofs.Equal.{bytes_same, bytes_differ, bytes_turned}
use Rattle.nq_ir.proofs.RawChoices.{put_value, put_listed, put_means}
use Rattle.nq_ir.proofs.RawMeanings.{raw_meaning, raw_fields_meaning}
use Rattle.nq_ir.specs.Meanings.{Tables, rows_in}
use Rattle.nq_ir.specs.RawForms.{raw_plain, raw_rec, raw_column, RawFields, put_raw, columns_body}
use Rattle.nq_model.specs.Cells.{RowFits, column_type_of}
use Rattle.nq_model.specs.Databases.{FilledTable, filled, database}
use Rattle.nq_model.specs.NamedRows.{Label, Row, cell_under, named}
use Rattle.nq_model.specs.Operators.{int_of}
use Rattle.nq_model.specs.Orders.{AreDistinct, by_label}
use Rattle.nq_model.specs.SchemaTables.{AreTablesOf}
use Rattle.nq_model.specs.Tables.{Columns, names_of, types_of, row_record}
use Rattle.nq_model.specs.Typing.{shape_named}
use Rattle.nq_model.specs.Values.{Nested, base, rec, Fields, field, fields_of, bag_of}
use Rattle.nq_model.specs.declared.table.Cell.{Cell}
use Rattle.nq_model.specs.declared.table.Cell.TheVariants as cell
use Rattle.nq_model.specs.declared.table.ColumnType.TheVariants as column_type
use Rattle.nq_model.specs.declared.table.Schema.{Schema}
use Rattle.nq_model.specs.declared.table.TableShape.{TableShape}
use Rattle.traced_meaning.proofs.RowNames.{IsNumbered, AreNumbered}
use Rattle.traced_meaning.proofs.Wrapped.{element_body, wrapped_fields, put_wrapped}
use Rattle.traced_meaning.specs.NumberedTables.{number_column, HasNoNumbers, numbered_shape, numbered_from, numbered_rows, numbered_tables}
use Rattle.traced_meaning.specs.TracedValues.{place_label, table_label, number_label, element_of, rows_value}
use Rattle.traced_meaning.specs.Traces.{traced_rows}

-- no column has the name of the column of numbers
abbrev pub HaveNoNumber : Columns → Type 0
HaveNoNumber columns = Each (λ column. column.0 ≢ number_column) columns

pub no_numbers : (schema : Schema) → HasNoNumbers schema
    → Each (λ (shape : TableShape). HaveNoNumber shape.columns) schema.tables
no_numbers schema h = go schema.tables (recursion_from_All
    (λ (shape : TableShape). All (λ column. column.0 ≢ number_column) shape.columns) schema.tables
    h)
  where
    go : (shapes : List TableShape) → Each (λ (shape : TableShape). All
        (λ column. column.0 ≢ number_column) shape.columns) shapes
        → Each (λ (shape : TableShape). HaveNoNumber shape.columns) shapes
    go [] e = tt
    go (s ∷ shapes) e = (
      recursion_from_All (λ column. column.0 ≢ number_column) s.columns e.0,
      go shapes e.1,
    )

-- a row with its number is the row, and the number behind it
pub whole_row : (columns : Columns) (row : List Cell) (c : Cell) → RowFits (types_of columns) row
    → zip (names_of (columns ++ (number_column, column_type.Int) ∷ [])) (row ++ c ∷ [])
    ≡ zip (names_of columns) row ++ (number_column, c) ∷ []
whole_row [] [] c h = refl
whole_row [] (d ∷ row) c h = absurd (cc)
whole_row (x ∷ xs) [] c h = absurd (cc)
whole_row (x ∷ xs) (d ∷ row) c h =
    let rest : map column_type_of row ≡ types_of xs = cc in
    ap (λ (l : Row). (x.0, d) ∷ l) (whole_row xs row c rest)

pub number_found : (columns : Columns) (row : List Cell) (c : Cell) → HaveNoNumber columns
    → cell_under number_column (zip (names_of columns) row ++ (number_column, c) ∷ []) ≡ c
number_found [] row c h = refl
number_found (x ∷ xs) [] c h = refl
number_found (x ∷ xs) (d ∷ row) c h =
    ap (λ t. cond t d (cell_under number_column (zip (names_of xs) row ++ (number_column, c) ∷ [])))
    (bytes_differ number_column x.0 (λ e. h.0 (sym e))) ∙ number_found xs row c h.1

-- the cells of a row, each found under the name of its column, whatever stands behind
cells_found : (ns : List Label) (row : List Cell) (more : Row) → AreDistinct ns
    → Each (λ d. cell_under d.0 (zip ns row ++ more) ≡ d.1) (zip ns row)
cells_found [] row more h = tt
cells_found (n ∷ ns) [] more h = tt
cells_found (n ∷ ns) (c ∷ row) more h = (
  ap (λ z. cond z c (cell_under n (zip ns row ++ more))) (bytes_same n n refl),
  over ns row h.0
      (cells_found ns row more h.1),
)
  where
    over : (ms : List Label) (cs : List Cell) → Each (λ m. n ≢ m) ms
        → Each (λ d. cell_under d.0 (zip ns row ++ more) ≡ d.1) (zip ms cs)
        → Each (λ d. cond (bytes_eq d.0 n) c (cell_under d.0 (zip ns row ++ more)) ≡ d.1)
        (zip ms cs)
    over [] cs g k = tt
    over (m ∷ ms) [] g k = tt
    over (m ∷ ms) (x ∷ cs) g k = (
      ap (λ z. cond z c (cell_under m (zip ns row ++ more)))
          (bytes_differ m n (λ e. g.0 (sym e))) ∙ k.0,
      over ms cs g.1 k.1,
    )

row_means : (ts : Tables) (whole : Row) (env : List Row) (xs : Columns) (row : List Cell)
    → RowFits (types_of xs) row → Each (λ d. cell_under d.0 whole ≡ d.1) (zip (names_of xs) row)
    → raw_fields_meaning ts (columns_body xs) (whole ∷ env)
    ≡ fields_of (by_label (zip (names_of xs) (map base row)))
row_means ts whole env [] row e h = refl
row_means ts whole env (x ∷ xs) [] e h = absurd (cc)
row_means ts whole env (x ∷ xs) (c ∷ row) e h =
    let rest : map column_type_of row ≡ types_of xs = cc in
    put_means ts x.0 (raw_plain (raw_column 0 x.0)) (columns_body xs) (whole ∷ env)
    ∙ ap₂ (λ y z. put_value x.0 (base y) z) h.0 (row_means ts whole env xs row rest h.1)
    ∙ sym (put_listed x.0 (base c) (by_label (zip (names_of xs) (map base row))))

columns_wrapped : (xs : Columns) → wrapped_fields (columns_body xs) ≡ columns_body xs
columns_wrapped [] = refl
columns_wrapped (x ∷ xs) =
    put_wrapped x.0 (raw_plain (raw_column 0 x.0)) (columns_body xs)
    ∙ ap (put_raw x.0 (raw_plain (raw_column 0 x.0))) (columns_wrapped xs)

-- the elements of a table
module _ (ts : Tables) (t : Label) (env : List Row) (columns : Columns)
    (none : HaveNoNumber columns) (differ : AreDistinct (names_of columns)) where
  abbrev numbered_names : List Label
  numbered_names = names_of (columns ++ (number_column, column_type.Int) ∷ [])

  one_element : (k : ℕ) (row : List Cell) → RowFits (types_of columns) row
      → element_of (row_record (names_of columns) row) (rows_value ((t, pos k) ∷ []))
      ≡ raw_meaning ts (element_body (raw_rec (wrapped_fields (columns_body columns))) (t ∷ []))
      (zip numbered_names (row ++ cell.Int (pos k) ∷ []) ∷ env)
  one_element k row fits =
      let c = cell.Int (pos k) in
      let whole = zip (names_of columns) row ++ (number_column, c) ∷ [] in
      let own : fields_of (by_label (zip (names_of columns) (map base row)))
      ≡ raw_fields_meaning ts (wrapped_fields (columns_body columns)) (whole ∷ env)
      = sym (ap (λ (z : RawFields). raw_fields_meaning ts z (whole ∷ env))
      (columns_wrapped columns) ∙ row_means ts whole env columns row fits
      (cells_found (names_of columns) row ((number_column, c) ∷ []) differ)) in
      subst (λ (r : Row). element_of (row_record (names_of columns) row)
      (rows_value ((t, pos k) ∷ [])) ≡ raw_meaning ts
      (element_body (raw_rec (wrapped_fields (columns_body columns))) (t ∷ [])) (r ∷ env))
      (sym (whole_row columns row c fits))
      (ap₂ (λ (fs : Fields) (d : Cell). element_of (rec fs)
      (bag_of (rec (field place_label (base (cell.Int (pos 1)))
      (field table_label (base (cell.Text t)) (field number_label (base d) Fields.none)))
      ∷ []))) own (sym (number_found columns row c none)))

  pub table_elements : (k : ℕ) (rows : List (List Cell)) → Each (RowFits (types_of columns)) rows
      → traced_rows t k (map (row_record (names_of columns)) rows)
      ≡ map (λ e. raw_meaning ts (element_body (raw_rec (wrapped_fields (columns_body columns)))
      (t ∷ [])) e) (map (λ rs. rs ++ env) (filter (λ rs. true)
      (flat_map (λ r. (r ∷ []) ∷ []) (map (λ row. zip numbered_names row) (numbered_from k rows)))))
  table_elements k [] h = refl
  table_elements k (row ∷ rows) h = ap₂ (λ x (l : List Nested). x ∷ l) (one_element k row h.0)
      (table_elements (suc k) rows h.1)

-- the tables of a schema and those with numbers, name by name
abbrev pub AreTraced : List TableShape → List FilledTable → Tables → Type 0
AreTraced shapes tables ts =
    (t : Label) (shape : TableShape) → shape_named t shapes ≡ Some shape → (rows : List (List Cell))
    × (find (λ table. bytes_eq table.name t) tables ≡ Some (filled shape rows))
    × (ts t ≡ named (names_of (numbered_shape shape).columns) (numbered_rows rows))
    × Each (RowFits (types_of shape.columns)) rows

abbrev pub traced_rows_in : List TableShape → List (List (List Cell)) → Tables
traced_rows_in shapes tables = rows_in (database (map numbered_shape shapes)
    (numbered_tables tables))

pub tables_traced : (shapes : List TableShape) (tables : List (List (List Cell)))
    → AreTablesOf shapes tables → AreTraced shapes (database shapes tables)
    (traced_rows_in shapes tables)
tables_traced [] tables h t shape e = absurd (cc)
tables_traced (s ∷ shapes) [] h t shape e = absurd h
tables_traced (s ∷ shapes) (own ∷ tables) h t shape e = go (bytes_eq t s.name) (bytes_eq s.name t)
    (bytes_turned t s.name) e (λ i. tables_traced shapes tables h.1 t shape i)
  where
    go : (b d : Bool) → b ≡ d → cond b (Some s) (shape_named t shapes) ≡ Some shape
        → (shape_named t shapes ≡ Some shape → (rows : List (List Cell))
        × (find (λ (x : FilledTable). bytes_eq x.name t) (database shapes tables)
        ≡ Some (filled shape rows)) × (traced_rows_in shapes tables t
        ≡ named (names_of (numbered_shape shape).columns) (numbered_rows rows))
        × Each (RowFits (types_of shape.columns)) rows) → (rows : List (List Cell))
        × (cond d (Some (filled s own)) (find (λ (x : FilledTable). bytes_eq x.name t)
        (database shapes tables)) ≡ Some (filled shape rows))
        × (cond b (named (names_of (numbered_shape s).columns) (numbered_rows own))
        (traced_rows_in shapes tables t) ≡ named (names_of (numbered_shape shape).columns)
        (numbered_rows rows)) × Each (RowFits (types_of shape.columns)) rows
    go true true q i later =
        let same : s ≡ shape = cc in (
          own,
          ap (λ (z : TableShape). Some (filled z own)) same,
          ap
              (λ (z : TableShape). named (names_of (numbered_shape z).columns)
              (numbered_rows own)) same,
          subst (λ (z : TableShape). Each
              (RowFits (types_of z.columns)) own) same (recursion_from_All
              (RowFits (types_of s.columns)) own h.0.fit),
        )
    go true false q i later = absurd (cc)
    go false true q i later = absurd (cc)
    go false false q i later = later i

-- each row in them has a number
rows_have : (columns : Columns) → HaveNoNumber columns → (k : ℕ) (rows : List (List Cell))
    → Each (RowFits (types_of columns)) rows → Each IsNumbered
    (named (names_of (columns ++ (number_column, column_type.Int) ∷ [])) (numbered_from k rows))
rows_have columns none k [] h = tt
rows_have columns none k (row ∷ rows) h =
    let c = cell.Int (pos k) in
    let e : cell_under number_column
    (zip (names_of (columns ++ (number_column, column_type.Int) ∷ [])) (row ++ c ∷ [])) ≡ c
    = ap (cell_under number_column) (whole_row columns row c h.0)
    ∙ number_found columns row c none in
    (e ∙ sym (ap (λ d. cell.Int (int_of d)) e), rows_have columns none (suc k) rows h.1)

pub tables_numbered : (shapes : List TableShape) (tables : List (List (List Cell)))
    → Each (λ (shape : TableShape). HaveNoNumber shape.columns) shapes → AreTablesOf shapes tables
    → AreNumbered (traced_rows_in shapes tables)
tables_numbered [] tables none h t = tt
tables_numbered (s ∷ shapes) [] none h t = absurd h
tables_numbered (s ∷ shapes) (own ∷ tables) none h t =
    go (bytes_eq t s.name) (rows_have s.columns none.0 1 own
    (recursion_from_All (RowFits (types_of s.columns)) own h.0.fit))
    (tables_numbered shapes tables none.1 h.1 t)
  where
    go : (b : Bool) → Each IsNumbered (named (names_of (numbered_shape s).columns)
        (numbered_rows own)) → Each IsNumbered (traced_rows_in shapes tables t)
        → Each IsNumbered (cond b (named (names_of (numbered_shape s).columns) (numbered_rows own))
        (traced_rows_in shapes tables t))
    go true m n = m
    go false m n = n
