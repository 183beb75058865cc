-- A row's cells beside their labels, and the table of a name.
use Rattle.std.proofs.Common.{◌≡◌, ℕ, zero, suc, ◌<◌, ◌≤◌, min, List, [], ◌∷◌, false, cond, drop, length, get_or, map, zip, refl, ap, sym, ◌∙◌, arith, bytes_eq}
use Rattle.std.specs.Prelude.{find, Some}
use Rattle.nq_model.specs.Databases.{FilledTable, database, rows_value, table_meaning, filled}
use Rattle.nq_model.specs.Tables.{names_of}
use Rattle.nq_model.specs.Values.{Nested, base}
use Rattle.nq_model.specs.declared.table.Cell.{Cell}
use Rattle.nq_model.specs.declared.table.ColumnType.{ColumnType}
use Rattle.nq_model.specs.declared.table.TableShape.{TableShape}
use Rattle.rows.specs.Tables.{rows_of}
use Rattle.rows.specs.declared.table.Table.{Table}

pub cells_long : (columns : List (List ℕ × ColumnType)) (row : List Cell) (p : ℕ) → p ≤ length columns → p ≤ length row
    → p ≤ length (zip (names_of columns) (map base row))
cells_long [] row p h k = h
cells_long (c ∷ columns) [] p h k = k
cells_long (c ∷ columns) (x ∷ row) zero h k = omega arith
cells_long (c ∷ columns) (x ∷ row) (suc p) h k =
    let r = cells_long columns row p (omega (arith, h)) (omega (arith, k)) in omega (arith, r)

pub cells_short : (columns : List (List ℕ × ColumnType)) (row : List Cell) → length (zip (names_of columns) (map base row)) ≤ min (length columns) (length row)
cells_short [] row = omega arith
cells_short (c ∷ columns) [] = omega arith
cells_short (c ∷ columns) (x ∷ row) = let r = cells_short columns row in omega (arith, r)

pub cell_beside : (columns : List (List ℕ × ColumnType)) (row : List Cell) (i : ℕ) (c : List ℕ × ColumnType) (x : Cell) (d : List ℕ × Nested)
    → i < length columns → i < length row → c ≡ get_or columns i c → x ≡ get_or row i x
    → get_or (zip (names_of columns) (map base row)) i d ≡ (c.0, base x)
cell_beside [] row i c x d h k e f = absurd (omega (arith, h))
cell_beside (b ∷ columns) [] i c x d h k e f = absurd (omega (arith, k))
cell_beside (b ∷ columns) (y ∷ row) zero c x d h k e f = rw (e, f) refl
cell_beside (b ∷ columns) (y ∷ row) (suc i) c x d h k e f = cell_beside columns row i c x d (omega (arith, h)) (omega (arith, k)) e f

pub table_later : (shapes : List TableShape) (tables : List Table) (name : List ℕ) (i : ℕ) (s : TableShape) → i < length shapes → i < length tables → s ≡ get_or shapes i s
    → bytes_eq s.name name ≡ false → table_meaning (database (drop (suc i) shapes) (rows_of (drop (suc i) tables))) name ≡ table_meaning (database (drop i shapes) (rows_of (drop i tables))) name
table_later [] tables name i s h k e f = absurd (omega (arith, h))
table_later (x ∷ shapes) [] name i s h k e f = absurd (omega (arith, k))
table_later (x ∷ shapes) (t ∷ tables) name zero s h k e f = let g : bytes_eq x.name name ≡ false = ap (λ (z : TableShape). bytes_eq z.name name) (sym e) ∙ f in sym (ap (λ b. rows_value (cond b (Some (filled x t.rows)) (find (λ (z : FilledTable). bytes_eq z.name name) (database shapes (rows_of tables))))) g)
table_later (x ∷ shapes) (t ∷ tables) name (suc i) s h k e f = table_later shapes tables name i s (omega (arith, h)) (omega (arith, k)) e f

no_tables : (shapes : List TableShape) (i : ℕ) → database shapes (rows_of (drop i [])) ≡ []
no_tables [] i = refl
no_tables (x ∷ shapes) zero = refl
no_tables (x ∷ shapes) (suc i) = refl

pub table_nowhere : (shapes : List TableShape) (tables : List Table) (name : List ℕ) (i : ℕ) → min (length shapes) (length tables) ≤ i
    → table_meaning (database (drop i shapes) (rows_of (drop i tables))) name ≡ table_meaning [] name
table_nowhere [] tables name zero h = refl
table_nowhere [] tables name (suc i) h = refl
table_nowhere (x ∷ shapes) [] name zero h = refl
table_nowhere (x ∷ shapes) [] name (suc i) h = ap (λ ts. table_meaning ts name) (no_tables (drop i shapes) (suc i))
table_nowhere (x ∷ shapes) (t ∷ tables) name zero h = absurd (omega (arith, h))
table_nowhere (x ∷ shapes) (t ∷ tables) name (suc i) h = table_nowhere shapes tables name i (omega (arith, h))
