-- Loops over lists: what is left behind the last element, and one element more.
use Rattle.std.proofs.Common.{◌≡◌, ℕ, zero, suc, ◌+◌, ◌<◌, ◌≤◌, min, List, [], ◌∷◌, ◌++◌, append_assoc, append-nil, add-one, drop, drop-cons, flat_map, get_or, length, map, zip, refl, ap, sym, ◌∙◌, arith}
use Rattle.nq_model.specs.Databases.{FilledTable, database}
use Rattle.nq_model.specs.NamedRows.{Label, Row, named_table}
use Rattle.nq_model.specs.Tables.{names_of}
use Rattle.nq_model.specs.declared.table.Cell.{Cell}
use Rattle.nq_model.specs.declared.table.ColumnType.{ColumnType}
use Rattle.nq_model.specs.declared.table.TableShape.{TableShape}
use Rattle.rows.specs.Tables.{rows_of}
use Rattle.rows.specs.declared.table.Table.{Table}

-- behind the last column or cell none is left
no_cells : (columns : List (Label × ColumnType)) (cells : List Cell) (i : ℕ) → min (length columns) (length cells) ≤ i → zip (names_of (drop i columns)) (drop i cells) ≡ []
no_cells [] cells zero h = refl
no_cells [] cells (suc i) h = refl
no_cells (c ∷ columns) [] zero h = refl
no_cells (c ∷ columns) [] (suc i) h = no_names (drop i columns)
  where
    no_names : (left : List (Label × ColumnType)) → let none : List Cell = [] in zip (names_of left) none ≡ []
    no_names [] = refl
    no_names (d ∷ left) = refl
no_cells (c ∷ columns) (x ∷ cells) zero h = absurd (omega (arith, h))
no_cells (c ∷ columns) (x ∷ cells) (suc i) h = no_cells columns cells i (omega (arith, h))

pub row_ends : (columns : List (Label × ColumnType)) (cells : List Cell) (i : ℕ) (row : Row) → min (length columns) (length cells) ≤ i →
    row ++ zip (names_of (drop i columns)) (drop i cells) ≡ zip (names_of columns) cells → row ≡ zip (names_of columns) cells
row_ends columns cells i row h e = sym (append-nil row) ∙ ap (λ (left : Row). row ++ left) (sym (no_cells columns cells i h)) ∙ e

-- behind the last table none is left
no_tables : (shapes : List TableShape) (tables : List Table) (i : ℕ) → min (length shapes) (length tables) ≤ i → database (drop i shapes) (rows_of (drop i tables)) ≡ []
no_tables [] tables zero h = refl
no_tables [] tables (suc i) h = refl
no_tables (s ∷ shapes) [] zero h = refl
no_tables (s ∷ shapes) [] (suc i) h = no_rows (drop i shapes)
  where
    no_rows : (left : List TableShape) → database left [] ≡ []
    no_rows [] = refl
    no_rows (t ∷ left) = refl
no_tables (s ∷ shapes) (t ∷ tables) zero h = absurd (omega (arith, h))
no_tables (s ∷ shapes) (t ∷ tables) (suc i) h = no_tables shapes tables i (omega (arith, h))

pub tables_end : (shapes : List TableShape) (tables : List Table) (i : ℕ) (all whole : List (Label × List Row)) → min (length shapes) (length tables) ≤ i →
    all ++ map named_table (database (drop i shapes) (rows_of (drop i tables))) ≡ whole → all ≡ whole
tables_end shapes tables i all whole h e =
    sym (append-nil all) ∙ ap (λ (left : List FilledTable). all ++ map named_table left) (sym (no_tables shapes tables i h)) ∙ e

-- what one element more gives stands behind what those before it gave
pub one_more : {A B : Type 0} (gives : A → List B) (items : List A) (i : ℕ) (x : A) (all more whole : List B) → i < length items → x ≡ get_or items i x → more ≡ all ++ gives x →
    all ++ flat_map gives (drop i items) ≡ whole → more ++ flat_map gives (drop (i + 1) items) ≡ whole
one_more {A} {B} gives items i x all more whole below is put before =
    ap (λ (l : List B). l ++ flat_map gives (drop (i + 1) items)) put
    ∙ append_assoc all (gives x) (flat_map gives (drop (i + 1) items))
    ∙ ap (λ n. all ++ (gives x ++ flat_map gives (drop n items))) (add-one i)
    ∙ ap (λ (y : A). all ++ (gives y ++ flat_map gives (drop (suc i) items))) is
    ∙ ap (λ (l : List A). all ++ flat_map gives l) (sym (drop-cons items i x below))
    ∙ before
