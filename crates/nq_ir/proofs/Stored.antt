-- Rows of the tables of a schema have the schema's columns, and cells tell them apart.
use Rattle.std.proofs.Common.{◌≡◌, ◌≢◌, ℕ, List, [], ◌∷◌, map, zip, refl, sym, ap, ap₂, ◌∙◌, Bool, true, false, cond, Some}
use Rattle.std.specs.Str.{bytes_eq}
use Rattle.std.specs.List.{AllByRecursion as Each}
use Rattle.std.proofs.lemmas.Slice.Eq.{bytes_eq-Decides}
use Rattle.std.proofs.lemmas.List.Elements.{recursion_from_All}
use Rattle.nq_model.proofs.Numberings.{each_map}
use Rattle.nq_model.specs.Cells.{RowFits, column_type_of}
use Rattle.nq_model.specs.Databases.{database}
use Rattle.nq_model.specs.Numberings.{TellsApart}
use Rattle.nq_model.specs.Orders.{AreDistinct}
use Rattle.nq_model.specs.SchemaTables.{AreTablesOf}
use Rattle.nq_model.specs.Typing.{shape_named}
use Rattle.nq_model.specs.Tables.{Columns, names_of, types_of, IsProperShape, IsProperSchema}
use Rattle.nq_model.specs.declared.table.Cell.{Cell}
use Rattle.nq_model.specs.declared.table.Schema.{Schema}
use Rattle.nq_model.specs.declared.table.TableShape.{TableShape}
use Rattle.nq_ir.specs.declared.base.Gen.{Gen}
use Rattle.nq_model.specs.NamedRows.{Label, Row, named}
use Rattle.nq_ir.specs.Meanings.{Env, rows_in, kept}
use Rattle.nq_ir.specs.Spots.{spot_cells}
use Rattle.nq_ir.specs.Trees.{Conds}
use Rattle.nq_ir.specs.WellFormed.{columns_or_none, column_names}
use Rattle.nq_ir.proofs.Paths.{LabelsDiffer}
use Rattle.nq_ir.proofs.Rows.{Uniform, RowsOf, kept_rows}

row_names : (columns : Columns) (row : List Cell) → map column_type_of row ≡ types_of columns → map (λ c. c.0) (zip (names_of columns) row) ≡ names_of columns
row_names [] row h = refl
row_names (c ∷ columns) [] h = absurd (cc)
row_names (c ∷ columns) (x ∷ row) h =
    let rest : map column_type_of row ≡ types_of columns = cc in
    ap (λ (l : List Label). c.0 ∷ l) (row_names columns row rest)

rows_have : (columns : Columns) (rows : List (List Cell)) → Each (RowFits (types_of columns)) rows → Each (λ (r : Row). map (λ c. c.0) r ≡ names_of columns) (named (names_of columns) rows)
rows_have columns [] h = tt
rows_have columns (row ∷ rows) h = (row_names columns row h.0, rows_have columns rows h.1)

-- the rows of a schema's tables have their columns
pub uniform : (shapes : List TableShape) (tables : List (List (List Cell))) → AreTablesOf shapes tables → Uniform (column_names shapes) (rows_in (database shapes tables))
uniform [] tables h t = tt
uniform (shape ∷ shapes) [] h t = absurd h
uniform (shape ∷ shapes) (rows ∷ tables) h t =
    go (bytes_eq t shape.name) (uniform shapes tables h.1 t)
  where
    go : (b : Bool) → Each (λ (r : Row). map (λ c. c.0) r ≡ column_names shapes t) (rows_in (database shapes tables) t) → Each (λ (r : Row). map (λ c. c.0) r ≡ names_of (columns_or_none (cond b (Some shape) (shape_named t shapes)))) (cond b (named (names_of shape.columns) rows) (rows_in (database shapes tables) t))
    go true i = rows_have shape.columns rows (recursion_from_All (RowFits (types_of shape.columns)) rows h.0.fit)
    go false i = i

differs_all : (l : Label) (ls : List Label) → Each (λ m. l ≢ m) ls → Each (λ m. bytes_eq m l ≡ false) ls
differs_all l [] h = tt
differs_all l (m ∷ ls) h = (go (bytes_eq m l) refl, differs_all l ls h.1)
  where
    go : (b : Bool) → bytes_eq m l ≡ b → b ≡ false
    go true e = absurd (h.0 (sym ((bytes_eq-Decides m l).0 e)))
    go false e = refl

labels_apart : (ls : List Label) → AreDistinct ls → LabelsDiffer ls
labels_apart [] h = tt
labels_apart (l ∷ ls) h = (differs_all l ls h.0, labels_apart ls h.1)

columns_apart : (shapes : List TableShape) → Each IsProperShape shapes → (t : Label) → LabelsDiffer (column_names shapes t)
columns_apart [] p t = tt
columns_apart (shape ∷ shapes) p t = go (bytes_eq t shape.name) (columns_apart shapes p.1 t)
  where
    go : (b : Bool) → LabelsDiffer (column_names shapes t) → LabelsDiffer (names_of (columns_or_none (cond b (Some shape) (shape_named t shapes))))
    go true i = labels_apart (names_of shape.columns) p.0.columns_differ
    go false i = i

-- the columns of a table of a proper schema differ in name
pub columns_differ : (schema : Schema) → IsProperSchema schema → (t : Label) → LabelsDiffer (column_names schema.tables t)
columns_differ schema p t = columns_apart schema.tables (recursion_from_All IsProperShape schema.tables p.proper) t

row_from : (r s : Row) → map (λ c. c.0) r ≡ map (λ c. c.0) s → map (λ c. c.1) r ≡ map (λ c. c.1) s → r ≡ s
row_from [] [] e f = refl
row_from [] (d ∷ s) e f = absurd (cc)
row_from (c ∷ r) [] e f = absurd (cc)
row_from (c ∷ r) (d ∷ s) e f =
    let l : c.0 ≡ d.0 = cc in
    let ls : map (λ c. c.0) r ≡ map (λ c. c.0) s = cc in
    let v : c.1 ≡ d.1 = cc in
    let vs : map (λ c. c.1) r ≡ map (λ c. c.1) s = cc in
    ap₂ (λ x (z : Row). x ∷ z) (ap₂ {C = Label × Cell} (λ x y. (x, y)) l v) (row_from r s ls vs)

env_from : (cols : Label → List Label) (gens : List Gen) (e f : Env) → RowsOf cols gens e → RowsOf cols gens f → spot_cells e ≡ spot_cells f → e ≡ f
env_from cols [] [] [] h k q = refl
env_from cols [] [] (c ∷ f) h k q = absurd k
env_from cols [] (b ∷ e) f h k q = absurd h
env_from cols (g ∷ gens) [] f h k q = absurd h
env_from cols (g ∷ gens) (b ∷ e) [] h k q = absurd k
env_from cols (g ∷ gens) (b ∷ e) (c ∷ f) h k q =
    let one : map (λ c. c.1) b.1 ≡ map (λ c. c.1) c.1 = cc in
    let rest : spot_cells e ≡ spot_cells f = cc in
    let names : map (λ c. c.0) b.1 ≡ map (λ c. c.0) c.1 = h.1 ∙ sym k.1 in
    ap₂ (λ x (z : Env). x ∷ z) (ap₂ {C = ℕ × Row} (λ x y. (x, y)) (h.0 ∙ sym k.0) (row_from b.1 c.1 names one)) (env_from cols gens e f h.2 k.2 rest)

each_pair : {A : Type 0} (P : A → Type 0) (R : A → A → Type 0) → ((x y : A) → P x → P y → R x y) → (xs : List A) → Each P xs → Each (λ x. Each (λ y. R x y) xs) xs
each_pair P R h xs e = each_map P (λ x. Each (λ y. R x y) xs) (λ x p. each_map P (λ y. R x y) (λ y q. h x y p q) xs e) xs e

-- the kept choices of generators are told apart by their rows of cells
pub cells_tell_spots : (shapes : List TableShape) (tables : List (List (List Cell))) → AreTablesOf shapes tables → (gens : List Gen) (conds : Conds) → TellsApart spot_cells (kept (rows_in (database shapes tables)) gens conds [])
cells_tell_spots shapes tables h gens conds =
    let ts = rows_in (database shapes tables) in
    each_pair (RowsOf (column_names shapes) gens) (λ x y. spot_cells x ≡ spot_cells y → x ≡ y) (λ x y p q e. env_from (column_names shapes) gens x y p q e) (kept ts gens conds []) (kept_rows (column_names shapes) ts (uniform shapes tables h) gens conds)
