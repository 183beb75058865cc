-- Base terms and generators over a schema with the column of numbers.
use Rattle.std.proofs.Common.{◌≡◌, ◌≢◌, ℕ, List, [], ◌∷◌, ◌++◌, map, refl, sym, ap, ◌∙◌, subst}
use Rattle.std.proofs.Common.{Bool, true, false, cond, nat_eq, Some, IsSome, All}
use Rattle.std.proofs.lemmas.List.Elements.{recursion_from_All}
use Rattle.nq_model.specs.declared.table.Schema.{Schema}
use Rattle.std.specs.List.{AllByRecursion as Each}
use Rattle.std.specs.Str.{bytes_eq}
use Rattle.nq_ir.proofs.Equal.{bytes_differ, nat_same}
use Rattle.nq_ir.specs.Trees.{BaseTree, literal, column, unary, binary, choose, empty, total, Conds}
use Rattle.nq_ir.specs.Trees.{no_cond, and_cond, Tests, no_test, test}
use Rattle.nq_ir.specs.WellFormed.{columns_or_none, table_columns, column_type_in, gen_columns}
use Rattle.nq_ir.specs.WellFormed.{AreTables, BaseHas, CondsHave, TestsHave}
use Rattle.nq_ir.specs.declared.base.Gen.{Gen}
use Rattle.nq_model.specs.NamedRows.{Label}
use Rattle.nq_model.specs.Tables.{Columns}
use Rattle.nq_model.specs.Typing.{shape_named}
use Rattle.nq_model.specs.declared.table.ColumnType.{ColumnType}
use Rattle.nq_model.specs.declared.table.ColumnType.TheVariants as column_type
use Rattle.nq_model.specs.declared.table.TableShape.{TableShape}
use Rattle.traced_meaning.specs.NumberedTables.{HasNoNumbers, number_column, numbered_shape}

-- no column has the name of the column of numbers
abbrev pub HaveNoNumber : Columns → Type 0
HaveNoNumber columns = Each (λ column. column.0 ≢ number_column) columns

-- a column that is there stays there
column_before : (l : Label) (xs ys : Columns) (T : ColumnType) → column_type_in l xs ≡ Some T
    → column_type_in l (xs ++ ys) ≡ Some T
column_before l [] ys T e = absurd (cc)
column_before l (x ∷ xs) ys T e = go (bytes_eq l x.0) (column_before l xs ys T) e
  where
    go : (b : Bool)
        → (column_type_in l xs ≡ Some T → column_type_in l (xs ++ ys) ≡ Some T)
        → cond b (Some x.1) (column_type_in l xs) ≡ Some T
        → cond b (Some x.1) (column_type_in l (xs ++ ys)) ≡ Some T
    go true f k = k
    go false f k = f k

number_behind : (xs : Columns) → HaveNoNumber xs
    → column_type_in number_column (xs ++ (number_column, column_type.Int) ∷ [])
    ≡ Some column_type.Int
number_behind [] h = refl
number_behind (x ∷ xs) h =
    ap (λ b. cond b (Some x.1) (column_type_in number_column (xs
    ++ (number_column, column_type.Int) ∷ [])))
    (bytes_differ number_column x.0 (λ e. h.0 (sym e))) ∙ number_behind xs h.1

abbrev pub numbered : List TableShape → List TableShape
numbered shapes = map numbered_shape shapes

known_more : (t : Label) (S : List TableShape) → IsSome (shape_named t S)
    → IsSome (shape_named t (numbered S))
known_more t [] h = h
known_more t (s ∷ S) h = go (bytes_eq t s.name) (known_more t S) h
  where
    go : (b : Bool) → (IsSome (shape_named t S) → IsSome (shape_named t (numbered S)))
        → IsSome (cond b (Some s) (shape_named t S))
        → IsSome (cond b (Some (numbered_shape s)) (shape_named t (numbered S)))
    go true f k = refl
    go false f k = f k

pub tables_more : (S : List TableShape) (gens : List Gen) → AreTables S gens
    → AreTables (numbered S) gens
tables_more S [] h = tt
tables_more S (g ∷ gens) h = (known_more g.table S h.0, tables_more S gens h.1)

table_column_more : (l : Label) (T : ColumnType) (t : Label) (S : List TableShape)
    → column_type_in l (table_columns S t) ≡ Some T
    → column_type_in l (table_columns (numbered S) t) ≡ Some T
table_column_more l T t [] e = e
table_column_more l T t (s ∷ S) e = go (bytes_eq t s.name) (table_column_more l T t S) e
  where
    go : (b : Bool)
        → (column_type_in l (table_columns S t) ≡ Some T
        → column_type_in l (table_columns (numbered S) t) ≡ Some T)
        → column_type_in l (columns_or_none (cond b (Some s) (shape_named t S))) ≡ Some T
        → column_type_in l (columns_or_none (cond b (Some (numbered_shape s))
        (shape_named t (numbered S)))) ≡ Some T
    go true f k = column_before l s.columns ((number_column, column_type.Int) ∷ []) T k
    go false f k = f k

table_number : (t : Label) (S : List TableShape)
    → Each (λ (s : TableShape). HaveNoNumber s.columns) S
    → IsSome (shape_named t S)
    → column_type_in number_column (table_columns (numbered S) t) ≡ Some column_type.Int
table_number t [] n h = absurd (cc)
table_number t (s ∷ S) n h = go (bytes_eq t s.name) (table_number t S n.1) h
  where
    go : (b : Bool)
        → (IsSome (shape_named t S) → column_type_in number_column (table_columns (numbered S) t)
        ≡ Some column_type.Int)
        → IsSome (cond b (Some s) (shape_named t S))
        → column_type_in number_column (columns_or_none (cond b (Some (numbered_shape s))
        (shape_named t (numbered S)))) ≡ Some column_type.Int
    go true f k = number_behind s.columns n.0
    go false f k = f k

gen_column_more : (l : Label) (T : ColumnType) (g : ℕ) (S : List TableShape) (scope : List Gen)
    → column_type_in l (gen_columns S scope g) ≡ Some T
    → column_type_in l (gen_columns (numbered S) scope g) ≡ Some T
gen_column_more l T g S [] e = e
gen_column_more l T g S (h ∷ scope) e = go (nat_eq g h.number) (gen_column_more l T g S scope) e
  where
    go : (b : Bool)
        → (column_type_in l (gen_columns S scope g) ≡ Some T
        → column_type_in l (gen_columns (numbered S) scope g) ≡ Some T)
        → column_type_in l (cond b (table_columns S h.table) (gen_columns S scope g)) ≡ Some T
        → column_type_in l (cond b (table_columns (numbered S) h.table)
        (gen_columns (numbered S) scope g)) ≡ Some T
    go true f k = table_column_more l T h.table S k
    go false f k = f k

-- each generator has a number
abbrev HasNumber : List TableShape → List Gen → ℕ → Type 0
HasNumber S scope g = column_type_in number_column (gen_columns (numbered S) scope g)
    ≡ Some column_type.Int

number_over : (S : List TableShape) → Each (λ (s : TableShape). HaveNoNumber s.columns) S
    → (h : Gen) → IsSome (shape_named h.table S) → (scope : List Gen) (g : ℕ)
    → HasNumber S scope g → HasNumber S (h ∷ scope) g
number_over S n h k scope g e = go (nat_eq g h.number)
  where
    go : (b : Bool) → column_type_in number_column (cond b (table_columns (numbered S) h.table)
        (gen_columns (numbered S) scope g)) ≡ Some column_type.Int
    go true = table_number h.table S n k
    go false = e

pub own_numbers : (S : List TableShape) → Each (λ (s : TableShape). HaveNoNumber s.columns) S
    → (scope gens : List Gen) → AreTables S scope → AreTables S gens
    → Each (λ (g : Gen). HasNumber S (scope ++ gens) g.number) gens
own_numbers S n [] [] a b = tt
own_numbers S n [] (g ∷ gens) a b = (
  subst (λ t. column_type_in number_column (cond t (table_columns (numbered S) g.table)
      (gen_columns (numbered S) gens g.number)) ≡ Some column_type.Int)
      (sym (nat_same g.number g.number refl)) (table_number g.table S n b.0),
  over gens (own_numbers S n [] gens a b.1),
)
  where
    over : (hs : List Gen) → Each (λ (h : Gen). HasNumber S gens h.number) hs
        → Each (λ (h : Gen). HasNumber S (g ∷ gens) h.number) hs
    over [] e = tt
    over (h ∷ hs) e = (number_over S n g b.0 gens h.number e.0, over hs e.1)
own_numbers S n (h ∷ scope) gens a b = over gens (own_numbers S n scope gens a.1 b)
  where
    over : (hs : List Gen) → Each (λ (g : Gen). HasNumber S (scope ++ gens) g.number) hs
        → Each (λ (g : Gen). HasNumber S (h ∷ (scope ++ gens)) g.number) hs
    over [] e = tt
    over (g ∷ hs) e = (number_over S n h a.0 (scope ++ gens) g.number e.0, over hs e.1)

-- what has a type has it with the column too
module _ (S : List TableShape) where
  mutual
    pub base_more : (sc : List Gen) (b : BaseTree) (T : ColumnType) → BaseHas S sc b T
        → BaseHas (numbered S) sc b T
    base_more sc (literal c) T h = h
    base_more sc (column g l) T h = gen_column_more l T g S sc h
    base_more sc (unary op b) T h = (h.0, base_more sc b h.0 h.1, h.2)
    base_more sc (binary op a b) T h =
        (h.0, h.1, base_more sc a h.0 h.2, base_more sc b h.1 h.3, h.4)
    base_more sc (choose x a b) T h =
        (base_more sc x column_type.Bool h.0, base_more sc a T h.1, base_more sc b T h.2)
    base_more sc (empty xs) T h = (h.0, tests_more sc xs h.1)
    base_more sc (total g gens conds b) T h = (
      h.0,
      tables_more S gens h.1,
      conds_more (gens ++ sc) conds h.2,
      base_more (gens ++ sc) b column_type.Int h.3,
    )

    pub conds_more : (sc : List Gen) (bs : Conds) → CondsHave S sc bs → CondsHave (numbered S) sc bs
    conds_more sc no_cond h = tt
    conds_more sc (and_cond b bs) h = (base_more sc b column_type.Bool h.0, conds_more sc bs h.1)

    tests_more : (sc : List Gen) (xs : Tests) → TestsHave S sc xs → TestsHave (numbered S) sc xs
    tests_more sc no_test h = tt
    tests_more sc (test gens conds xs) h =
        (tables_more S gens h.0, conds_more (gens ++ sc) conds h.1, tests_more sc xs h.2)

-- in no shape of a schema that has no such column
pub no_numbers : (schema : Schema) → HasNoNumbers schema
    → Each (λ (s : TableShape). HaveNoNumber s.columns) schema.tables
no_numbers schema h = go schema.tables (recursion_from_All
    (λ (s : TableShape). All (λ column. column.0 ≢ number_column) s.columns) schema.tables h)
  where
    go : (shapes : List TableShape)
        → Each (λ (s : TableShape). All (λ column. column.0 ≢ number_column) s.columns) shapes
        → Each (λ (s : TableShape). HaveNoNumber s.columns) shapes
    go [] e = tt
    go (s ∷ shapes) e =
        (recursion_from_All (λ column. column.0 ≢ number_column) s.columns e.0, go shapes e.1)
