-- The rows of a text fit the columns, and their cells are sound.
use Rattle.std.proofs.Common.{◌≡◌, ◌<◌, ◌+◌, ◌^◌, ◌==◌, ℕ, ℤ, zero, suc, pos, neg_ℤ, Bool, true, false, if◌then◌else◌, Option, Some, None, option_map, Ok, List, [], ◌∷◌, length, zip, FitsSigned, w64, refl, subst, arith, All}
use Rattle.std.specs.List.{AllZip}
use Rattle.std.specs.Str.Parse.{digits_value}
use Rattle.std.proofs.lemmas.List.Elements.{All-nil, All-cons}
use Rattle.std.proofs.lemmas.Str.{IsUtf8-from_is_utf8}
use Rattle.nq_model.specs.Cells.{column_type_of, RowFits}
use Rattle.nq_model.specs.SchemaTables.{IsSound, IsTableOf}
use Rattle.nq_model.specs.Tables.{types_of}
use Rattle.nq_model.specs.declared.table.Cell.{Cell}
use Rattle.nq_model.specs.declared.table.Cell.TheVariants as cell
use Rattle.nq_model.specs.declared.table.ColumnType.{ColumnType}
use Rattle.nq_model.specs.declared.table.ColumnType.TheVariants as column
use Rattle.nq_model.specs.declared.table.TableShape.{TableShape}
use Rattle.table_reader.specs.Records.{Record}
use Rattle.table_reader.specs.Spelling.{is_numeral, minus_of, plain_of, int_of, bool_of}
use Rattle.table_reader.specs.Tables.{table_of}
use Rattle.table_reader.specs.Faults.{Spells, SpellsRow}
use Rattle.table_reader.proofs.Parses.{numeral_to}
use Rattle.table_reader.proofs.TableFacts.{under_given}

-- a negated number
minus_fits : (m : ℕ) → m < 2 ^ 63 + 1 → FitsSigned w64 (neg_ℤ (pos m))
minus_fits zero below = omega arith
minus_fits (suc m) below = omega arith

plain_fits : (m : ℕ) → m < 2 ^ 63 → FitsSigned w64 (pos m)
plain_fits m below = omega arith

int_fits : (field : List ℕ) (n : ℤ) → int_of field ≡ Some n → FitsSigned w64 n
unfolding int_of
int_fits [] n e = cc
int_fits (c ∷ digits) n e = by (c == 45) e
  where
    minus : (b : Bool) → is_numeral digits (2 ^ 63 + 1) ≡ b → (if b then Some (neg_ℤ (pos (digits_value 10 digits))) else None) ≡ Some n → FitsSigned w64 n
    minus true numeral e =
        let same : neg_ℤ (pos (digits_value 10 digits)) ≡ n = cc in
        subst (λ (k : ℤ). FitsSigned w64 k) same (minus_fits (digits_value 10 digits) (numeral_to digits (2 ^ 63 + 1) numeral).2)
    minus false numeral e = cc

    plain : (b : Bool) → is_numeral (c ∷ digits) (2 ^ 63) ≡ b → (if b then Some (pos (digits_value 10 (c ∷ digits))) else None) ≡ Some n → FitsSigned w64 n
    plain true numeral e =
        let same : pos (digits_value 10 (c ∷ digits)) ≡ n = cc in
        subst (λ (k : ℤ). FitsSigned w64 k) same (plain_fits (digits_value 10 (c ∷ digits)) (numeral_to (c ∷ digits) (2 ^ 63) numeral).2)
    plain false numeral e = cc

    by : (b : Bool) → (if b then minus_of digits else plain_of (c ∷ digits)) ≡ Some n → FitsSigned w64 n
    by true e = minus (is_numeral digits (2 ^ 63 + 1)) refl e
    by false e = plain (is_numeral (c ∷ digits) (2 ^ 63)) refl e

-- a spelled cell is of its column's type, and sound
cell_fits : (type : ColumnType) (field : List ℕ) (c : Cell) → Spells (type, field) c → (column_type_of c ≡ type) × IsSound c
cell_fits column.Int field c (utf8, is) = by (int_of field) refl is
  where
    by : (o : Option ℤ) → int_of field ≡ o → option_map cell.Int o ≡ Some c → (column_type_of c ≡ column.Int) × IsSound c
    by (Some n) spelled is =
        let same : cell.Int n ≡ c = cc in
        subst (λ (d : Cell). (column_type_of d ≡ column.Int) × IsSound d) same (refl, int_fits field n spelled)
    by None spelled is = cc
cell_fits column.Bool field c (utf8, is) = by (bool_of field) is
  where
    by : (o : Option Bool) → option_map cell.Bool o ≡ Some c → (column_type_of c ≡ column.Bool) × IsSound c
    by (Some b) is =
        let same : cell.Bool b ≡ c = cc in
        subst (λ (d : Cell). (column_type_of d ≡ column.Bool) × IsSound d) same (refl, tt)
    by None is = cc
cell_fits column.Text field c (utf8, is) =
    let same : cell.Text field ≡ c = cc in
    subst (λ (d : Cell). (column_type_of d ≡ column.Text) × IsSound d) same (refl, IsUtf8-from_is_utf8 field utf8)

row_fits : (types : List ColumnType) (fields : Record) (cells : List Cell) → length fields ≡ length types → AllZip Spells (zip types fields) cells
    → RowFits types cells × All IsSound cells
row_fits [] [] [] width each = (refl, All-nil IsSound)
row_fits [] [] (c ∷ cells) width each = absurd each
row_fits [] (field ∷ fields) cells width each = absurd (omega arith)
row_fits (type ∷ types) [] cells width each = absurd (omega arith)
row_fits (type ∷ types) (field ∷ fields) [] width each = absurd each
row_fits (type ∷ types) (field ∷ fields) (c ∷ cells) width (one, each) =
    let (typed, sound) = cell_fits type field c one in
    let (fit, all) = row_fits types fields cells (omega arith) each in
    (rw (typed, fit) refl, All-cons IsSound c cells sound all)

rows_fit : (types : List ColumnType) (body : List Record) (rows : List (List Cell)) → AllZip (SpellsRow types) body rows → All (RowFits types) rows × All (All IsSound) rows
rows_fit types [] [] each = (All-nil (RowFits types), All-nil (All IsSound))
rows_fit types [] (row ∷ rows) each = absurd each
rows_fit types (fields ∷ body) [] each = absurd each
rows_fit types (fields ∷ body) (row ∷ rows) (one, each) =
    let (fit, sound) = row_fits types fields row one.width one.spelled in
    let (all_fit, all_sound) = rows_fit types body rows each in
    (All-cons (RowFits types) row rows fit all_fit, All-cons (All IsSound) row rows sound all_sound)

-- the rows that a text gives are a table's
pub table_given : (shape : TableShape) (text : List ℕ) (rows : List (List Cell)) → table_of shape text ≡ Ok rows → IsTableOf shape rows
unfolding table_of
table_given shape text rows e =
    let gives = under_given shape _ rows e in
    let (fit, sound) = rows_fit (types_of shape.columns) _ rows gives.spelled in
    record { fit = fit; sound = sound; keys_differ = gives.keys_differ }
