-- The cells of a record by their numbers.
use Rattle.std.proofs.Common.{◌≡◌, ◌<◌, ◌+◌, ℕ, zero, suc, true, false}
use Rattle.std.proofs.Common.{if◌then◌else◌, List, []}
use Rattle.std.proofs.Common.{◌∷◌, length, drop, get_or, slice_get, Some, None, refl, sym, ap}
use Rattle.std.proofs.Common.{◌∙◌, drop-cons, add-one, arith}
use Rattle.std.specs.Str.{bytes_eq}
use Rattle.csv.specs.Records.{field_at}
use Rattle.nq_model.specs.Tables.{Columns, names_of}
use Rattle.nq_model.specs.declared.table.ColumnType.{ColumnType}
use Rattle.table_reader.specs.Records.{Record}
use Rattle.table_explanations.specs.Explanations.{begins_with_name, first_other}

pub field_slice : (cells : Record) (at : ℕ) → field_at cells at ≡ slice_get cells at
unfolding field_at
field_slice [] at = refl
field_slice (cell ∷ cells) zero = refl
field_slice (cell ∷ cells) (suc at) = field_slice cells at

pub name_here : (name : List ℕ) (cells : Record) (at : ℕ) (cell : List ℕ)
    → field_at cells at ≡ Some cell
    → begins_with_name name (drop at cells) ≡ bytes_eq name cell
unfolding field_at
name_here name [] at cell e = cc
name_here name (first ∷ cells) zero cell e =
    let same : first ≡ cell = cc in rw same refl
name_here name (first ∷ cells) (suc at) cell e = name_here name cells at cell e

pub name_nowhere : (name : List ℕ) (cells : Record) (at : ℕ) → field_at cells at ≡ None
    → begins_with_name name (drop at cells) ≡ false
unfolding field_at
name_nowhere name [] zero e = refl
name_nowhere name [] (suc at) e = refl
name_nowhere name (first ∷ cells) zero e = cc
name_nowhere name (first ∷ cells) (suc at) e = name_nowhere name cells at e

pub ruleset name_rules = (name_here, name_nowhere)

drop_one : (cells : Record) (at : ℕ) → drop 1 (drop at cells) ≡ drop (suc at) cells
drop_one cells zero = refl
drop_one [] (suc at) = refl
drop_one (cell ∷ cells) (suc at) = drop_one cells at

-- a name that is the cell
pub other_behind : (columns : Columns) (cells : Record) (at : ℕ) (column : List ℕ × ColumnType)
    → at < length columns → column ≡ get_or columns at column
    → begins_with_name column.0 (drop at cells) ≡ true
    → at + 1 + first_other (names_of (drop (at + 1) columns)) (drop (at + 1) cells)
    ≡ at + first_other (names_of (drop at columns)) (drop at cells)
other_behind columns cells at column h is same =
    let rest : List (List ℕ) = names_of (drop (suc at) columns) in
    let cut : drop at columns ≡ column ∷ drop (suc at) columns
    = drop-cons columns at column h ∙ ap (λ c. c ∷ drop (suc at) columns) (sym is) in
    let one : first_other (names_of (drop at columns)) (drop at cells)
    ≡ suc (first_other rest (drop (suc at) cells))
    = ap (λ cs. first_other (names_of cs) (drop at cells)) cut
    ∙ ap (λ b. if b then suc (first_other rest (drop 1 (drop at cells))) else 1) same
    ∙ ap (λ cs. suc (first_other rest cs)) (drop_one cells at) in
    let two : first_other (names_of (drop (at + 1) columns)) (drop (at + 1) cells)
    ≡ first_other rest (drop (suc at) cells)
    = ap (λ n. first_other (names_of (drop n columns)) (drop n cells)) (add-one at) in
    omega (arith, one, two)
