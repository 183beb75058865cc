-- What the members of an object are under columns, and the first fault of a row.
use Rattle.std.proofs.Common.{◌≡◌, ◌+◌, ◌-◌, ℕ, zero, suc, Bool, true, false, if◌then◌else◌, Option, Some, None, Result, Ok, Err, List, [], ◌∷◌, ◌++◌, length, take, drop, slice_get, refl, sym, ap, subst, inl, inr, ◌⊎◌, ◌∙◌, arith, add-zero, append-nil}
use Rattle.std.specs.List.{AllZip}
use Rattle.std.proofs.lemmas.List.{length-take}
use Rattle.std.proofs.lemmas.Option.{slice_get_within}
use Rattle.std.proofs.Math.Seq.{take-append_seam}
use Rattle.nq_model.specs.Tables.{Columns}
use Rattle.nq_model.specs.declared.table.Cell.{Cell}
use Rattle.nq_model.specs.declared.table.ColumnType.{ColumnType}
use Rattle.serde_json.specs.Data.{Data, Members}
use Rattle.serde_json.specs.Find.{as_object}
use Rattle.nq_json.specs.Tables.{cell_under, has_names, or_fault, and_then, cell_at, cells_from, named_cells, row_at}
use Rattle.nq_json.specs.Faults.{IsNamed, IsCell, IsRow, IsFirstBadCell}
use Rattle.nq_json.specs.declared.tables.JsonTableFault.{JsonTableFault}
use Rattle.nq_json.specs.declared.tables.JsonTableFault.TheVariants as fault

-- a list, split at an element
pub split_at : {A : Type 0} (xs : List A) (i : ℕ) (x : A) → slice_get xs i ≡ Some x → xs ≡ take i xs ++ x ∷ drop (suc i) xs
split_at [] i x e = cc
split_at (y ∷ xs) zero x e = cc
split_at (y ∷ xs) (suc i) x e = ap (λ l. y ∷ l) (split_at xs i x e)

pub get_seam : {A : Type 0} (xs : List A) (x : A) (ys : List A) → slice_get (xs ++ x ∷ ys) (length xs) ≡ Some x
get_seam [] x ys = refl
get_seam (y ∷ xs) x ys = get_seam xs x ys

-- what a value that came of two steps says of each
pub then_ok : {A B : Type 0} (r : Result A JsonTableFault) (next : A → Result B JsonTableFault) (y : B) → and_then r next ≡ Ok y
    → (x : A) × (r ≡ Ok x) × (next x ≡ Ok y)
then_ok (Ok x) next y e = (x, refl, e)
then_ok (Err f) next y e = cc

pub then_err : {A B : Type 0} (r : Result A JsonTableFault) (next : A → Result B JsonTableFault) (e : JsonTableFault) → and_then r next ≡ Err e
    → (r ≡ Err e) ⊎ ((x : A) × (r ≡ Ok x) × (next x ≡ Err e))
then_err (Ok x) next e is = inr (x, refl, is)
then_err (Err f) next e is = inl cc

pub then_same : {A : Type 0} (r : Result A JsonTableFault) → r ≡ and_then r (λ x. Ok x)
then_same (Ok x) = refl
then_same (Err f) = refl

pub then_then : {A B C : Type 0} (r : Result A JsonTableFault) (f : A → Result B JsonTableFault) (g : B → Result C JsonTableFault)
    → and_then (and_then r f) g ≡ and_then r (λ x. and_then (f x) g)
then_then (Ok x) f g = refl
then_then (Err e) f g = refl

-- what is there, or else a fault
pub there : {A : Type 0} (e : JsonTableFault) (o : Option A) (x : A) → or_fault e o ≡ Ok x → o ≡ Some x
there e None x is = cc
there e (Some y) x is = cc

pub missing : {A : Type 0} (e f : JsonTableFault) (o : Option A) → or_fault e o ≡ Err f → (o ≡ None) × (e ≡ f)
missing e f None is = (refl, cc)
missing e f (Some y) is = cc

module _ (row : ℕ) (ms : Members) where
  abbrev Lacks : List ℕ × ColumnType → Type 0
  Lacks c = cell_under c ms ≡ None

  pub cells_given : (at : ℕ) (cs : Columns) (cells : List Cell) → cells_from row at cs ms ≡ Ok cells → AllZip (IsCell ms) cs cells
  cells_given at [] [] e = tt
  cells_given at [] (x ∷ cells) e = cc
  cells_given at (c ∷ cs) cells e =
      let one = then_ok (cell_at row at c ms) _ cells e in
      let more = then_ok (cells_from row (at + 1) cs ms) _ cells one.2 in
      let same : one.0 ∷ more.0 ≡ cells = cc in
      subst (λ (l : List Cell). AllZip (IsCell ms) (c ∷ cs) l) same (there _ _ one.0 one.1, cells_given (at + 1) cs more.0 more.1)

  -- columns whose members are cells, and then others
  given_then : (at : ℕ) (cs : Columns) (cells : List Cell) (rest : Columns) → AllZip (IsCell ms) cs cells
      → cells_from row at (cs ++ rest) ms ≡ and_then (cells_from row (at + length cs) rest ms) (λ more. Ok (cells ++ more))
  given_then at [] [] rest h = rw (add-zero at) (then_same (cells_from row at rest ms))
  given_then at [] (x ∷ cells) rest h = absurd h
  given_then at (c ∷ cs) [] rest h = absurd h
  given_then at (c ∷ cs) (x ∷ cells) rest (one, more) =
      let next : at + 1 + length cs ≡ at + suc (length cs) = omega arith in
      rw (one, given_then (at + 1) cs cells rest more, next) (then_then (cells_from row (at + suc (length cs)) rest ms) _ _)

  given_cells : (cs : Columns) (cells : List Cell) → AllZip (IsCell ms) cs cells → cells_from row 1 cs ms ≡ Ok cells
  given_cells cs cells h =
      let e : cells_from row 1 (cs ++ []) ms ≡ Ok (cells ++ []) = given_then 1 cs cells [] h in
      rw (append-nil cs, append-nil cells) at e

  -- columns whose members are cells, and then one whose member is none
  record BadAfter (at : ℕ) (cs : Columns) (e : JsonTableFault) : Type 0 where
    before : Columns
    cells : List Cell
    given : AllZip (IsCell ms) before cells
    c : List ℕ × ColumnType
    after : Columns
    is : cs ≡ before ++ c ∷ after
    wrong : Lacks c
    told : fault.BadCell row (at + length before) ≡ e

  cells_wrong : (at : ℕ) (cs : Columns) (e : JsonTableFault) → cells_from row at cs ms ≡ Err e → BadAfter at cs e
  cells_wrong at [] e is = cc
  cells_wrong at (c ∷ cs) e is = by (then_err (cell_at row at c ms) _ e is) (cells_wrong (at + 1) cs e)
    where
      here : cell_at row at c ms ≡ Err e → BadAfter at (c ∷ cs) e
      here wrong =
          let (none, told) = missing (fault.BadCell row at) e _ wrong in
          record { before = []; cells = []; given = tt; c = c; after = cs; is = refl; wrong = none; told = rw (add-zero at) told }

      later : (x : Cell) → cell_at row at c ms ≡ Ok x → BadAfter (at + 1) cs e → BadAfter at (c ∷ cs) e
      later x is bad =
          let next : at + suc (length bad.before) ≡ at + 1 + length bad.before = omega arith in
          record { before = c ∷ bad.before; cells = x ∷ bad.cells; given = (there _ _ x is, bad.given); c = bad.c; after = bad.after; is = ap (λ l. c ∷ l) bad.is; wrong = bad.wrong; told = rw next bad.told }

      rest : (x : Cell) → cell_at row at c ms ≡ Ok x → (cells_from row (at + 1) cs ms ≡ Err e) ⊎ ((cells : List Cell) × (cells_from row (at + 1) cs ms ≡ Ok cells) × (Ok (x ∷ cells) ≡ Err e))
          → (cells_from row (at + 1) cs ms ≡ Err e → BadAfter (at + 1) cs e) → BadAfter at (c ∷ cs) e
      rest x is (inl wrong) bad = later x is (bad wrong)
      rest x is (inr (cells, ok, never)) bad = cc

      by : (cell_at row at c ms ≡ Err e) ⊎ ((x : Cell) × (cell_at row at c ms ≡ Ok x) × (and_then (cells_from row (at + 1) cs ms) (λ cells. Ok (x ∷ cells)) ≡ Err e))
          → (cells_from row (at + 1) cs ms ≡ Err e → BadAfter (at + 1) cs e) → BadAfter at (c ∷ cs) e
      by (inl wrong) bad = here wrong
      by (inr (x, ok, is)) bad = rest x ok (then_err (cells_from row (at + 1) cs ms) _ e is) bad

module _ (row : ℕ) (columns : Columns) (d : Data) where
  pub row_given : (cells : List Cell) → row_at row columns d ≡ Ok cells → IsRow columns d cells
  unfolding row_at
  row_given cells e =
      let object = then_ok (or_fault (fault.BadRow row) (as_object d)) (named_cells row columns) cells e in
      by object.0 (there _ _ object.0 object.1) (has_names columns object.0) refl object.2
    where
      by : (ms : Members) → as_object d ≡ Some ms → (b : Bool) → has_names columns ms ≡ b → (if b then cells_from row 1 columns ms else Err (fault.BadRow row)) ≡ Ok cells → IsRow columns d cells
      by ms is true named e = record { members = ms; named = record { is = is; named = named }; cells_are = cells_given row ms 1 columns cells e }
      by ms is false named e = cc

  pub given_row : (cells : List Cell) → IsRow columns d cells → row_at row columns d ≡ Ok cells
  unfolding row_at
  given_row cells h = rw (h.named.is, h.named.named) (given_cells row h.members columns cells h.cells_are)

  -- the fault of a row
  abbrev pub IsWrongRow : JsonTableFault → Type 0
  IsWrongRow fault.Memory = ⊥
  IsWrongRow fault.NotJson = ⊥
  IsWrongRow fault.NotArray = ⊥
  IsWrongRow (fault.BadRow r) = (r ≡ row) × ((ms : Members) → IsNamed columns d ms → ⊥)
  IsWrongRow (fault.BadCell r c) = (r ≡ row) × IsFirstBadCell columns d c
  IsWrongRow (fault.TwiceKey r e) = ⊥

  pub row_wrong : (e : JsonTableFault) → row_at row columns d ≡ Err e → IsWrongRow e
  unfolding row_at
  row_wrong e is = by (then_err (or_fault (fault.BadRow row) (as_object d)) (named_cells row columns) e is)
    where
      of_cell : (ms : Members) → as_object d ≡ Some ms → has_names columns ms ≡ true → BadAfter row ms 1 columns e → IsWrongRow e
      of_cell ms is named bad =
          let place : 1 + length bad.before - 1 ≡ length bad.before = omega arith in
          subst IsWrongRow bad.told (
            refl,
            record {
              members = ms;
              named = record { is = is; named = named };
              counted = omega arith;
              cells = bad.cells;
              before = rw (place, bad.is, take-append_seam) bad.given;
              c = bad.c;
              here = rw (place, bad.is) (get_seam bad.before bad.c bad.after);
              wrong = bad.wrong;
            },
          )

      cells : (ms : Members) → as_object d ≡ Some ms → (b : Bool) → has_names columns ms ≡ b → (if b then cells_from row 1 columns ms else Err (fault.BadRow row)) ≡ Err e → IsWrongRow e
      cells ms is true named wrong = of_cell ms is named (cells_wrong row ms 1 columns e wrong)
      cells ms is false other wrong =
          let same : fault.BadRow row ≡ e = cc in
          subst IsWrongRow same (
            refl,
            λ ns named.
                let one = named.is in
                let all = named.named in
                let equal : ms ≡ ns = cc in
                let both : true ≡ false = sym all ∙ ap (has_names columns) (sym equal) ∙ other in
                cc,
          )

      by : (or_fault (fault.BadRow row) (as_object d) ≡ Err e) ⊎ ((ms : Members) × (or_fault (fault.BadRow row) (as_object d) ≡ Ok ms) × (named_cells row columns ms ≡ Err e)) → IsWrongRow e
      by (inl wrong) =
          let (none, told) = missing (fault.BadRow row) e (as_object d) wrong in
          subst IsWrongRow told (refl, λ ns named. let some = named.is in cc)
      by (inr (ms, ok, wrong)) = cells ms (there _ _ ms ok) (has_names columns ms) refl wrong

  pub wrong_row : (e : JsonTableFault) → IsWrongRow e → row_at row columns d ≡ Err e
  unfolding row_at
  wrong_row fault.Memory h = absurd h
  wrong_row fault.NotJson h = absurd h
  wrong_row fault.NotArray h = absurd h
  wrong_row (fault.BadRow r) (p, unnamed) = by (as_object d) refl
    where
      test : (ms : Members) → as_object d ≡ Some ms → (b : Bool) → has_names columns ms ≡ b → (if b then cells_from row 1 columns ms else Err (fault.BadRow row)) ≡ Err (fault.BadRow r)
      test ms is true named = absurd (unnamed ms (record { is = is; named = named }))
      test ms is false other = rw p refl

      by : (o : Option Members) → as_object d ≡ o → and_then (or_fault (fault.BadRow row) o) (named_cells row columns) ≡ Err (fault.BadRow r)
      by None is = rw p refl
      by (Some ms) is = test ms is (has_names columns ms) refl
  wrong_row (fault.BadCell r c) (p, bad) =
      let place = bad.counted in
      let ms = bad.members in
      let before = take (c - 1) columns in
      let within = slice_get_within columns (c - 1) bad.c bad.here in
      let long : length before ≡ c - 1 = rw length-take (omega (arith, within)) in
      let here : 1 + length before ≡ c = omega arith in
      let cells = given_then row ms 1 before bad.cells (bad.c ∷ drop (suc (c - 1)) columns) bad.before in
      rw (bad.named.is, bad.named.named) (ap (λ (cs : Columns). cells_from row 1 cs ms) (split_at columns (c - 1) bad.c bad.here) ∙ cells ∙ rw (bad.wrong, here, p) refl)
  wrong_row (fault.TwiceKey r e) h = absurd h
