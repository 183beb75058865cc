-- What the cells of a record spell, and its first fault.
use Rattle.std.proofs.Common.{◌≡◌, ◌≢◌, ◌+◌, ◌-◌, ◌==◌, ℕ, zero, suc, Bool, true, false, if◌then◌else◌, Option, Some, None, option_map, Result, Ok, Err, List, [], ◌∷◌, ◌++◌, length, zip, take, drop, slice_get, refl, sym, ap, subst, inl, inr, ◌⊎◌, ◌∙◌, arith, add-zero, true≢false, append-nil}
use Rattle.std.specs.List.{AllZip}
use Rattle.std.specs.Option.{ok_or}
use Rattle.std.specs.Str.{is_utf8}
use Rattle.std.proofs.lemmas.Bool.Decides.{Decides-eqb}
use Rattle.std.proofs.lemmas.List.{length-take}
use Rattle.std.proofs.lemmas.Option.{slice_get_within}
use Rattle.std.proofs.Math.Seq.{take-append_seam}
use Rattle.nq_model.specs.declared.table.Cell.{Cell}
use Rattle.nq_model.specs.declared.table.Cell.TheVariants as cell
use Rattle.nq_model.specs.declared.table.ColumnType.{ColumnType}
use Rattle.nq_model.specs.declared.table.ColumnType.TheVariants as column
use Rattle.table_reader.specs.declared.TableFault.{TableFault}
use Rattle.table_reader.specs.declared.TableFault.TheVariants as fault
use Rattle.table_reader.specs.Records.{Record}
use Rattle.table_reader.specs.Spelling.{int_of, bool_of, cell_of, fault_of, cell_at, and_then, cells_from, row_at}
use Rattle.table_reader.specs.Faults.{Spells, SpellsRow, IsFirstBadCell}

-- a list, split at an element
pub split_at : {A : Type 0} (xs : List A) (i : ℕ) (x : A) → slice_get xs i ≡ Some x → xs ≡ take i xs ++ x ∷ drop (suc i) xs
split_at [] i x e = cc
split_at (y ∷ xs) zero x e = cc
split_at (y ∷ xs) (suc i) x e = ap (λ l. y ∷ l) (split_at xs i x e)

pub get_seam : {A : Type 0} (xs : List A) (x : A) (ys : List A) → slice_get (xs ++ x ∷ ys) (length xs) ≡ Some x
get_seam [] x ys = refl
get_seam (y ∷ xs) x ys = get_seam xs x ys

-- what a value that came of two steps says of each
pub then_ok : {A B : Type 0} (r : Result A TableFault) (next : A → Result B TableFault) (y : B) → and_then r next ≡ Ok y
    → (x : A) × (r ≡ Ok x) × (next x ≡ Ok y)
then_ok (Ok x) next y e = (x, refl, e)
then_ok (Err f) next y e = cc

pub then_err : {A B : Type 0} (r : Result A TableFault) (next : A → Result B TableFault) (e : TableFault) → and_then r next ≡ Err e
    → (r ≡ Err e) ⊎ ((x : A) × (r ≡ Ok x) × (next x ≡ Err e))
then_err (Ok x) next e is = inr (x, refl, is)
then_err (Err f) next e is = inl cc

then_same : {A : Type 0} (r : Result A TableFault) → r ≡ and_then r (λ x. Ok x)
then_same (Ok x) = refl
then_same (Err f) = refl

then_then : {A B C : Type 0} (r : Result A TableFault) (f : A → Result B TableFault) (g : B → Result C TableFault)
    → and_then (and_then r f) g ≡ and_then r (λ x. and_then (f x) g)
then_then (Ok x) f g = refl
then_then (Err e) f g = refl

module _ (row at : ℕ) (field : List ℕ) where
  -- the fault of a field in a column of a type
  abbrev pub IsWrong : ColumnType → TableFault → Type 0
  IsWrong type fault.Memory = ⊥
  IsWrong type fault.Header = ⊥
  IsWrong type (fault.Width r) = ⊥
  IsWrong type (fault.NotUtf8 r c) = (r ≡ row) × (c ≡ at) × (is_utf8 field ≡ false)
  IsWrong type (fault.BadInt r c) = (r ≡ row) × (c ≡ at) × (type ≡ column.Int) × (is_utf8 field ≡ true) × (int_of field ≡ None)
  IsWrong type (fault.BadBool r c) = (r ≡ row) × (c ≡ at) × (type ≡ column.Bool) × (is_utf8 field ≡ true) × (bool_of field ≡ None)
  IsWrong type (fault.TwiceKey r e) = ⊥

  pub cell_spelled : (type : ColumnType) (c : Cell) → cell_at row at type field ≡ Ok c → Spells (type, field) c
  unfolding cell_at
  cell_spelled type c e = by (is_utf8 field) (cell_of type field) e
    where
      by : (b : Bool) (o : Option Cell) → (if b then ok_or o (fault_of type row at) else Err (fault.NotUtf8 row at)) ≡ Ok c → (b ≡ true) × (o ≡ Some c)
      by true (Some d) e = (refl, cc)
      by true None e = cc
      by false o e = cc

  pub spelled_cell : (type : ColumnType) (c : Cell) → Spells (type, field) c → cell_at row at type field ≡ Ok c
  unfolding cell_at
  spelled_cell type c (utf8, is) = rw (utf8, is) refl

  pub cell_wrong : (type : ColumnType) (e : TableFault) → cell_at row at type field ≡ Err e → IsWrong type e
  unfolding cell_at
  cell_wrong type e is = by (is_utf8 field) refl is
    where
      ints : (o : Option _) → is_utf8 field ≡ true → int_of field ≡ o → ok_or (option_map cell.Int o) (fault.BadInt row at) ≡ Err e → IsWrong column.Int e
      ints (Some n) utf8 spelled is = cc
      ints None utf8 spelled is =
          let same : fault.BadInt row at ≡ e = cc in
          subst (λ (f : TableFault). IsWrong column.Int f) same (refl, refl, refl, utf8, spelled)

      bools : (o : Option Bool) → is_utf8 field ≡ true → bool_of field ≡ o → ok_or (option_map cell.Bool o) (fault.BadBool row at) ≡ Err e → IsWrong column.Bool e
      bools (Some b) utf8 spelled is = cc
      bools None utf8 spelled is =
          let same : fault.BadBool row at ≡ e = cc in
          subst (λ (f : TableFault). IsWrong column.Bool f) same (refl, refl, refl, utf8, spelled)

      typed : (type : ColumnType) → is_utf8 field ≡ true → ok_or (cell_of type field) (fault_of type row at) ≡ Err e → IsWrong type e
      typed column.Int utf8 is = ints (int_of field) utf8 refl is
      typed column.Bool utf8 is = bools (bool_of field) utf8 refl is
      typed column.Text utf8 is = cc

      by : (b : Bool) → is_utf8 field ≡ b → (if b then ok_or (cell_of type field) (fault_of type row at) else Err (fault.NotUtf8 row at)) ≡ Err e → IsWrong type e
      by true utf8 is = typed type utf8 is
      by false utf8 is =
          let same : fault.NotUtf8 row at ≡ e = cc in
          subst (λ (f : TableFault). IsWrong type f) same (refl, refl, utf8)

  pub wrong_cell : (type : ColumnType) (e : TableFault) → IsWrong type e → cell_at row at type field ≡ Err e
  unfolding cell_at
  wrong_cell type fault.Memory h = absurd h
  wrong_cell type fault.Header h = absurd h
  wrong_cell type (fault.Width r) h = absurd h
  wrong_cell type (fault.NotUtf8 r c) (p, q, utf8) = rw (utf8, p, q) refl
  wrong_cell type (fault.BadInt r c) (p, q, typed, utf8, none) = rw (typed, utf8, none, p, q) refl
  wrong_cell type (fault.BadBool r c) (p, q, typed, utf8, none) = rw (typed, utf8, none, p, q) refl
  wrong_cell type (fault.TwiceKey r e) h = absurd h

module _ (row : ℕ) where
  pub cells_spelled : (at : ℕ) (ps : List (ColumnType × List ℕ)) (cells : List Cell) → cells_from row at ps ≡ Ok cells → AllZip Spells ps cells
  cells_spelled at [] [] e = tt
  cells_spelled at [] (c ∷ cells) e = cc
  cells_spelled at (p ∷ ps) cells e =
      let one = then_ok (cell_at row at p.0 p.1) _ cells e in
      let more = then_ok (cells_from row (at + 1) ps) _ cells one.2 in
      let same : one.0 ∷ more.0 ≡ cells = cc in
      subst (λ (l : List Cell). AllZip Spells (p ∷ ps) l) same (cell_spelled row at p.1 p.0 one.0 one.1, cells_spelled (at + 1) ps more.0 more.1)

  -- fields that spell cells, and then others
  pub spelled_then : (at : ℕ) (ps : List (ColumnType × List ℕ)) (cells : List Cell) (rest : List (ColumnType × List ℕ)) → AllZip Spells ps cells
      → cells_from row at (ps ++ rest) ≡ and_then (cells_from row (at + length ps) rest) (λ more. Ok (cells ++ more))
  spelled_then at [] [] rest h = rw (add-zero at) (then_same (cells_from row at rest))
  spelled_then at [] (c ∷ cells) rest h = absurd h
  spelled_then at (p ∷ ps) [] rest h = absurd h
  spelled_then at (p ∷ ps) (c ∷ cells) rest (one, more) =
      let next : at + 1 + length ps ≡ at + suc (length ps) = omega arith in
      rw (spelled_cell row at p.1 p.0 c one, spelled_then (at + 1) ps cells rest more, next) (then_then (cells_from row (at + suc (length ps)) rest) _ _)

  pub spelled_cells : (ps : List (ColumnType × List ℕ)) (cells : List Cell) → AllZip Spells ps cells → cells_from row 1 ps ≡ Ok cells
  spelled_cells ps cells h =
      let e : cells_from row 1 (ps ++ []) ≡ Ok (cells ++ []) = spelled_then 1 ps cells [] h in
      rw (append-nil ps, append-nil cells) at e

  -- fields that spell cells, and then one at fault
  pub record BadAfter (at : ℕ) (ps : List (ColumnType × List ℕ)) (e : TableFault) : Type 0 where
    pub before : List (ColumnType × List ℕ)
    pub cells : List Cell
    pub spelled : AllZip Spells before cells
    pub p : ColumnType × List ℕ
    pub after : List (ColumnType × List ℕ)
    pub is : ps ≡ before ++ p ∷ after
    pub wrong : cell_at row (at + length before) p.0 p.1 ≡ Err e

  pub cells_wrong : (at : ℕ) (ps : List (ColumnType × List ℕ)) (e : TableFault) → cells_from row at ps ≡ Err e → BadAfter at ps e
  cells_wrong at [] e is = cc
  cells_wrong at (p ∷ ps) e is = by (then_err (cell_at row at p.0 p.1) _ e is) (cells_wrong (at + 1) ps e)
    where
      here : cell_at row at p.0 p.1 ≡ Err e → BadAfter at (p ∷ ps) e
      here wrong = record { before = []; cells = []; spelled = tt; p = p; after = ps; is = refl; wrong = rw (add-zero at) wrong }

      later : (c : Cell) → cell_at row at p.0 p.1 ≡ Ok c → BadAfter (at + 1) ps e → BadAfter at (p ∷ ps) e
      later c is bad =
          let next : at + suc (length bad.before) ≡ at + 1 + length bad.before = omega arith in
          record { before = p ∷ bad.before; cells = c ∷ bad.cells; spelled = (cell_spelled row at p.1 p.0 c is, bad.spelled); p = bad.p; after = bad.after; is = ap (λ l. p ∷ l) bad.is; wrong = rw next bad.wrong }

      rest : (c : Cell) → cell_at row at p.0 p.1 ≡ Ok c → (cells_from row (at + 1) ps ≡ Err e) ⊎ ((cells : List Cell) × (cells_from row (at + 1) ps ≡ Ok cells) × (Ok (c ∷ cells) ≡ Err e))
          → (cells_from row (at + 1) ps ≡ Err e → BadAfter (at + 1) ps e) → BadAfter at (p ∷ ps) e
      rest c is (inl wrong) bad = later c is (bad wrong)
      rest c is (inr (cells, ok, never)) bad = cc

      by : (cell_at row at p.0 p.1 ≡ Err e) ⊎ ((c : Cell) × (cell_at row at p.0 p.1 ≡ Ok c) × (and_then (cells_from row (at + 1) ps) (λ cells. Ok (c ∷ cells)) ≡ Err e))
          → (cells_from row (at + 1) ps ≡ Err e → BadAfter (at + 1) ps e) → BadAfter at (p ∷ ps) e
      by (inl wrong) bad = here wrong
      by (inr (c, ok, is)) bad = rest c ok (then_err (cells_from row (at + 1) ps) _ e is) bad

other_numbers : (m n : ℕ) → (m == n) ≡ false → m ≢ n
other_numbers m n e same = true≢false (sym ((Decides-eqb m n).1 same) ∙ e)

same_numbers : (m n : ℕ) → m ≢ n → (m == n) ≡ false
same_numbers m n other = by (m == n) refl
  where
    by : (b : Bool) → (m == n) ≡ b → b ≡ false
    by true e = absurd (other ((Decides-eqb m n).0 e))
    by false e = refl

module _ (row : ℕ) (types : List ColumnType) (fields : Record) where
  pub row_spelled : (cells : List Cell) → row_at row types fields ≡ Ok cells → SpellsRow types fields cells
  unfolding row_at
  row_spelled cells e = by (length fields == length types) refl e
    where
      by : (b : Bool) → (length fields == length types) ≡ b → (if b then cells_from row 1 (zip types fields) else Err (fault.Width row)) ≡ Ok cells → SpellsRow types fields cells
      by true width e = record { width = (Decides-eqb (length fields) (length types)).0 width; spelled = cells_spelled row 1 (zip types fields) cells e }
      by false width e = cc

  pub spelled_row : (cells : List Cell) → SpellsRow types fields cells → row_at row types fields ≡ Ok cells
  unfolding row_at
  spelled_row cells h = rw ((Decides-eqb (length fields) (length types)).1 h.width) (spelled_cells row (zip types fields) cells h.spelled)

  -- the fault of a record
  abbrev pub IsWrongRow : TableFault → Type 0
  IsWrongRow fault.Memory = ⊥
  IsWrongRow fault.Header = ⊥
  IsWrongRow (fault.Width r) = (r ≡ row) × (length fields ≢ length types)
  IsWrongRow (fault.NotUtf8 r c) = (r ≡ row) × IsFirstBadCell types fields c (λ type field. is_utf8 field ≡ false)
  IsWrongRow (fault.BadInt r c) = (r ≡ row) × IsFirstBadCell types fields c (λ type field. (type ≡ column.Int) × (is_utf8 field ≡ true) × (int_of field ≡ None))
  IsWrongRow (fault.BadBool r c) = (r ≡ row) × IsFirstBadCell types fields c (λ type field. (type ≡ column.Bool) × (is_utf8 field ≡ true) × (bool_of field ≡ None))
  IsWrongRow (fault.TwiceKey r e) = ⊥

  bad_cell : (Wrong : ColumnType → List ℕ → Type 0) (e : TableFault) (c : ℕ) (bad : BadAfter row 1 (zip types fields) e) → length fields ≡ length types
      → c ≡ 1 + length bad.before → Wrong bad.p.0 bad.p.1 → IsFirstBadCell types fields c Wrong
  bad_cell Wrong e c bad width is wrong =
      let place : c - 1 ≡ length bad.before = omega arith in
      record {
        width = width;
        counted = omega arith;
        cells = bad.cells;
        before = rw (place, bad.is, take-append_seam) bad.spelled;
        type = bad.p.0;
        field = bad.p.1;
        here = rw (place, bad.is) (get_seam bad.before bad.p bad.after);
        wrong = wrong;
      }

  pub row_wrong : (e : TableFault) → row_at row types fields ≡ Err e → IsWrongRow e
  unfolding row_at
  row_wrong e is = by (length fields == length types) refl is
    where
      of_cell : (f : TableFault) (bad : BadAfter row 1 (zip types fields) f) → length fields ≡ length types → IsWrong row (1 + length bad.before) bad.p.1 bad.p.0 f → IsWrongRow f
      of_cell fault.Memory bad width h = absurd h
      of_cell fault.Header bad width h = absurd h
      of_cell (fault.Width r) bad width h = absurd h
      of_cell (fault.NotUtf8 r c) bad width (p, q, h) = (p, bad_cell (λ type field. is_utf8 field ≡ false) (fault.NotUtf8 r c) c bad width q h)
      of_cell (fault.BadInt r c) bad width (p, q, h, k, l) =
          (p, bad_cell (λ type field. (type ≡ column.Int) × (is_utf8 field ≡ true) × (int_of field ≡ None)) (fault.BadInt r c) c bad width q (h, k, l))
      of_cell (fault.BadBool r c) bad width (p, q, h, k, l) =
          (p, bad_cell (λ type field. (type ≡ column.Bool) × (is_utf8 field ≡ true) × (bool_of field ≡ None)) (fault.BadBool r c) c bad width q (h, k, l))
      of_cell (fault.TwiceKey r f) bad width h = absurd h

      by : (b : Bool) → (length fields == length types) ≡ b → (if b then cells_from row 1 (zip types fields) else Err (fault.Width row)) ≡ Err e → IsWrongRow e
      by true width is =
          let bad = cells_wrong row 1 (zip types fields) e is in
          of_cell e bad ((Decides-eqb (length fields) (length types)).0 width) (cell_wrong row (1 + length bad.before) bad.p.1 bad.p.0 e bad.wrong)
      by false width is =
          let same : fault.Width row ≡ e = cc in
          subst (λ (f : TableFault). IsWrongRow f) same (refl, other_numbers (length fields) (length types) width)

  wrong_at : (Wrong : ColumnType → List ℕ → Type 0) (e : TableFault) (c : ℕ) (bad : IsFirstBadCell types fields c Wrong)
      → IsWrong row c bad.field bad.type e → row_at row types fields ≡ Err e
  unfolding row_at
  wrong_at Wrong e c bad wrong =
      let ps = zip types fields in
      let before = take (c - 1) ps in
      let within = slice_get_within ps (c - 1) (bad.type, bad.field) bad.here in
      let counted = bad.counted in
      let long : length before ≡ c - 1 = rw length-take (omega (arith, within)) in
      let here : 1 + length before ≡ c = omega arith in
      let cells = spelled_then row 1 before bad.cells ((bad.type, bad.field) ∷ drop (suc (c - 1)) ps) bad.before in
      let cell : cell_at row (1 + length before) bad.type bad.field ≡ Err e = rw here (wrong_cell row c bad.field bad.type e wrong) in
      rw ((Decides-eqb (length fields) (length types)).1 bad.width) (ap (cells_from row 1) (split_at ps (c - 1) (bad.type, bad.field) bad.here) ∙ cells ∙ rw cell refl)

  pub wrong_row : (e : TableFault) → IsWrongRow e → row_at row types fields ≡ Err e
  unfolding row_at
  wrong_row fault.Memory h = absurd h
  wrong_row fault.Header h = absurd h
  wrong_row (fault.Width r) (p, other) = rw (same_numbers (length fields) (length types) other, p) refl
  wrong_row (fault.NotUtf8 r c) (p, bad) =
      rw p (wrong_at (λ type field. is_utf8 field ≡ false) (fault.NotUtf8 row c) c bad (refl, refl, bad.wrong))
  wrong_row (fault.BadInt r c) (p, bad) =
      rw p (wrong_at (λ type field. (type ≡ column.Int) × (is_utf8 field ≡ true) × (int_of field ≡ None)) (fault.BadInt row c) c bad (refl, refl, bad.wrong.0, bad.wrong.1, bad.wrong.2))
  wrong_row (fault.BadBool r c) (p, bad) =
      rw p (wrong_at (λ type field. (type ≡ column.Bool) × (is_utf8 field ≡ true) × (bool_of field ≡ None)) (fault.BadBool row c) c bad (refl, refl, bad.wrong.0, bad.wrong.1, bad.wrong.2))
  wrong_row (fault.TwiceKey r e) h = absurd h
