-- What the elements of an array give, and the first fault.
use Rattle.std.proofs.Common.{◌≡◌, ◌+◌, ◌-◌, ℕ, suc, Option, Some, None, Result, Ok, Err, List, [], ◌∷◌, ◌++◌, length, take, drop, refl, sym, ap, subst, inl, inr, ◌⊎◌, ◌∙◌, arith, append-nil, append_assoc}
use Rattle.std.specs.List.{AllZip}
use Rattle.std.proofs.lemmas.List.{length-take}
use Rattle.std.proofs.lemmas.Option.{slice_get_within}
use Rattle.std.proofs.lemmas.Slice.Zip.{AllZip-long}
use Rattle.std.proofs.Math.Seq.{take-append_seam}
use Rattle.nq_model.specs.SchemaTables.{KeysDiffer}
use Rattle.nq_model.specs.declared.table.Cell.{Cell}
use Rattle.nq_model.specs.declared.table.TableShape.{TableShape}
use Rattle.row_keys.specs.Keys.{twin_of, IsFirstTwin}
use Rattle.row_keys.proofs.TwinFacts.{keys_more, keys_before, twin_first, first_twin}
use Rattle.serde_json.specs.Data.{Data, Items, no_items, item}
use Rattle.serde_json.specs.Find.{as_array}
use Rattle.nq_json.specs.Tables.{data_of, or_fault, and_then, row_at, unless_twin, next_row, rows_after, table_of}
use Rattle.nq_json.specs.Faults.{elements, IsNamed, IsRow, GivesRows, IsFirstFault, IsFirstBadCell, OfArray, HasFault}
use Rattle.nq_json.specs.declared.tables.JsonTableFault.{JsonTableFault}
use Rattle.nq_json.specs.declared.tables.JsonTableFault.TheVariants as fault
use Rattle.nq_json.proofs.RowFacts.{split_at, get_seam, then_ok, then_err, there, missing, row_given, given_row, IsWrongRow, row_wrong, wrong_row}

module _ (shape : TableShape) where
  -- the rows of elements after earlier rows, over their list
  pub after : List (List Cell) → List Data → Result (List (List Cell)) JsonTableFault
  after earlier [] = Ok earlier
  after earlier (d ∷ ds) = and_then (next_row shape earlier d) (λ row. after (earlier ++ row ∷ []) ds)

  after_is : (earlier : List (List Cell)) (ds : Items) → rows_after shape earlier ds ≡ after earlier (elements ds)
  unfolding after
  after_is earlier no_items = refl
  after_is earlier (item d ds) = by (next_row shape earlier d) (λ row. after_is (earlier ++ row ∷ []) ds)
    where
      by : (r : Result (List Cell) JsonTableFault) → ((row : List Cell) → rows_after shape (earlier ++ row ∷ []) ds ≡ after (earlier ++ row ∷ []) (elements ds))
          → and_then r (λ row. rows_after shape (earlier ++ row ∷ []) ds) ≡ and_then r (λ row. after (earlier ++ row ∷ []) (elements ds))
      by (Ok row) later = later row
      by (Err e) later = refl

  after-append : (earlier : List (List Cell)) (xs ys : List Data) → after earlier (xs ++ ys) ≡ and_then (after earlier xs) (λ rows. after rows ys)
  unfolding after
  after-append earlier [] ys = refl
  after-append earlier (x ∷ xs) ys = by (next_row shape earlier x) (λ row. after-append (earlier ++ row ∷ []) xs ys)
    where
      by : (r : Result (List Cell) JsonTableFault)
          → ((row : List Cell) → after (earlier ++ row ∷ []) (xs ++ ys) ≡ and_then (after (earlier ++ row ∷ []) xs) (λ rows. after rows ys))
          → and_then r (λ row. after (earlier ++ row ∷ []) (xs ++ ys)) ≡ and_then (and_then r (λ row. after (earlier ++ row ∷ []) xs)) (λ rows. after rows ys)
      by (Ok row) later = later row
      by (Err e) later = refl

  -- the next row, and that no row before it has its key
  next_given : (rows : List (List Cell)) (d : Data) (row : List Cell) → next_row shape rows d ≡ Ok row → IsRow shape.columns d row × (twin_of shape row rows ≡ None)
  unfolding next_row
  next_given rows d row e =
      let given = then_ok (row_at (length rows + 1) shape.columns d) _ row e in
      by given.0 given.1 (twin_of shape given.0 rows) refl given.2
    where
      by : (cells : List Cell) → row_at (length rows + 1) shape.columns d ≡ Ok cells
          → (twin : Option ℕ) → twin_of shape cells rows ≡ twin → unless_twin (length rows + 1) cells twin ≡ Ok row
          → IsRow shape.columns d row × (twin_of shape row rows ≡ None)
      by cells given None none is =
          let same : cells ≡ row = cc in
          subst (λ (l : List Cell). IsRow shape.columns d l × (twin_of shape l rows ≡ None)) same (row_given (length rows + 1) shape.columns d cells given, none)
      by cells given (Some first) found is = cc

  given_next : (rows : List (List Cell)) (d : Data) (row : List Cell) → IsRow shape.columns d row → twin_of shape row rows ≡ None → next_row shape rows d ≡ Ok row
  unfolding next_row
  given_next rows d row given none = rw (given_row (length rows + 1) shape.columns d row given, none) refl

  -- a row with the key of an earlier one
  abbrev IsTwice : List (List Cell) → Data → JsonTableFault → Type 0
  IsTwice rows d fault.Memory = ⊥
  IsTwice rows d fault.NotJson = ⊥
  IsTwice rows d fault.NotArray = ⊥
  IsTwice rows d (fault.BadRow r) = ⊥
  IsTwice rows d (fault.BadCell r c) = ⊥
  IsTwice rows d (fault.TwiceKey r first) = (r ≡ length rows + 1) × ((cells : List Cell) × IsRow shape.columns d cells × IsFirstTwin shape rows cells first)

  next_wrong : (rows : List (List Cell)) (d : Data) (e : JsonTableFault) → next_row shape rows d ≡ Err e → IsWrongRow (length rows + 1) shape.columns d e ⊎ IsTwice rows d e
  unfolding next_row
  next_wrong rows d e is = by (then_err (row_at (length rows + 1) shape.columns d) _ e is)
    where
      twice : (cells : List Cell) → row_at (length rows + 1) shape.columns d ≡ Ok cells
          → (twin : Option ℕ) → twin_of shape cells rows ≡ twin → unless_twin (length rows + 1) cells twin ≡ Err e → IsTwice rows d e
      twice cells given None none is = cc
      twice cells given (Some first) found is =
          let same : fault.TwiceKey (length rows + 1) first ≡ e = cc in
          subst (λ (f : JsonTableFault). IsTwice rows d f) same (refl, (cells, row_given (length rows + 1) shape.columns d cells given, twin_first shape cells rows first found))

      by : (row_at (length rows + 1) shape.columns d ≡ Err e)
          ⊎ ((cells : List Cell) × (row_at (length rows + 1) shape.columns d ≡ Ok cells) × (unless_twin (length rows + 1) cells (twin_of shape cells rows) ≡ Err e))
          → IsWrongRow (length rows + 1) shape.columns d e ⊎ IsTwice rows d e
      by (inl wrong) = inl (row_wrong (length rows + 1) shape.columns d e wrong)
      by (inr (cells, given, is)) = inr (twice cells given (twin_of shape cells rows) refl is)

  wrong_next : (rows : List (List Cell)) (d : Data) (e : JsonTableFault) → IsWrongRow (length rows + 1) shape.columns d e → next_row shape rows d ≡ Err e
  unfolding next_row
  wrong_next rows d e wrong = rw (wrong_row (length rows + 1) shape.columns d e wrong) refl

  twice_next : (rows : List (List Cell)) (d : Data) (cells : List Cell) (first : ℕ) → IsRow shape.columns d cells → IsFirstTwin shape rows cells first
      → next_row shape rows d ≡ Err (fault.TwiceKey (length rows + 1) first)
  unfolding next_row
  twice_next rows d cells first given twin = rw (given_row (length rows + 1) shape.columns d cells given, first_twin shape cells rows first twin) refl

  -- what elements give after earlier rows
  after_given : (earlier : List (List Cell)) (ds : List Data) (rows : List (List Cell)) → KeysDiffer shape earlier → after earlier ds ≡ Ok rows
      → (more : List (List Cell)) × (rows ≡ earlier ++ more) × AllZip (IsRow shape.columns) ds more × KeysDiffer shape rows
  unfolding after
  after_given earlier [] rows differ e =
      let same : earlier ≡ rows = cc in
      ([], sym (append-nil earlier ∙ same), tt, subst (λ (l : List (List Cell)). KeysDiffer shape l) same differ)
  after_given earlier (d ∷ ds) rows differ e =
      let one = then_ok (next_row shape earlier d) _ rows e in
      let given = next_given earlier d one.0 one.1 in
      let (more, is, each, differs) = after_given (earlier ++ one.0 ∷ []) ds rows (keys_more shape earlier one.0 differ given.1) one.2 in
      (one.0 ∷ more, is ∙ append_assoc earlier (one.0 ∷ []) more, (given.0, each), differs)

  given_after : (earlier : List (List Cell)) (ds : List Data) (more : List (List Cell)) → AllZip (IsRow shape.columns) ds more
      → KeysDiffer shape (earlier ++ more) → after earlier ds ≡ Ok (earlier ++ more)
  unfolding after
  given_after earlier [] [] each differ = ap Ok (sym (append-nil earlier))
  given_after earlier [] (row ∷ more) each differ = absurd each
  given_after earlier (d ∷ ds) [] each differ = absurd each
  given_after earlier (d ∷ ds) (row ∷ more) (given, each) differ =
      let e : (earlier ++ row ∷ []) ++ more ≡ earlier ++ row ∷ more = append_assoc earlier (row ∷ []) more in
      let later = given_after (earlier ++ row ∷ []) ds more each (rw e differ) in
      rw (given_next earlier d row given (keys_before shape earlier row more differ)) (later ∙ ap Ok e)

  -- elements that give rows, and then one at fault
  record BadAfter (earlier : List (List Cell)) (ds : List Data) (e : JsonTableFault) : Type 0 where
    before : List Data
    d : Data
    rest : List Data
    is : ds ≡ before ++ d ∷ rest
    rows : List (List Cell)
    given : after earlier before ≡ Ok rows
    wrong : next_row shape rows d ≡ Err e

  after_wrong : (earlier : List (List Cell)) (ds : List Data) (e : JsonTableFault) → after earlier ds ≡ Err e → BadAfter earlier ds e
  unfolding after
  after_wrong earlier [] e is = cc
  after_wrong earlier (d ∷ ds) e is = by (then_err (next_row shape earlier d) _ e is) (λ row. after_wrong (earlier ++ row ∷ []) ds e)
    where
      by : (next_row shape earlier d ≡ Err e) ⊎ ((row : List Cell) × (next_row shape earlier d ≡ Ok row) × (after (earlier ++ row ∷ []) ds ≡ Err e))
          → ((row : List Cell) → after (earlier ++ row ∷ []) ds ≡ Err e → BadAfter (earlier ++ row ∷ []) ds e) → BadAfter earlier (d ∷ ds) e
      by (inl wrong) later = record { before = []; d = d; rest = ds; is = refl; rows = earlier; given = refl; wrong = wrong }
      by (inr (row, ok, is)) later =
          let bad = later row is in
          record { before = d ∷ bad.before; d = bad.d; rest = bad.rest; is = ap (λ l. d ∷ l) bad.is; rows = bad.rows; given = rw ok bad.given; wrong = bad.wrong }

  pub rows_given : (ds : List Data) (rows : List (List Cell)) → after [] ds ≡ Ok rows → GivesRows shape ds rows
  rows_given ds rows e =
      let (more, is, each, differ) = after_given [] ds rows (λ _. tt) e in
      record { rows_are = rw is each; keys_differ = differ }

  pub given_rows : (ds : List Data) (rows : List (List Cell)) → GivesRows shape ds rows → after [] ds ≡ Ok rows
  given_rows ds rows gives = given_after [] ds rows gives.rows_are gives.keys_differ

  -- the fault of elements
  abbrev pub IsFaultOf : List Data → JsonTableFault → Type 0
  IsFaultOf ds fault.Memory = ⊥
  IsFaultOf ds fault.NotJson = ⊥
  IsFaultOf ds fault.NotArray = ⊥
  IsFaultOf ds (fault.BadRow r) = IsFirstFault shape ds r (λ rows d. (ms : _) → IsNamed shape.columns d ms → ⊥)
  IsFaultOf ds (fault.BadCell r c) = IsFirstFault shape ds r (λ rows d. IsFirstBadCell shape.columns d c)
  IsFaultOf ds (fault.TwiceKey r n) = IsFirstFault shape ds r (λ rows d. (cells : List Cell) × IsRow shape.columns d cells × IsFirstTwin shape rows cells n)

  rows_wrong : (ds : List Data) (e : JsonTableFault) → after [] ds ≡ Err e → IsFaultOf ds e
  rows_wrong ds e is = either (after_wrong [] ds e is)
    where
      first : (f : JsonTableFault) (bad : BadAfter [] ds f) (r : ℕ) (Wrong : List (List Cell) → Data → Type 0)
          → r ≡ length bad.rows + 1 → Wrong bad.rows bad.d → IsFirstFault shape ds r Wrong
      first f bad r Wrong is wrong =
          let gives = rows_given bad.before bad.rows bad.given in
          let long = AllZip-long (IsRow shape.columns) bad.before bad.rows gives.rows_are in
          let place : r - 1 ≡ length bad.before = omega arith in
          let front : take (r - 1) ds ≡ bad.before = rw (place, bad.is) (take-append_seam bad.before (bad.d ∷ bad.rest)) in
          record {
            counted = omega arith;
            rows = bad.rows;
            before = rw front gives;
            d = bad.d;
            here = rw (place, bad.is) (get_seam bad.before bad.d bad.rest);
            wrong = wrong;
          }

      of_row : (f : JsonTableFault) (bad : BadAfter [] ds f) → IsWrongRow (length bad.rows + 1) shape.columns bad.d f → IsFaultOf ds f
      of_row fault.Memory bad h = absurd h
      of_row fault.NotJson bad h = absurd h
      of_row fault.NotArray bad h = absurd h
      of_row (fault.BadRow r) bad (p, h) = first (fault.BadRow r) bad r _ p h
      of_row (fault.BadCell r c) bad (p, h) = first (fault.BadCell r c) bad r _ p h
      of_row (fault.TwiceKey r n) bad h = absurd h

      of_twin : (f : JsonTableFault) (bad : BadAfter [] ds f) → IsTwice bad.rows bad.d f → IsFaultOf ds f
      of_twin fault.Memory bad h = absurd h
      of_twin fault.NotJson bad h = absurd h
      of_twin fault.NotArray bad h = absurd h
      of_twin (fault.BadRow r) bad h = absurd h
      of_twin (fault.BadCell r c) bad h = absurd h
      of_twin (fault.TwiceKey r n) bad (p, h) = first (fault.TwiceKey r n) bad r _ p h

      which : (bad : BadAfter [] ds e) → IsWrongRow (length bad.rows + 1) shape.columns bad.d e ⊎ IsTwice bad.rows bad.d e → IsFaultOf ds e
      which bad (inl h) = of_row e bad h
      which bad (inr h) = of_twin e bad h

      either : BadAfter [] ds e → IsFaultOf ds e
      either bad = which bad (next_wrong bad.rows bad.d e bad.wrong)

  -- elements that give rows, and then one at fault: the fault is theirs
  stop : (ds : List Data) (e : JsonTableFault) (r : ℕ) (Wrong : List (List Cell) → Data → Type 0) → IsFirstFault shape ds r Wrong
      → ((rows : List (List Cell)) (d : Data) → length rows + 1 ≡ r → Wrong rows d → next_row shape rows d ≡ Err e) → after [] ds ≡ Err e
  unfolding after
  stop ds e r Wrong first next =
      let k = r - 1 in
      let counted = first.counted in
      let long = AllZip-long (IsRow shape.columns) (take k ds) first.rows first.before.rows_are in
      let within = slice_get_within ds k first.d first.here in
      let number : length first.rows + 1 ≡ r = omega (arith, simp length-take at long) in
      let wrong = next first.rows first.d number first.wrong in
      let given = given_rows (take k ds) first.rows first.before in
      ap (after []) (split_at ds k first.d first.here) ∙ after-append [] (take k ds) (first.d ∷ drop (suc k) ds) ∙ rw (given, wrong) refl

  wrong_rows : (ds : List Data) (e : JsonTableFault) → IsFaultOf ds e → after [] ds ≡ Err e
  wrong_rows ds fault.Memory h = absurd h
  wrong_rows ds fault.NotJson h = absurd h
  wrong_rows ds fault.NotArray h = absurd h
  wrong_rows ds (fault.BadRow r) h = stop ds (fault.BadRow r) r _ h (λ rows d number unnamed. wrong_next rows d (fault.BadRow r) (sym number, unnamed))
  wrong_rows ds (fault.BadCell r c) h = stop ds (fault.BadCell r c) r _ h (λ rows d number bad. wrong_next rows d (fault.BadCell r c) (sym number, bad))
  wrong_rows ds (fault.TwiceKey r n) h = stop ds (fault.TwiceKey r n) r _ h (λ rows d number twice. rw (sym number) (twice_next rows d twice.0 n twice.1 twice.2))

  module _ (text : List ℕ) where
    from_array : (items : Items) → rows_after shape [] items ≡ after [] (elements items)
    from_array items = after_is [] items

    pub table_given : (rows : List (List Cell)) → table_of shape text ≡ Ok rows → OfArray text (λ ds. GivesRows shape ds rows)
    unfolding table_of
    table_given rows e =
        let (d, parsed, e) = then_ok (or_fault fault.NotJson (data_of text)) _ rows e in
        let (items, found, e) = then_ok (or_fault fault.NotArray (as_array d)) _ rows e in
        record { d = d; read = there _ _ d parsed; items = items; is = there _ _ items found; holds = rows_given (elements items) rows (sym (from_array items) ∙ e) }

    pub given_table : (rows : List (List Cell)) → OfArray text (λ ds. GivesRows shape ds rows) → table_of shape text ≡ Ok rows
    unfolding table_of
    given_table rows array = rw (array.read, array.is) (from_array array.items ∙ given_rows (elements array.items) rows array.holds)

    of_elements : (d : Data) (items : Items) → data_of text ≡ Some d → as_array d ≡ Some items → (e : JsonTableFault) → IsFaultOf (elements items) e → HasFault shape text e
    of_elements d items parsed found fault.Memory h = absurd h
    of_elements d items parsed found fault.NotJson h = absurd h
    of_elements d items parsed found fault.NotArray h = absurd h
    of_elements d items parsed found (fault.BadRow r) h = record { d = d; read = parsed; items = items; is = found; holds = h }
    of_elements d items parsed found (fault.BadCell r c) h = record { d = d; read = parsed; items = items; is = found; holds = h }
    of_elements d items parsed found (fault.TwiceKey r n) h = record { d = d; read = parsed; items = items; is = found; holds = h }

    pub table_wrong : (e : JsonTableFault) → table_of shape text ≡ Err e → HasFault shape text e
    unfolding table_of
    table_wrong e is = by (then_err (or_fault fault.NotJson (data_of text)) _ e is)
      where
        within : (d : Data) → data_of text ≡ Some d → (or_fault fault.NotArray (as_array d) ≡ Err e) ⊎ ((items : Items) × (or_fault fault.NotArray (as_array d) ≡ Ok items) × (rows_after shape [] items ≡ Err e))
            → HasFault shape text e
        within d parsed (inl wrong) =
            let (none, told) = missing fault.NotArray e (as_array d) wrong in
            subst (HasFault shape text) told (d, parsed, none)
        within d parsed (inr (items, found, wrong)) =
            of_elements d items parsed (there _ _ items found) e (rows_wrong (elements items) e (sym (from_array items) ∙ wrong))

        by : (or_fault fault.NotJson (data_of text) ≡ Err e)
            ⊎ ((d : Data) × (or_fault fault.NotJson (data_of text) ≡ Ok d) × (and_then (or_fault fault.NotArray (as_array d)) (rows_after shape []) ≡ Err e))
            → HasFault shape text e
        by (inl wrong) =
            let (none, told) = missing fault.NotJson e (data_of text) wrong in
            subst (HasFault shape text) told none
        by (inr (d, parsed, wrong)) = within d (there _ _ d parsed) (then_err (or_fault fault.NotArray (as_array d)) _ e wrong)

    in_elements : (e : JsonTableFault) → OfArray text (λ ds. IsFaultOf ds e) → table_of shape text ≡ Err e
    unfolding table_of
    in_elements e array = rw (array.read, array.is) (from_array array.items ∙ wrong_rows (elements array.items) e array.holds)

    pub wrong_table : (e : JsonTableFault) → HasFault shape text e → table_of shape text ≡ Err e
    unfolding table_of
    wrong_table fault.Memory h = absurd h
    wrong_table fault.NotJson h = rw h refl
    wrong_table fault.NotArray (d, parsed, none) = rw (parsed, none) refl
    wrong_table (fault.BadRow r) h = in_elements (fault.BadRow r) h
    wrong_table (fault.BadCell r c) h = in_elements (fault.BadCell r c) h
    wrong_table (fault.TwiceKey r n) h = in_elements (fault.TwiceKey r n) h
