-- What the records of a text give, and its first fault.
use Rattle.std.proofs.Common.{◌≡◌, ◌+◌, ℕ, zero, suc, Bool, true, false, if◌then◌else◌, Option, Some, None, Result, Ok, Err, List, [], ◌∷◌, ◌++◌, length, take, drop, refl, sym, ap, subst, inl, inr, ◌⊎◌, ◌∙◌, arith, true≢false, append-nil, append_assoc}
use Rattle.std.specs.List.{AllZip}
use Rattle.std.specs.Result.{result_ok}
use Rattle.std.specs.Cmp.Lexicographic.{pointwise_decides, bytes_decides}
use Rattle.std.proofs.lemmas.List.{length-take}
use Rattle.std.proofs.lemmas.Option.{slice_get_within}
use Rattle.std.proofs.lemmas.Slice.Zip.{AllZip-long}
use Rattle.std.proofs.Math.Seq.{take-append_seam}
use Rattle.nq_model.specs.Tables.{names_of, types_of}
use Rattle.nq_model.specs.declared.table.Cell.{Cell}
use Rattle.nq_model.specs.declared.table.TableShape.{TableShape}
use Rattle.nq_model.specs.SchemaTables.{KeysDiffer}
use Rattle.table_reader.specs.declared.TableFault.{TableFault}
use Rattle.table_reader.specs.declared.TableFault.TheVariants as fault
use Rattle.table_reader.specs.Records.{Record}
use Rattle.table_reader.specs.Spelling.{row_at}
use Rattle.row_keys.specs.Keys.{twin_of, IsFirstTwin}
use Rattle.table_reader.specs.Tables.{unless_twin, next_row, rows_after, is_header, rows_under}
use Rattle.table_reader.specs.Faults.{SpellsRow, GivesRows, IsFirstFault, HasFault}
use Rattle.table_reader.proofs.ReadFacts.{rows_after-append}
use Rattle.table_reader.proofs.SpellingFacts.{split_at, get_seam, then_ok, then_err, row_spelled, spelled_row, IsWrongRow, row_wrong, wrong_row}
use Rattle.row_keys.proofs.TwinFacts.{keys_more, keys_before, twin_first, first_twin}

module _ (shape : TableShape) where
  -- the next row, and that no row before it has its key
  next_given : (rows : List (List Cell)) (fields : Record) (row : List Cell) → next_row shape rows fields ≡ Ok row
      → SpellsRow (types_of shape.columns) fields row × (twin_of shape row rows ≡ None)
  unfolding next_row
  next_given rows fields row e =
      let spelled = then_ok (row_at (length rows + 1) (types_of shape.columns) fields) _ row e in
      by spelled.0 spelled.1 (twin_of shape spelled.0 rows) refl spelled.2
    where
      by : (cells : List Cell) → row_at (length rows + 1) (types_of shape.columns) fields ≡ Ok cells
          → (twin : Option ℕ) → twin_of shape cells rows ≡ twin → unless_twin (length rows + 1) cells twin ≡ Ok row
          → SpellsRow (types_of shape.columns) fields row × (twin_of shape row rows ≡ None)
      by cells spelled None none is =
          let same : cells ≡ row = cc in
          subst (λ (l : List Cell). SpellsRow (types_of shape.columns) fields l × (twin_of shape l rows ≡ None)) same
          (row_spelled (length rows + 1) (types_of shape.columns) fields cells spelled, none)
      by cells spelled (Some first) found is = cc

  given_next : (rows : List (List Cell)) (fields : Record) (row : List Cell) → SpellsRow (types_of shape.columns) fields row → twin_of shape row rows ≡ None
      → next_row shape rows fields ≡ Ok row
  unfolding next_row
  given_next rows fields row spelled none = rw (spelled_row (length rows + 1) (types_of shape.columns) fields row spelled, none) refl

  -- a row with the key of an earlier one
  abbrev IsTwice : List (List Cell) → Record → TableFault → Type 0
  IsTwice rows fields fault.Memory = ⊥
  IsTwice rows fields fault.Header = ⊥
  IsTwice rows fields (fault.Width r) = ⊥
  IsTwice rows fields (fault.NotUtf8 r c) = ⊥
  IsTwice rows fields (fault.BadInt r c) = ⊥
  IsTwice rows fields (fault.BadBool r c) = ⊥
  IsTwice rows fields (fault.TwiceKey r first) =
      (r ≡ length rows + 1) × ((cells : List Cell) × SpellsRow (types_of shape.columns) fields cells × IsFirstTwin shape rows cells first)

  abbrev IsWrongNext : List (List Cell) → Record → TableFault → Type 0
  IsWrongNext rows fields e = IsWrongRow (length rows + 1) (types_of shape.columns) fields e ⊎ IsTwice rows fields e

  next_wrong : (rows : List (List Cell)) (fields : Record) (e : TableFault) → next_row shape rows fields ≡ Err e → IsWrongNext rows fields e
  unfolding next_row
  next_wrong rows fields e is = by (then_err (row_at (length rows + 1) (types_of shape.columns) fields) _ e is)
    where
      twice : (cells : List Cell) → row_at (length rows + 1) (types_of shape.columns) fields ≡ Ok cells
          → (twin : Option ℕ) → twin_of shape cells rows ≡ twin → unless_twin (length rows + 1) cells twin ≡ Err e → IsTwice rows fields e
      twice cells spelled None none is = cc
      twice cells spelled (Some first) found is =
          let same : fault.TwiceKey (length rows + 1) first ≡ e = cc in
          subst (λ (f : TableFault). IsTwice rows fields f) same
          (refl, (cells, row_spelled (length rows + 1) (types_of shape.columns) fields cells spelled, twin_first shape cells rows first found))

      by : (row_at (length rows + 1) (types_of shape.columns) fields ≡ Err e)
          ⊎ ((cells : List Cell) × (row_at (length rows + 1) (types_of shape.columns) fields ≡ Ok cells) × (unless_twin (length rows + 1) cells (twin_of shape cells rows) ≡ Err e))
          → IsWrongNext rows fields e
      by (inl wrong) = inl (row_wrong (length rows + 1) (types_of shape.columns) fields e wrong)
      by (inr (cells, spelled, is)) = inr (twice cells spelled (twin_of shape cells rows) refl is)

  wrong_next : (rows : List (List Cell)) (fields : Record) (e : TableFault) → IsWrongRow (length rows + 1) (types_of shape.columns) fields e → next_row shape rows fields ≡ Err e
  unfolding next_row
  wrong_next rows fields e wrong = rw (wrong_row (length rows + 1) (types_of shape.columns) fields e wrong) refl

  twice_next : (rows : List (List Cell)) (fields : Record) (cells : List Cell) (first : ℕ) → SpellsRow (types_of shape.columns) fields cells → IsFirstTwin shape rows cells first
      → next_row shape rows fields ≡ Err (fault.TwiceKey (length rows + 1) first)
  unfolding next_row
  twice_next rows fields cells first spelled twin =
      rw (spelled_row (length rows + 1) (types_of shape.columns) fields cells spelled, first_twin shape cells rows first twin) refl

  -- what the records after a header give
  after_given : (earlier : List (List Cell)) (body : List Record) (rows : List (List Cell)) → KeysDiffer shape earlier → rows_after shape earlier body ≡ Ok rows
      → (more : List (List Cell)) × (rows ≡ earlier ++ more) × AllZip (SpellsRow (types_of shape.columns)) body more × KeysDiffer shape rows
  after_given earlier [] rows differ e =
      let same : earlier ≡ rows = cc in
      ([], sym (append-nil earlier ∙ same), tt, subst (λ (l : List (List Cell)). KeysDiffer shape l) same differ)
  after_given earlier (fields ∷ body) rows differ e =
      let one = then_ok (next_row shape earlier fields) _ rows e in
      let given = next_given earlier fields one.0 one.1 in
      let (more, is, each, differs) = after_given (earlier ++ one.0 ∷ []) body rows (keys_more shape earlier one.0 differ given.1) one.2 in
      (one.0 ∷ more, is ∙ append_assoc earlier (one.0 ∷ []) more, (given.0, each), differs)

  given_after : (earlier : List (List Cell)) (body : List Record) (more : List (List Cell)) → AllZip (SpellsRow (types_of shape.columns)) body more
      → KeysDiffer shape (earlier ++ more) → rows_after shape earlier body ≡ Ok (earlier ++ more)
  given_after earlier [] [] each differ = ap Ok (sym (append-nil earlier))
  given_after earlier [] (row ∷ more) each differ = absurd each
  given_after earlier (fields ∷ body) [] each differ = absurd each
  given_after earlier (fields ∷ body) (row ∷ more) (spelled, each) differ =
      let e : (earlier ++ row ∷ []) ++ more ≡ earlier ++ row ∷ more = append_assoc earlier (row ∷ []) more in
      let later = given_after (earlier ++ row ∷ []) body more each (rw e differ) in
      rw (given_next earlier fields row spelled (keys_before shape earlier row more differ)) (later ∙ ap Ok e)

  -- records that give rows, and then one at fault
  record BadAfter (earlier : List (List Cell)) (body : List Record) (e : TableFault) : Type 0 where
    before : List Record
    fields : Record
    after : List Record
    is : body ≡ before ++ fields ∷ after
    rows : List (List Cell)
    given : rows_after shape earlier before ≡ Ok rows
    wrong : next_row shape rows fields ≡ Err e

  after_wrong : (earlier : List (List Cell)) (body : List Record) (e : TableFault) → rows_after shape earlier body ≡ Err e → BadAfter earlier body e
  after_wrong earlier [] e is = cc
  after_wrong earlier (fields ∷ body) e is = by (then_err (next_row shape earlier fields) _ e is) (λ row. after_wrong (earlier ++ row ∷ []) body e)
    where
      by : (next_row shape earlier fields ≡ Err e) ⊎ ((row : List Cell) × (next_row shape earlier fields ≡ Ok row) × (rows_after shape (earlier ++ row ∷ []) body ≡ Err e))
          → ((row : List Cell) → rows_after shape (earlier ++ row ∷ []) body ≡ Err e → BadAfter (earlier ++ row ∷ []) body e) → BadAfter earlier (fields ∷ body) e
      by (inl wrong) later = record { before = []; fields = fields; after = body; is = refl; rows = earlier; given = refl; wrong = wrong }
      by (inr (row, ok, is)) later =
          let bad = later row is in
          record { before = fields ∷ bad.before; fields = bad.fields; after = bad.after; is = ap (λ l. fields ∷ l) bad.is; rows = bad.rows; given = rw ok bad.given; wrong = bad.wrong }

  names_Decides : (fields : Record) → (is_header shape fields ≡ true → fields ≡ names_of shape.columns) × (fields ≡ names_of shape.columns → is_header shape fields ≡ true)
  names_Decides fields = pointwise_decides bytes_decides fields (names_of shape.columns)

  -- what records give
  pub under_given : (records : List Record) (rows : List (List Cell)) → rows_under shape records ≡ Ok rows → GivesRows shape records rows
  under_given [] rows e = cc
  under_given (header ∷ body) rows e = by (is_header shape header) refl e
    where
      by : (b : Bool) → is_header shape header ≡ b → (if b then rows_after shape [] body else Err fault.Header) ≡ Ok rows → GivesRows shape (header ∷ body) rows
      by true named e =
          let (more, is, each, differ) = after_given [] body rows (λ _. tt) e in
          record { header = ap Some ((names_Decides header).0 named); spelled = rw is each; keys_differ = differ }
      by false other e = cc

  pub given_under : (records : List Record) (rows : List (List Cell)) → GivesRows shape records rows → rows_under shape records ≡ Ok rows
  given_under [] rows gives = let none = gives.header in cc
  given_under (header ∷ body) rows gives =
      let some = gives.header in
      let named : header ≡ names_of shape.columns = cc in
      rw ((names_Decides header).1 named) (given_after [] body rows gives.spelled gives.keys_differ)

  -- the fault of records
  pub under_wrong : (records : List Record) (e : TableFault) → rows_under shape records ≡ Err e → HasFault shape records e
  under_wrong [] e is =
      let same : fault.Header ≡ e = cc in
      subst (λ (f : TableFault). HasFault shape [] f) same (λ none. cc)
  under_wrong (header ∷ body) e is = by (is_header shape header) refl is
    where
      first : is_header shape header ≡ true → (f : TableFault) (bad : BadAfter [] body f) (r : ℕ) (Wrong : List (List Cell) → Record → Type 0)
          → r ≡ length bad.rows + 1 → Wrong bad.rows bad.fields → IsFirstFault shape (header ∷ body) r Wrong
      first named f bad r Wrong is wrong =
          let given : rows_under shape (header ∷ bad.before) ≡ Ok bad.rows = rw named bad.given in
          let gives = under_given (header ∷ bad.before) bad.rows given in
          let long = AllZip-long (SpellsRow (types_of shape.columns)) bad.before bad.rows gives.spelled in
          let place : r ≡ suc (length bad.before) = omega arith in
          let front : take r (header ∷ body) ≡ header ∷ bad.before = rw (place, bad.is) (ap (λ l. header ∷ l) (take-append_seam bad.before (bad.fields ∷ bad.after))) in
          record {
            counted = omega arith;
            rows = bad.rows;
            before = rw front gives;
            fields = bad.fields;
            here = rw (place, bad.is) (get_seam bad.before bad.fields bad.after);
            wrong = wrong;
          }

      wrong_row_first : is_header shape header ≡ true → (f : TableFault) (bad : BadAfter [] body f) → IsWrongRow (length bad.rows + 1) (types_of shape.columns) bad.fields f → HasFault shape (header ∷ body) f
      wrong_row_first named fault.Memory bad h = absurd h
      wrong_row_first named fault.Header bad h = absurd h
      wrong_row_first named (fault.Width r) bad (p, h) = first named (fault.Width r) bad r _ p h
      wrong_row_first named (fault.NotUtf8 r c) bad (p, h) = first named (fault.NotUtf8 r c) bad r _ p h
      wrong_row_first named (fault.BadInt r c) bad (p, h) = first named (fault.BadInt r c) bad r _ p h
      wrong_row_first named (fault.BadBool r c) bad (p, h) = first named (fault.BadBool r c) bad r _ p h
      wrong_row_first named (fault.TwiceKey r n) bad h = absurd h

      twice_first : is_header shape header ≡ true → (f : TableFault) (bad : BadAfter [] body f) → IsTwice bad.rows bad.fields f → HasFault shape (header ∷ body) f
      twice_first named fault.Memory bad h = absurd h
      twice_first named fault.Header bad h = absurd h
      twice_first named (fault.Width r) bad h = absurd h
      twice_first named (fault.NotUtf8 r c) bad h = absurd h
      twice_first named (fault.BadInt r c) bad h = absurd h
      twice_first named (fault.BadBool r c) bad h = absurd h
      twice_first named (fault.TwiceKey r n) bad (p, h) = first named (fault.TwiceKey r n) bad r _ p h

      either : is_header shape header ≡ true → (bad : BadAfter [] body e) → IsWrongNext bad.rows bad.fields e → HasFault shape (header ∷ body) e
      either named bad (inl h) = wrong_row_first named e bad h
      either named bad (inr h) = twice_first named e bad h

      by : (b : Bool) → is_header shape header ≡ b → (if b then rows_after shape [] body else Err fault.Header) ≡ Err e → HasFault shape (header ∷ body) e
      by true named is =
          let bad = after_wrong [] body e is in
          either named bad (next_wrong bad.rows bad.fields e bad.wrong)
      by false other is =
          let same : fault.Header ≡ e = cc in
          subst (λ (f : TableFault). HasFault shape (header ∷ body) f) same
          (λ some. let named : header ≡ names_of shape.columns = cc in true≢false (sym ((names_Decides header).1 named) ∙ other))

  -- records that give rows, and then one at fault: the fault is theirs
  stop : (records : List Record) (e : TableFault) (r : ℕ) (Wrong : List (List Cell) → Record → Type 0) → IsFirstFault shape records r Wrong
      → ((rows : List (List Cell)) (fields : Record) → length rows + 1 ≡ r → Wrong rows fields → next_row shape rows fields ≡ Err e) → rows_under shape records ≡ Err e
  stop records e zero Wrong first next = let counted = first.counted in absurd (omega arith)
  stop [] e (suc k) Wrong first next = let none = first.here in cc
  stop (header ∷ body) e (suc k) Wrong first next =
      let gives = first.before in
      let some = gives.header in
      let named : header ≡ names_of shape.columns = cc in
      let long = AllZip-long (SpellsRow (types_of shape.columns)) (take k body) first.rows gives.spelled in
      let within = slice_get_within body k first.fields first.here in
      let number : length first.rows + 1 ≡ suc k = omega (arith, simp length-take at long) in
      let wrong = next first.rows first.fields number first.wrong in
      let given = given_after [] (take k body) first.rows gives.spelled gives.keys_differ in
      rw ((names_Decides header).1 named) (ap (rows_after shape []) (split_at body k first.fields first.here)
      ∙ rows_after-append shape [] (take k body) (first.fields ∷ drop (suc k) body) ∙ rw (given, wrong) refl)

  pub wrong_under : (records : List Record) (e : TableFault) → HasFault shape records e → rows_under shape records ≡ Err e
  wrong_under records fault.Memory h = absurd h
  wrong_under [] fault.Header h = refl
  wrong_under (header ∷ body) fault.Header h = by (is_header shape header) refl
    where
      by : (b : Bool) → is_header shape header ≡ b → (if b then rows_after shape [] body else Err fault.Header) ≡ Err fault.Header
      by true named = absurd (h (ap Some ((names_Decides header).0 named)))
      by false other = refl
  wrong_under records (fault.Width r) h =
      stop records (fault.Width r) r _ h (λ rows fields number other. wrong_next rows fields (fault.Width r) (sym number, other))
  wrong_under records (fault.NotUtf8 r c) h =
      stop records (fault.NotUtf8 r c) r _ h (λ rows fields number bad. wrong_next rows fields (fault.NotUtf8 r c) (sym number, bad))
  wrong_under records (fault.BadInt r c) h =
      stop records (fault.BadInt r c) r _ h (λ rows fields number bad. wrong_next rows fields (fault.BadInt r c) (sym number, bad))
  wrong_under records (fault.BadBool r c) h =
      stop records (fault.BadBool r c) r _ h (λ rows fields number bad. wrong_next rows fields (fault.BadBool r c) (sym number, bad))
  wrong_under records (fault.TwiceKey r n) h =
      stop records (fault.TwiceKey r n) r _ h (λ rows fields number twice. rw (sym number) (twice_next rows fields twice.0 n twice.1 twice.2))

  pub either_under : (records : List Record) → ((rows : List (List Cell)) × GivesRows shape records rows) ⊎ ((e : TableFault) × HasFault shape records e)
  either_under records = by (rows_under shape records) refl
    where
      by : (r : Result (List (List Cell)) TableFault) → rows_under shape records ≡ r
          → ((rows : List (List Cell)) × GivesRows shape records rows) ⊎ ((e : TableFault) × HasFault shape records e)
      by (Ok rows) is = inl (rows, under_given records rows is)
      by (Err e) is = inr (e, under_wrong records e is)

  pub not_both : (records : List Record) (rows : List (List Cell)) (e : TableFault) → GivesRows shape records rows → HasFault shape records e → ⊥
  not_both records rows e gives wrong =
      let given = given_under records rows gives in
      let fault = wrong_under records e wrong in
      cc

  pub one_fault : (records : List Record) (e f : TableFault) → HasFault shape records e → HasFault shape records f → e ≡ f
  one_fault records e f first second =
      let one = wrong_under records e first in
      let other = wrong_under records f second in
      cc

pub some_rows : (r : Result (List (List Cell)) TableFault) (rows : List (List Cell)) → (result_ok r ≡ Some rows → r ≡ Ok rows) × (r ≡ Ok rows → result_ok r ≡ Some rows)
some_rows (Ok given) rows = (λ e. cc, λ e. cc)
some_rows (Err f) rows = (λ e. cc, λ e. cc)
