-- What one read of a record does, and that the records that were read to the end are all.
use Rattle.std.proofs.Common.{◌≡◌, ◌<◌, ◌≤◌, ◌+◌, ◌-◌, ℕ, zero, suc, Bool, true, false, List, [], ◌∷◌, ◌++◌, length, Some, None, Option, arith, refl, sym, subst, ◌∙◌, Bor, inl, if◌then◌else◌}
use Rattle.std.proofs.Math.Nat.{sub-zero}
use Rattle.csv.specs.Machine.{Read, next_record, step, is_end, ends_at_end, fields_after, field_after}
use Rattle.csv.specs.Reading.{Reached, Ready, ReadRecord, reader_trim, took_first, reader_state, records_from, default_config, strip_bom}
use Rattle.csv.specs.declared.parser.Config.{Config}
use Rattle.csv.specs.declared.parser.State.{State}
use Rattle.csv.specs.declared.parser.State.TheVariants as st
use Rattle.csv.specs.declared.reader.Trim.TheVariants as trim
use Rattle.csv.specs.declared.reader.Reader.{Reader}
use Rattle.csv.proofs.ReadFacts.{rows-more, rows-end}
use Rattle.table_reader.specs.Records.{HasRead, Record, ReadsOne, records_of}

-- with more turns than records, the records are those that were reached
pub reached_all : (cfg : Config) (n : ℕ) (s : State) (xs : List ℕ) (rows : List (List (List ℕ))) (s2 : State) (ys : List ℕ)
    → Reached cfg s xs rows s2 ys → next_record cfg s2 [] [] ys ≡ None → length rows < n → records_from cfg n s xs ≡ rows
unfolding Reached records_from
reached_all cfg zero s xs rows s2 ys reached end enough = absurd (omega arith)
reached_all cfg (suc n) s xs [] s2 ys (state, text) end enough = rw (state, text, end) refl
reached_all cfg (suc n) s xs (row ∷ rows) s2 ys (p, next, same, later) end enough =
    let again : records_from cfg n p.1 p.2 ≡ rows = reached_all cfg n p.1 p.2 rows s2 ys later end (omega arith) in
    rw (next, again, same) refl

-- the state after a record is none in which the end of the text ends one
ended : (cfg : Config) (s : State) (c : ℕ) → is_end (step cfg s c).1 ≡ true → ends_at_end (step cfg s c).0 ≡ false
ended cfg st.StartRecord c h = grind arith
ended cfg st.StartField c h = grind arith
ended cfg st.InField c h = grind arith
ended cfg st.InQuoted c h = grind arith
ended cfg st.InEscape c h = grind arith
ended cfg st.AfterQuote c h = grind arith
ended cfg st.InComment c h = grind arith
ended cfg st.AfterCr c h = grind arith

-- one byte of a read that gives a record in the end
less_step : (b : Bool) (fields : List (List ℕ)) (s : State) (xs : List ℕ) (later : Option Read) (p : Read)
    → (b ≡ true → ends_at_end s ≡ false)
    → (later ≡ Some p → (ends_at_end p.1 ≡ false) × (length p.2 ≤ length xs))
    → (if b then Some (fields, s, xs) else later) ≡ Some p
    → (ends_at_end p.1 ≡ false) × (length p.2 ≤ length xs)
less_step true fields s xs later p ends more next =
    let e : (fields, s, xs) ≡ p = cc in
    let P : Read → Type 0 = λ q. (ends_at_end q.1 ≡ false) × (length q.2 ≤ length xs) in
    subst P e (ends refl, omega arith)
less_step false fields s xs later p ends more next = more next

-- a record that was read leaves such a state, and no more bytes
next_less : (cfg : Config) (s : State) (fields : List (List ℕ)) (field xs : List ℕ) (p : Read)
    → next_record cfg s fields field xs ≡ Some p → (ends_at_end p.1 ≡ false) × (length p.2 ≤ length xs)
unfolding next_record
next_less cfg s fields field [] p next = less_step (ends_at_end s) (fields ++ (field ∷ [])) st.StartRecord [] None p (λ _. refl) (λ e. cc) next
next_less cfg s fields field (c ∷ xs) p next =
    let less = less_step (is_end (step cfg s c).1) (fields_after (step cfg s c).1 fields field) (step cfg s c).0 xs _ p (ended cfg s c)
    (next_less cfg (step cfg s c).0 (fields_after (step cfg s c).1 fields field) (field_after (step cfg s c).1 c field) xs p) next in
    (less.0, omega (arith, less.1))

-- from such a state a record takes a byte
next_shorter : (cfg : Config) (s : State) (c : ℕ) (xs : List ℕ) (p : Read)
    → next_record cfg s [] [] (c ∷ xs) ≡ Some p → (ends_at_end p.1 ≡ false) × (length p.2 ≤ length xs)
unfolding next_record
next_shorter cfg s c xs p next =
    less_step (is_end (step cfg s c).1) (fields_after (step cfg s c).1 [] []) (step cfg s c).0 xs _ p (ended cfg s c)
    (next_less cfg (step cfg s c).0 (fields_after (step cfg s c).1 [] []) (field_after (step cfg s c).1 c []) xs p) next

no_record : (b : Bool) (q p : Read) → b ≡ false → (if b then Some q else None) ≡ Some p → ⊥
no_record true q p e next = cc
no_record false q p e next = cc

-- there are no more records than bytes
few_records : (cfg : Config) (s : State) (xs : List ℕ) (rows : List (List (List ℕ))) (s2 : State) (ys : List ℕ)
    → ends_at_end s ≡ false → Reached cfg s xs rows s2 ys → length rows ≤ length xs
unfolding Reached next_record
few_records cfg s xs [] s2 ys start reached = omega arith
few_records cfg s [] (row ∷ rows) s2 ys start (p, next, same, later) = absurd (no_record (ends_at_end s) _ p start next)
few_records cfg s (c ∷ xs) (row ∷ rows) s2 ys start (p, next, same, later) =
    let less = next_shorter cfg s c xs p next in
    let more = few_records cfg p.1 p.2 rows s2 ys less.0 later in
    omega (arith, less.1, more)

-- with as many turns as there are records and more, what is left of the turns reads on from there
reached_then : (cfg : Config) (n : ℕ) (s : State) (xs : List ℕ) (rows : List Record) (s2 : State) (ys : List ℕ)
    → Reached cfg s xs rows s2 ys → length rows ≤ n → records_from cfg n s xs ≡ rows ++ records_from cfg (n - length rows) s2 ys
unfolding Reached records_from
reached_then cfg n s xs [] s2 ys (state, text) enough = rw (state, text, sub-zero) refl
reached_then cfg zero s xs (row ∷ rows) s2 ys reached enough = absurd (omega arith)
reached_then cfg (suc n) s xs (row ∷ rows) s2 ys (p, next, same, later) enough =
    let again : records_from cfg n p.1 p.2 ≡ rows ++ records_from cfg (n - length rows) s2 ys = reached_then cfg n p.1 p.2 rows s2 ys later (omega arith) in
    let less : suc n - length (row ∷ rows) ≡ n - length rows = omega arith in
    rw (next, again, same, less) refl

-- the records of a text begin with those that were read
pub begins_with_read : (text : List ℕ) (reader : Reader (Bor (List ℕ))) (rows : List Record)
    → HasRead text reader rows → (more : List Record) × (records_of text ≡ rows ++ more)
unfolding records_of
begins_with_read text reader rows has =
    let few = few_records default_config st.StartRecord (strip_bom text) rows _ _ refl has.reached in (
      records_from default_config (length (strip_bom text) + 1 - length rows) (reader_state reader) has.rest,
      reached_then default_config (length (strip_bom text) + 1) st.StartRecord (strip_bom text) rows _ _ has.reached (omega (arith, few)),
    )

-- a read that gave a record, or found none
pub reads_one : (found : Bool) (text : List ℕ) (old new : Reader (Bor (List ℕ))) (rows : List Record) (row : Record)
    → (reader_trim old ≡ trim.None → Ready old → ReadRecord (λ s. Some s.now) old new found row)
    → (reader_trim old ≡ trim.None → took_first new ≡ true)
    → HasRead text old rows → ReadsOne found row text new rows
unfolding records_of
reads_one true text old new rows row reads first has =
    let read = reads has.trims has.ready in
    let more = rows-more (λ (s : Bor (List ℕ)). Some s.now) old new row default_config st.StartRecord (strip_bom text) has.rest rows has.config has.source has.reached read in
    record { trims = read.3 ∙ has.trims; ready = inl (first has.trims); config = read.2 ∙ has.config; rest = more.0; source = more.1; reached = more.2 }
reads_one false text old new rows row reads first has =
    let end = rows-end (λ (s : Bor (List ℕ)). Some s.now) old new row default_config has.rest has.config has.source (reads has.trims has.ready) in
    sym (reached_all default_config (length (strip_bom text) + 1) st.StartRecord (strip_bom text) rows _ _ has.reached end
    (let few = few_records default_config st.StartRecord (strip_bom text) rows _ _ refl has.reached in omega (arith, few)))
