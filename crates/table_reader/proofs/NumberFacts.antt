-- The record of a text with a number.
use Rattle.std.proofs.Common.{◌≡◌, ◌≤◌, ℕ, List, [], ◌∷◌, ◌++◌, length}
use Rattle.std.proofs.Common.{Bor, Some, None, slice_get, refl, sym}
use Rattle.std.proofs.lemmas.Option.{slice_get_past}
use Rattle.csv.specs.declared.reader.Reader.{Reader}
use Rattle.table_reader.specs.Records.{Record, HasRead, records_of}
use Rattle.table_reader.proofs.RecordFacts.{begins_with_read}

-- what stands behind some records and before others
between : (front : List Record) (here : Record) (behind : List Record)
    → slice_get ((front ++ here ∷ []) ++ behind) (length front) ≡ Some here
between [] here behind = refl
between (first ∷ front) here behind = between front here behind

-- the record that was read last
pub record_read : (text : List ℕ) (reader : Reader (Bor (List ℕ))) (given : List Record)
    (fields : Record) (number : ℕ) → HasRead text reader (given ++ fields ∷ [])
    → length given ≡ number → slice_get (records_of text) number ≡ Some fields
record_read text reader given fields number has counted =
    let begins = begins_with_read text reader (given ++ fields ∷ []) has in
    rw (begins.1, sym counted) (between given fields begins.0)

-- a number behind all records
pub no_record : (text : List ℕ) (given : List Record) (number : ℕ) → given ≡ records_of text
    → length given ≤ number → slice_get (records_of text) number ≡ None
no_record text given number all counted = rw (sym all) (slice_get_past given number counted)
