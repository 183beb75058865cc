-- The records of a text, as the crate `csv` defines them.
use Rattle.std.specs.Prelude.{◌≡◌, ℕ, Bool, true, false, List, [], ◌∷◌, ◌++◌, Some}
use Rattle.std.specs.Borrow.{Bor}
use Rattle.csv.specs.Reading.{default_config, records, strip_bom, Ready, Reached, source_of, reader_trim, reader_config, reader_state}
use Rattle.csv.specs.declared.parser.State.TheVariants as state
use Rattle.csv.specs.declared.reader.Trim.TheVariants as trim
use Rattle.csv.specs.declared.reader.Reader.{Reader}

-- a record is its fields, and a field is its bytes
abbrev pub Record : Type 0
Record = List (List ℕ)

-- the records of a text with commas and double quotes, after a byte order mark if it begins with one
unfoldable pub records_of : List ℕ → List Record
records_of text = records default_config (strip_bom text)

-- a reader over a text has given these records of it
pub record HasRead (text : List ℕ) (reader : Reader (Bor (List ℕ))) (given : List Record) : Type 0 where
  pub trims : reader_trim reader ≡ trim.None
  pub ready : Ready reader
  pub config : reader_config reader ≡ default_config
  pub rest : List ℕ
  pub source : source_of (λ s. Some s.now) reader ≡ Some rest
  pub reached : Reached default_config state.StartRecord (strip_bom text) given (reader_state reader) rest

-- a read gave one more record, or showed that there is none
abbrev pub ReadsOne : Bool → Record → List ℕ → Reader (Bor (List ℕ)) → List Record → Type 0
ReadsOne true fields text reader given = HasRead text reader (given ++ fields ∷ [])
ReadsOne false fields text reader given = given ≡ records_of text
