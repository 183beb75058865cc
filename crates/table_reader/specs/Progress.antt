-- How far the rows of a text were read.
use Rattle.std.specs.Prelude.{◌≡◌, ℕ, Bool, true, false, List, [], ◌∷◌, Ok, Err}
use Rattle.std.specs.Borrow.{Bor}
use Rattle.csv.specs.declared.reader.Reader.{Reader}
use Rattle.nq_model.specs.declared.table.Cell.{Cell}
use Rattle.nq_model.specs.declared.table.TableShape.{TableShape}
use Rattle.table_reader.specs.declared.TableFault.TheVariants as fault
use Rattle.table_reader.specs.Records.{Record, HasRead}
use Rattle.table_reader.specs.Tables.{is_header, rows_after, table_of}

-- the header was read, and the records after it spell these rows
pub record HasRows (shape : TableShape) (text : List ℕ) (reader : Reader (Bor (List ℕ))) (rows : List (List Cell)) : Type 0 where
  pub header : Record
  pub named : is_header shape header ≡ true
  pub body : List Record
  pub given : HasRead text reader (header ∷ body)
  pub spelled : rows_after shape [] body ≡ Ok rows

-- a read of the header found the column names, or the text has no such header
abbrev pub ReadsHeader : TableShape → List ℕ → Bool → Reader (Bor (List ℕ)) → Type 0
ReadsHeader shape text true reader = HasRows shape text reader []
ReadsHeader shape text false reader = table_of shape text ≡ Err fault.Header
