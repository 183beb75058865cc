-- The header of a text, and its rows one after the other.
use Rattle.std.proofs.Common.{◌≡◌, ◌≢◌, ℕ, length, List, [], ◌∷◌, ◌++◌, Bool, true, false, Result, Ok, Err, Bor, refl, sym}
use Rattle.std.specs.Str.{bytes_eq}
use Rattle.std.specs.Cmp.Lexicographic.{pointwise, unequal}
use Rattle.std.proofs.lemmas.List.{length-map}
use Rattle.csv.specs.declared.reader.Reader.{Reader}
use Rattle.nq_model.specs.Tables.{Columns, names_of}
use Rattle.nq_model.specs.declared.table.Cell.{Cell}
use Rattle.nq_model.specs.declared.table.TableShape.{TableShape}
use Rattle.table_reader.specs.declared.TableFault.{TableFault}
use Rattle.table_reader.specs.declared.TableFault.TheVariants as fault
use Rattle.table_reader.specs.Records.{Record, HasRead, records_of}
use Rattle.table_reader.specs.Spelling.{and_then}
use Rattle.table_reader.specs.Tables.{is_header, next_row, rows_after, table_of}
use Rattle.table_reader.specs.Progress.{HasRows, ReadsHeader}
use Rattle.table_reader.proofs.RecordFacts.{begins_with_read}

pub other_width : (fields : List (List ℕ)) (columns : Columns) → (length fields ≢ length columns) → pointwise bytes_eq fields (names_of columns) ≡ false
other_width fields columns other = unequal bytes_eq fields (names_of columns) (λ e. other (rw length-map at e))

pub ruleset header_rules = (other_width)

module _ (shape : TableShape) where
  -- the rows of records, and then those of more
  pub rows_after-append : (earlier : List (List Cell)) (xs ys : List Record)
      → rows_after shape earlier (xs ++ ys) ≡ and_then (rows_after shape earlier xs) (λ rows. rows_after shape rows ys)
  rows_after-append earlier [] ys = refl
  rows_after-append earlier (x ∷ xs) ys = by (next_row shape earlier x) (λ row. rows_after-append (earlier ++ row ∷ []) xs ys)
    where
      by : (r : Result (List Cell) TableFault)
          → ((row : List Cell) → rows_after shape (earlier ++ row ∷ []) (xs ++ ys) ≡ and_then (rows_after shape (earlier ++ row ∷ []) xs) (λ rows. rows_after shape rows ys))
          → and_then r (λ row. rows_after shape (earlier ++ row ∷ []) (xs ++ ys))
          ≡ and_then (and_then r (λ row. rows_after shape (earlier ++ row ∷ []) xs)) (λ rows. rows_after shape rows ys)
      by (Ok row) later = later row
      by (Err e) later = refl

  module _ (text : List ℕ) where
    -- a text with no record
    pub nothing_read : [] ≡ records_of text → table_of shape text ≡ Err fault.Header
    unfolding table_of
    nothing_read none = rw (sym none) refl

    -- a text whose first record was read
    pub header_read : (found : Bool) (reader : Reader (Bor (List ℕ))) (fields : Record) → HasRead text reader (fields ∷ []) → is_header shape fields ≡ found
        → ReadsHeader shape text found reader
    unfolding table_of
    header_read true reader fields given named = record { header = fields; named = named; body = []; given = given; spelled = refl }
    header_read false reader fields given named =
        let begins = begins_with_read text reader (fields ∷ []) given in
        rw (begins.1, named) refl

    -- every record was read
    pub rows_end : (reader : Reader (Bor (List ℕ))) (rows : List (List Cell)) (has : HasRows shape text reader rows)
        → (has.header ∷ has.body) ≡ records_of text → table_of shape text ≡ Ok rows
    unfolding table_of
    rows_end reader rows has all = rw (sym all, has.named) has.spelled

    module _ (old new : Reader (Bor (List ℕ))) (rows : List (List Cell)) (has : HasRows shape text old rows) (fields : Record)
        (given : HasRead text new ((has.header ∷ has.body) ++ fields ∷ [])) where
      -- the next record is a row
      pub rows_more : (row : List Cell) → next_row shape rows fields ≡ Ok row → HasRows shape text new (rows ++ row ∷ [])
      rows_more row is = record {
        header = has.header;
        named = has.named;
        body = has.body ++ fields ∷ [];
        given = given;
        spelled = rw (rows_after-append [] has.body (fields ∷ []), has.spelled, is) refl;
      }

      -- the next record has a fault
      pub rows_stop : (e : TableFault) → next_row shape rows fields ≡ Err e → table_of shape text ≡ Err e
      unfolding table_of
      rows_stop e is =
          let begins = begins_with_read text new ((has.header ∷ has.body) ++ fields ∷ []) given in
          rw (begins.1, has.named, rows_after-append [] (has.body ++ fields ∷ []) begins.0, rows_after-append [] has.body (fields ∷ []), has.spelled, is) refl
