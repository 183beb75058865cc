-- The members of bags: under an index, the elements that the rows there are.
use Rattle.std.specs.Prelude.{◌≡◌, ℕ, ℤ, List, filter, length, map}
use Rattle.nq_model.specs.Canonical.{value_cmp}
use Rattle.nq_model.specs.Numberings.{count_from}
use Rattle.nq_model.specs.Orders.{sorted_by}
use Rattle.nq_model.specs.declared.table.Cell.{Cell}
use Rattle.rows.specs.Places.{row_at, rows_at}
use Rattle.answer_text.specs.Indexes.{is_index, rows_under}
use Rattle.answer_text.specs.Parts.{value_in, places_under}
use Rattle.answer_text.specs.Spans.{index_of, spanned}
use Rattle.answer_text.specs.declared.groups.Groups.{Groups}
use Rattle.answer_text.specs.declared.part.Part.{Part}
use Rattle.answer_text.specs.declared.runs.Runs.{Runs}
use Rattle.answer_text.specs.declared.spans.Spans.{Spans}

-- those of the places whose rows stand under an index
abbrev pub under : List (List Cell) → List ℕ → ℤ × ℤ → List ℕ
under rows places i = filter (λ p. is_index (index_of rows p) i) places

-- places, of which the rows are the elements of others in canonical order
abbrev pub AreInOrder : Part → List (List Cell) → List ℕ → List ℕ → Type 0
AreInOrder element rows places sorted =
    map (λ p. value_in element (row_at rows p)) sorted
    ≡ sorted_by value_cmp (map (λ p. value_in element (row_at rows p)) places)

-- under each index the span holds the places under it, in the canonical order of the elements
abbrev pub AreInRuns : Part → List (List Cell) → List ℕ → List ℕ → Spans → Type 0
AreInRuns element rows places sorted spans =
    (i : ℤ × ℤ) → AreInOrder element rows (under rows places i) (spanned spans sorted i)

-- the same of the places of all rows
abbrev pub AreRuns : Part → List (List Cell) → Runs → Type 0
AreRuns element rows runs =
    AreInRuns element rows (count_from 0 (length rows)) runs.places runs.spans

-- rows in groups: under each index the elements that the rows there are, in canonical order
pub record AreSorted (element : Part) (rows : List (List Cell)) (groups : Groups) : Type 0 where
  pub same : groups.rows ≡ rows
  pub sorted : (i : ℤ × ℤ) → map (value_in element) (rows_at groups.rows (places_under groups i))
      ≡ sorted_by value_cmp (map (value_in element) (rows_under i rows))
