-- Indexes of a tag and a number, and the rows that stand under one.
use Rattle.std.specs.Prelude.{ℤ, ◌&&◌, Bool, List, filter}
use Rattle.std.specs.Ordering.{int_eq, int_cmp, ordering_then}
use Rattle.std.specs.declared.cmp.Ordering.{Ordering}
use Rattle.nq_model.specs.declared.table.Cell.{Cell}
use Rattle.stitcher.specs.FlatNumbers.{index_at}

-- whether two indexes are one
abbrev pub is_index : ℤ × ℤ → ℤ × ℤ → Bool
is_index i j = int_eq i.0 j.0 && int_eq i.1 j.1

-- the rows that stand under an index: their first two cells are its tag and its number
abbrev pub rows_under : ℤ × ℤ → List (List Cell) → List (List Cell)
rows_under i rows = filter (λ r. is_index (index_at r 0) i) rows

-- indexes by tag, and then by number
abbrev pub index_cmp : ℤ × ℤ → ℤ × ℤ → Ordering
index_cmp i j = ordering_then (int_cmp i.0 j.0) (int_cmp i.1 j.1)
