-- Ranked rows in order, and their places.
use Rattle.std.proofs.Common.{◌≡◌, ℕ, List, map, subst, sym}
use Rattle.std.proofs.lemmas.Simd.{map-map}
use Rattle.std.specs.Cmp.Lexicographic.{slice_cmp}
use Rattle.nq_model.specs.Cells.{cell_cmp}
use Rattle.nq_model.specs.Numberings.{Rises, key_lt}
use Rattle.nq_model.specs.declared.table.Cell.{Cell}
use Rattle.rows.specs.Places.{row_at}
use Rattle.row_order.specs.declared.ranks.Ranked.{Ranked}
use Rattle.row_order.specs.Keys.{key_of, keys_at}
use Rattle.row_order.specs.Runs.{AreInOrder, places_of}
use Rattle.row_order.proofs.Refining.{keys_total}
use Rattle.row_order.proofs.Rising.{rises_from_sorted}

-- the keys of ranked rows that are in order rise with their places
pub places_rise : (rows : List (List Cell)) (columns : List ℕ) (ranks : List Ranked) → AreInOrder rows columns ranks → Rises key_lt (keys_at rows columns (places_of ranks))
places_rise rows columns ranks up =
    let key : Ranked → List Cell = λ ranked. key_of columns (row_at rows ranked.place) in
    let place : Ranked → ℕ = λ ranked. ranked.place in
    let same : keys_at rows columns (places_of ranks) ≡ map key ranks = map-map (λ (p : ℕ). key_of columns (row_at rows p)) place ranks in
    subst (Rises key_lt) (sym same) (rises_from_sorted (slice_cmp cell_cmp) key keys_total ranks up)
