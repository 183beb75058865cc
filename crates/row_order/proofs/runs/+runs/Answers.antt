use Rattle.std.proofs.Common.{◌≡◌, ℕ, refl}
use Rattle.std.proofs.lemmas.List.Sorted.{IsPermutation-trans}
use Rattle.row_order.specs.declared.ranks.Ranked.{Ranked}
use Rattle.rows.specs.Places.{row_at}
use Rattle.row_order.specs.Keys.{cell_at}
use Rattle.row_order.specs.Runs.{HaveOneCell, places_of}
use Rattle.row_order.proofs.Refining.{kept, one_column, refined_next}
use Rattle.row_order.proofs.runs.+runs.Goals as goal

pub sort_column-returns-clause-permutation :
    goal.sort_column-returns-clause-permutation
sort_column-returns-clause-permutation t c =
    IsPermutation-trans (places_of c.args.ranks.now) (places_of c.sort_by_rank.new.ranks) (places_of c.sort_ties.new.ranks) c.sort_by_rank.ensures.permutation c.sort_ties.ensures.permutation

pub sort_tied-returns-then-have_one_cell-clause-sorted :
    goal.sort_tied-returns-then-have_one_cell-clause-sorted
sort_tied-returns-then-have_one_cell-clause-sorted t c =
    let place : Ranked → ℕ = λ ranked. ranked.place in
    let rows = c.args.rows.now in
    let column = c.args.column in
    let now = c.sort_run.new.ranks in
    let was : HaveOneCell rows column c.args.ranks.now = c.if-have_one_cell.ensures refl in
    let Q : ℕ → Type 0 = λ p. cell_at column (row_at rows p) ≡ was.0 in
    let one : HaveOneCell rows column now = (was.0, kept Q place c.args.ranks.now now c.sort_run.ensures.permutation was.1) in
    one_column rows column c.args.later.now now one c.sort_run.ensures.sorted

pub sort_ties-loop-start-preserved : goal.sort_ties-loop-start-preserved
sort_ties-loop-start-preserved t c =
    refined_next c.args.rows.now c.args.column c.args.later.now c.args.ranks.now c.loop-start.ranks c.sort_tied.new.ranks c.loop-start.start c.run_end-next.result
    c.requires.sorted c.loop-start.invariant
    c.run_end-next.ensures.some c.run_end-next.ensures.within c.run_end-next.ensures.ties c.run_end-next.ensures.apart c.sort_tied.ensures.permutation c.sort_tied.ensures.sorted

pub sort_ties-shape_of-ranks : goal.sort_ties-shape_of-ranks
sort_ties-shape_of-ranks t c = c.loop-start.invariant.state.long
