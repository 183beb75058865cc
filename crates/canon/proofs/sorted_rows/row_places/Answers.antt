use Rattle.std.proofs.Common.{◌≡◌, ◌∙◌, ℕ, List, length, subst}
use Rattle.nq_model.specs.Numberings.{Rises, count_from, key_lt}
use Rattle.row_order.specs.Keys.{keys_at}
use Rattle.canon.proofs.RowTexts.{rows_in_order}
use Rattle.canon.proofs.sorted_rows.row_places.Goals as goal

pub returns-clause-order : goal.returns-clause-order
returns-clause-order c =
    let rows = c.args.rows.now in
    let types = c.args.types.now in
    let places = c.in_ok-places.places.items in
    let columns : c.as_slice.result.now ≡ count_from 0 (length types) = c.as_slice.ensures.value
    ∙ c.in_ok-columns.ensures in
    let up = subst (λ (cs : List ℕ). Rises key_lt (keys_at rows cs places)) columns
    c.in_ok-places.ensures.order in
    rows_in_order rows types c.requires places c.in_ok-places.ensures.places up
