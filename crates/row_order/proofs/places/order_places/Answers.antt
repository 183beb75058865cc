use Rattle.std.proofs.Common.{◌≡◌, ℕ, List, subst, sym, ap, ◌∙◌}
use Rattle.std.proofs.lemmas.List.{take_at}
use Rattle.nq_model.specs.Numberings.{Rises, key_lt}
use Rattle.row_order.specs.Keys.{keys_at}
use Rattle.row_order.specs.Runs.{places_of}
use Rattle.row_order.proofs.Ordered.{places_rise}
use Rattle.row_order.proofs.places.order_places.Goals as goal

pub returns-clause-order : goal.returns-clause-order
returns-clause-order c =
    let rows = c.args.rows.now in
    let columns = c.args.columns.now in
    let back : c.as_slice-2.result.now ≡ c.sort_run.new.ranks = c.as_slice-2.ensures.value ∙ take_at _ _ _ (c.sort_run.auto.ranks ∙ c.as_mut_slice.ensures.len) in
    let P : List ℕ → Type 0 = λ l. Rises key_lt (keys_at rows columns l) in
    subst P (sym (c.in_ok-write_places.ensures ∙ ap places_of back)) (places_rise rows columns c.sort_run.new.ranks c.sort_run.ensures.sorted)
