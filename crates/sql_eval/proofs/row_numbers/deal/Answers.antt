use Rattle.std.proofs.Common.{ℕ, List, length, ap, ◌∙◌, sym, subst, IsPermutation}
use Rattle.nq_model.specs.Numberings.{Rises, count_from, key_lt}
use Rattle.row_order.specs.Keys.{keys_at}
use Rattle.sql_eval.specs.Dealing.{AreRanks}
use Rattle.sql_eval.proofs.Ranking.{all_places, ranks_number}
use Rattle.rows.specs.Places.{row_at}
use Rattle.sql_eval.proofs.row_numbers.deal.Goals as goal

pub ranks_of-requires : goal.ranks_of-requires
ranks_of-requires c =
    subst (λ (l : List ℕ). IsPermutation (count_from 0 (length l)) l) (sym c.as_slice-2.ensures.value)
    (all_places (length c.args.keys.now) c.in_ok-places.places.items c.in_ok-places.ensures.places)

pub returns : goal.returns
returns c =
    ranks_number c.args.keys.now (length (row_at c.args.keys.now 0)) c.in_ok-places.places.items c.in_ok-numbers.numbers.items
    c.requires c.in_ok-places.ensures.places
    (subst (λ (l : List ℕ). Rises key_lt (keys_at c.args.keys.now l c.in_ok-places.places.items)) (c.as_slice.ensures.value ∙ c.in_ok-columns.ensures ∙ ap (count_from 0) c.width.ensures) c.in_ok-places.ensures.order)
    (subst (λ (l : List ℕ). AreRanks l c.in_ok-numbers.numbers.items) c.as_slice-2.ensures.value c.in_ok-numbers.ensures)
