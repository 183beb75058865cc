use Rattle.std.proofs.Common.{◌≡◌, ◌++◌, map, take, drop}
use Rattle.row_order.specs.Ranks.{ranked_at}
use Rattle.row_order.proofs.ranks.rank_rows.Given as goal

abbrev pub invariant-loop-i : goal.invariant-loop-i
invariant-loop-i l =
    l.ranks ≡ map (λ ranked. ranked_at l.rows l.column l.frame ranked.place) (take l.i l.initial.ranks) ++ drop l.i l.initial.ranks
