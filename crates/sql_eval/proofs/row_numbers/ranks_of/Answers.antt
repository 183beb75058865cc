use Rattle.std.proofs.Common.{arith}
use Rattle.sql_eval.proofs.Ranking.{place_below, rank_next}
use Rattle.sql_eval.proofs.row_numbers.ranks_of.Goals as goal

pub index_mut-requires : goal.index_mut-requires
index_mut-requires c =
    let below = place_below c.args.places.now c.requires c.loop-at.at (omega arith) in
    omega (arith, below, c.loop-at.invariant.as_many, c.loop-at.ranks.ok)

pub loop-at-preserved : goal.loop-at-preserved
loop-at-preserved c =
    rank_next c.args.places.now c.requires c.loop-at.at c.loop-at.ranks.items (omega arith)
    c.loop-at.invariant
