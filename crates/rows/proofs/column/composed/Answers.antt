use Rattle.std.proofs.Common.{ℕ, get_or, arith}
use Rattle.std.proofs.lemmas.List.Edits.{map_over_more}
use Rattle.rows.proofs.column.composed.Goals as goal

pub loop-index-preserved : goal.loop-index-preserved
loop-index-preserved c =
    map_over_more (λ (place : ℕ). get_or c.args.places.now place 0) c.args.at.items
    c.loop-index.at.items c.loop-index.index c.index.result.now (omega arith)
    c.loop-index.invariant c.index.ensures
