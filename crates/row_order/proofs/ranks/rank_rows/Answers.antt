use Rattle.std.proofs.Common.{◌<◌, length, arith, get_or, set, ap, ◌∙◌}
use Rattle.std.proofs.lemmas.List.{get_or_default}
use Rattle.std.proofs.lemmas.List.Edits.{map_over_more}
use Rattle.row_order.specs.declared.ranks.Ranked.{Ranked}
use Rattle.row_order.specs.Ranks.{ranked_at}
use Rattle.row_order.proofs.ranks.rank_rows.Goals as goal

pub loop-i-preserved : goal.loop-i-preserved
loop-i-preserved c =
    let i = c.loop-i.i in
    let ranks = c.loop-i.ranks in
    let rank : Ranked → Ranked = λ ranked. ranked_at c.args.rows.now c.args.column c.args.frame.now ranked.place in
    let any : Ranked = record { head = 0; place = 0 } in
    let this : Ranked = get_or ranks i any in
    let below : i < length ranks = omega arith in
    ap (set ranks i) c.rank_row.ensures
    ∙ map_over_more rank c.args.ranks.now ranks i this c.loop-i-test.true c.loop-i.invariant (get_or_default ranks i any this below)
