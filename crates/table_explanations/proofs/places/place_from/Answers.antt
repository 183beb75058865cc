use Rattle.std.proofs.Common.{sym, ◌∙◌, get_or, arith}
use Rattle.table_explanations.proofs.WalkFacts.{column_grows, place_behind, row_grows}
use Rattle.table_explanations.proofs.places.place_from.Goals as goal

pub loop-at-preserved : goal.loop-at-preserved
loop-at-preserved c =
    let old = c.loop-at.invariant in
    let walk = c.loop-at.walk in
    let at = c.loop-at.at in
    let byte = get_or c.args.bytes.now at 0 in
    record {
      is = place_behind c.args.row c.args.column at walk c.args.bytes.now c.step-walk.result
          (omega arith) (sym c.is_at.ensures ∙ c.if-is_at.false) c.step-walk.ensures ∙ old.is;
      row = row_grows walk byte c.step-walk.result at c.step-walk.ensures old.row;
      column = column_grows walk byte c.step-walk.result at c.step-walk.ensures old.column;
    }
