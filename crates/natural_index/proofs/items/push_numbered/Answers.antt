use Rattle.std.proofs.Common.{◌≡◌, ◌+◌, rules}
use Rattle.natural_index.proofs.Numbered.{count_more, item_more}
use Rattle.natural_index.proofs.items.push_numbered.Goals as goal

pub loop-expr-preserved : goal.loop-expr-preserved
loop-expr-preserved c =
    let next : c.in_ok-number.number ≡ c.loop-expr.number + 1 = search rules in
    record {
      number = count_more c.loop-expr.number c.in_ok-number.number c.loop-expr.yielded
          c.in-Some.expr c.loop-expr.invariant.number next;
      items = item_more c.args.word.now c.in_ok-name.name c.loop-expr.number c.loop-expr.items
          c.args.items.now c.push_item.new.items c.loop-expr.yielded c.in-Some.expr
          c.loop-expr.invariant.number c.loop-expr.invariant.items c.in_ok-name.ensures
          c.in_ok-push_item.ensures;
    }
