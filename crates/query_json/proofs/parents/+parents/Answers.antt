use Rattle.std.proofs.Common.{◌+◌, arith}
use Rattle.query_json.proofs.ParentFacts.{walk_parents, walk_columns}
use Rattle.query_json.proofs.parents.+parents.Goals as goal

pub push_field_parents-loop-field-preserved : goal.push_field_parents-loop-field-preserved
push_field_parents-loop-field-preserved t c =
    let fields = c.args.fields.now in
    let i = c.loop-field.field-index in
    let f = c.field-item.result in
    record {
      pushed = walk_parents fields i (i + 1) f c.loop-field-test.true c.field-item.is (omega arith) c.args.around c.loop-field.next c.in_ok-next.next c.loop-field.list c.push_parents.new.list _
          c.in_ok-next.ensures.pushed c.in_ok-next.ensures.behind c.loop-field.invariant.pushed;
      behind = walk_columns fields i (i + 1) f c.loop-field-test.true c.field-item.is (omega arith) c.loop-field.next c.in_ok-next.next _ c.in_ok-next.ensures.behind c.loop-field.invariant.behind;
    }
