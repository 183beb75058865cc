use Rattle.std.proofs.Common.{◌≡◌, ◌<◌, get_or, length, rules}
use Rattle.lineage_compile.proofs.TableLoops.{few_more, numbered_more}
use Rattle.lineage_compile.proofs.numbers.number_tables.Goals as goal

pub loop-table-preserved : goal.loop-table-preserved
loop-table-preserved c =
    let tables = c.args.tables.now in
    let k = c.loop-table.table-index in
    let table = c.table-item.result in
    let below : k < length tables = search rules in
    let here : table ≡ get_or tables k table = c.table-item.is in (
      numbered_more tables k table below here c.loop-table.made c.push.new.self
          c.in_ok-numbered_table.field-0 c.loop-table.invariant.0 c.in_ok-numbered_table.ensures.is
          c.in_ok-push.ensures.ok,
      few_more tables k table below here c.loop-table.invariant.1
          c.in_ok-numbered_table.ensures.few,
    )
