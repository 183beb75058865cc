use Rattle.std.proofs.Common.{map, take, length, pos, ap, sym, arith}
use Rattle.nq_model.specs.declared.cell_ref.CellRef.TheVariants as seen
use Rattle.nq_model.specs.CellRefs.{cell_seen}
use Rattle.rows.proofs.ColumnRows.{widened_by_none, widened_length, put_next, put_none, rows_kept}
use Rattle.rows.proofs.rows.push_each.Goals as goal

pub loop-at-init : goal.loop-at-init
loop-at-init c = sym (widened_by_none c.args.columns.now.items)

pub index_mut-requires : goal.index_mut-requires
index_mut-requires c =
    omega (arith, c.requires, ap length c.loop-at.invariant, widened_length c.args.columns.now.items (take c.loop-at.at (map cell_seen c.args.row.now)))

pub returns-in_err-push-clause-rows : goal.returns-in_err-push-clause-rows
returns-in_err-push-clause-rows c =
    put_none c.args.columns.now.items c.loop-at.columns.items (take c.loop-at.at (map cell_seen c.args.row.now)) c.loop-at.at c.index_mut.result.now c.push.new.self
    c.loop-at.invariant (omega (arith, c.requires, ap length c.loop-at.invariant, widened_length c.args.columns.now.items (take c.loop-at.at (map cell_seen c.args.row.now)))) c.index_mut.ensures.value c.in_err-push.ensures.err

pub loop-at-preserved : goal.loop-at-preserved
loop-at-preserved c =
    put_next c.args.columns.now.items c.loop-at.columns.items c.args.row.now c.loop-at.at c.index_mut.result.now c.push.new.self (seen.Int (pos 0))
    c.requires c.loop-at-test.true c.loop-at.invariant c.index_mut.ensures.value c.in_ok-push.ensures.ok

pub returns-clause-rows : goal.returns-clause-rows
returns-clause-rows c = rows_kept c.args.columns.now.items c.loop-at.columns.items (take c.loop-at.at (map cell_seen c.args.row.now)) c.loop-at.invariant
