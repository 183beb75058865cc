use Rattle.std.proofs.Common.{length}
use Rattle.nq_model.specs.Numberings.{count_from}
use Rattle.answer_text.proofs.Grouping.{runs_moved}
use Rattle.answer_text.proofs.order.arranged.Goals as goal

pub returns : goal.returns
returns c =
    runs_moved c.args.element.now c.args.rows.now c.in_ok-places.places.items
    (count_from 0 (length c.args.rows.now)) c.sort_listed_runs.new.places.items
    c.from_vec-places.result c.sort_listed_runs.new.spans
    c.in_ok-places.ensures c.from_vec-places.ensures
    (c.in_ok-sort_listed_runs.ensures.whole c.if-not-branch.false)
