use Rattle.std.proofs.Common.{◌≡◌, ◌<◌, ◌+◌, [], get_or, ap, subst, arith, length, take, ℕ, suc}
use Rattle.std.proofs.lemmas.Result.{err_from_is_err_and}
use Rattle.stitcher.specs.Linked.{row_fault}
use Rattle.stitcher.specs.Stitching.{rows_of}
use Rattle.foreign_answers.specs.Judging.{column_in, Gives}
use Rattle.foreign_answers.proofs.Steps.{more_none, all_none, first_told, row_none, outer_told, inner_told}
use Rattle.foreign_answers.proofs.judge.Judge.answer.Goals as goal

pub returns-in_err-outer-clause-fault : goal.returns-in_err-outer-clause-fault
returns-in_err-outer-clause-fault g c =
    let S = g.S.IndexScheme.scheme c.args.self.now.scheme.now in
    let ans = rows_of c.args.self.now.answers.now in
    let all = c.args.self.now.homes.now in
    let columns = c.args.self.now.columns.now in
    let q = c.args.path in
    let row = c.loop-row.row in
    let here : row < length (get_or ans q []) = omega (arith, c.loop-row-test.true, c.len-row-end.ensures, ap length c.rows_at.ensures) in
    let p = err_from_is_err_and c.from_residual.result c.from_residual.ensures.1 in
    rw (p.1, p.2) (λ other. first_told (row_fault S all (column_in columns) ans q) (length (get_or ans q [])) row _ here c.loop-row.invariant.none other
    (outer_told S all (column_in columns) ans q row _ other (c.in_err-outer.ensures.fault other)))

pub returns-in_err-inner-clause-fault : goal.returns-in_err-inner-clause-fault
returns-in_err-inner-clause-fault g c =
    let S = g.S.IndexScheme.scheme c.args.self.now.scheme.now in
    let ans = rows_of c.args.self.now.answers.now in
    let all = c.args.self.now.homes.now in
    let columns = c.args.self.now.columns.now in
    let q = c.args.path in
    let row = c.loop-row.row in
    let here : row < length (get_or ans q []) = omega (arith, c.loop-row-test.true, c.len-row-end.ensures, ap length c.rows_at.ensures) in
    let p = err_from_is_err_and c.from_residual-in_err-inner.result c.from_residual-in_err-inner.ensures.1 in
    rw (p.1, p.2) (λ other. first_told (row_fault S all (column_in columns) ans q) (length (get_or ans q [])) row _ here c.loop-row.invariant.none other
    (inner_told S all (column_in columns) ans q row _ c.in_ok-outer.ensures.none (c.in_err-inner.ensures.fault other)))

pub loop-row-preserved : goal.loop-row-preserved
loop-row-preserved g c =
    let S = g.S.IndexScheme.scheme c.args.self.now.scheme.now in
    let ans = rows_of c.args.self.now.answers.now in
    let all = c.args.self.now.homes.now in
    let columns = c.args.self.now.columns.now in
    let q = c.args.path in
    let row = c.loop-row.row in
    let here : row < length (get_or ans q []) = omega (arith, c.loop-row-test.true, c.len-row-end.ensures, ap length c.rows_at.ensures) in
    let more : suc row ≡ row + 1 = omega arith in
    record {
      none = more_none (row_fault S all (column_in columns) ans q) row c.loop-row.invariant.none (row_none S all (column_in columns) ans q row c.in_ok-outer.ensures.none c.in_ok-inner.ensures.none);
      gives = subst (λ (n : ℕ). Gives g.S.Index.PartialEq.eq S q (λ s. take n (get_or ans q [])) c.inner.new.own.firsts) more c.in_ok-inner.ensures.after;
    }

pub returns-clause-none : goal.returns-clause-none
returns-clause-none g c =
    let S = g.S.IndexScheme.scheme c.args.self.now.scheme.now in
    let ans = rows_of c.args.self.now.answers.now in
    let all = c.args.self.now.homes.now in
    let columns = c.args.self.now.columns.now in
    let q = c.args.path in
    all_none (row_fault S all (column_in columns) ans q) c.loop-row.row (length (get_or ans q [])) (omega (arith, c.loop-row-test.false, c.len-row-end.ensures, ap length c.rows_at.ensures)) c.loop-row.invariant.none
