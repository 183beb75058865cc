use Rattle.std.proofs.Common.{◌≡◌, ◌<◌, ◌≤◌, [], ◌∷◌, ap, sym, subst, arith, length, length-append}
use Rattle.std.proofs.lemmas.List.{length-map}
use Rattle.std.proofs.lemmas.Result.{err_from_is_err_and}
use Rattle.sql_profile.specs.declared.answer.Answer.{Answer}
use Rattle.stitcher.specs.Linked.{answer_fault}
use Rattle.stitcher.specs.Stitching.{rows_of}
use Rattle.foreign_answers.specs.Judging.{column_in, AreGiven}
use Rattle.foreign_answers.proofs.Entering.{one_more}
use Rattle.foreign_answers.proofs.Steps.{more_none, all_none, first_told}
use Rattle.foreign_answers.proofs.judge.Judge.all.Goals as goal

pub returns-in_err-own-clause-fault : goal.returns-in_err-own-clause-fault
returns-in_err-own-clause-fault g c =
    let S = g.S.IndexScheme.scheme c.args.self.now.scheme.now in
    let ans = rows_of c.args.self.now.answers.now in
    let all = c.args.self.now.homes.now in
    let columns = c.args.self.now.columns.now in
    let p = err_from_is_err_and c.from_residual-in_err-own.result c.from_residual-in_err-own.ensures.1 in
    let long : length ans ≡ length c.args.self.now.answers.now = length-map c.args.self.now.answers.now (λ (a : Answer). a.rows) in
    let here : c.loop-path.path < length S.elements = omega (arith, c.loop-path-test.true, long, c.requires.answered) in
    rw (p.1, p.2) (λ other. first_told (answer_fault S all (column_in columns) ans) (length S.elements) c.loop-path.path _ here c.loop-path.invariant.none other (c.in_err-own.ensures.fault other))

pub loop-path-preserved : goal.loop-path-preserved
loop-path-preserved g c =
    let S = g.S.IndexScheme.scheme c.args.self.now.scheme.now in
    let ans = rows_of c.args.self.now.answers.now in
    let all = c.args.self.now.homes.now in
    let columns = c.args.self.now.columns.now in
    let is = c.in_ok-push.ensures.ok in
    record {
      counted = omega (arith, length-append c.loop-path.given (c.in_ok-own.own ∷ []), ap length is, c.loop-path.invariant.counted);
      given = subst (λ (l : _). AreGiven g.S.Index.PartialEq.eq S ans l) (sym is) (one_more g.S.Index.PartialEq.eq S ans c.loop-path.given c.loop-path.path c.in_ok-own.own c.loop-path.invariant.counted c.in_ok-own.ensures.gives c.loop-path.invariant.given);
      none = more_none (answer_fault S all (column_in columns) ans) c.loop-path.path c.loop-path.invariant.none c.in_ok-own.ensures.none;
    }

pub returns-clause-none : goal.returns-clause-none
returns-clause-none g c =
    let S = g.S.IndexScheme.scheme c.args.self.now.scheme.now in
    let ans = rows_of c.args.self.now.answers.now in
    let all = c.args.self.now.homes.now in
    let columns = c.args.self.now.columns.now in
    let long : length ans ≡ length c.args.self.now.answers.now = length-map c.args.self.now.answers.now (λ (a : Answer). a.rows) in
    let low : length S.elements ≤ c.loop-path.path = omega (arith, c.loop-path-test.false, long, c.requires.answered) in
    all_none (answer_fault S all (column_in columns) ans) c.loop-path.path (length S.elements) low c.loop-path.invariant.none
