use Rattle.std.proofs.Common.{◌≡◌, ℕ, ◌<◌, None, length}
use Rattle.stitcher.specs.Linked.{answer_fault}
use Rattle.stitcher.specs.Stitching.{rows_of}
use Rattle.foreign_answers.specs.Judging.{column_in, AreGiven}
use Rattle.foreign_answers.proofs.judge.Judge.all.Given as goal

abbrev pub invariant-loop-path : goal.invariant-loop-path
invariant-loop-path g l =
    let S = g.S.IndexScheme.scheme l.self.scheme.now in
    let ans = rows_of l.self.answers.now in
    record {
      counted : length l.given ≡ l.path;
      given : AreGiven g.S.Index.PartialEq.eq S ans l.given;
      none : (q : ℕ) → q < l.path → answer_fault S l.self.homes.now (column_in l.self.columns.now) ans q ≡ None;
    }
