use Rattle.std.proofs.Common.{◌≡◌, ℕ, ◌<◌, [], None, get_or, take}
use Rattle.stitcher.specs.Linked.{row_fault}
use Rattle.stitcher.specs.Stitching.{rows_of}
use Rattle.foreign_answers.specs.Judging.{column_in, Gives}
use Rattle.foreign_answers.proofs.judge.Judge.answer.Given as goal

abbrev pub invariant-loop-row : goal.invariant-loop-row
invariant-loop-row g l =
    let S = g.S.IndexScheme.scheme l.self.scheme.now in
    let ans = rows_of l.self.answers.now in
    record {
      none : (k : ℕ) → k < l.row → row_fault S l.self.homes.now (column_in l.self.columns.now) ans l.path k ≡ None;
      gives : Gives g.S.Index.PartialEq.eq S l.path (λ s. take l.row (get_or ans l.path [])) l.own.firsts;
    }
