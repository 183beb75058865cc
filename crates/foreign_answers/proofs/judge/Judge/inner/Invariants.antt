use Rattle.std.proofs.Common.{◌≡◌, ℕ, ◌<◌, [], None, get_or, take}
use Rattle.stitcher.specs.Linked.{inner_fault}
use Rattle.stitcher.specs.Stitching.{rows_of}
use Rattle.foreign_answers.specs.Judging.{column_in, Gives}
use Rattle.foreign_answers.proofs.Entering.{reached}
use Rattle.foreign_answers.proofs.judge.Judge.inner.Given as goal

abbrev pub invariant-loop-slot : goal.invariant-loop-slot
invariant-loop-slot g l =
    let S = g.S.IndexScheme.scheme l.self.scheme.now in
    let ans = rows_of l.self.answers.now in
    record {
      none : (s : ℕ) → s < l.slot → inner_fault S l.self.homes.now (column_in l.self.columns.now) ans l.path l.row s ≡ None;
      gives : Gives g.S.Index.PartialEq.eq S l.path (λ s. take (reached l.row l.slot s) (get_or ans l.path [])) l.own.firsts;
    }
