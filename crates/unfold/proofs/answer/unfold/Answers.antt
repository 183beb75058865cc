use Rattle.std.proofs.Common.{sym, subst as along}
use Rattle.std.proofs.lemmas.Result.{IfOk-weaker}
use Rattle.nq_model.specs.Terms.{placed}
use Rattle.unfold.specs.Unfolded.{IsUnfolding}
use Rattle.unfold.proofs.Walks.{walked_unfolds}
use Rattle.unfold.proofs.answer.unfold.Goals as goal

pub returns : goal.returns
returns c = record {
  reached = IfOk-weaker c.unfold_by_rank.result _ _ (λ u e. along (λ z. IsUnfolding c.args.schema.now (placed c.args.term) z) (sym e) (walked_unfolds c.args.schema.now (placed c.args.term) c.requires.0 c.requires.1)) c.unfold_by_rank.ensures.exact;
  shallow = c.unfold_by_rank.ensures.shallow;
}
