use Rattle.std.proofs.Common.{◌∙◌, get_or}
use Rattle.std.proofs.lemmas.Result.{IfOk-weaker}
use Rattle.nq_ir.specs.RawForms.{no_raw_body}
use Rattle.normalise.specs.Scopes.{bodies}
use Rattle.normalise.proofs.MovedBodies.{body_same}
use Rattle.normalise.proofs.scope.Scope.variable.Goals as goal

pub returns : goal.returns
returns c = IfOk-weaker c.body_of.result _ _ (λ b e. e ∙ body_same (get_or (bodies c.args.self.now) c.args.k no_raw_body) 0) c.body_of.ensures
