-- What unfolding promises.
use Rattle.std.specs.Prelude.{[]}
use Rattle.nq_model.specs.Types.{TypeTree}
use Rattle.nq_model.specs.Terms.{PlacedTerm, bare}
use Rattle.nq_model.specs.Unfolding.{Unfolds}
use Rattle.nq_model.specs.Proper.{IsPlainTerm, IsClosed, IsProperTerm}
use Rattle.nq_model.specs.Typing.{HasType}
use Rattle.nq_model.specs.declared.table.Schema.{Schema}

-- u is the plain term to which t unfolds; it has the types that t has, is closed, and is proper where t is
pub record IsUnfolding (schema : Schema) (t u : PlacedTerm) : Type 0 where
  pub unfolds : Unfolds t u
  pub plain : IsPlainTerm (bare u)
  pub closed : IsClosed (bare u)
  pub proper : IsProperTerm (bare t) → IsProperTerm (bare u)
  pub keeps : (a : TypeTree) → HasType schema [] (bare t) a → HasType schema [] (bare u) a
