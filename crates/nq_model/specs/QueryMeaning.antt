-- What a query means over tables.
use Rattle.std.specs.Prelude.{◌≡◌, List, []}
use Rattle.nq_model.specs.Databases.{FilledTable}
use Rattle.nq_model.specs.Meaning.{meaning}
use Rattle.nq_model.specs.Proper.{IsPlainTerm}
use Rattle.nq_model.specs.Terms.{PlacedTerm, bare}
use Rattle.nq_model.specs.Unfolding.{Unfolds}
use Rattle.nq_model.specs.Values.{Nested}

-- the value is the meaning of the plain term to which the query unfolds
pub record Means (tables : List FilledTable) (query : PlacedTerm) (value : Nested) : Type 0 where
  pub plain_term : PlacedTerm
  pub unfolds : Unfolds query plain_term
  pub plain : IsPlainTerm (bare plain_term)
  pub is : value ≡ meaning tables [] (bare plain_term)
