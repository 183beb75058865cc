-- Whether a type has a bag at a path. Of fields with one label the first counts.
use Rattle.std.specs.Prelude.{Bool, true, false, List, [], ◌∷◌, cond, bytes_eq}
use Rattle.nq_model.specs.NamedRows.{Label}
use Rattle.nq_model.specs.Types.{TypeTree, int, bool, text, rec, bag, fun, FieldTypes, none, field}
use Rattle.nq_ir.specs.declared.path.Step.{Step}
use Rattle.nq_ir.specs.declared.path.Step.TheVariants.{Down, Field}

abbrev mutual
  pub has_bag : TypeTree → List Step → Bool
  has_bag int p = false
  has_bag bool p = false
  has_bag text p = false
  has_bag (rec fs) [] = false
  has_bag (rec fs) (Down ∷ p) = false
  has_bag (rec fs) (Field l ∷ p) = has_bag_in fs l p
  has_bag (bag a) [] = true
  has_bag (bag a) (Down ∷ p) = has_bag a p
  has_bag (bag a) (Field l ∷ p) = false
  has_bag (fun a b) p = false

  pub has_bag_in : FieldTypes → Label → List Step → Bool
  has_bag_in none l p = false
  has_bag_in (field k a fs) l p = cond (bytes_eq l k) (has_bag a p) (has_bag_in fs l p)
