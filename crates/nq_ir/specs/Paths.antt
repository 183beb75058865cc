-- Paths of a type, and the type of the elements at a path.
--
-- After Cheney, Lindley and Wadler, "Query Shredding", SIGMOD 2014.
use Rattle.std.specs.Prelude.{List, [], ◌∷◌, ◌++◌, map, cond, bytes_eq}
use Rattle.nq_model.specs.Types.{TypeTree, int, bool, text, rec, bag, fun, FieldTypes, none, field}
use Rattle.nq_ir.specs.declared.path.Step.{Step}
use Rattle.nq_ir.specs.declared.path.Step.TheVariants.{Down, Field}
use Rattle.nq_model.specs.NamedRows.{Label}

-- the paths to the bags of a type, in pre-order, fields in label order
abbrev mutual
  pub paths : TypeTree → List (List Step)
  paths int = []
  paths bool = []
  paths text = []
  paths (rec fs) = paths_in fs
  paths (bag a) = [] ∷ map (λ p. Down ∷ p) (paths a)
  paths (fun a b) = []

  pub paths_in : FieldTypes → List (List Step)
  paths_in none = []
  paths_in (field l a fs) = map (λ p. Field l ∷ p) (paths a) ++ paths_in fs

-- the element type of the bag at a path; int where there is no bag
abbrev mutual
  pub element_at : TypeTree → List Step → TypeTree
  element_at int p = int
  element_at bool p = int
  element_at text p = int
  element_at (rec fs) [] = int
  element_at (rec fs) (Down ∷ p) = int
  element_at (rec fs) (Field l ∷ p) = element_in fs l p
  element_at (bag a) [] = a
  element_at (bag a) (Down ∷ p) = element_at a p
  element_at (bag a) (Field l ∷ p) = int
  element_at (fun a b) p = int

  pub element_in : FieldTypes → Label → List Step → TypeTree
  element_in none l p = int
  element_in (field k a fs) l p = cond (bytes_eq l k) (element_at a p) (element_in fs l p)
