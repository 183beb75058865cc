-- The parts of a type by which answers go: base parts and inner bags of an element, and bags, which are the paths.
use Rattle.std.specs.Prelude.{ℕ, ◌+◌, suc, List, [], ◌∷◌, ◌++◌}
use Rattle.nq_model.specs.Types.{TypeTree, int, bool, text, rec, bag, fun, FieldTypes, none, field}

-- the base parts of an element
abbrev mutual
  pub leaves : TypeTree → ℕ
  leaves int = 1
  leaves bool = 1
  leaves text = 1
  leaves (rec fs) = leaves_in fs
  leaves (bag a) = 0
  leaves (fun a b) = 0

  pub leaves_in : FieldTypes → ℕ
  leaves_in none = 0
  leaves_in (field l a fs) = leaves a + leaves_in fs

-- the inner bags of an element
abbrev mutual
  pub slots : TypeTree → ℕ
  slots int = 0
  slots bool = 0
  slots text = 0
  slots (rec fs) = slots_in fs
  slots (bag a) = 1
  slots (fun a b) = 0

  pub slots_in : FieldTypes → ℕ
  slots_in none = 0
  slots_in (field l a fs) = slots a + slots_in fs

-- the bag constructors
abbrev mutual
  pub bags : TypeTree → ℕ
  bags int = 0
  bags bool = 0
  bags text = 0
  bags (rec fs) = bags_in fs
  bags (bag a) = suc (bags a)
  bags (fun a b) = 0

  pub bags_in : FieldTypes → ℕ
  bags_in none = 0
  bags_in (field l a fs) = bags a + bags_in fs

-- the element types of the bags, in pre-order, fields in label order
abbrev mutual
  pub element_types : TypeTree → List TypeTree
  element_types int = []
  element_types bool = []
  element_types text = []
  element_types (rec fs) = element_types_in fs
  element_types (bag a) = a ∷ element_types a
  element_types (fun a b) = []

  pub element_types_in : FieldTypes → List TypeTree
  element_types_in none = []
  element_types_in (field l a fs) = element_types a ++ element_types_in fs
