-- When a value is of a type.
use Rattle.std.specs.Prelude.{◌≡◌, ⊤, FitsSigned}
use Rattle.std.specs.Int.{w64}
use Rattle.nq_model.specs.Types.{TypeTree, FieldTypes}
use Rattle.nq_model.specs.Values.{Nested, Fields, Elements}
use Rattle.nq_model.specs.declared.table.Cell.TheVariants as cell

-- Integers are of 64 bits. A record has a field for each label of its type, in the same order, and each
-- element of a bag is of the element type.
abbrev mutual
  pub IsOfType : TypeTree → Nested → Type 0
  IsOfType TypeTree.int (Nested.base (cell.Int n)) = FitsSigned w64 n
  IsOfType TypeTree.bool (Nested.base (cell.Bool b)) = ⊤
  IsOfType TypeTree.text (Nested.base (cell.Text t)) = ⊤
  IsOfType (TypeTree.rec ts) (Nested.rec fs) = FieldsAreOfTypes ts fs
  IsOfType (TypeTree.bag t) (Nested.bag vs) = ElementsAreOfType t vs
  IsOfType _ _ = ⊥

  pub FieldsAreOfTypes : FieldTypes → Fields → Type 0
  FieldsAreOfTypes FieldTypes.none Fields.none = ⊤
  FieldsAreOfTypes (FieldTypes.field l t ts) (Fields.field m v fs) = (l ≡ m) × IsOfType t v × FieldsAreOfTypes ts fs
  FieldsAreOfTypes _ _ = ⊥

  pub ElementsAreOfType : TypeTree → Elements → Type 0
  ElementsAreOfType t Elements.end = ⊤
  ElementsAreOfType t (Elements.more v vs) = IsOfType t v × ElementsAreOfType t vs
