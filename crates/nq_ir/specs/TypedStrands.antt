-- The strands of a well-formed form, typed by the generators in scope.
use Rattle.std.specs.Prelude.{◌≡◌, List, ◌++◌}
use Rattle.nq_model.specs.Orders.{AreDistinct}
use Rattle.nq_model.specs.Types.{TypeTree, int, bool, text, rec, bag, fun, FieldTypes, none, field}
use Rattle.nq_model.specs.declared.table.ColumnType.TheVariants as column_type
use Rattle.nq_model.specs.declared.table.TableShape.{TableShape}
use Rattle.nq_ir.specs.declared.base.Gen.{Gen}
use Rattle.nq_ir.specs.Spots.{StrandTree}
use Rattle.nq_ir.specs.Trees.{ShapeTree, plain_shape, rec_shape, index_shape, Shapes, no_shape, with_shape}
use Rattle.nq_ir.specs.WellFormed.{AreTables, BaseHas, CondsHave, numbers}

-- A shape has an element type where the generators in scope are these: the labels of the type's records, a base term
-- of the type for each base type, and an index for each bag.
abbrev mutual
  pub ShapeHas : List TableShape → List Gen → ShapeTree → TypeTree → Type 0
  ShapeHas S scope (plain_shape b) int = BaseHas S scope b column_type.Int
  ShapeHas S scope (plain_shape b) bool = BaseHas S scope b column_type.Bool
  ShapeHas S scope (plain_shape b) text = BaseHas S scope b column_type.Text
  ShapeHas S scope (plain_shape b) (rec gs) = ⊥
  ShapeHas S scope (plain_shape b) (bag a) = ⊥
  ShapeHas S scope (plain_shape b) (fun a c) = ⊥
  ShapeHas S scope (rec_shape fs) int = ⊥
  ShapeHas S scope (rec_shape fs) bool = ⊥
  ShapeHas S scope (rec_shape fs) text = ⊥
  ShapeHas S scope (rec_shape fs) (rec gs) = ShapesHave S scope fs gs
  ShapeHas S scope (rec_shape fs) (bag a) = ⊥
  ShapeHas S scope (rec_shape fs) (fun a c) = ⊥
  ShapeHas S scope index_shape int = ⊥
  ShapeHas S scope index_shape bool = ⊥
  ShapeHas S scope index_shape text = ⊥
  ShapeHas S scope index_shape (rec gs) = ⊥
  ShapeHas S scope index_shape (bag a) = Unit {0}
  ShapeHas S scope index_shape (fun a c) = ⊥

  pub ShapesHave : List TableShape → List Gen → Shapes → FieldTypes → Type 0
  ShapesHave S scope no_shape none = Unit {0}
  ShapesHave S scope no_shape (field k a gs) = ⊥
  ShapesHave S scope (with_shape l b fs) none = ⊥
  ShapesHave S scope (with_shape l b fs) (field k a gs) = (l ≡ k) × ShapeHas S scope b a × ShapesHave S scope fs gs

-- The conditions around a strand are bool in the scope of the generators around it, its own conditions and its shape
-- have their types in the scope of all its generators, and these differ in number.
pub record IsTypedStrand (S : List TableShape) (element : TypeTree) (strand : StrandTree) : Type 0 where
  pub outer_tables : AreTables S strand.outer_gens
  pub tables : AreTables S strand.gens
  pub outer_conds : CondsHave S strand.outer_gens strand.outer_conds
  pub conds : CondsHave S (strand.outer_gens ++ strand.gens) strand.conds
  pub shape : ShapeHas S (strand.outer_gens ++ strand.gens) strand.shape element
  pub numbers_differ : AreDistinct (numbers (strand.outer_gens ++ strand.gens))
