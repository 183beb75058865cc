-- Normal forms as plain trees.
--
-- After Cheney, Lindley and Wadler, "Query Shredding", SIGMOD 2014.
use Rattle.std.specs.Prelude.{ℕ, pos, List, [], ◌∷◌, map}
use Rattle.nq_model.specs.Totals.{Total, HowMany, SumOf}
use Rattle.nq_model.specs.Types.{TypeTree, type_tree}
use Rattle.nq_model.specs.declared.term.Unary.{Unary}
use Rattle.nq_model.specs.declared.term.Binary.{Binary}
use Rattle.nq_model.specs.declared.table.Cell.{Cell}
use Rattle.nq_model.specs.declared.table.Cell.TheVariants as cell
use Rattle.nq_ir.specs.declared.base.Gen.{Gen}
use Rattle.nq_ir.specs.declared.base.Base.{Base}
use Rattle.nq_ir.specs.declared.base.Test.{Test}
use Rattle.nq_ir.specs.declared.base.Base.TheFolds.{fold-Base, fold-Test}
use Rattle.nq_ir.specs.declared.base.Base.TheOpen.{Base-F, Test-F}
use Rattle.nq_ir.specs.declared.normal.Normal.{Normal}
use Rattle.nq_ir.specs.declared.normal.Comp.{Comp}
use Rattle.nq_ir.specs.declared.normal.Body.{Body}
use Rattle.nq_ir.specs.declared.normal.Body.TheFolds.{fold-Body, fold-Comp, fold-Normal}
use Rattle.nq_ir.specs.declared.normal.Body.TheOpen.{Body-F, Comp-F, Normal-F}
use Rattle.nq_ir.specs.declared.shredded.Shape.{Shape, fold-Shape}
use Rattle.nq_ir.specs.declared.shredded.Shape.TheOpen.{Shape-F}

mutual
  -- a term of a base type; a column is that of the generator with a number
  pub data BaseTree : Type 0 where
    literal : Cell → BaseTree
    column : ℕ → List ℕ → BaseTree
    unary : Unary → BaseTree → BaseTree
    binary : Binary → BaseTree → BaseTree → BaseTree
    choose : BaseTree → BaseTree → BaseTree → BaseTree
    empty : Tests → BaseTree
    -- over the choices that the generators and conditions keep: how many there are, where the value is 1, or the sum of the value
    total : Total → List Gen → Conds → BaseTree → BaseTree

  pub data Conds : Type 0 where
    no_cond : Conds
    and_cond : BaseTree → Conds → Conds

  -- the comprehensions of an emptiness test, each with generators and conditions
  pub data Tests : Type 0 where
    no_test : Tests
    test : List Gen → Conds → Tests → Tests

mutual
  pub data BodyTree : Type 0 where
    plain_body : BaseTree → BodyTree
    rec_body : Bodies → BodyTree
    bag_body : TypeTree → Comps → BodyTree

  -- the bodies of a record's fields
  pub data Bodies : Type 0 where
    no_body : Bodies
    with_body : List ℕ → BodyTree → Bodies → Bodies

  -- comprehensions: tag, generators, conditions and body
  pub data Comps : Type 0 where
    no_comp : Comps
    comp : ℕ → List Gen → Conds → BodyTree → Comps → Comps

-- a body with an index in the place of each bag
mutual
  pub data ShapeTree : Type 0 where
    plain_shape : BaseTree → ShapeTree
    rec_shape : Shapes → ShapeTree
    index_shape : ShapeTree

  pub data Shapes : Type 0 where
    no_shape : Shapes
    with_shape : List ℕ → ShapeTree → Shapes → Shapes

abbrev pub conds_of : List BaseTree → Conds
conds_of [] = no_cond
conds_of (b ∷ bs) = and_cond b (conds_of bs)

-- one comprehension that is tested, counted or summed over
pub record TestPart : Type 0 where
  pub gens : List Gen
  pub conds : Conds

abbrev pub tests_of : List TestPart → Tests
tests_of [] = no_test
tests_of (t ∷ ts) = test t.gens t.conds (tests_of ts)

abbrev pub bodies_of : List (List ℕ × BodyTree) → Bodies
bodies_of [] = no_body
bodies_of (f ∷ fs) = with_body f.0 f.1 (bodies_of fs)

-- one comprehension
pub record CompPart : Type 0 where
  pub tag : ℕ
  pub gens : List Gen
  pub conds : Conds
  pub body : BodyTree

abbrev pub comps_of : List CompPart → Comps
comps_of [] = no_comp
comps_of (c ∷ cs) = comp c.tag c.gens c.conds c.body (comps_of cs)

abbrev pub shapes_of : List (List ℕ × ShapeTree) → Shapes
shapes_of [] = no_shape
shapes_of (f ∷ fs) = with_shape f.0 f.1 (shapes_of fs)

-- a normal form: the type of its elements, and its comprehensions
pub record FormTree : Type 0 where
  pub element : TypeTree
  pub comps : Comps

-- a term and further ones behind it, each joined to those before it by the same operation
abbrev pub chain : Binary → BaseTree → List BaseTree → BaseTree
chain op first [] = first
chain op first (b ∷ more) = chain op (binary op first b) more

abbrev pub base_layer : Base-F BaseTree TestPart → BaseTree
base_layer (Base-F.Int n) = literal (cell.Int n)
base_layer (Base-F.Bool b) = literal (cell.Bool b)
base_layer (Base-F.Text t) = literal (cell.Text t)
base_layer (Base-F.Column g l) = column g l
base_layer (Base-F.Unary op b) = unary op b.value
base_layer (Base-F.Binary op a b) = binary op a.value b.value
base_layer (Base-F.Chain op first more) = chain op first.value more
base_layer (Base-F.Choose x a b) = choose x.value a.value b.value
base_layer (Base-F.Empty ts) = empty (tests_of ts)
base_layer (Base-F.Count t) = total HowMany t.gens t.conds (literal (cell.Int (pos 1)))
base_layer (Base-F.Sum t b) = total SumOf t.gens t.conds b.value

abbrev pub test_layer : Test-F BaseTree TestPart → TestPart
test_layer t = record { gens = t.gens; conds = conds_of t.conds }

-- the tree of a base term of the program
abbrev pub base_tree : Base → BaseTree
base_tree = fold-Base BaseTree TestPart base_layer test_layer

abbrev pub test_part : Test → TestPart
test_part = fold-Test BaseTree TestPart base_layer test_layer

abbrev pub conds_tree : List Base → Conds
conds_tree bs = conds_of (map base_tree bs)

abbrev pub body_layer : Body-F BodyTree CompPart FormTree → BodyTree
body_layer (Body-F.Plain b) = plain_body (base_tree b)
body_layer (Body-F.Rec fs) = rec_body (bodies_of fs)
body_layer (Body-F.Bag n) = bag_body n.element n.comps

abbrev pub comp_layer : Comp-F BodyTree CompPart FormTree → CompPart
comp_layer c = record { tag = c.tag; gens = c.gens; conds = conds_tree c.conds; body = c.body }

abbrev pub normal_layer : Normal-F BodyTree CompPart FormTree → FormTree
normal_layer n = record { element = type_tree n.element; comps = comps_of n.parts }

-- the trees of a body, a comprehension and a normal form of the program
abbrev pub body_tree : Body → BodyTree
body_tree = fold-Body BodyTree CompPart FormTree body_layer comp_layer normal_layer

abbrev pub comp_part : Comp → CompPart
comp_part = fold-Comp BodyTree CompPart FormTree body_layer comp_layer normal_layer

abbrev pub form_tree : Normal → FormTree
form_tree = fold-Normal BodyTree CompPart FormTree body_layer comp_layer normal_layer

abbrev pub shape_layer : Shape-F ShapeTree → ShapeTree
shape_layer (Shape-F.Plain b) = plain_shape (base_tree b)
shape_layer (Shape-F.Rec fs) = rec_shape (shapes_of fs)
shape_layer Shape-F.Index = index_shape

-- the tree of a shape of the program
abbrev pub shape_tree : Shape → ShapeTree
shape_tree = fold-Shape ShapeTree shape_layer

-- each field's label and the tree of its shape
abbrev pub shapes_view : List (List ℕ × Shape) → List (List ℕ × ShapeTree)
shapes_view fs = map (λ f. (f.0, shape_tree f.1)) fs
