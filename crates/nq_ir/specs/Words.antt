-- Every label, table and column of a schema, a type, a term or a form keeps a condition.
use Rattle.std.specs.Prelude.{⊤, List}
use Rattle.std.specs.List.{AllByRecursion as Each}
use Rattle.nq_model.specs.NamedRows.{Label}
use Rattle.nq_model.specs.Tables.{names_of}
use Rattle.nq_model.specs.Terms.{TermTree, TermFields}
use Rattle.nq_model.specs.Types.{TypeTree, FieldTypes}
use Rattle.nq_model.specs.declared.table.TableShape.{TableShape}
use Rattle.nq_ir.specs.declared.base.Gen.{Gen}
use Rattle.nq_ir.specs.Trees.{BaseTree, Conds, no_cond, and_cond, Tests, no_test, test, BodyTree, plain_body, rec_body, bag_body, Bodies, no_body, with_body, Comps, no_comp, comp, FormTree}

module _ (Word : Label → Type 0) where
  -- the names of the tables and of their columns
  abbrev pub SchemaWords : List TableShape → Type 0
  SchemaWords shapes = Each (λ shape. Word shape.name × Each Word (names_of shape.columns)) shapes

  abbrev mutual
    pub TypeWords : TypeTree → Type 0
    TypeWords TypeTree.int = ⊤
    TypeWords TypeTree.bool = ⊤
    TypeWords TypeTree.text = ⊤
    TypeWords (TypeTree.rec fs) = FieldsWords fs
    TypeWords (TypeTree.bag a) = TypeWords a
    TypeWords (TypeTree.fun a b) = TypeWords a × TypeWords b

    pub FieldsWords : FieldTypes → Type 0
    FieldsWords FieldTypes.none = ⊤
    FieldsWords (FieldTypes.field l a fs) = Word l × TypeWords a × FieldsWords fs

  -- the labels of a plain term, and the tables that it names
  abbrev mutual
    pub TermWords : TermTree → Type 0
    TermWords (TermTree.var k) = ⊤
    TermWords (TermTree.int n) = ⊤
    TermWords (TermTree.bool b) = ⊤
    TermWords (TermTree.text t) = ⊤
    TermWords (TermTree.table l) = Word l
    TermWords (TermTree.unary op t) = TermWords t
    TermWords (TermTree.binary op t u) = TermWords t × TermWords u
    TermWords (TermTree.choose x t u) = TermWords x × TermWords t × TermWords u
    TermWords (TermTree.fun a t) = TypeWords a × TermWords t
    TermWords (TermTree.apply t u) = TermWords t × TermWords u
    TermWords (TermTree.rec fs) = TermFieldsWords fs
    TermWords (TermTree.field t l) = TermWords t × Word l
    TermWords (TermTree.aggregate g t) = TermWords t
    TermWords (TermTree.single t) = TermWords t
    TermWords (TermTree.nil a) = TypeWords a
    TermWords (TermTree.union t u) = TermWords t × TermWords u
    TermWords (TermTree.for t u) = TermWords t × TermWords u
    TermWords (TermTree.guard x u) = TermWords x × TermWords u
    TermWords (TermTree.bind t u) = TermWords t × TermWords u

    pub TermFieldsWords : TermFields → Type 0
    TermFieldsWords TermFields.none = ⊤
    TermFieldsWords (TermFields.with_field l t fs) = Word l × TermWords t × TermFieldsWords fs

  abbrev pub GensWords : List Gen → Type 0
  GensWords gens = Each (λ g. Word g.table) gens

  abbrev mutual
    pub BaseWords : BaseTree → Type 0
    BaseWords (BaseTree.literal c) = ⊤
    BaseWords (BaseTree.column g l) = Word l
    BaseWords (BaseTree.unary op b) = BaseWords b
    BaseWords (BaseTree.binary op a b) = BaseWords a × BaseWords b
    BaseWords (BaseTree.choose x a b) = BaseWords x × BaseWords a × BaseWords b
    BaseWords (BaseTree.empty xs) = TestsWords xs
    BaseWords (BaseTree.total g gens conds b) = GensWords gens × CondsWords conds × BaseWords b

    pub CondsWords : Conds → Type 0
    CondsWords no_cond = ⊤
    CondsWords (and_cond b bs) = BaseWords b × CondsWords bs

    pub TestsWords : Tests → Type 0
    TestsWords no_test = ⊤
    TestsWords (test gens conds xs) = GensWords gens × CondsWords conds × TestsWords xs

  abbrev mutual
    pub BodyWords : BodyTree → Type 0
    BodyWords (plain_body b) = BaseWords b
    BodyWords (rec_body fs) = BodiesWords fs
    BodyWords (bag_body a cs) = TypeWords a × CompsWords cs

    pub BodiesWords : Bodies → Type 0
    BodiesWords no_body = ⊤
    BodiesWords (with_body l b fs) = Word l × BodyWords b × BodiesWords fs

    pub CompsWords : Comps → Type 0
    CompsWords no_comp = ⊤
    CompsWords (comp t gens conds b cs) = GensWords gens × CondsWords conds × BodyWords b × CompsWords cs

  -- the labels, tables and columns of a form, and the labels of its element type
  abbrev pub FormWords : FormTree → Type 0
  FormWords form = TypeWords form.element × CompsWords form.comps
