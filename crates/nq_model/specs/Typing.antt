-- The typing rules, as a relation by cases on the term.
--
-- A context lists the types of the variables in scope, the innermost first. Record types have their labels in
-- byte order, so two of them are equal whatever order their fields were written in.
--
-- After Cheney, Lindley and Wadler, "Query Shredding", SIGMOD 2014; variables by de Bruijn, 1972.
use Rattle.std.specs.Prelude.{◌≡◌, ℕ, true, cond, List, [], ◌∷◌, Option, Some, None, slice_get}
use Rattle.std.specs.Str.{bytes_eq}
use Rattle.std.specs.Ordering.{is_gt}
use Rattle.nq_model.specs.Orders.{label_cmp}
use Rattle.nq_model.specs.Types.{TypeTree, FieldTypes, is_plain, is_well_formed}
use Rattle.nq_model.specs.Terms.{TermTree, TermFields, Aggregate, Emptiness, Count, Sum}
use Rattle.nq_model.specs.Tables.{base_type, table_type}
use Rattle.nq_model.specs.Operators.{unary_type, binary_type}
use Rattle.nq_model.specs.declared.table.ColumnType.{ColumnType}
use Rattle.nq_model.specs.declared.table.TableShape.{TableShape}
use Rattle.nq_model.specs.declared.table.Schema.{Schema}

-- the first table of that name
abbrev pub shape_named : List ℕ → List TableShape → Option TableShape
shape_named name [] = None
shape_named name (shape ∷ shapes) = cond (bytes_eq name shape.name) (Some shape) (shape_named name shapes)

-- the type of the field with that label
abbrev pub type_at : List ℕ → FieldTypes → Option TypeTree
type_at l FieldTypes.none = None
type_at l (FieldTypes.field m t fields) = cond (bytes_eq l m) (Some t) (type_at l fields)

-- a field put among fields in the byte order of labels
abbrev pub put_type : List ℕ → TypeTree → FieldTypes → FieldTypes
put_type l t FieldTypes.none = FieldTypes.field l t FieldTypes.none
put_type l t (FieldTypes.field m u fields) =
    cond (is_gt (label_cmp l m)) (FieldTypes.field m u (put_type l t fields)) (FieldTypes.field l t (FieldTypes.field m u fields))

-- the type of what is asked of a bag with this element type; a sum is asked of numbers alone
abbrev pub aggregate_type : Aggregate → TypeTree → Option TypeTree
aggregate_type Emptiness a = Some TypeTree.bool
aggregate_type Count a = Some TypeTree.int
aggregate_type Sum TypeTree.int = Some TypeTree.int
aggregate_type Sum _ = None

module _ (schema : Schema) where
  abbrev mutual
    -- in this context the term has the type
    pub HasType : List TypeTree → TermTree → TypeTree → Type 0
    HasType context (TermTree.var n) k = slice_get context n ≡ Some k
    HasType context (TermTree.int n) k = k ≡ TypeTree.int
    HasType context (TermTree.bool b) k = k ≡ TypeTree.bool
    HasType context (TermTree.text t) k = k ≡ TypeTree.text
    HasType context (TermTree.table l) k =
        (shape : TableShape) × (shape_named l schema.tables ≡ Some shape) × (k ≡ table_type shape.columns)
    HasType context (TermTree.unary op t) k =
        (a b : ColumnType) × HasType context t (base_type a) × (unary_type op a ≡ Some b) × (k ≡ base_type b)
    HasType context (TermTree.binary op t u) k =
        (a b c : ColumnType) × HasType context t (base_type a) × HasType context u (base_type b) × (binary_type op a b ≡ Some c) × (k ≡ base_type c)
    HasType context (TermTree.choose x t u) k = HasType context x TypeTree.bool × HasType context t k × HasType context u k
    HasType context (TermTree.fun a t) k =
        (b : TypeTree) × (is_well_formed a ≡ true) × HasType (a ∷ context) t b × (k ≡ TypeTree.fun a b)
    HasType context (TermTree.apply t u) k = (a : TypeTree) × HasType context t (TypeTree.fun a k) × HasType context u a
    HasType context (TermTree.rec fs) k = (fields : FieldTypes) × HaveTypes context fs fields × (k ≡ TypeTree.rec fields)
    HasType context (TermTree.field t l) k = (fields : FieldTypes) × HasType context t (TypeTree.rec fields) × (type_at l fields ≡ Some k)
    HasType context (TermTree.aggregate g t) k = (a : TypeTree) × HasType context t (TypeTree.bag a) × (aggregate_type g a ≡ Some k)
    HasType context (TermTree.single t) k = (a : TypeTree) × HasType context t a × (is_plain a ≡ true) × (k ≡ TypeTree.bag a)
    HasType context (TermTree.nil a) k = (is_plain a ≡ true) × (k ≡ TypeTree.bag a)
    HasType context (TermTree.union t u) k = (a : TypeTree) × (k ≡ TypeTree.bag a) × HasType context t k × HasType context u k
    HasType context (TermTree.for t u) k =
        (a b : TypeTree) × HasType context t (TypeTree.bag a) × HasType (a ∷ context) u k × (k ≡ TypeTree.bag b)
    HasType context (TermTree.guard x u) k = (b : TypeTree) × HasType context x TypeTree.bool × HasType context u k × (k ≡ TypeTree.bag b)
    HasType context (TermTree.bind t u) k = (a : TypeTree) × HasType context t a × HasType (a ∷ context) u k

    -- the fields have these types, in the byte order of the labels
    pub HaveTypes : List TypeTree → TermFields → FieldTypes → Type 0
    HaveTypes context TermFields.none fields = fields ≡ FieldTypes.none
    HaveTypes context (TermFields.with_field l t fs) fields =
        (k : TypeTree) × (rest : FieldTypes) × HasType context t k × HaveTypes context fs rest × (fields ≡ put_type l k rest)

-- a bag in which no function stands
abbrev pub IsPlainBag : TypeTree → Type 0
IsPlainBag (TypeTree.bag a) = is_plain a ≡ true
IsPlainBag _ = ⊥

-- the program has the type, and it is a plain bag
pub record IsAccepted (schema : Schema) (program : TermTree) (type : TypeTree) : Type 0 where
  pub typed : HasType schema [] program type
  pub plain_bag : IsPlainBag type
