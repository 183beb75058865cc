-- The type of a term, computed rule by rule; none where a rule is broken.
use Rattle.std.specs.Prelude.{ℕ, Bool, true, false, ◌&&◌, List, ◌∷◌, Option, Some, None, slice_get}
use Rattle.nq_model.specs.Types.{TypeTree, FieldTypes, is_plain, is_well_formed, type_eq}
use Rattle.nq_model.specs.Terms.{TermTree, TermFields, Aggregate}
use Rattle.nq_model.specs.Tables.{base_type, table_type}
use Rattle.nq_model.specs.Operators.{unary_type, binary_type}
use Rattle.nq_model.specs.Typing.{shape_named, type_at, put_type, aggregate_type}
use Rattle.nq_model.specs.declared.term.Unary.{Unary}
use Rattle.nq_model.specs.declared.term.Binary.{Binary}
use Rattle.nq_model.specs.declared.table.ColumnType.{ColumnType}
use Rattle.nq_model.specs.declared.table.ColumnType.TheVariants as column
use Rattle.nq_model.specs.declared.table.Schema.{Schema}

abbrev pub and_then : {A B : Type 0} → Option A → (A → Option B) → Option B
and_then None f = None
and_then (Some a) f = f a

abbrev pub when : {A : Type 0} → Bool → A → Option A
when true a = Some a
when false a = None

-- the base type that a type is, if it is one
abbrev pub base_of : TypeTree → Option ColumnType
base_of TypeTree.int = Some column.Int
base_of TypeTree.bool = Some column.Bool
base_of TypeTree.text = Some column.Text
base_of _ = None

-- the element type of a bag
abbrev pub element_of : TypeTree → Option TypeTree
element_of (TypeTree.bag a) = Some a
element_of _ = None

-- the fields of a record
abbrev pub fields_in : TypeTree → Option FieldTypes
fields_in (TypeTree.rec fields) = Some fields
fields_in _ = None

-- what a function takes and gives
abbrev pub sides_of : TypeTree → Option (TypeTree × TypeTree)
sides_of (TypeTree.fun a b) = Some (a, b)
sides_of _ = None

-- What each rule gives at the types of the parts.
abbrev pub table_given : List ℕ → Schema → Option TypeTree
table_given l schema = and_then (shape_named l schema.tables) (λ shape. Some (table_type shape.columns))

abbrev pub unary_given : Unary → TypeTree → Option TypeTree
unary_given op a = and_then (base_of a) (λ x. and_then (unary_type op x) (λ y. Some (base_type y)))

abbrev pub binary_given : Binary → TypeTree → TypeTree → Option TypeTree
binary_given op a b =
    and_then (base_of a) (λ x. and_then (base_of b) (λ y. and_then (binary_type op x y) (λ z. Some (base_type z))))

abbrev pub choice_given : TypeTree → TypeTree → TypeTree → Option TypeTree
choice_given x a b = when (type_eq x TypeTree.bool && type_eq a b) a

abbrev pub parameter_given : TypeTree → Option TypeTree
parameter_given a = when (is_well_formed a) a

abbrev pub application_given : TypeTree → TypeTree → Option TypeTree
application_given f a = and_then (sides_of f) (λ sides. when (type_eq sides.0 a) sides.1)

abbrev pub field_given : List ℕ → TypeTree → Option TypeTree
field_given l a = and_then (fields_in a) (type_at l)

abbrev pub aggregate_given : Aggregate → TypeTree → Option TypeTree
aggregate_given g a = and_then (element_of a) (aggregate_type g)

abbrev pub bag_given : TypeTree → Option TypeTree
bag_given a = when (is_plain a) (TypeTree.bag a)

abbrev pub union_given : TypeTree → TypeTree → Option TypeTree
union_given a b = and_then (element_of a) (λ _. when (type_eq a b) a)

abbrev pub body_given : TypeTree → Option TypeTree
body_given b = and_then (element_of b) (λ _. Some b)

abbrev pub guard_given : TypeTree → TypeTree → Option TypeTree
guard_given x b = and_then (element_of b) (λ _. when (type_eq x TypeTree.bool) b)

module _ (schema : Schema) where
  abbrev mutual
    pub type_of : List TypeTree → TermTree → Option TypeTree
    type_of context (TermTree.var n) = slice_get context n
    type_of context (TermTree.int n) = Some TypeTree.int
    type_of context (TermTree.bool b) = Some TypeTree.bool
    type_of context (TermTree.text t) = Some TypeTree.text
    type_of context (TermTree.table l) = table_given l schema
    type_of context (TermTree.unary op t) = and_then (type_of context t) (unary_given op)
    type_of context (TermTree.binary op t u) =
        and_then (type_of context t) (λ a. and_then (type_of context u) (binary_given op a))
    type_of context (TermTree.choose x t u) =
        and_then (type_of context x) (λ c. and_then (type_of context t) (λ a. and_then (type_of context u) (choice_given c a)))
    type_of context (TermTree.fun a t) =
        and_then (parameter_given a) (λ _. and_then (type_of (a ∷ context) t) (λ b. Some (TypeTree.fun a b)))
    type_of context (TermTree.apply t u) =
        and_then (type_of context t) (λ f. and_then (type_of context u) (application_given f))
    type_of context (TermTree.rec fs) = and_then (types_of context fs) (λ fields. Some (TypeTree.rec fields))
    type_of context (TermTree.field t l) = and_then (type_of context t) (field_given l)
    type_of context (TermTree.aggregate g t) = and_then (type_of context t) (aggregate_given g)
    type_of context (TermTree.single t) = and_then (type_of context t) bag_given
    type_of context (TermTree.nil a) = bag_given a
    type_of context (TermTree.union t u) = and_then (type_of context t) (λ a. and_then (type_of context u) (union_given a))
    type_of context (TermTree.for t u) =
        and_then (type_of context t) (λ a. and_then (element_of a) (λ e. and_then (type_of (e ∷ context) u) body_given))
    type_of context (TermTree.guard x u) = and_then (type_of context x) (λ c. and_then (type_of context u) (guard_given c))
    type_of context (TermTree.bind t u) = and_then (type_of context t) (λ a. type_of (a ∷ context) u)

    pub types_of : List TypeTree → TermFields → Option FieldTypes
    types_of context TermFields.none = Some FieldTypes.none
    types_of context (TermFields.with_field l t fs) =
        and_then (type_of context t) (λ k. and_then (types_of context fs) (λ rest. Some (put_type l k rest)))
