-- Types as text.
use Rattle.std.specs.Prelude.{ℕ, Bool, true, false, List, [], ◌++◌, codes}
use Rattle.nq_model.specs.Types.{TypeTree, FieldTypes}

-- whether the type is a function
abbrev pub is_function : TypeTree → Bool
is_function (TypeTree.fun taken given) = true
is_function _ = false

abbrev pub in_parentheses : Bool → List ℕ → List ℕ
in_parentheses true text = codes "(" ++ (text ++ codes ")")
in_parentheses false text = text

-- a type as a query text spells it, the fields as they stand
abbrev mutual
  pub written_type : TypeTree → List ℕ
  written_type TypeTree.int = codes "int"
  written_type TypeTree.bool = codes "bool"
  written_type TypeTree.text = codes "text"
  written_type (TypeTree.rec fields) = codes "(" ++ (written_types fields ++ codes ")")
  written_type (TypeTree.bag element) = codes "[" ++ (written_type element ++ codes "]")
  written_type (TypeTree.fun taken given) = in_parentheses (is_function taken) (written_type taken) ++ (codes " -> " ++ written_type given)

  pub written_types : FieldTypes → List ℕ
  written_types FieldTypes.none = []
  written_types (FieldTypes.field l t FieldTypes.none) = l ++ (codes ": " ++ written_type t)
  written_types (FieldTypes.field l t (FieldTypes.field m u fields)) =
      l ++ (codes ": " ++ (written_type t ++ (codes ", " ++ written_types (FieldTypes.field m u fields))))
