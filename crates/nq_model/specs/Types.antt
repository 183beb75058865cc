-- Types as plain trees, and which of them are plain and well formed.
--
-- After Cheney, Lindley and Wadler, "Query Shredding", SIGMOD 2014.
use Rattle.std.specs.Prelude.{ℕ, Bool, true, false, ◌&&◌, List, [], ◌∷◌, map}
use Rattle.std.specs.Str.{bytes_eq}
use Rattle.nq_model.specs.declared.ty.Ty.{Ty, fold-Ty}
use Rattle.nq_model.specs.declared.ty.Ty.TheOpen.{Ty-F}

mutual
  pub data TypeTree : Type 0 where
    int : TypeTree
    bool : TypeTree
    text : TypeTree
    rec : FieldTypes → TypeTree
    bag : TypeTree → TypeTree
    fun : TypeTree → TypeTree → TypeTree

  pub data FieldTypes : Type 0 where
    none : FieldTypes
    field : List ℕ → TypeTree → FieldTypes → FieldTypes

abbrev pub field_types_of : List (List ℕ × TypeTree) → FieldTypes
field_types_of [] = none
field_types_of (f ∷ fs) = field f.0 f.1 (field_types_of fs)

abbrev pub type_layer : Ty-F TypeTree → TypeTree
type_layer Ty-F.Int = int
type_layer Ty-F.Bool = bool
type_layer Ty-F.Text = text
type_layer (Ty-F.Rec fields) = rec (field_types_of fields)
type_layer (Ty-F.Bag element) = bag element.value
type_layer (Ty-F.Fun taken given) = fun taken.value given.value

-- the tree of a type of the program
abbrev pub type_tree : Ty → TypeTree
type_tree = fold-Ty TypeTree type_layer

-- each field's label and tree
abbrev pub fields_view : List (List ℕ × Ty) → List (List ℕ × TypeTree)
fields_view fields = map (λ f. (f.0, type_tree f.1)) fields

-- no function stands in the type
abbrev mutual
  pub is_plain : TypeTree → Bool
  is_plain int = true
  is_plain bool = true
  is_plain text = true
  is_plain (rec fields) = are_plain fields
  is_plain (bag element) = is_plain element
  is_plain (fun taken given) = false

  pub are_plain : FieldTypes → Bool
  are_plain none = true
  are_plain (field l t fields) = is_plain t && are_plain fields

-- the element of each bag in the type is plain
abbrev mutual
  pub is_well_formed : TypeTree → Bool
  is_well_formed int = true
  is_well_formed bool = true
  is_well_formed text = true
  is_well_formed (rec fields) = are_well_formed fields
  is_well_formed (bag element) = is_plain element
  is_well_formed (fun taken given) = is_well_formed taken && is_well_formed given

  pub are_well_formed : FieldTypes → Bool
  are_well_formed none = true
  are_well_formed (field l t fields) = is_well_formed t && are_well_formed fields

-- whether two types are one
abbrev mutual
  pub type_eq : TypeTree → TypeTree → Bool
  type_eq int int = true
  type_eq bool bool = true
  type_eq text text = true
  type_eq (rec fs) (rec gs) = field_types_eq fs gs
  type_eq (bag a) (bag b) = type_eq a b
  type_eq (fun a b) (fun c d) = type_eq a c && type_eq b d
  type_eq _ _ = false

  pub field_types_eq : FieldTypes → FieldTypes → Bool
  field_types_eq none none = true
  field_types_eq (field l a fs) (field m b gs) = bytes_eq l m && (type_eq a b && field_types_eq fs gs)
  field_types_eq _ _ = false
