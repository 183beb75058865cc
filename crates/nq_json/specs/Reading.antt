-- What was read of a JSON value, from the node of a number on; the next node has the number after.
use Rattle.std.specs.Prelude.{◌≡◌, ℕ, ◌+◌, List, [], String}
use Rattle.std.specs.BTreeMap.{BTreeMap}
use Rattle.std.specs.declared.alloc.Global.{Global}
use Rattle.nq_model.specs.Types.{TypeTree, FieldTypes, field_types_of, fields_view}
use Rattle.nq_model.specs.declared.ty.Ty.{Ty}
use Rattle.nq_model.specs.declared.value.Value.{Value}
use Rattle.nq_model.specs.Values.{Nested, Fields, none, field, Elements, fields_of, fields_view as values_view}
use Rattle.nq_model.specs.ValueTypes.{FieldsAreOfTypes, ElementsAreOfType}
use Rattle.serde_json.specs.Data.{Data, Items, Members, no_members, member}
use Rattle.serde_json.specs.View.{members_view}
use Rattle.serde_json.specs.declared.value.Value.{Value as Json}
use Rattle.nq_json.specs.Json.{json, items_json}
use Rattle.nq_json.specs.Shapes.{IsValueOf, nodes, items_nodes, members_nodes, faults, items_faults, fields_faults}

-- the types of fields of the program, and the fields of values
abbrev pub types_of : List (List ℕ × Ty) → FieldTypes
types_of fields = field_types_of (fields_view fields)

abbrev pub values_of : List (List ℕ × Value) → Fields
values_of fields = fields_of (values_view fields)

-- the members of an object of the program
abbrev pub members : BTreeMap (String Global) Json → Members
members map = members_view map.entries

pub record Reads (a : TypeTree) (n : ℕ) (d : Data) (after : ℕ) (v : Nested) : Type 0 where
  pub value : IsValueOf a d v
  pub faultless : faults a n d ≡ []
  pub past : after ≡ n + nodes d

pub record ReadsItems (a : TypeTree) (n : ℕ) (ds : Items) (after : ℕ) (vs : Elements) : Type 0 where
  pub typed : ElementsAreOfType a vs
  pub form : items_json vs ≡ ds
  pub faultless : items_faults (faults a) n ds ≡ []
  pub past : after ≡ n + items_nodes ds

-- the members of fields in the order in which they stand
abbrev pub members_in_order : Fields → Members
members_in_order none = no_members
members_in_order (field l v gs) = member l (json v) (members_in_order gs)

pub record ReadsFields (fs : FieldTypes) (n : ℕ) (ms : Members) (after : ℕ) (gs : Fields) : Type 0 where
  pub typed : FieldsAreOfTypes fs gs
  pub form : members_in_order gs ≡ ms
  pub faultless : fields_faults fs n ms ≡ []
  pub past : after ≡ n + members_nodes ms
