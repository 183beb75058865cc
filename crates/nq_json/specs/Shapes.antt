-- The value of a type whose JSON form a JSON value is, and the nodes that keep it from being one.
use Rattle.std.specs.Prelude.{◌≡◌, ℕ, suc, ◌+◌, Bool, true, false, List, [], ◌∷◌, ◌++◌, ⊤, Option, Some, None, is_some, if◌then◌else◌, option_and_then}
use Rattle.std.specs.Str.{bytes_eq}
use Rattle.std.specs.Cmp.Lexicographic.{pointwise}
use Rattle.nq_model.specs.Proper.{labels_of}
use Rattle.nq_model.specs.Types.{TypeTree, int, bool, text, rec, bag, fun, FieldTypes, none, field}
use Rattle.nq_model.specs.Values.{Nested}
use Rattle.nq_model.specs.ValueTypes.{IsOfType}
use Rattle.serde_json.specs.Data.{Data, null, boolean, number, string, array, object, Items, no_items, item, Members, no_members, member}
use Rattle.serde_json.specs.Find.{as_number, as_i64, as_bool, as_str, as_array, as_object}
use Rattle.nq_json.specs.Json.{json}
use Rattle.nq_json.specs.declared.shape.JsonFault.{JsonFault}
use Rattle.nq_json.specs.declared.shape.JsonFault.TheVariants as fault

-- a value of a type whose JSON form this is
pub record IsValueOf (a : TypeTree) (d : Data) (v : Nested) : Type 0 where
  pub typed : IsOfType a v
  pub form : json v ≡ d

-- how many nodes a JSON value has: itself, and those of its elements or members
abbrev mutual
  pub nodes : Data → ℕ
  nodes null = 1
  nodes (boolean b) = 1
  nodes (number n) = 1
  nodes (string s) = 1
  nodes (array ds) = suc (items_nodes ds)
  nodes (object ms) = suc (members_nodes ms)

  pub items_nodes : Items → ℕ
  items_nodes no_items = 0
  items_nodes (item d ds) = nodes d + items_nodes ds

  pub members_nodes : Members → ℕ
  members_nodes no_members = 0
  members_nodes (member k d ms) = nodes d + members_nodes ms

-- the keys of an object, in order
abbrev pub keys_of : Members → List (List ℕ)
keys_of no_members = []
keys_of (member k d ms) = k ∷ keys_of ms

-- the keys are the labels of these fields, which stand in the same order
abbrev pub has_labels : FieldTypes → Members → Bool
has_labels fs ms = pointwise bytes_eq (keys_of ms) (labels_of fs)

-- a node is faulty unless it is something
abbrev pub unless : Bool → ℕ → List ℕ
unless true n = []
unless false n = n ∷ []

-- a node is faulty unless it is something, in which there may be faulty nodes
abbrev pub faults_in : {A : Type 0} → ℕ → Option A → (A → List ℕ) → List ℕ
faults_in n None inside = n ∷ []
faults_in n (Some a) inside = inside a

-- the faulty nodes of elements; n is the number of the first element
abbrev pub items_faults : (ℕ → Data → List ℕ) → ℕ → Items → List ℕ
items_faults inside n no_items = []
items_faults inside n (item d ds) = inside n d ++ items_faults inside (n + nodes d) ds

-- The numbers of the faulty nodes of a JSON value at a type, in pre-order, with members in the order of their
-- keys; n is the number of the whole. A node is faulty where it is of the wrong kind, where int is asked and it
-- is no integer of 64 bits, or where it is an object whose keys are not the labels. What stands in a faulty node
-- has no type and is not judged.
abbrev mutual
  pub faults : TypeTree → ℕ → Data → List ℕ
  faults int n d = unless (is_some (option_and_then as_i64 (as_number d))) n
  faults bool n d = unless (is_some (as_bool d)) n
  faults text n d = unless (is_some (as_str d)) n
  faults (rec fs) n d = faults_in n (as_object d) (λ ms. if has_labels fs ms then fields_faults fs (n + 1) ms else n ∷ [])
  faults (bag a) n d = faults_in n (as_array d) (λ ds. items_faults (faults a) (n + 1) ds)
  faults (fun a b) n d = n ∷ []

  pub fields_faults : FieldTypes → ℕ → Members → List ℕ
  fields_faults none n ms = []
  fields_faults (field l a fs) n no_members = []
  fields_faults (field l a fs) n (member k d ms) = faults a n d ++ fields_faults fs (n + nodes d) ms

-- n is the first of these
abbrev pub IsFirst : ℕ → List ℕ → Type 0
IsFirst n ns = (more : List ℕ) × (ns ≡ n ∷ more)

-- a fault names the first faulty node; want of memory tells nothing
abbrev pub FaultSays : List ℕ → JsonFault → Type 0
FaultSays faulty fault.Memory = ⊤
FaultSays faulty (fault.Shape node) = IsFirst node faulty
