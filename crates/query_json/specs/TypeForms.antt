-- The JSON form of types: a base type is its name; {"record": {LABEL: TYPE, ..}}; {"bag": TYPE};
-- {"fun": [TYPE, TYPE]}, which no type of a query holds.
use Rattle.std.specs.Prelude.{ℕ, List, codes}
use Rattle.nq_model.specs.Types.{TypeTree, int, bool, text, rec, bag, fun, FieldTypes, none, field}
use Rattle.serde_json.specs.Data.{Data, string, array, object, item, no_items, Members, member, no_members, put}

-- an object with one member
abbrev pub single : List ℕ → Data → Data
single key d = object (member key d no_members)

abbrev mutual
  pub type_json : TypeTree → Data
  type_json int = string (codes "int")
  type_json bool = string (codes "bool")
  type_json text = string (codes "text")
  type_json (rec fs) = single (codes "record") (object (fields_json fs))
  type_json (bag a) = single (codes "bag") (type_json a)
  type_json (fun a b) =
      single (codes "fun") (array (item (type_json a) (item (type_json b) no_items)))

  pub fields_json : FieldTypes → Members
  fields_json none = no_members
  fields_json (field l a fs) = put l (type_json a) (fields_json fs)
