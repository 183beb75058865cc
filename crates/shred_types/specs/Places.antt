-- Where the base parts and the inner bags of an element stand in a row, and the types of base parts.
use Rattle.std.specs.Prelude.{ℕ, ◌+◌, List, [], ◌∷◌, ◌++◌, length}
use Rattle.nq_model.specs.Types.{TypeTree, int, bool, text, rec, bag, fun, FieldTypes, none, field}
use Rattle.nq_model.specs.declared.table.ColumnType.{ColumnType}
use Rattle.nq_model.specs.declared.table.ColumnType.TheVariants as column
use Rattle.shred_types.specs.Columns.{element_columns}

-- the columns of an element
abbrev pub width : TypeTree → ℕ
width a = length (element_columns a)

-- where the base parts of an element stand, if its first column is n
abbrev mutual
  pub leaf_places : TypeTree → ℕ → List ℕ
  leaf_places int n = n ∷ []
  leaf_places bool n = n ∷ []
  leaf_places text n = n ∷ []
  leaf_places (rec fs) n = leaf_places_in fs n
  leaf_places (bag a) n = []
  leaf_places (fun a b) n = []

  pub leaf_places_in : FieldTypes → ℕ → List ℕ
  leaf_places_in none n = []
  leaf_places_in (field l a fs) n = leaf_places a n ++ leaf_places_in fs (n + width a)

-- where its inner bags stand, each by its first column
abbrev mutual
  pub slot_places : TypeTree → ℕ → List ℕ
  slot_places int n = []
  slot_places bool n = []
  slot_places text n = []
  slot_places (rec fs) n = slot_places_in fs n
  slot_places (bag a) n = n ∷ []
  slot_places (fun a b) n = []

  pub slot_places_in : FieldTypes → ℕ → List ℕ
  slot_places_in none n = []
  slot_places_in (field l a fs) n = slot_places a n ++ slot_places_in fs (n + width a)

-- the types of the base parts of an element, in label order
abbrev mutual
  pub leaf_types : TypeTree → List ColumnType
  leaf_types int = column.Int ∷ []
  leaf_types bool = column.Bool ∷ []
  leaf_types text = column.Text ∷ []
  leaf_types (rec fs) = leaf_types_in fs
  leaf_types (bag a) = []
  leaf_types (fun a b) = []

  pub leaf_types_in : FieldTypes → List ColumnType
  leaf_types_in none = []
  leaf_types_in (field l a fs) = leaf_types a ++ leaf_types_in fs
