-- Values as plain trees, and when two are the same nested multiset.
use Rattle.std.specs.Prelude.{◌≡◌, ℕ, ⊤, Bool, true, false, ◌&&◌, nat_eq, List, [], ◌∷◌, length, count_by, map}
use Rattle.std.specs.Str.{bytes_eq}
use Rattle.nq_model.specs.Bags.{Pick}
use Rattle.nq_model.specs.Cells.{cell_eq}
use Rattle.nq_model.specs.Orders.{AreRising}
use Rattle.nq_model.specs.declared.table.Cell.{Cell}
use Rattle.nq_model.specs.declared.table.Cell.TheVariants as cell
use Rattle.nq_model.specs.declared.value.Value.{Value}
use Rattle.nq_model.specs.declared.value.Value.TheOpen.{Value-F}
use Rattle.nq_model.specs.declared.value.Value.TheFolds.{fold-Value}

mutual
  pub data Nested : Type 0 where
    base : Cell → Nested
    rec : Fields → Nested
    bag : Elements → Nested

  pub data Fields : Type 0 where
    none : Fields
    field : List ℕ → Nested → Fields → Fields

  pub data Elements : Type 0 where
    end : Elements
    more : Nested → Elements → Elements

abbrev pub elements_of : List Nested → Elements
elements_of [] = end
elements_of (v ∷ vs) = more v (elements_of vs)

abbrev pub elements : Elements → List Nested
elements end = []
elements (more v vs) = v ∷ elements vs

abbrev pub fields_of : List (List ℕ × Nested) → Fields
fields_of [] = none
fields_of (f ∷ fs) = field f.0 f.1 (fields_of fs)

abbrev pub labels : Fields → List (List ℕ)
labels none = []
labels (field l v fs) = l ∷ labels fs

-- a bag of these elements, and a record of these fields
abbrev pub bag_of : List Nested → Nested
bag_of vs = bag (elements_of vs)

abbrev pub rec_of : List (List ℕ × Nested) → Nested
rec_of fs = rec (fields_of fs)

abbrev pub value_layer : Value-F Nested → Nested
value_layer (Value-F.Int n) = base (cell.Int n)
value_layer (Value-F.Bool b) = base (cell.Bool b)
value_layer (Value-F.Text t) = base (cell.Text t)
value_layer (Value-F.Rec fs) = rec (fields_of fs)
value_layer (Value-F.Bag vs) = bag (elements_of vs)

-- the tree of a value of the program
abbrev pub nested : Value → Nested
nested = fold-Value Nested value_layer

-- each field's label and tree
abbrev pub fields_view : List (List ℕ × Value) → List (List ℕ × Nested)
fields_view fields = map (λ f. (f.0, nested f.1)) fields

-- the labels of each record in the value differ and stand in byte order
abbrev mutual
  pub IsProper : Nested → Type 0
  IsProper (base c) = ⊤
  IsProper (rec fs) = AreRising (labels fs) × FieldsAreProper fs
  IsProper (bag vs) = ElementsAreProper vs

  pub FieldsAreProper : Fields → Type 0
  FieldsAreProper none = ⊤
  FieldsAreProper (field l v fs) = IsProper v × FieldsAreProper fs

  pub ElementsAreProper : Elements → Type 0
  ElementsAreProper end = ⊤
  ElementsAreProper (more v vs) = IsProper v × ElementsAreProper vs

-- Two values are the same nested multiset where they are equal base values; or records with the same
-- labels and the same fields; or bags whose elements pair off, the same with the same.
abbrev mutual
  pub Same : Nested → Nested → Type 0
  Same (base c) (base d) = c ≡ d
  Same (rec fs) (rec gs) = SameFields fs gs
  Same (bag vs) (bag ws) = SameElements vs (elements ws)
  Same _ _ = ⊥

  pub SameFields : Fields → Fields → Type 0
  SameFields none none = ⊤
  SameFields (field l v fs) (field m w gs) = (l ≡ m) × Same v w × SameFields fs gs
  SameFields _ _ = ⊥

  pub SameElements : Elements → List Nested → Type 0
  SameElements end ws = ws ≡ []
  SameElements (more v vs) ws = (w : Nested) × (rest : List Nested) × Pick w ws rest × Same v w × SameElements vs rest

-- The same by counting: bags of equal length in which, for each element, as many elements of the one
-- as of the other are the same as it. To count for the elements of the one bag is enough.
abbrev mutual
  pub same : Nested → Nested → Bool
  same (base c) (base d) = cell_eq c d
  same (rec fs) (rec gs) = same_fields fs gs
  same (bag vs) (bag ws) = nat_eq (length (elements vs)) (length (elements ws)) && same_counts vs (elements vs) (elements ws)
  same _ _ = false

  pub same_fields : Fields → Fields → Bool
  same_fields none none = true
  same_fields (field l v fs) (field m w gs) = bytes_eq l m && (same v w && same_fields fs gs)
  same_fields _ _ = false

  pub same_counts : Elements → List Nested → List Nested → Bool
  same_counts end vs ws = true
  same_counts (more x xs) vs ws = nat_eq (count_by (same x) vs) (count_by (same x) ws) && same_counts xs vs ws
