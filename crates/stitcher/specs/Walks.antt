-- Walks over the element of a row: where a part of it stands, and how far the walk has come behind it.
use Rattle.std.specs.Prelude.{◌≡◌, ℕ, suc, ◌+◌, ◌≤◌, ◌<◌, List, [], get_or, length}
use Rattle.nq_model.specs.Types.{TypeTree, FieldTypes, int, bool, text, rec, bag, fun, none, field}
use Rattle.nq_model.specs.Values.{Nested, Fields}
use Rattle.nq_model.specs.declared.table.Cell.{Cell}
use Rattle.nq_ir.specs.Building.{element, element_fields}
use Rattle.nq_ir.specs.Parts.{leaves, slots, bags}
use Rattle.stitcher.specs.Schemes.{Scheme, AnswerRows, answers, element_of}
use Rattle.stitcher.specs.declared.walk.Walk.{Walk}

-- the type of the path n is the one that the walk over the type meets there
abbrev mutual
  pub TypesIn : List TypeTree → TypeTree → ℕ → Type 0
  TypesIn all int n = Unit {0}
  TypesIn all bool n = Unit {0}
  TypesIn all text n = Unit {0}
  TypesIn all (rec fs) n = TypesFields all fs n
  TypesIn all (bag A) n = (get_or all n int ≡ A) × TypesIn all A (suc n)
  TypesIn all (fun A B) n = Unit {0}

  pub TypesFields : List TypeTree → FieldTypes → ℕ → Type 0
  TypesFields all none n = Unit {0}
  TypesFields all (field k A fs) n = TypesIn all A n × TypesFields all fs (n + bags A)

-- the paths inside a type are those from n on
pub record AreAt (all : List TypeTree) (A : TypeTree) (n : ℕ) : Type 0 where
  pub types : TypesIn all A n
  pub below : n + bags A ≤ length all

-- the row of a walk
abbrev pub row_of : List AnswerRows → Walk → List Cell
row_of ans w = get_or (get_or ans w.path []) w.row []

-- a walk that has come past a base part, past an inner bag, and past any part
abbrev pub past_leaf : Walk → Walk
past_leaf w = record { path = w.path; row = w.row; leaf = w.leaf + 1; slot = w.slot; inner = w.inner }

abbrev pub past_slot : Walk → TypeTree → Walk
past_slot w a = record { path = w.path; row = w.row; leaf = w.leaf; slot = w.slot + 1; inner = w.inner + suc (bags a) }

abbrev pub past : Walk → TypeTree → Walk
past w a = record { path = w.path; row = w.row; leaf = w.leaf + leaves a; slot = w.slot + slots a; inner = w.inner + bags a }

-- a part of the element stands where the walk has come
pub record Stands {I : Type 0} (S : Scheme I) (ans : List AnswerRows) (w : Walk) (a : TypeTree) : Type 0 where
  pub path : w.path < length S.elements
  pub row : w.row < length (get_or ans w.path [])
  pub leaf : w.leaf + leaves a ≤ leaves (element_of S.elements w.path)
  pub slot : w.slot + slots a ≤ slots (element_of S.elements w.path)
  pub inner : AreAt S.elements a w.inner

-- the value of a part, and of fields, that stand there
abbrev pub value_at : {I : Type 0} → Scheme I → List AnswerRows → Walk → TypeTree → Nested
value_at S ans w a = element (answers S ans) a w.path w.leaf w.slot w.inner (row_of ans w)

abbrev pub fields_at : {I : Type 0} → Scheme I → List AnswerRows → Walk → FieldTypes → Fields
fields_at S ans w fs = element_fields (answers S ans) fs w.path w.leaf w.slot w.inner (row_of ans w)
