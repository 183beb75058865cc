-- Where a part of an element stands, and the answers in which it is looked up.
use Rattle.std.specs.Prelude.{◌≡◌, ◌+◌, ◌≤◌, ◌<◌, List, [], get_or, length}
use Rattle.nq_model.specs.Types.{TypeTree, FieldTypes}
use Rattle.nq_model.specs.Values.{Nested, Fields}
use Rattle.nq_model.specs.declared.table.Cell.{Cell}
use Rattle.nq_ir.specs.Building.{element, element_fields}
use Rattle.nq_ir.specs.Parts.{leaves, slots, bags}
use Rattle.stitcher.specs.Schemes.{Scheme, AnswerRows, answers, element_of}
use Rattle.stitcher.specs.Stitching.{AreFitting}
use Rattle.stitcher.specs.Walks.{AreAt}
use Rattle.reference_stitching.specs.declared.place.Place.{Place}

-- one answer for each path of the scheme, with rows that fit
pub record AreGiven {I : Type 0} (S : Scheme I) (ans : List AnswerRows) : Type 0 where
  pub counted : length ans ≡ length S.elements
  pub fitting : AreFitting S ans

-- the row of a place
abbrev pub row_of : List AnswerRows → Place → List Cell
row_of ans at = get_or (get_or ans at.path []) at.row []

-- the place behind a part
abbrev pub behind : Place → TypeTree → Place
behind at a = record { path = at.path; row = at.row; leaf = at.leaf + leaves a; slot = at.slot + slots a; inner = at.inner + bags a }

-- a part of the element of a row stands at a place
pub record Stands {I : Type 0} (S : Scheme I) (ans : List AnswerRows) (at : Place) (a : TypeTree) : Type 0 where
  pub path : at.path < length S.elements
  pub row : at.row < length (get_or ans at.path [])
  pub leaf : at.leaf + leaves a ≤ leaves (element_of S.elements at.path)
  pub slot : at.slot + slots a ≤ slots (element_of S.elements at.path)
  pub inner : AreAt S.elements a at.inner

-- the value of a part, and of fields, that stand there
abbrev pub value_at : {I : Type 0} → Scheme I → List AnswerRows → Place → TypeTree → Nested
value_at S ans at a = element (answers S ans) a at.path at.leaf at.slot at.inner (row_of ans at)

abbrev pub fields_at : {I : Type 0} → Scheme I → List AnswerRows → Place → FieldTypes → Fields
fields_at S ans at fs = element_fields (answers S ans) fs at.path at.leaf at.slot at.inner (row_of ans at)
