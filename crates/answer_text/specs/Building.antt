-- Parts that are built from answers, which are taken one after another.
use Rattle.std.specs.Prelude.{◌≡◌, ℕ, ℤ, List, reverse}
use Rattle.nq_model.specs.Types.{TypeTree, FieldTypes}
use Rattle.nq_model.specs.declared.table.Cell.{Cell}
use Rattle.sql_profile.specs.declared.answer.Answer.{Answer}
use Rattle.answer_text.specs.Elements.{part_value, fields_value, bag_value}
use Rattle.stitcher.specs.Schemes.{AnswerRows}
use Rattle.stitcher.specs.Stitching.{rows_of}
use Rattle.answer_text.specs.Parts.{value_in, fields_in, bag_in, places_under}
use Rattle.answer_text.specs.declared.groups.Groups.{Groups}
use Rattle.answer_text.specs.declared.part.Part.{Part}

-- the rows of answers of which the last is taken first
abbrev pub rows_left : List Answer → List AnswerRows
rows_left answers = rows_of (reverse answers)

-- a part, fields and a bag have in each row, or under each index, the values of their types
abbrev pub IsPartOf : TypeTree → List AnswerRows → ℕ → Part → Type 0
IsPartOf a ans c part = (row : List Cell) → value_in part row ≡ part_value a ans c row

abbrev pub AreFieldsOf : FieldTypes → List AnswerRows → ℕ → List (List ℕ × Part) → Type 0
AreFieldsOf fs ans c fields = (row : List Cell) → fields_in fields row ≡ fields_value fs ans c row

abbrev pub IsBagOf : TypeTree → List AnswerRows → Groups → Part → Type 0
IsBagOf a ans groups element =
    (i : ℤ × ℤ) → bag_in element groups.rows (places_under groups i) ≡ bag_value a ans i
