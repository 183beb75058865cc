-- What flat answers stitch to, each bag in canonical order: part by part of a type.
use Rattle.std.specs.Prelude.{ℕ, ℤ, ◌+◌, List, [], map, drop, get_or}
use Rattle.nq_model.specs.Canonical.{value_cmp}
use Rattle.nq_model.specs.NamedRows.{no_cell}
use Rattle.nq_model.specs.Orders.{sorted_by}
use Rattle.nq_model.specs.Types.{TypeTree, int, bool, text, rec, bag, fun, FieldTypes, none, field}
use Rattle.nq_model.specs.Values.{Nested, base, Fields, bag_of}
use Rattle.nq_model.specs.declared.table.Cell.{Cell}
use Rattle.stitcher.specs.FlatNumbers.{index_at}
use Rattle.answer_text.specs.Indexes.{rows_under}
use Rattle.nq_ir.specs.Parts.{bags}
use Rattle.shred_types.specs.Places.{width}
use Rattle.stitcher.specs.Schemes.{AnswerRows}

abbrev mutual
  -- the value of a part of an element in a row, if its first column is c and these are the answers
  -- for the bags in it: a cell; a record of parts; or the bag under the index that stands there
  pub part_value : TypeTree → List AnswerRows → ℕ → List Cell → Nested
  part_value int ans c row = base (get_or row c no_cell)
  part_value bool ans c row = base (get_or row c no_cell)
  part_value text ans c row = base (get_or row c no_cell)
  part_value (rec fs) ans c row = Nested.rec (fields_value fs ans c row)
  part_value (bag a) ans c row =
      let rows_there = rows_under (index_at row c) (get_or ans 0 []) in
      bag_of (sorted_by value_cmp (map (λ r. part_value a (drop 1 ans) 2 r) rows_there))
  part_value (fun a b) ans c row = Nested.rec Fields.none

  pub fields_value : FieldTypes → List AnswerRows → ℕ → List Cell → Fields
  fields_value none ans c row = Fields.none
  fields_value (field l a fs) ans c row =
      let others = fields_value fs (drop (bags a) ans) (c + width a) row in
      Fields.field l (part_value a ans c row) others

-- the bag under an index: in the first answer, the rows that stand under it, each as an element
abbrev pub bag_value : TypeTree → List AnswerRows → ℤ × ℤ → Nested
bag_value a ans i =
    let rows_there = rows_under i (get_or ans 0 []) in
    bag_of (sorted_by value_cmp (map (λ r. part_value a (drop 1 ans) 2 r) rows_there))
