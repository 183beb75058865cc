-- Parts that are built field by field, and bags from rows in groups.
use Rattle.std.proofs.Common.{◌≡◌, ℕ, suc, ◌+◌, ◌<◌, ◌≤◌, List, [], ◌∷◌, ◌++◌, refl, sym, ap, ap₂, ◌∙◌, subst, map, get_or, length, length-append, drop, drop-cons, reverse, arith, Box, Global, codes, pos}
use Rattle.std.proofs.lemmas.List.{map-append, drop-drop, drop_all, reverse-append, reverse-reverse}
use Rattle.nq_model.specs.Canonical.{value_cmp, written}
use Rattle.nq_model.specs.Orders.{sorted_by}
use Rattle.nq_model.specs.Types.{TypeTree, FieldTypes, int, bool, text, none, field, bag, rec, fun, type_tree, field_types_of}
use Rattle.nq_model.specs.Types as types
use Rattle.nq_model.specs.Values.{Nested, Fields, fields_of, bag_of}
use Rattle.nq_model.specs.declared.table.Cell.{Cell}
use Rattle.nq_model.specs.declared.ty.Ty.{Ty}
use Rattle.sql_profile.specs.declared.answer.Answer.{Answer}
use Rattle.answer_text.specs.Building.{rows_left, IsPartOf, AreFieldsOf, IsBagOf}
use Rattle.answer_text.specs.Elements.{part_value, fields_value, bag_value}
use Rattle.answer_text.specs.Indexes.{rows_under}
use Rattle.nq_ir.specs.Parts.{bags, bags_in}
use Rattle.shred_types.specs.Columns.{element_columns, fields_columns}
use Rattle.shred_types.specs.Places.{width}
use Rattle.stitcher.specs.FlatNumbers.{index_at}
use Rattle.stitcher.specs.Schemes.{AnswerRows}
use Rattle.stitcher.specs.Stitching.{rows_of}
use Rattle.answer_text.specs.Members.{AreSorted}
use Rattle.answer_text.specs.Parts.{value_in, fields_in, bag_in, places_under}
use Rattle.answer_text.specs.declared.groups.Groups.{Groups}
use Rattle.answer_text.specs.declared.part.Part.{Part}
use Rattle.answer_text.specs.declared.part.Part.TheVariants as part
use Rattle.answer_text.proofs.PartValues.{value_of_cell, value_of_record, value_of_bag}

-- 1. answers

next_left : (old new : List Answer) (last : Answer) → old ≡ new ++ last ∷ [] → rows_left old
    ≡ last.rows ∷ rows_left new
next_left old new last e = ap rows_left e ∙ ap rows_of (reverse-append new (last ∷ []))

pub taken_rows : (old new : List Answer) (last : Answer) → old ≡ new ++ last ∷ [] → last.rows
    ≡ get_or (rows_left old) 0 []
taken_rows old new last e = sym (ap (λ (l : List AnswerRows). get_or l 0 [])
    (next_left old new last e))

pub taken_left : (old new : List Answer) (last : Answer) → old ≡ new ++ last ∷ [] → rows_left new
    ≡ drop 1 (rows_left old)
taken_left old new last e = sym (ap (λ (l : List AnswerRows). drop 1 l) (next_left old new last e))

pub none_rows : (old : List Answer) → old ≡ [] → get_or (rows_left old) 0 [] ≡ []
none_rows old e = ap (λ (l : List Answer). get_or (rows_left l) 0 []) e

pub none_behind : (old new : List Answer) → old ≡ [] → new ≡ [] → rows_left new
    ≡ drop 1 (rows_left old)
none_behind old new e h = ap rows_left h ∙ sym (ap (λ (l : List Answer). drop 1 (rows_left l)) e)

pub ruleset next_rules = (taken_rows, taken_left, none_rows, none_behind)

pub turned : (answers left : List Answer) → left ≡ reverse answers → rows_left left
    ≡ rows_of answers
turned answers left e = ap rows_of (ap reverse e ∙ reverse-reverse answers)

-- 2. fields

-- the types of fields from one on
abbrev pub types_of : List (List ℕ × Ty) → FieldTypes
types_of fields = field_types_of (types.fields_view fields)

-- fields in front of others
abbrev onto : List (List ℕ × Nested) → Fields → Fields
onto [] fs = fs
onto (v ∷ vs) fs = Fields.field v.0 v.1 (onto vs fs)

onto_more : (vs : List (List ℕ × Nested)) (v : List ℕ × Nested) (fs : Fields)
    → onto (vs ++ v ∷ []) fs ≡ onto vs (Fields.field v.0 v.1 fs)
onto_more [] v fs = refl
onto_more (x ∷ vs) v fs = ap (λ z. Fields.field x.0 x.1 z) (onto_more vs v fs)

onto_none : (vs : List (List ℕ × Nested)) → onto vs Fields.none ≡ fields_of vs
onto_none [] = refl
onto_none (v ∷ vs) = ap (λ z. Fields.field v.0 v.1 z) (onto_none vs)

-- each field's label, and its value in a row
abbrev views : List (List ℕ × Part) → List Cell → List (List ℕ × Nested)
views made row = map (λ f. (f.0, value_in f.1 row)) made

-- some fields are made, and the rest begin at a column, with these answers left
pub record AreFilled (all : FieldTypes) (ans : List AnswerRows) (column : ℕ)
    (made : List (List ℕ × Part)) (rest : FieldTypes) (left : List AnswerRows)
    (now : ℕ) : Type 0 where
  pub values : (row : List Cell) → onto (views made row) (fields_value rest left now row)
      ≡ fields_value all ans column row
  pub wide : now + length (fields_columns rest) ≡ column + length (fields_columns all)
  pub taken : drop (bags_in rest) left ≡ drop (bags_in all) ans

pub none_filled : (all : FieldTypes) (ans : List AnswerRows) (column : ℕ)
    (made : List (List ℕ × Part)) → made ≡ [] → AreFilled all ans column made all ans column
none_filled all ans column made e = record {
  values = λ row. ap (λ (m : List (List ℕ × Part)). onto (views m row)
      (fields_value all ans column row)) e;
  wide = refl;
  taken = refl;
}

one_filled : (all : FieldTypes) (ans : List AnswerRows) (column : ℕ) (made : List (List ℕ × Part))
    (l : List ℕ) (a : TypeTree) (fs : FieldTypes) (left : List AnswerRows) (now : ℕ) (part : Part)
    (after : List AnswerRows) (next : ℕ)
    → IsPartOf a left now part → next ≡ now + width a → after ≡ drop (bags a) left
    → AreFilled all ans column made (field l a fs) left now
    → AreFilled all ans column (made ++ (l, part) ∷ []) fs after next
one_filled all ans column made l a fs left now part after next is next_is after_is f = record {
  values = λ row.
      let longer : views (made ++ (l, part) ∷ []) row ≡ views made row ++ (l, value_in part row)
      ∷ [] = map-append (λ (p : List ℕ × Part). (p.0, value_in p.1 row)) made
      ((l, part) ∷ []) in
      let others : fields_value fs after next row ≡ fields_value fs (drop (bags a) left)
      (now + width a) row = ap₂ (λ (x : List AnswerRows)
      (c : ℕ). fields_value fs x c row) after_is next_is in
      ap₂ (λ (vs : List (List ℕ × Nested)) (fs : Fields). onto vs fs) longer others
      ∙ onto_more (views made row) (l, value_in part row)
      (fields_value fs (drop (bags a) left) (now + width a) row)
      ∙ ap (λ (v : Nested). onto (views made row) (Fields.field l v
      (fields_value fs (drop (bags a) left) (now + width a) row))) (is row)
      ∙ f.values row;
  wide =
      let whole : now + (width a + length (fields_columns fs))
      ≡ column + length (fields_columns all) = ap (λ (n : ℕ). now + n)
      (sym (length-append (element_columns a) (fields_columns fs))) ∙ f.wide in
      omega (arith, next_is, whole);
  taken = ap (drop (bags_in fs)) after_is ∙ drop-drop (bags_in fs) (bags a) left ∙ f.taken;
}

pub next_filled : (all : FieldTypes) (ans : List AnswerRows) (column : ℕ)
    (made : List (List ℕ × Part)) (fields : List (List ℕ × Ty)) (k : ℕ) (f : List ℕ × Ty)
    (l : List ℕ) (left : List AnswerRows) (now : ℕ) (part : Part) (after : List AnswerRows)
    (next : ℕ)
    → k < length fields → f ≡ get_or fields k f → l ≡ f.0 → IsPartOf (type_tree f.1) left now part
    → next ≡ now + width (type_tree f.1) → after ≡ drop (bags (type_tree f.1)) left
    → AreFilled all ans column made (types_of (drop k fields)) left now
    → AreFilled all ans column (made ++ (l, part) ∷ [])
    (types_of (drop (k + 1) fields)) after next
next_filled all ans column made fields k f l left now part after next below here label is next_is
    after_is filled =
    let types_here : types_of (drop k fields) ≡ field f.0 (type_tree f.1)
    (types_of (drop (suc k) fields)) = ap types_of
    (drop-cons fields k f below ∙ ap (λ (z : List ℕ × Ty). z ∷ drop (suc k) fields)
    (sym here)) in
    let one = one_filled all ans column made f.0 (type_tree f.1)
    (types_of (drop (suc k) fields)) left now part after next is next_is after_is
    (subst (λ (z : FieldTypes). AreFilled all ans column made z left now) types_here filled)
    in
    let place : suc k ≡ k + 1 = omega arith in
    subst (λ (m : ℕ). AreFilled all ans column (made ++ (l, part) ∷ [])
    (types_of (drop m fields)) after next) place
    (subst (λ (m : List ℕ). AreFilled all ans column (made ++ (m, part) ∷ [])
    (types_of (drop (suc k) fields)) after next) (sym label) one)

module _ (fields : List (List ℕ × Ty)) (ans : List AnswerRows) (column : ℕ)
    (made : List (List ℕ × Part)) (k : ℕ) (left : List AnswerRows) (now : ℕ)
    (past : length fields ≤ k) (filled : AreFilled (types_of fields) ans column made
    (types_of (drop k fields)) left now) where
  none_left : types_of (drop k fields) ≡ FieldTypes.none
  none_left = ap types_of (drop_all k fields past)

  ended : AreFilled (types_of fields) ans column made FieldTypes.none left now
  ended = subst (λ (z : FieldTypes). AreFilled (types_of fields) ans column made z left now)
      none_left filled

  pub all_filled : AreFieldsOf (types_of fields) ans column made
  all_filled row = sym (onto_none (views made row)) ∙ ended.values row

  pub all_wide : now ≡ column + length (fields_columns (types_of fields))
  all_wide =
      let whole : now + 0 ≡ column + length (fields_columns (types_of fields)) = ended.wide in
      omega (arith, whole)

  pub all_taken : left ≡ drop (bags_in (types_of fields)) ans
  all_taken = ended.taken

-- 3. bags

pub each_same : {A B : Type 0} (f g : A → B) → ((x : A) → f x ≡ g x) → (xs : List A) → map f xs
    ≡ map g xs
each_same f g e [] = refl
each_same {B = B} f g e (x ∷ xs) = ap₂ (λ (y : B) (ys : List B). y ∷ ys) (e x) (each_same f g e xs)

-- rows in groups are the bags of their type
pub bag_made : (a : TypeTree) (ans : List AnswerRows) (rows : AnswerRows) (left : List AnswerRows)
    (element : Part) (groups : Groups)
    → rows ≡ get_or ans 0 [] → left ≡ drop 1 ans → IsPartOf a left 2 element
    → AreSorted element rows groups → IsBagOf a ans groups element
bag_made a ans rows left element groups rows_are left_is is sorted i =
    let own : (r : List Cell) → value_in element r ≡ part_value a (drop 1 ans) 2 r = λ r. is r
    ∙ ap (λ (x : List AnswerRows). part_value a x 2 r) left_is in
    ap bag_of (sorted.sorted i
    ∙ ap (sorted_by value_cmp) (each_same (value_in element)
    (λ r. part_value a (drop 1 ans) 2 r) own (rows_under i rows)
    ∙ ap (λ (x : AnswerRows). map (λ r. part_value a (drop 1 ans) 2 r)
    (rows_under i x)) rows_are))

-- 4. parts

pub int_part : (ans : List AnswerRows) (c : ℕ) → IsPartOf int ans c (part.Cell c)
int_part ans c row = value_of_cell c row

pub bool_part : (ans : List AnswerRows) (c : ℕ) → IsPartOf bool ans c (part.Cell c)
bool_part ans c row = value_of_cell c row

pub text_part : (ans : List AnswerRows) (c : ℕ) → IsPartOf text ans c (part.Cell c)
text_part ans c row = value_of_cell c row

pub record_part : (fs : FieldTypes) (ans : List AnswerRows) (c : ℕ) (fields : List (List ℕ × Part))
    → AreFieldsOf fs ans c fields → IsPartOf (rec fs) ans c (part.Record fields)
record_part fs ans c fields are row = value_of_record fields row ∙ ap Nested.rec (are row)

pub bag_part : (a : TypeTree) (ans : List AnswerRows) (c : ℕ) (groups : Groups) (element : Part)
    (box : Box Part Global) → box.value ≡ element → IsBagOf a ans groups element
    → IsPartOf (bag a) ans c (part.Bag c groups box)
bag_part a ans c groups element box e is row =
    value_of_bag c groups box row ∙ ap (λ (p : Part). bag_in p groups.rows
    (places_under groups (index_at row c))) e ∙ is (index_at row c)

pub function_part : (a b : TypeTree) (ans : List AnswerRows) (c : ℕ) (fields : List (List ℕ × Part))
    → fields ≡ [] → IsPartOf (fun a b) ans c (part.Record fields)
function_part a b ans c fields e row = value_of_record fields row
    ∙ ap (λ (l : List (List ℕ × Part)). Nested.rec (fields_in l row)) e

pub ruleset part_rules = (int_part, bool_part, text_part, record_part, function_part)

-- the answers behind a bag's own and those in its element
pub bag_left : (n : ℕ) (ans next left : List AnswerRows) → next ≡ drop 1 ans → left ≡ drop n next
    → left ≡ drop (suc n) ans
bag_left n ans next left e h =
    let more : 1 + n ≡ suc n = omega arith in
    h ∙ ap (drop n) e ∙ drop-drop n 1 ans ∙ ap (λ (m : ℕ). drop m ans) more

-- the text of a bag that is made
pub bag_written : (a : TypeTree) (ans left : List AnswerRows) (groups : Groups) (element : Part)
    (places bytes : List ℕ) → left ≡ ans → IsBagOf a left groups element → places
    ≡ places_under groups (pos 0, pos 1)
    → bytes ≡ written (bag_in element groups.rows places) ++ codes "\n" → bytes
    ≡ written (bag_value a ans (pos 0, pos 1)) ++ codes "\n"
bag_written a ans left groups element places bytes e is here whole =
    whole ∙ ap (λ (v : Nested). written v ++ codes "\n")
    (ap (λ (l : List ℕ). bag_in element groups.rows l) here ∙ is (pos 0, pos 1)
    ∙ ap (λ (l : List AnswerRows). bag_value a l (pos 0, pos 1)) e)
