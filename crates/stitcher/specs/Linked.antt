-- Linked answers: each row stands in a bag that a row of the enclosing answer gives, and no bag is given twice.
--
-- Paths, the inner bags of an element and the rows of an answer are counted from 0; what a fault tells is counted from 1.
use Rattle.std.specs.Prelude.{◌≡◌, ℕ, zero, suc, ◌+◌, ◌<◌, List, [], ◌∷◌, ◌++◌, Bool, true, false, cond, get_or, length, take, Option, None, Some, option_map, is_some}
use Rattle.std.specs.List.{position_from}
use Rattle.std.specs.Option.{option_or}
use Rattle.nq_model.specs.Types.{TypeTree, FieldTypes, int, bool, text, rec, bag, fun, none, field}
use Rattle.nq_model.specs.declared.table.Cell.{Cell}
use Rattle.nq_ir.specs.Parts.{slots, bags, element_types}
use Rattle.shred_types.specs.Places.{slot_places}
use Rattle.stitcher.specs.FlatNumbers.{flat_numbers}
use Rattle.stitcher.specs.Schemes.{Scheme, AnswerRows, IsSlot, element_of}

-- the place of a path's bag in the enclosing element: the path of that element, and which of its inner bags it is
abbrev pub Home : Type 0
Home = ℕ × ℕ

-- the homes of the paths inside a part of an element, in path order: the element is that of the path q, s inner bags of it stand before, and n is the first path
abbrev mutual
  pub homes_in : TypeTree → (q s n : ℕ) → List Home
  homes_in int q s n = []
  homes_in bool q s n = []
  homes_in text q s n = []
  homes_in (rec fs) q s n = homes_fields fs q s n
  homes_in (bag a) q s n = (q, s) ∷ homes_in a n 0 (suc n)
  homes_in (fun a b) q s n = []

  pub homes_fields : FieldTypes → (q s n : ℕ) → List Home
  homes_fields none q s n = []
  homes_fields (field l a fs) q s n = homes_in a q s n ++ homes_fields fs q (s + slots a) (n + bags a)

-- the homes of the paths of a type; that of the empty path is no place, and is not asked for
abbrev pub homes : TypeTree → List Home
homes type = homes_in type 0 0 0

abbrev pub home_of : List Home → ℕ → Home
home_of all q = get_or all q (0, 0)

-- the row at a place of the answer at a path
abbrev pub row_at : List AnswerRows → ℕ → ℕ → List Cell
row_at ans q k = get_or (get_or ans q []) k []

-- the number, from 1, of the first of these rows that gives this index for the inner bag s
abbrev pub giver : {I : Type 0} → Scheme I → (q s : ℕ) → AnswerRows → I → Option ℕ
giver S q s rows i = position_from (λ r. S.is (S.inner q s r) i) 1 rows

-- why answers are not linked
pub data LinkFault : Type 0 where
  -- a row stands in a bag that is not given
  dangling : (text row : ℕ) → LinkFault
  -- a row gives an inner bag by an index by which an earlier row gives it, the first time the row `earlier`; the tag stands in this column
  twice : (text row column earlier : ℕ) → LinkFault

-- the first thing that is found at one of n places from k on
abbrev pub first_from : {A : Type 0} → (ℕ → Option A) → (k n : ℕ) → Option A
first_from find k zero = None
first_from find k (suc n) = option_or (find k) (first_from find (suc k) n)

-- the first fault in the order in which answers are judged, for any scheme, if the tags of inner bags stand in these columns
module _ {I : Type 0} (S : Scheme I) (all : List Home) (column : ℕ → ℕ → ℕ) (ans : List AnswerRows) where
  -- whether a bag at a path is given under an index: at the empty path the whole value, else what a row of the enclosing answer gives
  abbrev pub is_given : ℕ → I → Bool
  is_given zero i = S.is S.top i
  is_given (suc q) i = let home = home_of all (suc q) in is_some (giver S home.0 home.1 (get_or ans home.0 []) i)

  -- the fault of a row by the bag that it stands in
  abbrev pub outer_fault : (q k : ℕ) → Option LinkFault
  outer_fault q k = cond (is_given q (S.outer q (row_at ans q k))) None (Some (dangling (suc q) (suc k)))

  -- its fault by the index that it gives for the inner bag s
  abbrev pub inner_fault : (q k s : ℕ) → Option LinkFault
  inner_fault q k s = option_map (twice (suc q) (suc k) (column q s)) (giver S q s (take k (get_or ans q [])) (S.inner q s (row_at ans q k)))

  -- of a row: first the bag that it stands in, then its inner bags in label order
  abbrev pub row_fault : (q k : ℕ) → Option LinkFault
  row_fault q k = option_or (outer_fault q k) (first_from (inner_fault q k) 0 (slots (element_of S.elements q)))

  -- of an answer: row by row
  abbrev pub answer_fault : ℕ → Option LinkFault
  answer_fault q = first_from (row_fault q) 0 (length (get_or ans q []))

  -- of all answers: in path order
  abbrev pub fault_by : Option LinkFault
  fault_by = first_from answer_fault 0 (length S.elements)

-- the column of the tag of an inner bag
abbrev pub tag_column : List TypeTree → (q s : ℕ) → ℕ
tag_column elements q s = get_or (slot_places (element_of elements q) 3) s 0

-- the first fault of the answers of a type, by tag and number
unfoldable pub link_fault : TypeTree → List AnswerRows → Option LinkFault
link_fault type ans = fault_by (flat_numbers (element_types type)) (homes type) (tag_column (element_types type)) ans

-- answers are linked where there is no fault
abbrev pub IsLinked : TypeTree → List AnswerRows → Type 0
IsLinked type ans = link_fault type ans ≡ None

-- Linked answers in other words. A bag at a path is given under an index:
abbrev pub IsGiven : {I : Type 0} → Scheme I → List Home → List AnswerRows → ℕ → I → Type 0
IsGiven S all ans zero i = S.is S.top i ≡ true
IsGiven S all ans (suc q) i =
    let home = home_of all (suc q) in
    (k : ℕ) × (k < length (get_or ans home.0 [])) × (S.is (S.inner home.0 home.1 (row_at ans home.0 k)) i ≡ true)

-- each row stands in a bag that is given, and no two rows of an answer give one inner bag by the same index
pub record HasLinks {I : Type 0} (S : Scheme I) (all : List Home) (ans : List AnswerRows) : Type 0 where
  pub given : (q k : ℕ) → q < length S.elements → k < length (get_or ans q []) → IsGiven S all ans q (S.outer q (row_at ans q k))
  pub once : (q s j k : ℕ) → IsSlot S q s → j < k → k < length (get_or ans q []) → S.is (S.inner q s (row_at ans q j)) (S.inner q s (row_at ans q k)) ≡ false
