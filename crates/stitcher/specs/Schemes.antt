-- Index schemes, stitching, and when a scheme reads answers.
--
-- After Cheney, Lindley and Wadler, "Query Shredding", SIGMOD 2014. The numbers of paths, base parts and inner
-- bags are counted from 0, those of columns from 1.
use Rattle.std.specs.Prelude.{◌≡◌, ℕ, ◌-◌, ◌<◌, List, [], filter, get_or, length, Bool}
use Rattle.nq_model.specs.Types.{TypeTree, int, bag}
use Rattle.nq_model.specs.Values.{Nested, bag_of}
use Rattle.nq_model.specs.declared.table.Cell.{Cell}
use Rattle.nq_model.specs.declared.table.ColumnType.{ColumnType}
use Rattle.nq_model.specs.NamedRows.{no_cell}
use Rattle.nq_ir.specs.Meanings.{Tables}
use Rattle.nq_ir.specs.Parts.{leaves, slots}
use Rattle.nq_ir.specs.Among.{Among}
use Rattle.nq_ir.specs.Building.{Source, built, FollowsIn}
use Rattle.nq_ir.specs.Spots.{Spot, top_spot, strands, spots}
use Rattle.nq_ir.specs.Trees.{FormTree}
use Rattle.shred_types.specs.Places.{leaf_types}

-- the rows of an answer
abbrev pub AnswerRows : Type 0
AnswerRows = List (List Cell)

-- What a scheme is, for a type whose bags have these element types in path order: the columns of the answer at
-- each path, where base parts stand, the index of the top, and the indexes that a row gives.
pub record Scheme (I : Type 0) : Type 0 where
  pub elements : List TypeTree
  pub columns : ℕ → List ColumnType
  pub base : ℕ → ℕ → ℕ
  pub top : I
  pub outer : ℕ → List Cell → I
  pub inner : ℕ → ℕ → List Cell → I
  pub is : I → I → Bool

-- the element type at a path; int where there is no such path
abbrev pub element_of : List TypeTree → ℕ → TypeTree
element_of elements q = get_or elements q int

-- there is a path with this number, with a base part or an inner bag of that number
abbrev pub IsPath : {I : Type 0} → Scheme I → ℕ → Type 0
IsPath S q = q < length S.elements

abbrev pub IsLeaf : {I : Type 0} → Scheme I → ℕ → ℕ → Type 0
IsLeaf S q l = IsPath S q × (l < leaves (element_of S.elements q))

abbrev pub IsSlot : {I : Type 0} → Scheme I → ℕ → ℕ → Type 0
IsSlot S q s = IsPath S q × (s < slots (element_of S.elements q))

-- the column that the scheme gives for a base part is there and has the part's type
abbrev pub BasesAreTyped : {I : Type 0} → Scheme I → Type 0
BasesAreTyped S =
    (q l : ℕ) → IsLeaf S q l → (0 < S.base q l) × ((d : ColumnType) → get_or (S.columns q) (S.base q l - 1) d ≡ get_or (leaf_types (element_of S.elements q)) l d)

-- the answers, one for each path, as a source of rows: under an index stand the rows whose outer index is that one
abbrev pub answers : {I : Type 0} → Scheme I → List AnswerRows → Source I (List Cell)
answers S ans = record {
  rows = λ q i. filter (λ r. S.is (S.outer q r) i) (get_or ans q []);
  leaf = λ q l r. get_or r (S.base q l - 1) no_cell;
  inner = S.inner;
}

-- stitching: at each path and index, the elements of the rows there, in row order, each inner bag by its own path and the row's inner index
abbrev pub stitch_at : {I : Type 0} → Scheme I → TypeTree → List AnswerRows → ℕ → I → List Nested
stitch_at S element ans q i = built (answers S ans) element q i

-- the value that answers give for a bag of elements of this type: the elements at the empty path under the top index
abbrev pub stitched : {I : Type 0} → Scheme I → TypeTree → List AnswerRows → Nested
stitched S element ans = bag_of (stitch_at S element ans 0 S.top)

-- an index at a path, entered with the spot that it stands for
pub record Entry (I : Type 0) : Type 0 where
  pub path : ℕ
  pub index : I
  pub spot : Spot

abbrev pub Entered : {I : Type 0} → List (Entry I) → ℕ → I → Spot → Type 0
Entered entries q i s = Among (record { path = q; index = i; spot = s }) entries

-- A scheme reads answers for a form and tables: a finite list enters at most one spot for each path and index, the top
-- index stands for the top spot, and for each entry the rows under the index and the children of the spot pair off,
-- in any order, with equal base parts and, for each inner bag, an index that is entered with the child's own spot.
pub record Reads {I : Type 0} (S : Scheme I) (ans : List AnswerRows) (form : FormTree) (ts : Tables) : Type 0 where
  pub entries : List (Entry I)
  pub one_spot : (q : ℕ) (i : I) (s t : Spot) → Entered entries q i s → Entered entries q i t → s ≡ t
  pub top : Entered entries 0 S.top top_spot
  pub follows : FollowsIn (Entered entries) (answers S ans) (spots ts (strands form.element form.comps)) (bag form.element) 0
