-- What is stitched: a scheme with answers, their rows in groups.
use Rattle.std.specs.Prelude.{◌≡◌, ℕ, suc, ◌<◌, List, [], map, All, get_or, length, Bool}
use Rattle.nq_model.specs.Cells.{RowFits}
use Rattle.nq_model.specs.Types.{TypeTree}
use Rattle.nq_model.specs.declared.table.Cell.{Cell}
use Rattle.nq_ir.specs.Parts.{bags, element_types}
use Rattle.sql_profile.specs.declared.answer.Answer.{Answer}
use Rattle.stitcher.specs.Schemes.{Scheme, AnswerRows}
use Rattle.stitcher.specs.Groups.{AreGrouped, GoesOn}
use Rattle.stitcher.specs.declared.groups.Groups.{Groups}

-- the rows of each answer
abbrev pub rows_of : List Answer → List AnswerRows
rows_of answers = map (λ a. a.rows) answers

-- the rows of each answer fit the columns of its path
abbrev pub AreFitting : {I : Type 0} → Scheme I → List AnswerRows → Type 0
AreFitting S ans = (q : ℕ) → All (RowFits (S.columns q)) (get_or ans q [])

-- one answer for each path of a type, which is the scheme's, with rows that fit
pub record AreAnswersOf {I : Type 0} (S : Scheme I) (type : TypeTree) (ans : List AnswerRows) : Type 0 where
  pub of_type : S.elements ≡ element_types type
  pub counted : length ans ≡ length S.elements
  pub fitting : AreFitting S ans

-- how many paths begin with each path: its own, and those inside its element
abbrev pub spans_of : List TypeTree → List ℕ
spans_of elements = map (λ a. suc (bags a)) elements

-- the rows of one answer are in groups by their outer index
pub record HasGroups {I : Type 0} (eq : I → I → Bool) (outer : List Cell → I) (rows : AnswerRows) (groups : Groups I) : Type 0 where
  pub grouped : AreGrouped eq outer rows rows groups.firsts groups.nexts
  pub counted : length groups.nexts ≡ length rows
  pub goes_on : GoesOn groups.nexts

-- those of each answer so far
abbrev pub EachInGroups : {I : Type 0} → (I → I → Bool) → Scheme I → List AnswerRows → List (Groups I) → Type 0
EachInGroups {I} eq S ans groups = (q : ℕ) (d : Groups I) → q < length groups → HasGroups eq (S.outer q) (get_or ans q []) (get_or groups q d)

-- those of each answer
pub record AreInGroups {I : Type 0} (eq : I → I → Bool) (S : Scheme I) (ans : List AnswerRows) (groups : List (Groups I)) : Type 0 where
  pub counted : length groups ≡ length ans
  pub each : EachInGroups eq S ans groups

-- answers with rows that fit, with their groups and the spans of the paths
pub record IsReady {I : Type 0} (eq : I → I → Bool) (S : Scheme I) (ans : List AnswerRows) (groups : List (Groups I)) (spans : List ℕ) : Type 0 where
  pub answered : length ans ≡ length S.elements
  pub fitting : AreFitting S ans
  pub in_groups : AreInGroups eq S ans groups
  pub spanned : spans ≡ spans_of S.elements
