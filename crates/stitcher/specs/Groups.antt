-- The rows of an answer by their outer index, in chains. A row goes by how many rows stand behind it.
use Rattle.std.specs.Prelude.{◌≡◌, ℕ, suc, ◌-◌, ◌<◌, ◌≤◌, List, [], ◌∷◌, ◌++◌, Bool, cond, map, filter, get_or, length}
use Rattle.std.specs.BTreeMap.{BTreeMap}
use Rattle.std.specs.Map.{lookup}
use Rattle.std.specs.Option.{unwrap_or}
use Rattle.nq_model.specs.declared.table.Cell.{Cell}
use Rattle.stitcher.specs.Schemes.{AnswerRows}

-- the place of the first row under an index, which is one more than how many stand behind it; 0 where there is none
abbrev pub first_under : {I : Type 0} → (I → I → Bool) → BTreeMap I ℕ → I → ℕ
first_under eq firsts i = unwrap_or (lookup (eq i) firsts.entries) 0

-- the rows of a chain that begins at a place, where each has in `nexts` the place of the next
abbrev pub IsChain : List ℕ → ℕ → List ℕ → Type 0
IsChain nexts place [] = place ≡ 0
IsChain nexts place (k ∷ ks) = (place ≡ suc k) × (k < length nexts) × IsChain nexts (get_or nexts k 0) ks

-- a row goes on to none or to one that stands behind it
abbrev pub GoesOn : List ℕ → Type 0
GoesOn nexts = (k : ℕ) → get_or nexts k 0 ≤ k

-- the row behind which so many stand
abbrev pub row_before : AnswerRows → ℕ → List Cell
row_before rows k = get_or rows (length rows - suc k) []

-- under each index the chain of its rows, in row order, of those that are left of an answer: its last rows
abbrev pub AreGrouped : {I : Type 0} → (I → I → Bool) → (List Cell → I) → AnswerRows → AnswerRows → BTreeMap I ℕ → List ℕ → Type 0
AreGrouped {I} eq outer rows left firsts nexts =
    (i : I) → (ks : List ℕ) × IsChain nexts (first_under eq firsts i) ks × (map (row_before rows) ks ≡ filter (λ r. eq (outer r) i) left)

-- one row more in front, under an index
pub record IsPutInFront {I : Type 0} (eq : I → I → Bool) (firsts : BTreeMap I ℕ) (nexts : List ℕ) (more : BTreeMap I ℕ) (longer : List ℕ) (index : I) : Type 0 where
  pub next : longer ≡ nexts ++ first_under eq firsts index ∷ []
  pub first : (i : I) → first_under eq more i ≡ cond (eq index i) (suc (length nexts)) (first_under eq firsts i)
