-- How far answers are judged.
use Rattle.std.specs.Prelude.{◌≡◌, ℕ, ◌<◌, List, [], Bool, get_or, length}
use Rattle.std.specs.BTreeMap.{BTreeMap}
use Rattle.nq_ir.specs.Parts.{slots}
use Rattle.stitcher.specs.Linked.{Home, home_of, giver}
use Rattle.stitcher.specs.Schemes.{Scheme, AnswerRows, element_of}
use Rattle.stitcher.specs.Stitching.{AreFitting}
use Rattle.foreign_answers.specs.Given.{first_given}
use Rattle.foreign_answers.specs.declared.given.Given.{Given}

-- the column of the tag of an inner bag, of those at each path
abbrev pub column_in : List (List ℕ) → (q s : ℕ) → ℕ
column_in columns q s = get_or (get_or columns q []) s 0

-- one answer for each path, with rows that fit, with the home of each path, which stands before it, and as many columns as there are inner bags
pub record CanJudge {I : Type 0} (S : Scheme I) (ans : List AnswerRows) (all : List Home) (columns : List (List ℕ)) : Type 0 where
  pub answered : length ans ≡ length S.elements
  pub fitting : AreFitting S ans
  pub homed : length all ≡ length S.elements
  pub before : (q : ℕ) → 0 < q → q < length S.elements → ((home_of all q).0 < q) × ((home_of all q).1 < slots (element_of S.elements (home_of all q).0))
  pub columned : length columns ≡ length S.elements
  pub counted : (q : ℕ) → length (get_or columns q []) ≡ slots (element_of S.elements q)

-- the first of these rows that gives each index is known, for each inner bag at a path
abbrev pub Gives : {I : Type 0} → (I → I → Bool) → Scheme I → ℕ → (ℕ → AnswerRows)
    → BTreeMap (ℕ × I) ℕ → Type 0
Gives {I} eq S q rows firsts = (s : ℕ) (i : I) → s < slots (element_of S.elements q) → first_given eq firsts s i ≡ giver S q s (rows s) i

-- that of each answer so far
abbrev pub AreGiven : {I : Type 0} → (I → I → Bool) → Scheme I → List AnswerRows → List (Given I) → Type 0
AreGiven {I} eq S ans given = (q : ℕ) (d : Given I) → q < length given → Gives eq S q (λ s. get_or ans q []) (get_or given q d).firsts
