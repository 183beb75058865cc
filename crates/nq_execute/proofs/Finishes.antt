-- Answers that fit are what finishing asks for.
use Rattle.std.proofs.Common.{◌≡◌, ◌<◌, ◌+◌, ℕ, ℤ, zero, suc, List, [], ◌∷◌, length, map, get_or}
use Rattle.std.proofs.Common.{All, refl, sym, ap, ◌∙◌, subst, arith}
use Rattle.std.proofs.lemmas.List.{length-map}
use Rattle.std.proofs.lemmas.List.Elements.{All-nil}
use Rattle.nq_model.specs.Cells.{RowFits}
use Rattle.nq_model.specs.Numberings.{count_from}
use Rattle.nq_model.specs.Types.{TypeTree, int}
use Rattle.nq_model.specs.declared.table.ColumnType.{ColumnType}
use Rattle.nq_ir.specs.Parts.{bags, element_types}
use Rattle.shred_types.specs.Columns.{answer_columns}
use Rattle.sql_profile.specs.declared.answer.Answer.{Answer}
use Rattle.stitcher.specs.FlatNumbers.{flat_numbers}
use Rattle.stitcher.specs.Schemes.{Scheme, element_of}
use Rattle.stitcher.proofs.Laid.{types_length}
use Rattle.stitcher.specs.Stitching.{rows_of, AreAnswersOf}
use Rattle.nq_execute.proofs.Asks.{both_length}
use Rattle.nq_execute.specs.Plans.{Indexes, RowWriting, columns_by, AreOfType, ArePathsOf, IsOne}
use Rattle.nq_execute.specs.Plans.{first_text, row_text_by}
use Rattle.nq_execute.specs.Serving.{Fit}

-- the rows of the answer at a path fit the columns there
fit_at : (elements : List TypeTree) (answers : List Answer)
    → Fit (map answer_columns elements) answers → (q : ℕ)
    → All (RowFits (answer_columns (element_of elements q))) (get_or (rows_of answers) q [])
fit_at [] [] fit q = All-nil (RowFits (answer_columns int))
fit_at [] (a ∷ answers) fit q = absurd (cc)
fit_at (e ∷ elements) [] fit q = absurd fit
fit_at (e ∷ elements) (a ∷ answers) fit zero = fit.0
fit_at (e ∷ elements) (a ∷ answers) fit (suc q) = fit_at elements answers fit.1 q

-- answers of the columns of a type, for its scheme
pub answers_of_type : (type : TypeTree) (scheme : Scheme (ℤ × ℤ)) (answers : List Answer) → scheme
    ≡ flat_numbers (element_types type) → Fit (map answer_columns (element_types type)) answers
    → AreAnswersOf scheme type (rows_of answers)
answers_of_type type scheme answers is fit =
    let P : Scheme (ℤ × ℤ) → Type 0 = λ s. AreAnswersOf s type (rows_of answers) in
    let counted : length answers ≡ length (map answer_columns (element_types type))
    = both_length (λ types answer. All (RowFits types) answer.rows)
    (map answer_columns (element_types type)) answers fit in
    subst P (sym is) (record {
      of_type = refl;
      counted = length-map answers (λ a. a.rows) ∙ counted
          ∙ length-map (element_types type) answer_columns;
      fitting = fit_at (element_types type) answers fit;
    })

-- answers of the columns at the paths of a type
pub fit_paths : (type : TypeTree) (indexes : Indexes) (columns : List (List ColumnType))
    (answers : List Answer) → ArePathsOf type indexes columns → Fit columns answers
    → Fit (columns_by indexes type) answers
fit_paths type indexes columns answers paths fit = subst
    (λ (cs : List (List ColumnType)). Fit cs answers) paths.at_paths fit

-- the rows of the answer at a path, from a path on, fit the columns that a scheme has there
fit_from : (columns : ℕ → List ColumnType) (k n : ℕ) (answers : List Answer)
    → Fit (map columns (count_from k n)) answers → (q : ℕ)
    → All (RowFits (columns (k + q))) (get_or (rows_of answers) q [])
fit_from columns k zero [] fit q = All-nil (RowFits (columns (k + q)))
fit_from columns k zero (a ∷ answers) fit q = absurd (cc)
fit_from columns k (suc n) [] fit q = absurd fit
fit_from columns k (suc n) (a ∷ answers) fit zero =
    let here : k ≡ k + zero = omega arith in
    subst (λ (m : ℕ). All (RowFits (columns m)) a.rows) here fit.0
fit_from columns k (suc n) (a ∷ answers) fit (suc q) =
    let later : suc k + q ≡ k + suc q = omega arith in
    subst (λ (m : ℕ). All (RowFits (columns m)) (get_or (rows_of answers) q [])) later
    (fit_from columns (suc k) n answers fit.1 q)

counted : (k n : ℕ) → length (count_from k n) ≡ n
counted k zero = refl
counted k (suc n) = ap suc (counted (suc k) n)

-- answers of the columns of a scheme of a type
pub answers_of_scheme : {I : Type 0} (type : TypeTree) (scheme : Scheme I) (answers : List Answer)
    → scheme.elements ≡ element_types type
    → Fit (map scheme.columns (count_from 0 (bags type))) answers
    → AreAnswersOf scheme type (rows_of answers)
answers_of_scheme type scheme answers own fit =
    let paths : ℕ = bags type in
    let as_many : length answers ≡ length (map scheme.columns (count_from 0 paths))
    = both_length (λ types answer. All (RowFits types) answer.rows)
    (map scheme.columns (count_from 0 paths)) answers fit in
    record {
      of_type = own;
      counted = length-map answers (λ a. a.rows) ∙ as_many
          ∙ length-map (count_from 0 paths) scheme.columns ∙ counted 0 paths
          ∙ sym (types_length type) ∙ sym (ap length own);
      fitting = λ q.
          let here : 0 + q ≡ q = omega arith in
          subst (λ (m : ℕ). All (RowFits (scheme.columns m)) (get_or (rows_of answers) q [])) here
          (fit_from scheme.columns 0 paths answers fit q);
    }

-- the rows of one answer
pub one_answer : (columns : List (List ColumnType)) (answers : List Answer) (answer : Answer)
    (own : List ColumnType) → IsOne columns → Fit columns answers
    → answer ≡ get_or answers 0 answer → own ≡ get_or columns 0 own → All (RowFits own) answer.rows
one_answer columns answers answer own one fit is own_is =
    let P : List (List ColumnType) → Type 0 = λ cs. Fit cs answers in
    let same : own ≡ one.types = own_is
    ∙ ap (λ (cs : List (List ColumnType)). get_or cs 0 own) one.is in
    subst (λ (ts : List ColumnType). All (RowFits ts) answer.rows) (sym same)
    (first answers (subst P one.is fit) is)
  where
    first : (given : List Answer) → Fit (one.types ∷ []) given → answer ≡ get_or given 0 answer
        → All (RowFits one.types) answer.rows
    first [] fit is = absurd fit
    first (a ∷ given) fit is = subst (λ (b : Answer). All (RowFits one.types) b.rows) (sym is) fit.0

-- there is one
pub has_one : (columns : List (List ColumnType)) (answers : List Answer) → IsOne columns
    → Fit columns answers → 0 < length answers
has_one columns answers one fit =
    let counted = both_length (λ types answer. All (RowFits types) answer.rows) columns answers fit
    in
    omega (arith, counted, ap length one.is)

pub has_columns : (columns : List (List ColumnType)) → IsOne columns → 0 < length columns
has_columns columns one = omega (arith, ap length one.is)

-- its text
pub rows_finished : (writing : RowWriting) (answers : List Answer) (answer : Answer) (text : List ℕ)
    → 0 < length answers → answer ≡ get_or answers 0 answer → text ≡ row_text_by writing answer.rows
    → text ≡ first_text writing (rows_of answers)
rows_finished writing [] answer text some is written = absurd (omega (arith, some))
rows_finished writing (a ∷ answers) answer text some is written = written
    ∙ ap (λ (b : Answer). row_text_by writing b.rows) is

-- the indexes are those of the type
pub indexes_own : (type : TypeTree) (indexes : Indexes) (columns : List (List ColumnType))
    → ArePathsOf type indexes columns → AreOfType type indexes
indexes_own type indexes columns paths = paths.of_type

pub ruleset finish_rules = (fit_paths, indexes_own, one_answer, has_one, has_columns, rows_finished)
