-- Answers that fit, path by path.
use Rattle.std.proofs.Common.{◌≡◌, ℕ, ◌+◌, ◌<◌, ◌≤◌, List, [], sym, ap, ◌∙◌, subst, All, length, get_or, arith, ⊎_elim, eq-or-lt_of_le, false, Result, Ok, Err, OnOk}
use Rattle.std.specs.Result.{is_err}
use Rattle.std.proofs.lemmas.List.{length-map, get_or_past}
use Rattle.std.proofs.lemmas.Bool.{cases_lt}
use Rattle.nq_model.specs.Cells.{RowFits}
use Rattle.nq_model.specs.Types.{TypeTree}
use Rattle.nq_ir.proofs.Paths.{paths_count}
use Rattle.nq_ir.specs.Parts.{bags, element_types}
use Rattle.nq_ir.specs.Paths.{paths}
use Rattle.nq_ir.specs.declared.path.Path.{Path}
use Rattle.shred_types.specs.Under.{steps_of}
use Rattle.sql_profile.specs.declared.answer.Answer.{Answer}
use Rattle.stitcher.proofs.Laid.{types_length}
use Rattle.stitcher.proofs.Ready.{rows_at}
use Rattle.stitcher.specs.Schemes.{Scheme, AnswerRows}
use Rattle.stitcher.specs.Stitching.{rows_of, AreAnswersOf}

-- what holds where a result is no error
pub no_error : {A E : Type 0} (P : Type 0) (r : Result A E) → is_err r ≡ false → OnOk r P → P
no_error P (Ok a) e h = h
no_error P (Err x) e h = absurd (let no : ⊥ = cc in no)

-- a type has as many paths as bags
pub paths_counted : (list : List Path) (a : TypeTree) → steps_of list ≡ paths a → length list ≡ bags a
paths_counted list a e = sym (length-map list (λ (p : Path). p.steps)) ∙ ap length e ∙ paths_count a

pub is_path : {I : Type 0} (S : Scheme I) (a : TypeTree) (n count : ℕ) → S.elements ≡ element_types a → count ≡ bags a → n < count → n < length S.elements
is_path S a n count of counted h =
    let long : length S.elements ≡ bags a = ap length of ∙ types_length a in
    omega (arith, long, counted, h)

-- the answers before a path fit
abbrev pub FitBefore : {I : Type 0} → Scheme I → List AnswerRows → ℕ → Type 0
FitBefore S ans n = (q : ℕ) → q < n → All (RowFits (S.columns q)) (get_or ans q [])

pub one_more_fits : {I : Type 0} (S : Scheme I) (answers : List Answer) (n : ℕ) (own : Answer) → n < length answers → own ≡ get_or answers n own → All (RowFits (S.columns n)) own.rows → FitBefore S (rows_of answers) n → FitBefore S (rows_of answers) (n + 1)
one_more_fits S answers n own h is fit before q low =
    let here : own.rows ≡ get_or (rows_of answers) n [] = ap (λ (a : Answer). a.rows) is ∙ sym (rows_at answers n own h) in
    let last : All (RowFits (S.columns n)) (get_or (rows_of answers) n []) = subst (λ (r : AnswerRows). All (RowFits (S.columns n)) r) here fit in
    let at_most : q ≤ n = omega (arith, low) in
    ⊎_elim (λ e. subst (λ (k : ℕ). All (RowFits (S.columns k)) (get_or (rows_of answers) k [])) (sym e) last) (λ l. before q l) (eq-or-lt_of_le at_most)

pub all_fit : {I : Type 0} (S : Scheme I) (type : TypeTree) (answers : List Answer) (n : ℕ) → S.elements ≡ element_types type → length answers ≡ bags type → length answers ≤ n → FitBefore S (rows_of answers) n → AreAnswersOf S type (rows_of answers)
all_fit S type answers n of counted end before = record {
  of_type = of;
  counted = length-map answers (λ (a : Answer). a.rows) ∙ counted ∙ sym (types_length type) ∙ sym (ap length of);
  fitting = λ q. ⊎_elim (λ l. before q (omega (arith, l, end))) (λ past. past_all q past) (cases_lt q (length answers));
}
  where
    past_all : (q : ℕ) → length answers ≤ q → All (RowFits (S.columns q)) (get_or (rows_of answers) q [])
    past_all q past k d h =
        let long : length (rows_of answers) ≡ length answers = length-map answers (λ (a : Answer). a.rows) in
        let none : get_or (rows_of answers) q [] ≡ [] = get_or_past (rows_of answers) q [] (omega (arith, long, past)) in
        absurd (omega (arith, h, ap length none))
