-- What the verdict of the walk says of the checker's answer.
use Rattle.std.proofs.Common.{◌≡◌, ℕ, [], Result, Ok, Err, IfOk, IfErr, IsErrAnd, MatchResult, refl, ap, sym, ◌∙◌}
use Rattle.nq_model.specs.Types.{TypeTree, type_tree}
use Rattle.nq_model.specs.Terms.{PlacedTerm, bare, placed}
use Rattle.nq_model.specs.Typing.{HasType, IsAccepted}
use Rattle.nq_model.specs.TypeOf.{body_given}
use Rattle.nq_model.specs.Judging.{Verdict, BrokenRule, broken, judged, program_judged, then_judge, by_rule}
use Rattle.nq_model.proofs.Terms.{placed_term}
use Rattle.nq_model.proofs.Typing.{one_type}
use Rattle.nq_model.proofs.Judging.{judged_accepted, accepted_judged}
use Rattle.nq_model.specs.declared.ty.Ty.{Ty}
use Rattle.nq_model.specs.declared.term.Term.{Term}
use Rattle.nq_model.specs.declared.table.Schema.{Schema}
use Rattle.nq_types.specs.declared.fault.CheckFault.{CheckFault}
use Rattle.nq_types.specs.declared.fault.CheckFault.TheVariants.{Memory, Ill}
use Rattle.nq_types.specs.Answers.{HasCause, IsIll}
use Rattle.nq_types.specs.Steps.{Gives}

-- the verdict on a program: the walk over it, and that its type is a bag
pub program_verdict : (schema : Schema) (t : Term) → program_judged schema (placed t) ≡ then_judge (judged schema [] (placed t)) (λ a. by_rule 23 t.place (body_given a))
program_verdict schema t =
    ap (program_judged schema) (placed_term t)
    ∙ ap (λ p. then_judge (judged schema [] p) (λ a. by_rule 23 t.place (body_given a))) (sym (placed_term t))

one_fault : (e f : BrokenRule) (v : Verdict TypeTree) → v ≡ Err e → v ≡ Err f → e ≡ f
one_fault e f v p q = let same = sym p ∙ q in cc

module _ (schema : Schema) (p : PlacedTerm) where
  pub answers_ok : (r : Result Ty CheckFault) → Gives r (program_judged schema p) → IfOk r (λ ty. IsAccepted schema (bare p) (type_tree ty))
  answers_ok (Ok ty) h = judged_accepted schema p (type_tree ty) h
  answers_ok (Err e) h = tt

  pub answers_only : (r : Result Ty CheckFault) → Gives r (program_judged schema p) → IfOk r (λ ty. (a : TypeTree) → HasType schema [] (bare p) a → a ≡ type_tree ty)
  answers_only (Ok ty) h = λ a g. one_type schema [] (bare p) a (type_tree ty) g (judged_accepted schema p (type_tree ty) h).typed
  answers_only (Err e) h = tt

  pub answers_err : (r : Result Ty CheckFault) → Gives r (program_judged schema p) → IfErr r (HasCause schema p)
  answers_err (Ok ty) h = tt
  answers_err (Err Memory) h = tt
  answers_err (Err (Ill rule place)) h = h

  pub answers_accepted : (r : Result Ty CheckFault) → Gives r (program_judged schema p) → (a : TypeTree) → IsAccepted schema (bare p) a → MatchResult r (λ ty. type_tree ty ≡ a) (λ e. e ≡ Memory)
  answers_accepted (Ok ty) h a g = let same = sym h ∙ accepted_judged schema p a g in cc
  answers_accepted (Err Memory) h a g = refl
  answers_accepted (Err (Ill rule place)) h a g = let same = sym h ∙ accepted_judged schema p a g in cc

  pub answers_refused : (r : Result Ty CheckFault) → Gives r (program_judged schema p) → (rule place : ℕ) → program_judged schema p ≡ Err (broken rule place) → IsErrAnd r (IsIll rule place)
  answers_refused (Ok ty) h rule place g = let same = sym h ∙ g in cc
  answers_refused (Err Memory) h rule place g = tt
  answers_refused (Err (Ill r q)) h rule place g =
      let same = one_fault (broken r q) (broken rule place) (program_judged schema p) h g in
      (ap (λ (x : BrokenRule). x.rule) same, ap (λ (x : BrokenRule). x.place) same)
