-- The numbers of the typing rules that a term breaks are from 1 to 25.
use Rattle.std.proofs.Common.{◌≡◌, ◌≤◌, ℕ, List, ◌∷◌, [], Option, Some, None}
use Rattle.std.proofs.Common.{Ok, Err, arith, inl, inr, subst}
use Rattle.std.specs.Bool.{⊤}
use Rattle.nq_model.specs.Judging.{Verdict, broken, then_judge, by_rule, unary_rule}
use Rattle.nq_model.specs.Judging.{binary_rule, aggregate_rule, judged, node_judged, fields_judged}
use Rattle.nq_model.specs.Judging.{program_judged}
use Rattle.nq_model.specs.Terms.{PlacedTerm, PlacedNode, PlacedFields, at, Aggregate, Emptiness}
use Rattle.nq_model.specs.Terms.{Count, Sum}
use Rattle.nq_model.specs.TypeOf.{element_of, parameter_given}
use Rattle.nq_model.specs.Types.{TypeTree}
use Rattle.nq_model.specs.declared.table.Schema.{Schema}
use Rattle.nq_model.specs.declared.term.Binary.{Binary}
use Rattle.nq_model.specs.declared.term.Binary.TheVariants.{Add, Sub, Mul, Eq, Ne, Lt, Le, Gt}
use Rattle.nq_model.specs.declared.term.Binary.TheVariants.{Ge, And, Or}
use Rattle.nq_model.specs.declared.term.Unary.{Unary}
use Rattle.nq_model.specs.declared.term.Unary.TheVariants.{Minus, Not}
use Rattle.explanations.specs.Explanations.{ExplainsRule, ExplainsType}

abbrev IsNumber : ℕ → Type 0
IsNumber rule = (1 ≤ rule) × (rule ≤ 25)

-- the rule that is broken, if one is, has such a number
abbrev Numbered : {A : Type 0} → Verdict A → Type 0
Numbered (Ok a) = ⊤
Numbered (Err e) = IsNumber e.rule

then_numbered : {A B : Type 0} (v : Verdict A) (f : A → Verdict B) → Numbered v
    → ((a : A) → Numbered (f a)) → Numbered (then_judge v f)
then_numbered (Ok a) f first more = more a
then_numbered (Err e) f first more = first

by_number : {A : Type 0} (rule place : ℕ) (given : Option A) → IsNumber rule
    → Numbered (by_rule rule place given)
by_number rule place (Some a) is = tt
by_number rule place None is = is

unary_number : (op : Unary) → IsNumber (unary_rule op)
unary_number Minus = (omega (arith), omega (arith))
unary_number Not = (omega (arith), omega (arith))

binary_number : (op : Binary) → IsNumber (binary_rule op)
binary_number Add = (omega (arith), omega (arith))
binary_number Sub = (omega (arith), omega (arith))
binary_number Mul = (omega (arith), omega (arith))
binary_number Eq = (omega (arith), omega (arith))
binary_number Ne = (omega (arith), omega (arith))
binary_number Lt = (omega (arith), omega (arith))
binary_number Le = (omega (arith), omega (arith))
binary_number Gt = (omega (arith), omega (arith))
binary_number Ge = (omega (arith), omega (arith))
binary_number And = (omega (arith), omega (arith))
binary_number Or = (omega (arith), omega (arith))

aggregate_number : (g : Aggregate) → IsNumber (aggregate_rule g)
aggregate_number Emptiness = (omega (arith), omega (arith))
aggregate_number Count = (omega (arith), omega (arith))
aggregate_number Sum = (omega (arith), omega (arith))

module _ (schema : Schema) where
  mutual
    term_numbered : (context : List TypeTree) (t : PlacedTerm)
        → Numbered (judged schema context t)
    term_numbered context (at place n) = node_numbered context place n

    node_numbered : (context : List TypeTree) (place : ℕ) (n : PlacedNode)
        → Numbered (node_judged schema context place n)
    node_numbered context place (PlacedNode.var n) =
        by_number 1 place _ (omega (arith), omega (arith))
    node_numbered context place (PlacedNode.int n) = tt
    node_numbered context place (PlacedNode.bool b) = tt
    node_numbered context place (PlacedNode.text t) = tt
    node_numbered context place (PlacedNode.table l) =
        by_number 5 place _ (omega (arith), omega (arith))
    node_numbered context place (PlacedNode.unary op t) =
        then_numbered (judged schema context t) _ (term_numbered context t)
        (λ a. by_number (unary_rule op) place _ (unary_number op))
    node_numbered context place (PlacedNode.binary op t u) =
        then_numbered (judged schema context t) _ (term_numbered context t)
        (λ a. then_numbered (judged schema context u) _ (term_numbered context u)
        (λ b. by_number (binary_rule op) place _ (binary_number op)))
    node_numbered context place (PlacedNode.choose x t u) =
        then_numbered (judged schema context x) _ (term_numbered context x)
        (λ c. then_numbered (judged schema context t) _ (term_numbered context t)
        (λ a. then_numbered (judged schema context u) _ (term_numbered context u)
        (λ b. by_number 11 place _ (omega (arith), omega (arith)))))
    node_numbered context place (PlacedNode.fun a t) =
        then_numbered (by_rule 12 place (parameter_given a)) _
        (by_number 12 place (parameter_given a) (omega (arith), omega (arith)))
        (λ _. then_numbered (judged schema (a ∷ context) t) _ (term_numbered (a ∷ context) t)
        (λ b. tt))
    node_numbered context place (PlacedNode.apply t u) =
        then_numbered (judged schema context t) _ (term_numbered context t)
        (λ f. then_numbered (judged schema context u) _ (term_numbered context u)
        (λ a. by_number 13 place _ (omega (arith), omega (arith))))
    node_numbered context place (PlacedNode.rec fs) =
        then_numbered (fields_judged schema context fs) _ (fields_numbered context fs) (λ a. tt)
    node_numbered context place (PlacedNode.field t l) =
        then_numbered (judged schema context t) _ (term_numbered context t)
        (λ a. by_number 15 place _ (omega (arith), omega (arith)))
    node_numbered context place (PlacedNode.aggregate g t) =
        then_numbered (judged schema context t) _ (term_numbered context t)
        (λ a. by_number (aggregate_rule g) place _ (aggregate_number g))
    node_numbered context place (PlacedNode.single t) =
        then_numbered (judged schema context t) _ (term_numbered context t)
        (λ a. by_number 17 place _ (omega (arith), omega (arith)))
    node_numbered context place (PlacedNode.nil a) =
        by_number 18 place _ (omega (arith), omega (arith))
    node_numbered context place (PlacedNode.union t u) =
        then_numbered (judged schema context t) _ (term_numbered context t)
        (λ a. then_numbered (judged schema context u) _ (term_numbered context u)
        (λ b. by_number 19 place _ (omega (arith), omega (arith))))
    node_numbered context place (PlacedNode.for t u) =
        then_numbered (judged schema context t) _ (term_numbered context t)
        (λ a. then_numbered (by_rule 20 place (element_of a)) _
        (by_number 20 place (element_of a) (omega (arith), omega (arith)))
        (λ e. then_numbered (judged schema (e ∷ context) u) _ (term_numbered (e ∷ context) u)
        (λ b. by_number 20 place _ (omega (arith), omega (arith)))))
    node_numbered context place (PlacedNode.guard x u) =
        then_numbered (judged schema context x) _ (term_numbered context x)
        (λ c. then_numbered (judged schema context u) _ (term_numbered context u)
        (λ b. by_number 21 place _ (omega (arith), omega (arith))))
    node_numbered context place (PlacedNode.bind t u) =
        then_numbered (judged schema context t) _ (term_numbered context t)
        (λ a. term_numbered (a ∷ context) u)

    fields_numbered : (context : List TypeTree) (fs : PlacedFields)
        → Numbered (fields_judged schema context fs)
    fields_numbered context PlacedFields.none = tt
    fields_numbered context (PlacedFields.with_field l t fs) =
        then_numbered (judged schema context t) _ (term_numbered context t)
        (λ k. then_numbered (fields_judged schema context fs) _ (fields_numbered context fs)
        (λ rest. tt))

  program_numbered : (t : PlacedTerm) → Numbered (program_judged schema t)
  program_numbered (at place n) =
      then_numbered (node_judged schema [] place n) _ (node_numbered [] place n)
      (λ a. by_number 23 place _ (omega (arith), omega (arith)))

-- so what explains a broken rule of a term explains the rule of its number
pub explains_rule : (schema : Schema) (t : PlacedTerm) (rule place : ℕ) (name text : List ℕ)
    (tables : List (List ℕ)) (found : List TypeTree) (made : List ℕ)
    → program_judged schema t ≡ Err (broken rule place)
    → ExplainsType name text place tables found rule made
    → ExplainsRule name text place tables found rule made
explains_rule schema t rule place name text tables found made is (inl explains) = explains
explains_rule schema t rule place name text tables found made is (inr other) =
    let numbered : IsNumber rule = subst Numbered is (program_numbered schema t) in
    let above = other numbered.0 in
    absurd (omega (arith, above, numbered.1))
