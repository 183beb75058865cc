-- The order in which a term is judged, and the first broken rule.
--
-- Nodes are judged in post-order, parts in the order of the text. Two conditions are judged earlier: that a
-- function's parameter type is well formed, before the body, and that a comprehension goes over a bag, before
-- the body. That the whole is a bag is judged last, at the root's place.
use Rattle.std.specs.Prelude.{ℕ, List, [], ◌∷◌, Option, Some, None, Result, Ok, Err, slice_get}
use Rattle.nq_model.specs.declared.term.Unary.{Unary}
use Rattle.nq_model.specs.declared.term.Unary.TheVariants.{Minus, Not}
use Rattle.nq_model.specs.declared.term.Binary.{Binary}
use Rattle.nq_model.specs.declared.term.Binary.TheVariants.{Add, Sub, Mul, Eq, Ne, Lt, Le, Gt, Ge, And, Or}
use Rattle.nq_model.specs.declared.table.Schema.{Schema}
use Rattle.nq_model.specs.Types.{TypeTree, FieldTypes}
use Rattle.nq_model.specs.Terms.{PlacedTerm, PlacedNode, PlacedFields, at, Aggregate, Emptiness, Count, Sum}
use Rattle.nq_model.specs.Typing.{put_type}
use Rattle.nq_model.specs.TypeOf.{table_given, unary_given, binary_given, choice_given, parameter_given, application_given, field_given, aggregate_given, bag_given, union_given, body_given, guard_given, element_of}

-- the number of the rule, and the place of the node that breaks it
pub record BrokenRule : Type 0 where
  pub rule : ℕ
  pub place : ℕ

abbrev pub broken : ℕ → ℕ → BrokenRule
broken rule place = record { rule = rule; place = place }

-- what a walk gives, or the first broken rule
abbrev pub Verdict : Type 0 → Type 0
Verdict A = Result A BrokenRule

abbrev pub then_judge : {A B : Type 0} → Verdict A → (A → Verdict B) → Verdict B
then_judge (Ok a) f = f a
then_judge (Err e) f = Err e

-- what the rule gives at the place, if its condition holds
abbrev pub by_rule : {A : Type 0} → ℕ → ℕ → Option A → Verdict A
by_rule rule place (Some a) = Ok a
by_rule rule place None = Err (broken rule place)

-- `-`, then `!`
abbrev pub unary_rule : Unary → ℕ
unary_rule Minus = 6
unary_rule Not = 7

-- arithmetic, comparisons, then the truth operations
abbrev pub binary_rule : Binary → ℕ
binary_rule Add = 8
binary_rule Sub = 8
binary_rule Mul = 8
binary_rule Eq = 9
binary_rule Ne = 9
binary_rule Lt = 9
binary_rule Le = 9
binary_rule Gt = 9
binary_rule Ge = 9
binary_rule And = 10
binary_rule Or = 10

-- emptiness tests, counts, then sums
abbrev pub aggregate_rule : Aggregate → ℕ
aggregate_rule Emptiness = 16
aggregate_rule Count = 24
aggregate_rule Sum = 25

module _ (schema : Schema) where
  abbrev mutual
    pub judged : List TypeTree → PlacedTerm → Verdict TypeTree
    judged context (at place n) = node_judged context place n

    pub node_judged : List TypeTree → ℕ → PlacedNode → Verdict TypeTree
    node_judged context place (PlacedNode.var n) = by_rule 1 place (slice_get context n)
    node_judged context place (PlacedNode.int n) = Ok TypeTree.int
    node_judged context place (PlacedNode.bool b) = Ok TypeTree.bool
    node_judged context place (PlacedNode.text t) = Ok TypeTree.text
    node_judged context place (PlacedNode.table l) = by_rule 5 place (table_given l schema)
    node_judged context place (PlacedNode.unary op t) =
        then_judge (judged context t) (λ a. by_rule (unary_rule op) place (unary_given op a))
    node_judged context place (PlacedNode.binary op t u) =
        then_judge (judged context t) (λ a. then_judge (judged context u) (λ b. by_rule (binary_rule op) place (binary_given op a b)))
    node_judged context place (PlacedNode.choose x t u) =
        then_judge (judged context x) (λ c. then_judge (judged context t) (λ a. then_judge (judged context u) (λ b. by_rule 11 place (choice_given c a b))))
    node_judged context place (PlacedNode.fun a t) =
        then_judge (by_rule 12 place (parameter_given a)) (λ _. then_judge (judged (a ∷ context) t) (λ b. Ok (TypeTree.fun a b)))
    node_judged context place (PlacedNode.apply t u) =
        then_judge (judged context t) (λ f. then_judge (judged context u) (λ a. by_rule 13 place (application_given f a)))
    node_judged context place (PlacedNode.rec fs) = then_judge (fields_judged context fs) (λ fields. Ok (TypeTree.rec fields))
    node_judged context place (PlacedNode.field t l) = then_judge (judged context t) (λ a. by_rule 15 place (field_given l a))
    node_judged context place (PlacedNode.aggregate g t) = then_judge (judged context t) (λ a. by_rule (aggregate_rule g) place (aggregate_given g a))
    node_judged context place (PlacedNode.single t) = then_judge (judged context t) (λ a. by_rule 17 place (bag_given a))
    node_judged context place (PlacedNode.nil a) = by_rule 18 place (bag_given a)
    node_judged context place (PlacedNode.union t u) =
        then_judge (judged context t) (λ a. then_judge (judged context u) (λ b. by_rule 19 place (union_given a b)))
    node_judged context place (PlacedNode.for t u) =
        then_judge (judged context t) (λ a. then_judge (by_rule 20 place (element_of a))
        (λ e. then_judge (judged (e ∷ context) u) (λ b. by_rule 20 place (body_given b))))
    node_judged context place (PlacedNode.guard x u) =
        then_judge (judged context x) (λ c. then_judge (judged context u) (λ b. by_rule 21 place (guard_given c b)))
    node_judged context place (PlacedNode.bind t u) = then_judge (judged context t) (λ a. judged (a ∷ context) u)

    pub fields_judged : List TypeTree → PlacedFields → Verdict FieldTypes
    fields_judged context PlacedFields.none = Ok FieldTypes.none
    fields_judged context (PlacedFields.with_field l t fs) =
        then_judge (judged context t) (λ k. then_judge (fields_judged context fs) (λ rest. Ok (put_type l k rest)))

  -- the type of a whole program, or its fault
  abbrev pub program_judged : PlacedTerm → Verdict TypeTree
  program_judged (at place n) = then_judge (node_judged [] place n) (λ a. by_rule 23 place (body_given a))
