-- The walk gives the type that the rules give, and a fault where they give none.
use Rattle.std.proofs.Common.{◌≡◌, ℕ, List, [], ◌∷◌, Option, Some, None, Ok, Err, slice_get, true, refl, ap, sym, ◌∙◌, subst}
use Rattle.nq_model.specs.Types.{TypeTree, is_well_formed}
use Rattle.nq_model.specs.Terms.{PlacedTerm, PlacedNode, PlacedFields, at, bare, bare_node, bare_fields}
use Rattle.nq_model.specs.Typing.{HasType, IsAccepted, IsPlainBag}
use Rattle.nq_model.specs.TypeOf.{type_of, types_of, and_then, table_given, unary_given, binary_given, choice_given, parameter_given, application_given, field_given, aggregate_given, bag_given, union_given, body_given, guard_given, element_of}
use Rattle.nq_model.specs.Judging.{Verdict, BrokenRule, judged, node_judged, fields_judged, program_judged, then_judge, by_rule, unary_rule, binary_rule, aggregate_rule}
use Rattle.nq_model.proofs.TypeOf.{typed, has_type, body_asks, body_gives, and_then_some}
use Rattle.nq_model.proofs.Typing.{well_formed_type}
use Rattle.nq_model.specs.declared.table.Schema.{Schema}

-- what a verdict gives, without the fault
abbrev given : {A : Type 0} → Verdict A → Option A
given (Ok a) = Some a
given (Err e) = None

given_rule : {A : Type 0} (rule place : ℕ) (o : Option A) → given (by_rule rule place o) ≡ o
given_rule rule place (Some a) = refl
given_rule rule place None = refl

given_then : {A B : Type 0} (v : Verdict A) (o : Option A) (f : A → Verdict B) (g : A → Option B) → given v ≡ o →
    ((a : A) → given (f a) ≡ g a) → given (then_judge v f) ≡ and_then o g
given_then (Ok a) o f g e h = h a ∙ ap (λ x. and_then x g) e
given_then (Err b) o f g e h = ap (λ x. and_then x g) e

given_ok : {A : Type 0} (v : Verdict A) (a : A) → given v ≡ Some a → v ≡ Ok a
given_ok (Ok b) a e = let h : b ≡ a = cc in ap Ok h
given_ok (Err b) a e = cc

module _ (schema : Schema) where
  mutual
    agree : (cx : List TypeTree) (p : PlacedTerm) → given (judged schema cx p) ≡ type_of schema cx (bare p)
    agree cx (at place n) = node_agree cx place n

    node_agree : (cx : List TypeTree) (place : ℕ) (n : PlacedNode) → given (node_judged schema cx place n) ≡ type_of schema cx (bare_node n)
    node_agree cx place (PlacedNode.var n) = given_rule 1 place (slice_get cx n)
    node_agree cx place (PlacedNode.int n) = refl
    node_agree cx place (PlacedNode.bool b) = refl
    node_agree cx place (PlacedNode.text t) = refl
    node_agree cx place (PlacedNode.table l) = given_rule 5 place (table_given l schema)
    node_agree cx place (PlacedNode.nil a) = given_rule 18 place (bag_given a)
    node_agree cx place (PlacedNode.unary op t) =
        given_then (judged schema cx t) (type_of schema cx (bare t)) _ _ (agree cx t) (λ a. given_rule (unary_rule op) place (unary_given op a))
    node_agree cx place (PlacedNode.binary op t u) =
        given_then (judged schema cx t) (type_of schema cx (bare t)) _ _ (agree cx t)
        (λ a. given_then (judged schema cx u) (type_of schema cx (bare u)) _ _ (agree cx u) (λ b. given_rule (binary_rule op) place (binary_given op a b)))
    node_agree cx place (PlacedNode.choose x t u) =
        given_then (judged schema cx x) (type_of schema cx (bare x)) _ _ (agree cx x)
        (λ c. given_then (judged schema cx t) (type_of schema cx (bare t)) _ _ (agree cx t)
        (λ a. given_then (judged schema cx u) (type_of schema cx (bare u)) _ _ (agree cx u) (λ b. given_rule 11 place (choice_given c a b))))
    node_agree cx place (PlacedNode.fun a t) =
        given_then (by_rule 12 place (parameter_given a)) (parameter_given a) _ _ (given_rule 12 place (parameter_given a))
        (λ _. given_then (judged schema (a ∷ cx) t) (type_of schema (a ∷ cx) (bare t)) _ _ (agree (a ∷ cx) t) (λ b. refl))
    node_agree cx place (PlacedNode.apply t u) =
        given_then (judged schema cx t) (type_of schema cx (bare t)) _ _ (agree cx t)
        (λ a. given_then (judged schema cx u) (type_of schema cx (bare u)) _ _ (agree cx u) (λ b. given_rule 13 place (application_given a b)))
    node_agree cx place (PlacedNode.rec fs) =
        given_then (fields_judged schema cx fs) (types_of schema cx (bare_fields fs)) _ _ (fields_agree cx fs) (λ fields. refl)
    node_agree cx place (PlacedNode.field t l) =
        given_then (judged schema cx t) (type_of schema cx (bare t)) _ _ (agree cx t) (λ a. given_rule 15 place (field_given l a))
    node_agree cx place (PlacedNode.aggregate g t) =
        given_then (judged schema cx t) (type_of schema cx (bare t)) _ _ (agree cx t) (λ a. given_rule (aggregate_rule g) place (aggregate_given g a))
    node_agree cx place (PlacedNode.single t) =
        given_then (judged schema cx t) (type_of schema cx (bare t)) _ _ (agree cx t) (λ a. given_rule 17 place (bag_given a))
    node_agree cx place (PlacedNode.union t u) =
        given_then (judged schema cx t) (type_of schema cx (bare t)) _ _ (agree cx t)
        (λ a. given_then (judged schema cx u) (type_of schema cx (bare u)) _ _ (agree cx u) (λ b. given_rule 19 place (union_given a b)))
    node_agree cx place (PlacedNode.for t u) =
        given_then (judged schema cx t) (type_of schema cx (bare t)) _ _ (agree cx t)
        (λ a. given_then (by_rule 20 place (element_of a)) (element_of a) _ _ (given_rule 20 place (element_of a))
        (λ e. given_then (judged schema (e ∷ cx) u) (type_of schema (e ∷ cx) (bare u)) _ _ (agree (e ∷ cx) u) (λ b. given_rule 20 place (body_given b))))
    node_agree cx place (PlacedNode.guard x u) =
        given_then (judged schema cx x) (type_of schema cx (bare x)) _ _ (agree cx x)
        (λ a. given_then (judged schema cx u) (type_of schema cx (bare u)) _ _ (agree cx u) (λ b. given_rule 21 place (guard_given a b)))
    node_agree cx place (PlacedNode.bind t u) =
        given_then (judged schema cx t) (type_of schema cx (bare t)) _ _ (agree cx t) (λ a. agree (a ∷ cx) u)

    fields_agree : (cx : List TypeTree) (fs : PlacedFields) → given (fields_judged schema cx fs) ≡ types_of schema cx (bare_fields fs)
    fields_agree cx PlacedFields.none = refl
    fields_agree cx (PlacedFields.with_field l t fs) =
        given_then (judged schema cx t) (type_of schema cx (bare t)) _ _ (agree cx t)
        (λ k. given_then (fields_judged schema cx fs) (types_of schema cx (bare_fields fs)) _ _ (fields_agree cx fs) (λ rest. refl))

  -- the walk gives a type exactly where the term has it
  pub judged_typed : (cx : List TypeTree) (p : PlacedTerm) (k : TypeTree) → judged schema cx p ≡ Ok k → HasType schema cx (bare p) k
  judged_typed cx p k e = typed schema cx (bare p) k (sym (agree cx p) ∙ ap given e)

  pub typed_judged : (cx : List TypeTree) (p : PlacedTerm) (k : TypeTree) → HasType schema cx (bare p) k → judged schema cx p ≡ Ok k
  typed_judged cx p k h = given_ok (judged schema cx p) k (agree cx p ∙ has_type schema cx (bare p) k h)

  program_agree : (p : PlacedTerm) → given (program_judged schema p) ≡ and_then (type_of schema [] (bare p)) body_given
  program_agree (at place n) =
      given_then (node_judged schema [] place n) (type_of schema [] (bare_node n)) _ _ (node_agree [] place n) (λ a. given_rule 23 place (body_given a))

  plain_bag_of : (a k : TypeTree) → k ≡ TypeTree.bag a → is_well_formed k ≡ true → IsPlainBag k
  plain_bag_of a k h w = let P : TypeTree → Type 0 = λ b. is_well_formed b ≡ true → IsPlainBag b in subst P (sym h) (λ v. v) w

  is_bag : (k : TypeTree) → IsPlainBag k → (a : TypeTree) × (k ≡ TypeTree.bag a)
  is_bag (TypeTree.bag a) h = (a, refl)
  is_bag TypeTree.int h = absurd h
  is_bag TypeTree.bool h = absurd h
  is_bag TypeTree.text h = absurd h
  is_bag (TypeTree.rec fields) h = absurd h
  is_bag (TypeTree.fun a b) h = absurd h

  -- the walk over a whole program gives a type exactly where the program is accepted with it
  pub judged_accepted : (p : PlacedTerm) (k : TypeTree) → program_judged schema p ≡ Ok k → IsAccepted schema (bare p) k
  judged_accepted p k e =
      let a = and_then_some (type_of schema [] (bare p)) body_given k (sym (program_agree p) ∙ ap given e) in
      let b = body_asks a.0 k a.2 in
      let t = typed schema [] (bare p) k (a.1 ∙ ap Some b.2) in
      record { typed = t; plain_bag = plain_bag_of b.0 k b.1 (well_formed_type schema [] (bare p) k tt t) }

  pub accepted_judged : (p : PlacedTerm) (k : TypeTree) → IsAccepted schema (bare p) k → program_judged schema p ≡ Ok k
  accepted_judged p k h =
      let b = is_bag k h.plain_bag in
      given_ok (program_judged schema p) k
      (program_agree p ∙ ap (λ o. and_then o body_given) (has_type schema [] (bare p) k h.typed) ∙ body_gives b.0 k b.1)

  -- and a fault exactly where there is none
  pub fault_refused : (p : PlacedTerm) (e : BrokenRule) → program_judged schema p ≡ Err e → (k : TypeTree) → IsAccepted schema (bare p) k → ⊥
  fault_refused p e is k h = let same = sym is ∙ accepted_judged p k h in cc

  pub refused_fault : (p : PlacedTerm) → ((k : TypeTree) → IsAccepted schema (bare p) k → ⊥) → (e : BrokenRule) × (program_judged schema p ≡ Err e)
  refused_fault p none = by (program_judged schema p) refl
    where
      by : (v : Verdict TypeTree) → program_judged schema p ≡ v → (e : BrokenRule) × (program_judged schema p ≡ Err e)
      by (Ok k) is = absurd (none k (judged_accepted p k is))
      by (Err e) is = (e, is)
