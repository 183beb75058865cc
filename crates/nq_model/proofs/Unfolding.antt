-- Steps of a part are steps of the whole; what is reached is one; dropping places commutes with steps.
use Rattle.std.proofs.Common.{◌≡◌, ℕ, cond, Bool, true, false, List, Option, Some, None, bytes_eq, refl, sym, ap, ◌∙◌, subst as along}
use Rattle.std.specs.Prelude.{option_map}
use Rattle.nq_model.specs.Terms.{PlacedTerm, PlacedNode, PlacedFields, at, TermTree, bare, bare_fields}
use Rattle.nq_model.specs.Unfolding.{part, picked, contract_apply, contract_field, step, step_fields, Chain, here, after, Reaches, Steps, Unfolds, Around, AroundField, unary_of, binary_left, binary_right, choose_test, choose_yes, choose_no, fun_body, apply_func, apply_arg, rec_field, field_of, aggregate_of, single_of, union_left, union_right, for_source, for_body, guard_test, guard_body, bind_value, bind_body, first_field, later_field, picked_tree, contract_tree_apply, contract_tree_field, step_tree, step_tree_fields, TreeSteps, TreeUnfolds}
use Rattle.nq_model.proofs.Substitution.{bare_subst}

pub join : {A : Type 0} {next : A → Option A} {t u v : A} → Chain next t u → Chain next u v → Chain next t v
join here s = s
join (after e r) s = after e (join r s)

-- what is reached is one
once : {A : Type 0} {next : A → Option A} {t u v : A} → Chain next t u → next u ≡ None → Chain next t v → next v ≡ None → u ≡ v
once here p here q = refl
once here p (after e r) q = cc
once (after e r) p here q = cc
once {next = next} (after {t} {u} {v} e r) p (after {u = w} {v = x} f s) q =
    let same : w ≡ u = cc in
    once r p (along (λ z. Chain next z x) same s) q

pub reached_once : {A : Type 0} {next : A → Option A} {t u v : A} → Reaches next t u → Reaches next t v → u ≡ v
reached_once a b = once a.steps a.ended b.steps b.ended

pub lift : {A B : Type 0} (sa : A → Option A) (sb : B → Option B) (around : A → B) → ((t u : A) → sa t ≡ Some u → sb (around t) ≡ Some (around u)) → {t u : A} → Chain sa t u → Chain sb (around t) (around u)
lift sa sb around h here = here
lift sa sb around h (after {t} {u} e r) = after (h t u e) (lift sa sb around h r)

-- a node of one part
pub one : {A B : Type 0} (sa : A → Option A) (sb : B → Option B) (node : A → B) (rest : A → Option B) → ((t : A) → sb (node t) ≡ part (sa t) node (rest t)) → {t u : A} → Chain sa t u → Chain sb (node t) (node u)
one sa sb node rest is r = lift sa sb node (λ t u e. is t ∙ ap (λ o. part o node (rest t)) e) r

-- a node of two parts
pub two : {A B C : Type 0} (sa : A → Option A) (sb : B → Option B) (sc : C → Option C) (node : A → B → C) (rest : A → B → Option C) → ((t : A) (u : B) → sc (node t u) ≡ part (sa t) (λ x. node x u) (part (sb u) (node t) (rest t u))) → {t v : A} {u w : B} → Chain sa t v → sa v ≡ None → Chain sb u w → Chain sc (node t u) (node v w)
two sa sb sc node rest is {v = v} {u = u} r e s =
    join (lift sa sc (λ x. node x u) (λ x y f. is x u ∙ ap (λ o. part o (λ z. node z u) (part (sb u) (node x) (rest x u))) f) r)
    (lift sb sc (node v) (λ x y f. is v x ∙ ap (λ o. part o (λ z. node z x) (part (sb x) (node v) (rest v x))) e ∙ ap (λ o. part o (node v) (rest v x)) f) s)

-- dropping places commutes with a node's parts
part_bare : {A B C D : Type 0} (f : A → B) (g : C → D) (o : Option A) {p : Option B} (around : A → C) (beside : B → D) (rest : Option C) {end : Option D} → option_map f o ≡ p → ((x : A) → g (around x) ≡ beside (f x)) → option_map g rest ≡ end → option_map g (part o around rest) ≡ part p beside end
part_bare f g None around beside rest {end = end} e h r = r ∙ ap (λ q. part q beside end) e
part_bare f g (Some x) around beside rest {end = end} e h r = ap Some (h x) ∙ ap (λ q. part q beside end) e

bare_picked_by : (b : Bool) (t : PlacedTerm) (o : Option PlacedTerm) (q : Option TermTree) → option_map bare o ≡ q → option_map bare (cond b (Some t) o) ≡ cond b (Some (bare t)) q
bare_picked_by true t o q e = refl
bare_picked_by false t o q e = e

pub bare_picked : (l : List ℕ) (fs : PlacedFields) → option_map bare (picked l fs) ≡ picked_tree l (bare_fields fs)
bare_picked l PlacedFields.none = refl
bare_picked l (PlacedFields.with_field m t fs) = bare_picked_by (bytes_eq l m) t (picked l fs) (picked_tree l (bare_fields fs)) (bare_picked l fs)

pub bare_contract_apply : (p : ℕ) (f a : PlacedTerm) → option_map bare (contract_apply p f a) ≡ contract_tree_apply (bare f) (bare a)
bare_contract_apply p (at q (PlacedNode.var k)) a = refl
bare_contract_apply p (at q (PlacedNode.int n)) a = refl
bare_contract_apply p (at q (PlacedNode.bool b)) a = refl
bare_contract_apply p (at q (PlacedNode.text t)) a = refl
bare_contract_apply p (at q (PlacedNode.table l)) a = refl
bare_contract_apply p (at q (PlacedNode.unary op t)) a = refl
bare_contract_apply p (at q (PlacedNode.binary op t u)) a = refl
bare_contract_apply p (at q (PlacedNode.choose t u v)) a = refl
bare_contract_apply p (at q (PlacedNode.fun k t)) a = ap Some (bare_subst 0 a t)
bare_contract_apply p (at q (PlacedNode.apply t u)) a = refl
bare_contract_apply p (at q (PlacedNode.rec fs)) a = refl
bare_contract_apply p (at q (PlacedNode.field t l)) a = refl
bare_contract_apply p (at q (PlacedNode.aggregate g t)) a = refl
bare_contract_apply p (at q (PlacedNode.single t)) a = refl
bare_contract_apply p (at q (PlacedNode.nil k)) a = refl
bare_contract_apply p (at q (PlacedNode.union t u)) a = refl
bare_contract_apply p (at q (PlacedNode.for t u)) a = refl
bare_contract_apply p (at q (PlacedNode.guard t u)) a = refl
bare_contract_apply p (at q (PlacedNode.bind t u)) a = refl

pub bare_contract_field : (p : ℕ) (t : PlacedTerm) (l : List ℕ) → option_map bare (contract_field p t l) ≡ contract_tree_field (bare t) l
bare_contract_field p (at q (PlacedNode.var k)) l = refl
bare_contract_field p (at q (PlacedNode.int n)) l = refl
bare_contract_field p (at q (PlacedNode.bool b)) l = refl
bare_contract_field p (at q (PlacedNode.text t)) l = refl
bare_contract_field p (at q (PlacedNode.table m)) l = refl
bare_contract_field p (at q (PlacedNode.unary op t)) l = refl
bare_contract_field p (at q (PlacedNode.binary op t u)) l = refl
bare_contract_field p (at q (PlacedNode.choose t u v)) l = refl
bare_contract_field p (at q (PlacedNode.fun k t)) l = refl
bare_contract_field p (at q (PlacedNode.apply t u)) l = refl
bare_contract_field p (at q (PlacedNode.rec fs)) l = bare_picked l fs
bare_contract_field p (at q (PlacedNode.field t m)) l = refl
bare_contract_field p (at q (PlacedNode.aggregate g t)) l = refl
bare_contract_field p (at q (PlacedNode.single t)) l = refl
bare_contract_field p (at q (PlacedNode.nil k)) l = refl
bare_contract_field p (at q (PlacedNode.union t u)) l = refl
bare_contract_field p (at q (PlacedNode.for t u)) l = refl
bare_contract_field p (at q (PlacedNode.guard t u)) l = refl
bare_contract_field p (at q (PlacedNode.bind t u)) l = refl

mutual
  pub bare_step : (t : PlacedTerm) → option_map bare (step t) ≡ step_tree (bare t)
  bare_step (at p (PlacedNode.var k)) = refl
  bare_step (at p (PlacedNode.int n)) = refl
  bare_step (at p (PlacedNode.bool b)) = refl
  bare_step (at p (PlacedNode.text t)) = refl
  bare_step (at p (PlacedNode.table l)) = refl
  bare_step (at p (PlacedNode.unary op t)) = part_bare bare bare (step t) _ _ _ (bare_step t) (λ y. refl) refl
  bare_step (at p (PlacedNode.binary op t u)) = part_bare bare bare (step t) _ _ _ (bare_step t) (λ y. refl) (part_bare bare bare (step u) _ _ _ (bare_step u) (λ y. refl) refl)
  bare_step (at p (PlacedNode.choose t u v)) = part_bare bare bare (step t) _ _ _ (bare_step t) (λ y. refl) (part_bare bare bare (step u) _ _ _ (bare_step u) (λ y. refl) (part_bare bare bare (step v) _ _ _ (bare_step v) (λ y. refl) refl))
  bare_step (at p (PlacedNode.fun k t)) = part_bare bare bare (step t) _ _ _ (bare_step t) (λ y. refl) refl
  bare_step (at p (PlacedNode.apply t u)) = part_bare bare bare (step t) _ _ _ (bare_step t) (λ y. refl) (part_bare bare bare (step u) _ _ _ (bare_step u) (λ y. refl) (bare_contract_apply p t u))
  bare_step (at p (PlacedNode.rec fs)) = part_bare bare_fields bare (step_fields fs) _ _ _ (bare_step_fields fs) (λ y. refl) refl
  bare_step (at p (PlacedNode.field t l)) = part_bare bare bare (step t) _ _ _ (bare_step t) (λ y. refl) (bare_contract_field p t l)
  bare_step (at p (PlacedNode.aggregate g t)) = part_bare bare bare (step t) _ _ _ (bare_step t) (λ y. refl) refl
  bare_step (at p (PlacedNode.single t)) = part_bare bare bare (step t) _ _ _ (bare_step t) (λ y. refl) refl
  bare_step (at p (PlacedNode.nil k)) = refl
  bare_step (at p (PlacedNode.union t u)) = part_bare bare bare (step t) _ _ _ (bare_step t) (λ y. refl) (part_bare bare bare (step u) _ _ _ (bare_step u) (λ y. refl) refl)
  bare_step (at p (PlacedNode.for t u)) = part_bare bare bare (step t) _ _ _ (bare_step t) (λ y. refl) (part_bare bare bare (step u) _ _ _ (bare_step u) (λ y. refl) refl)
  bare_step (at p (PlacedNode.guard t u)) = part_bare bare bare (step t) _ _ _ (bare_step t) (λ y. refl) (part_bare bare bare (step u) _ _ _ (bare_step u) (λ y. refl) refl)
  bare_step (at p (PlacedNode.bind t u)) = part_bare bare bare (step t) _ _ _ (bare_step t) (λ y. refl) (part_bare bare bare (step u) _ _ _ (bare_step u) (λ y. refl) (ap Some (bare_subst 0 t u)))

  pub bare_step_fields : (fs : PlacedFields) → option_map bare_fields (step_fields fs) ≡ step_tree_fields (bare_fields fs)
  bare_step_fields PlacedFields.none = refl
  bare_step_fields (PlacedFields.with_field l t fs) = part_bare bare bare_fields (step t) _ _ _ (bare_step t) (λ y. refl) (part_bare bare_fields bare_fields (step_fields fs) _ _ _ (bare_step_fields fs) (λ y. refl) refl)

pub bare_steps : {t u : PlacedTerm} → Steps t u → TreeSteps (bare t) (bare u)
bare_steps here = here
bare_steps (after {t} e r) = after (sym (bare_step t) ∙ ap (option_map bare) e) (bare_steps r)

pub bare_unfolds : {t u : PlacedTerm} → Unfolds t u → TreeUnfolds (bare t) (bare u)
bare_unfolds {u = u} r = record { steps = bare_steps r.steps; ended = sym (bare_step u) ∙ ap (option_map bare) r.ended }

none_of : {A B : Type 0} (f : A → B) (o : Option A) → option_map f o ≡ None → o ≡ None
none_of f None e = refl
none_of f (Some x) e = cc

-- where no step goes on from the term without places, none goes on from the term
pub ended_with_places : (t : PlacedTerm) → step_tree (bare t) ≡ None → step t ≡ None
ended_with_places t e = none_of bare (step t) (bare_step t ∙ e)

pub fields_ended_with_places : (fs : PlacedFields) → step_tree_fields (bare_fields fs) ≡ None → step_fields fs ≡ None
fields_ended_with_places fs e = none_of bare_fields (step_fields fs) (bare_step_fields fs ∙ e)

-- steps of a part
mutual
  pub step_around : {f : PlacedTerm → PlacedTerm} (t u : PlacedTerm) → Around f → step t ≡ Some u → step (f t) ≡ Some (f u)
  step_around t u unary_of e = rw e refl
  step_around t u binary_left e = rw e refl
  step_around t u (binary_right d) e = rw (d, e) refl
  step_around t u choose_test e = rw e refl
  step_around t u (choose_yes d) e = rw (d, e) refl
  step_around t u (choose_no d g) e = rw (d, g, e) refl
  step_around t u fun_body e = rw e refl
  step_around t u apply_func e = rw e refl
  step_around t u (apply_arg d) e = rw (d, e) refl
  step_around t u (rec_field h) e = rw (step_around_field t u h e) refl
  step_around t u field_of e = rw e refl
  step_around t u aggregate_of e = rw e refl
  step_around t u single_of e = rw e refl
  step_around t u union_left e = rw e refl
  step_around t u (union_right d) e = rw (d, e) refl
  step_around t u for_source e = rw e refl
  step_around t u (for_body d) e = rw (d, e) refl
  step_around t u guard_test e = rw e refl
  step_around t u (guard_body d) e = rw (d, e) refl
  step_around t u bind_value e = rw e refl
  step_around t u (bind_body d) e = rw (d, e) refl

  step_around_field : {f : PlacedTerm → PlacedFields} (t u : PlacedTerm) → AroundField f → step t ≡ Some u → step_fields (f t) ≡ Some (f u)
  step_around_field t u first_field e = rw e refl
  step_around_field t u (later_field d h) e = rw (d, step_around_field t u h e) refl

pub steps_around : {f : PlacedTerm → PlacedTerm} {t u : PlacedTerm} → Around f → Steps t u → Steps (f t) (f u)
steps_around {f = f} h s = lift step step f (λ x y e. step_around x y h e) s
