-- Contracting one node: each step does it, in a term that stands still none does it, and contracting many nodes at
-- once is contracting one after another.
use Rattle.std.proofs.Common.{◌≡◌, ℕ, List, Option, Some, None, refl, sym, ap, ◌∙◌, subst as along}
use Rattle.std.specs.Prelude.{option_map}
use Rattle.nq_model.specs.declared.term.Binary.{Binary}
use Rattle.nq_model.specs.Terms.{PlacedTerm, PlacedNode, PlacedFields, at, bare, bare_fields}
use Rattle.nq_model.specs.Substitution.{subst}
use Rattle.nq_model.specs.Unfolding.{part, contract_apply, contract_field, contract_tree_apply, contract_tree_field, step, step_fields}
use Rattle.nq_model.proofs.Unfolding.{bare_step, bare_contract_apply, bare_contract_field}
use Rattle.unfold.specs.Contractions.{contracted, Contracts, ContractsField, Closure, Contractions}
use Rattle.unfold.proofs.Still.{Still, AreStill, still_of}
use Rattle.unfold.proofs.Shifts.{both}
use Rattle.unfold.proofs.Developments.{Develops, FieldsDevelop, develops_same, fields_same}
use Rattle.unfold.proofs.Closures.{join, around, around_two, around_three}

-- each step contracts a node
part_case : {A B : Type 0} (o : Option A) (f : A → B) (rest : Option B) (r : B) (P : B → Type 0) → ((x : A) → o ≡ Some x → P (f x)) → (rest ≡ Some r → P r) → part o f rest ≡ Some r → P r
part_case None f rest r P h k e = k e
part_case (Some x) f rest r P h k e =
    let w : f x ≡ r = cc in
    along P w (h x refl)

mutual
  pub step_contracts : (t r : PlacedTerm) → step t ≡ Some r → Contracts t r
  step_contracts (at p (PlacedNode.var k)) r e = cc
  step_contracts (at p (PlacedNode.int i)) r e = cc
  step_contracts (at p (PlacedNode.bool b)) r e = cc
  step_contracts (at p (PlacedNode.text x)) r e = cc
  step_contracts (at p (PlacedNode.table l)) r e = cc
  step_contracts (at p (PlacedNode.unary op t)) r e = part_case (step t) _ _ r (Contracts (at p (PlacedNode.unary op t))) (λ x e. Contracts.unary (step_contracts t x e)) (λ i. cc) e
  step_contracts (at p (PlacedNode.binary op t u)) r e = part_case (step t) _ _ r (Contracts (at p (PlacedNode.binary op t u))) (λ x e. Contracts.binary_left (step_contracts t x e)) (λ i. part_case (step u) _ _ r (Contracts (at p (PlacedNode.binary op t u))) (λ x e. Contracts.binary_right (step_contracts u x e)) (λ i. cc) i) e
  step_contracts (at p (PlacedNode.choose t u v)) r e = part_case (step t) _ _ r (Contracts (at p (PlacedNode.choose t u v))) (λ x e. Contracts.choose_test (step_contracts t x e)) (λ i. part_case (step u) _ _ r (Contracts (at p (PlacedNode.choose t u v))) (λ x e. Contracts.choose_yes (step_contracts u x e)) (λ i. part_case (step v) _ _ r (Contracts (at p (PlacedNode.choose t u v))) (λ x e. Contracts.choose_no (step_contracts v x e)) (λ i. cc) i) i) e
  step_contracts (at p (PlacedNode.fun a t)) r e = part_case (step t) _ _ r (Contracts (at p (PlacedNode.fun a t))) (λ x e. Contracts.fun_body (step_contracts t x e)) (λ i. cc) e
  step_contracts (at p (PlacedNode.apply t u)) r e = part_case (step t) _ _ r (Contracts (at p (PlacedNode.apply t u))) (λ x e. Contracts.apply_func (step_contracts t x e)) (λ i. part_case (step u) _ _ r (Contracts (at p (PlacedNode.apply t u))) (λ x e. Contracts.apply_arg (step_contracts u x e)) (λ i. Contracts.whole i) i) e
  step_contracts (at p (PlacedNode.rec fs)) r e = part_case (step_fields fs) _ _ r (Contracts (at p (PlacedNode.rec fs))) (λ x e. Contracts.rec_field (step_fields_contract fs x e)) (λ i. cc) e
  step_contracts (at p (PlacedNode.field t l)) r e = part_case (step t) _ _ r (Contracts (at p (PlacedNode.field t l))) (λ x e. Contracts.field_of (step_contracts t x e)) (λ i. Contracts.whole i) e
  step_contracts (at p (PlacedNode.aggregate g t)) r e = part_case (step t) _ _ r (Contracts (at p (PlacedNode.aggregate g t))) (λ x e. Contracts.aggregate_of (step_contracts t x e)) (λ i. cc) e
  step_contracts (at p (PlacedNode.single t)) r e = part_case (step t) _ _ r (Contracts (at p (PlacedNode.single t))) (λ x e. Contracts.single_of (step_contracts t x e)) (λ i. cc) e
  step_contracts (at p (PlacedNode.nil a)) r e = cc
  step_contracts (at p (PlacedNode.union t u)) r e = part_case (step t) _ _ r (Contracts (at p (PlacedNode.union t u))) (λ x e. Contracts.union_left (step_contracts t x e)) (λ i. part_case (step u) _ _ r (Contracts (at p (PlacedNode.union t u))) (λ x e. Contracts.union_right (step_contracts u x e)) (λ i. cc) i) e
  step_contracts (at p (PlacedNode.for t u)) r e = part_case (step t) _ _ r (Contracts (at p (PlacedNode.for t u))) (λ x e. Contracts.for_source (step_contracts t x e)) (λ i. part_case (step u) _ _ r (Contracts (at p (PlacedNode.for t u))) (λ x e. Contracts.for_body (step_contracts u x e)) (λ i. cc) i) e
  step_contracts (at p (PlacedNode.guard t u)) r e = part_case (step t) _ _ r (Contracts (at p (PlacedNode.guard t u))) (λ x e. Contracts.guard_test (step_contracts t x e)) (λ i. part_case (step u) _ _ r (Contracts (at p (PlacedNode.guard t u))) (λ x e. Contracts.guard_body (step_contracts u x e)) (λ i. cc) i) e
  step_contracts (at p (PlacedNode.bind t u)) r e = part_case (step t) _ _ r (Contracts (at p (PlacedNode.bind t u))) (λ x e. Contracts.bind_value (step_contracts t x e)) (λ i. part_case (step u) _ _ r (Contracts (at p (PlacedNode.bind t u))) (λ x e. Contracts.bind_body (step_contracts u x e)) (λ i. Contracts.whole i) i) e

  step_fields_contract : (fs gs : PlacedFields) → step_fields fs ≡ Some gs → ContractsField fs gs
  step_fields_contract PlacedFields.none gs e = cc
  step_fields_contract (PlacedFields.with_field l t fs) gs e = part_case (step t) _ _ gs (ContractsField (PlacedFields.with_field l t fs)) (λ x e. ContractsField.first_field (step_contracts t x e)) (λ i. part_case (step_fields fs) _ _ gs (ContractsField (PlacedFields.with_field l t fs)) (λ x e. ContractsField.later_field (step_fields_contract fs x e)) (λ i. cc) i) e

-- no node is contractible in a term that stands still
pub no_apply : (p : ℕ) (t u x y r : PlacedTerm) → x ≡ t → y ≡ u → contract_tree_apply (bare t) (bare u) ≡ None → contract_apply p x y ≡ Some r → ⊥
no_apply p t u x y r h k n e =
    let i : Some (bare r) ≡ None = sym (ap (option_map bare) e) ∙ both (λ a b. option_map bare (contract_apply p a b)) h k ∙ bare_contract_apply p t u ∙ n in
    cc

pub no_field : (p : ℕ) (l : List ℕ) (t x r : PlacedTerm) → x ≡ t → contract_tree_field (bare t) l ≡ None → contract_field p x l ≡ Some r → ⊥
no_field p l t x r h n e =
    let i : Some (bare r) ≡ None = sym (ap (option_map bare) e) ∙ ap (λ a. option_map bare (contract_field p a l)) h ∙ bare_contract_field p t l ∙ n in
    cc

whole_still : (t u : PlacedTerm) → contracted t ≡ Some u → Still (bare t) → ⊥
whole_still (at p (PlacedNode.apply f a)) u e s = no_apply p f a f a u refl refl s.2 e
whole_still (at p (PlacedNode.field t l)) u e s = no_field p l t t u refl s.1 e
whole_still (at p (PlacedNode.bind t u)) r e s = s
whole_still _ u e s = cc

mutual
  contracts_still : {t u : PlacedTerm} → Contracts t u → Still (bare t) → ⊥
  contracts_still (Contracts.whole {t = t} {u = u} e) s = whole_still t u e s
  contracts_still (Contracts.unary h) s = contracts_still h s
  contracts_still (Contracts.binary_left h) s = contracts_still h s.0
  contracts_still (Contracts.binary_right h) s = contracts_still h s.1
  contracts_still (Contracts.choose_test h) s = contracts_still h s.0
  contracts_still (Contracts.choose_yes h) s = contracts_still h s.1
  contracts_still (Contracts.choose_no h) s = contracts_still h s.2
  contracts_still (Contracts.fun_body h) s = contracts_still h s
  contracts_still (Contracts.apply_func h) s = contracts_still h s.0
  contracts_still (Contracts.apply_arg h) s = contracts_still h s.1
  contracts_still (Contracts.rec_field h) s = field_contracts_still h s
  contracts_still (Contracts.field_of h) s = contracts_still h s.0
  contracts_still (Contracts.aggregate_of h) s = contracts_still h s
  contracts_still (Contracts.single_of h) s = contracts_still h s
  contracts_still (Contracts.union_left h) s = contracts_still h s.0
  contracts_still (Contracts.union_right h) s = contracts_still h s.1
  contracts_still (Contracts.for_source h) s = contracts_still h s.0
  contracts_still (Contracts.for_body h) s = contracts_still h s.1
  contracts_still (Contracts.guard_test h) s = contracts_still h s.0
  contracts_still (Contracts.guard_body h) s = contracts_still h s.1
  contracts_still (Contracts.bind_value h) s = s
  contracts_still (Contracts.bind_body h) s = s

  field_contracts_still : {fs gs : PlacedFields} → ContractsField fs gs → AreStill (bare_fields fs) → ⊥
  field_contracts_still (ContractsField.first_field h) s = contracts_still h s.0
  field_contracts_still (ContractsField.later_field h) s = field_contracts_still h s.1

pub ended_still : (t : PlacedTerm) → step t ≡ None → Still (bare t)
ended_still t e = still_of (bare t) (sym (bare_step t) ∙ ap (option_map bare) e)

pub ended_contracts : (t u : PlacedTerm) → step t ≡ None → Contracts t u → ⊥
ended_contracts t u e h = contracts_still h (ended_still t e)

-- contracting one node is a development
bind_develops : (p : ℕ) (t u r : PlacedTerm) → Some (subst 0 t u) ≡ Some r → Develops (at p (PlacedNode.bind t u)) r
bind_develops p t u r e =
    let w : subst 0 t u ≡ r = cc in
    along (Develops (at p (PlacedNode.bind t u))) w (Develops.bind_contracts (develops_same t) (develops_same u))

whole_develops : (t u : PlacedTerm) → contracted t ≡ Some u → Develops t u
whole_develops (at p (PlacedNode.apply f a)) u e = Develops.apply_contracts (develops_same f) (develops_same a) e
whole_develops (at p (PlacedNode.field t l)) u e = Develops.field_contracts (develops_same t) e
whole_develops (at p (PlacedNode.bind t u)) r e = bind_develops p t u r e
whole_develops _ u e = cc

mutual
  pub contracts_develops : {t u : PlacedTerm} → Contracts t u → Develops t u
  contracts_develops (Contracts.whole {t = t} {u = u} e) = whole_develops t u e
  contracts_develops (Contracts.unary h) = Develops.unary (contracts_develops h)
  contracts_develops (Contracts.binary_left {v = v} h) = Develops.binary (contracts_develops h) (develops_same v)
  contracts_develops (Contracts.binary_right {v = v} h) = Develops.binary (develops_same v) (contracts_develops h)
  contracts_develops (Contracts.choose_test {v = v} {w = w} h) = Develops.choose (contracts_develops h) (develops_same v) (develops_same w)
  contracts_develops (Contracts.choose_yes {v = v} {w = w} h) = Develops.choose (develops_same v) (contracts_develops h) (develops_same w)
  contracts_develops (Contracts.choose_no {v = v} {w = w} h) = Develops.choose (develops_same v) (develops_same w) (contracts_develops h)
  contracts_develops (Contracts.fun_body h) = Develops.fun (contracts_develops h)
  contracts_develops (Contracts.apply_func {v = v} h) = Develops.apply (contracts_develops h) (develops_same v)
  contracts_develops (Contracts.apply_arg {v = v} h) = Develops.apply (develops_same v) (contracts_develops h)
  contracts_develops (Contracts.rec_field h) = Develops.rec (field_contracts_develops h)
  contracts_develops (Contracts.field_of h) = Develops.field (contracts_develops h)
  contracts_develops (Contracts.aggregate_of h) = Develops.aggregate (contracts_develops h)
  contracts_develops (Contracts.single_of h) = Develops.single (contracts_develops h)
  contracts_develops (Contracts.union_left {v = v} h) = Develops.union (contracts_develops h) (develops_same v)
  contracts_develops (Contracts.union_right {v = v} h) = Develops.union (develops_same v) (contracts_develops h)
  contracts_develops (Contracts.for_source {v = v} h) = Develops.for (contracts_develops h) (develops_same v)
  contracts_develops (Contracts.for_body {v = v} h) = Develops.for (develops_same v) (contracts_develops h)
  contracts_develops (Contracts.guard_test {v = v} h) = Develops.guard (contracts_develops h) (develops_same v)
  contracts_develops (Contracts.guard_body {v = v} h) = Develops.guard (develops_same v) (contracts_develops h)
  contracts_develops (Contracts.bind_value {v = v} h) = Develops.bind (contracts_develops h) (develops_same v)
  contracts_develops (Contracts.bind_body {v = v} h) = Develops.bind (develops_same v) (contracts_develops h)

  field_contracts_develops : {fs gs : PlacedFields} → ContractsField fs gs → FieldsDevelop fs gs
  field_contracts_develops (ContractsField.first_field {fs = fs} h) = FieldsDevelop.with_field (contracts_develops h) (fields_same fs)
  field_contracts_develops (ContractsField.later_field {t = t} h) = FieldsDevelop.with_field (develops_same t) (field_contracts_develops h)

-- a development is contracting one node after another
pub then : {t u v : PlacedTerm} → Contractions t u → contracted u ≡ Some v → Contractions t v
then r e = join r (Closure.after (Contracts.whole e) Closure.here)

contractions_binary : (p : ℕ) (op : Binary) {t u x y : PlacedTerm} → Contractions t x → Contractions u y → Contractions (at p (PlacedNode.binary op t u)) (at p (PlacedNode.binary op x y))
contractions_binary p op r q = around_two Contracts Contracts Contracts (λ i j. at p (PlacedNode.binary op i j)) (λ s i j h. Contracts.binary_left h) (λ s i j h. Contracts.binary_right h) r q

contractions_choose : (p : ℕ) {t u v x y z : PlacedTerm} → Contractions t x → Contractions u y → Contractions v z → Contractions (at p (PlacedNode.choose t u v)) (at p (PlacedNode.choose x y z))
contractions_choose p r q w = around_three Contracts Contracts (λ i j k. at p (PlacedNode.choose i j k)) (λ s i j k h. Contracts.choose_test h) (λ s i j k h. Contracts.choose_yes h) (λ s i j k h. Contracts.choose_no h) r q w

contractions_apply : (p : ℕ) {t u x y : PlacedTerm} → Contractions t x → Contractions u y → Contractions (at p (PlacedNode.apply t u)) (at p (PlacedNode.apply x y))
contractions_apply p r q = around_two Contracts Contracts Contracts (λ i j. at p (PlacedNode.apply i j)) (λ s i j h. Contracts.apply_func h) (λ s i j h. Contracts.apply_arg h) r q

contractions_union : (p : ℕ) {t u x y : PlacedTerm} → Contractions t x → Contractions u y → Contractions (at p (PlacedNode.union t u)) (at p (PlacedNode.union x y))
contractions_union p r q = around_two Contracts Contracts Contracts (λ i j. at p (PlacedNode.union i j)) (λ s i j h. Contracts.union_left h) (λ s i j h. Contracts.union_right h) r q

contractions_for : (p : ℕ) {t u x y : PlacedTerm} → Contractions t x → Contractions u y → Contractions (at p (PlacedNode.for t u)) (at p (PlacedNode.for x y))
contractions_for p r q = around_two Contracts Contracts Contracts (λ i j. at p (PlacedNode.for i j)) (λ s i j h. Contracts.for_source h) (λ s i j h. Contracts.for_body h) r q

contractions_guard : (p : ℕ) {t u x y : PlacedTerm} → Contractions t x → Contractions u y → Contractions (at p (PlacedNode.guard t u)) (at p (PlacedNode.guard x y))
contractions_guard p r q = around_two Contracts Contracts Contracts (λ i j. at p (PlacedNode.guard i j)) (λ s i j h. Contracts.guard_test h) (λ s i j h. Contracts.guard_body h) r q

contractions_bind : (p : ℕ) {t u x y : PlacedTerm} → Contractions t x → Contractions u y → Contractions (at p (PlacedNode.bind t u)) (at p (PlacedNode.bind x y))
contractions_bind p r q = around_two Contracts Contracts Contracts (λ i j. at p (PlacedNode.bind i j)) (λ s i j h. Contracts.bind_value h) (λ s i j h. Contracts.bind_body h) r q

mutual
  pub develops_contractions : {t u : PlacedTerm} → Develops t u → Contractions t u
  develops_contractions Develops.var = Closure.here
  develops_contractions Develops.int = Closure.here
  develops_contractions Develops.bool = Closure.here
  develops_contractions Develops.text = Closure.here
  develops_contractions Develops.table = Closure.here
  develops_contractions (Develops.unary {p = p} {op = op} h) = around Contracts Contracts (λ s. at p (PlacedNode.unary op s)) (λ s o k. Contracts.unary k) (develops_contractions h)
  develops_contractions (Develops.binary {p = p} {op = op} h k) = contractions_binary p op (develops_contractions h) (develops_contractions k)
  develops_contractions (Develops.choose {p = p} h k g) = contractions_choose p (develops_contractions h) (develops_contractions k) (develops_contractions g)
  develops_contractions (Develops.fun {p = p} {a = a} h) = around Contracts Contracts (λ s. at p (PlacedNode.fun a s)) (λ s o k. Contracts.fun_body k) (develops_contractions h)
  develops_contractions (Develops.apply {p = p} h k) = contractions_apply p (develops_contractions h) (develops_contractions k)
  develops_contractions (Develops.rec {p = p} h) = around ContractsField Contracts (λ s. at p (PlacedNode.rec s)) (λ s o k. Contracts.rec_field k) (fields_contractions h)
  develops_contractions (Develops.field {p = p} {l = l} h) = around Contracts Contracts (λ s. at p (PlacedNode.field s l)) (λ s o k. Contracts.field_of k) (develops_contractions h)
  develops_contractions (Develops.aggregate {p = p} {g = g} h) = around Contracts Contracts (λ s. at p (PlacedNode.aggregate g s)) (λ s o k. Contracts.aggregate_of k) (develops_contractions h)
  develops_contractions (Develops.single {p = p} h) = around Contracts Contracts (λ s. at p (PlacedNode.single s)) (λ s o k. Contracts.single_of k) (develops_contractions h)
  develops_contractions Develops.nil = Closure.here
  develops_contractions (Develops.union {p = p} h k) = contractions_union p (develops_contractions h) (develops_contractions k)
  develops_contractions (Develops.for {p = p} h k) = contractions_for p (develops_contractions h) (develops_contractions k)
  develops_contractions (Develops.guard {p = p} h k) = contractions_guard p (develops_contractions h) (develops_contractions k)
  develops_contractions (Develops.bind {p = p} h k) = contractions_bind p (develops_contractions h) (develops_contractions k)
  develops_contractions (Develops.apply_contracts {p = p} h k e) = then (contractions_apply p (develops_contractions h) (develops_contractions k)) e
  develops_contractions (Develops.field_contracts {p = p} {l = l} h e) = then (around Contracts Contracts (λ s. at p (PlacedNode.field s l)) (λ s o k. Contracts.field_of k) (develops_contractions h)) e
  develops_contractions (Develops.bind_contracts {p = p} h k) = then (contractions_bind p (develops_contractions h) (develops_contractions k)) refl

  fields_contractions : {fs gs : PlacedFields} → FieldsDevelop fs gs → Closure ContractsField fs gs
  fields_contractions FieldsDevelop.none = Closure.here
  fields_contractions (FieldsDevelop.with_field {l = l} h k) = around_two Contracts ContractsField ContractsField (PlacedFields.with_field l) (λ s o i h. ContractsField.first_field h) (λ s i o h. ContractsField.later_field h) (develops_contractions h) (fields_contractions k)
