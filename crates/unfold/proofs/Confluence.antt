-- Whatever order nodes are contracted in, the terms that come of it meet again.
--
-- The greatest development of a term, to which each of its developments develops, is after Takahashi, "Parallel
-- reductions in lambda-calculus", Information and Computation 1995.
use Rattle.std.proofs.Common.{◌≡◌, ℕ, List, Option, Some, None, refl, sym, ap, ◌∙◌, subst as along}
use Rattle.nq_model.specs.Types.{TypeTree}
use Rattle.nq_model.specs.declared.term.Unary.{Unary}
use Rattle.nq_model.specs.declared.term.Binary.{Binary}
use Rattle.nq_model.specs.Terms.{PlacedTerm, PlacedNode, PlacedFields, at, bare, bare_fields, Aggregate}
use Rattle.nq_model.specs.Substitution.{subst}
use Rattle.nq_model.specs.Unfolding.{contract_apply, contract_field, step, Chain, Steps, Unfolds}
use Rattle.unfold.specs.Contractions.{Closure, Contracts, Contractions}
use Rattle.unfold.proofs.Still.{Still, AreStill}
use Rattle.unfold.proofs.Shifts.{both, all}
use Rattle.unfold.proofs.Developments.{Develops, FieldsDevelop, develops_same, fields_same, develops_subst, apply_develops, field_develops}
use Rattle.unfold.proofs.Closures.{join, around, around_two, around_three}
use Rattle.unfold.proofs.Contractions.{step_contracts, no_apply, no_field, ended_still, contracts_develops, develops_contractions}

abbrev or_else : Option PlacedTerm → PlacedTerm → PlacedTerm
or_else None t = t
or_else (Some u) t = u

-- the greatest development
abbrev mutual
  pub developed : PlacedTerm → PlacedTerm
  developed (at p (PlacedNode.var k)) = at p (PlacedNode.var k)
  developed (at p (PlacedNode.int i)) = at p (PlacedNode.int i)
  developed (at p (PlacedNode.bool b)) = at p (PlacedNode.bool b)
  developed (at p (PlacedNode.text x)) = at p (PlacedNode.text x)
  developed (at p (PlacedNode.table l)) = at p (PlacedNode.table l)
  developed (at p (PlacedNode.unary op t)) = at p (PlacedNode.unary op (developed t))
  developed (at p (PlacedNode.binary op t u)) = at p (PlacedNode.binary op (developed t) (developed u))
  developed (at p (PlacedNode.choose t u v)) = at p (PlacedNode.choose (developed t) (developed u) (developed v))
  developed (at p (PlacedNode.fun a t)) = at p (PlacedNode.fun a (developed t))
  developed (at p (PlacedNode.apply t u)) = or_else (contract_apply p (developed t) (developed u)) (at p (PlacedNode.apply (developed t) (developed u)))
  developed (at p (PlacedNode.rec fs)) = at p (PlacedNode.rec (fields_developed fs))
  developed (at p (PlacedNode.field t l)) = or_else (contract_field p (developed t) l) (at p (PlacedNode.field (developed t) l))
  developed (at p (PlacedNode.aggregate g t)) = at p (PlacedNode.aggregate g (developed t))
  developed (at p (PlacedNode.single t)) = at p (PlacedNode.single (developed t))
  developed (at p (PlacedNode.nil a)) = at p (PlacedNode.nil a)
  developed (at p (PlacedNode.union t u)) = at p (PlacedNode.union (developed t) (developed u))
  developed (at p (PlacedNode.for t u)) = at p (PlacedNode.for (developed t) (developed u))
  developed (at p (PlacedNode.guard t u)) = at p (PlacedNode.guard (developed t) (developed u))
  developed (at p (PlacedNode.bind t u)) = subst 0 (developed t) (developed u)

  pub fields_developed : PlacedFields → PlacedFields
  fields_developed PlacedFields.none = PlacedFields.none
  fields_developed (PlacedFields.with_field l t fs) = PlacedFields.with_field l (developed t) (fields_developed fs)

apply_or_else : {p : ℕ} {t u x y : PlacedTerm} (o : Option PlacedTerm) → contract_apply p x y ≡ o → Develops t x → Develops u y → Develops (at p (PlacedNode.apply t u)) (or_else o (at p (PlacedNode.apply x y)))
apply_or_else None e h k = Develops.apply h k
apply_or_else (Some r) e h k = Develops.apply_contracts h k e

field_or_else : {p : ℕ} {l : List ℕ} {t x : PlacedTerm} (o : Option PlacedTerm) → contract_field p x l ≡ o → Develops t x → Develops (at p (PlacedNode.field t l)) (or_else o (at p (PlacedNode.field x l)))
field_or_else None e h = Develops.field h
field_or_else (Some r) e h = Develops.field_contracts h e

-- each development of a term develops to the greatest one
mutual
  pub develops_on : {t u : PlacedTerm} → Develops t u → Develops u (developed t)
  develops_on Develops.var = Develops.var
  develops_on Develops.int = Develops.int
  develops_on Develops.bool = Develops.bool
  develops_on Develops.text = Develops.text
  develops_on Develops.table = Develops.table
  develops_on (Develops.unary h) = Develops.unary (develops_on h)
  develops_on (Develops.binary h k) = Develops.binary (develops_on h) (develops_on k)
  develops_on (Develops.choose h k g) = Develops.choose (develops_on h) (develops_on k) (develops_on g)
  develops_on (Develops.fun h) = Develops.fun (develops_on h)
  develops_on (Develops.rec h) = Develops.rec (fields_develop_on h)
  develops_on (Develops.aggregate h) = Develops.aggregate (develops_on h)
  develops_on (Develops.single h) = Develops.single (develops_on h)
  develops_on Develops.nil = Develops.nil
  develops_on (Develops.union h k) = Develops.union (develops_on h) (develops_on k)
  develops_on (Develops.for h k) = Develops.for (develops_on h) (develops_on k)
  develops_on (Develops.guard h k) = Develops.guard (develops_on h) (develops_on k)
  develops_on (Develops.apply {p = p} {t = t} {u = u} h k) = apply_or_else (contract_apply p (developed t) (developed u)) refl (develops_on h) (develops_on k)
  develops_on (Develops.field {p = p} {l = l} {t = t} h) = field_or_else (contract_field p (developed t) l) refl (develops_on h)
  develops_on (Develops.bind h k) = Develops.bind_contracts (develops_on h) (develops_on k)
  develops_on (Develops.apply_contracts {p = p} {t = t} {u = u} {r = r} h k e) =
      let w = apply_develops p (develops_on h) (develops_on k) e in
      along (λ o. Develops r (or_else o (at p (PlacedNode.apply (developed t) (developed u))))) (sym w.1) w.2
  develops_on (Develops.field_contracts {p = p} {l = l} {t = t} {r = r} h e) =
      let w = field_develops p l (develops_on h) e in
      along (λ o. Develops r (or_else o (at p (PlacedNode.field (developed t) l)))) (sym w.1) w.2
  develops_on (Develops.bind_contracts h k) = develops_subst (develops_on h) 0 (develops_on k)

  fields_develop_on : {fs gs : PlacedFields} → FieldsDevelop fs gs → FieldsDevelop gs (fields_developed fs)
  fields_develop_on FieldsDevelop.none = FieldsDevelop.none
  fields_develop_on (FieldsDevelop.with_field h k) = FieldsDevelop.with_field (develops_on h) (fields_develop_on k)

-- one development after another
abbrev pub Reduces : PlacedTerm → PlacedTerm → Type 0
Reduces t u = Closure Develops t u

abbrev pub ReduceFields : PlacedFields → PlacedFields → Type 0
ReduceFields fs gs = Closure FieldsDevelop fs gs

pub reduces_here : (t : PlacedTerm) → Reduces t t
reduces_here t = Closure.here

pub reduces_by : {t u : PlacedTerm} → Develops t u → Reduces t u
reduces_by h = Closure.after h Closure.here

pub reduces_join : {t u v : PlacedTerm} → Reduces t u → Reduces u v → Reduces t v
reduces_join r s = join r s

strip : {t u v : PlacedTerm} → Develops t u → Reduces t v → (w : PlacedTerm) × Reduces u w × Develops v w
strip {u = u} h Closure.here = (u, Closure.here, h)
strip {u = u} h (Closure.after g r) =
    let s = strip (develops_on g) r in
    (s.0, Closure.after (develops_on h) s.1, s.2)

pub confluent : {t u v : PlacedTerm} → Reduces t u → Reduces t v → (w : PlacedTerm) × Reduces u w × Reduces v w
confluent {v = v} Closure.here s = (v, s, Closure.here)
confluent (Closure.after h r) s =
    let a = strip h s in
    let b = confluent r a.1 in
    (b.0, b.1, Closure.after a.2 b.2)

-- a term that stands still has no development but itself
mutual
  still_same : {t u : PlacedTerm} → Develops t u → Still (bare t) → u ≡ t
  still_same Develops.var s = refl
  still_same Develops.int s = refl
  still_same Develops.bool s = refl
  still_same Develops.text s = refl
  still_same Develops.table s = refl
  still_same (Develops.unary {p = p} {op = op} h) s = ap (λ x. at p (PlacedNode.unary op x)) (still_same h s)
  still_same (Develops.binary {p = p} {op = op} h k) s = both (λ x y. at p (PlacedNode.binary op x y)) (still_same h s.0) (still_same k s.1)
  still_same (Develops.choose {p = p} h k g) s = all (λ x y z. at p (PlacedNode.choose x y z)) (still_same h s.0) (still_same k s.1) (still_same g s.2)
  still_same (Develops.fun {p = p} {a = a} h) s = ap (λ x. at p (PlacedNode.fun a x)) (still_same h s)
  still_same (Develops.apply {p = p} h k) s = both (λ x y. at p (PlacedNode.apply x y)) (still_same h s.0) (still_same k s.1)
  still_same (Develops.rec {p = p} h) s = ap (λ x. at p (PlacedNode.rec x)) (stills_same h s)
  still_same (Develops.field {p = p} {l = l} h) s = ap (λ x. at p (PlacedNode.field x l)) (still_same h s.0)
  still_same (Develops.aggregate {p = p} {g = g} h) s = ap (λ x. at p (PlacedNode.aggregate g x)) (still_same h s)
  still_same (Develops.single {p = p} h) s = ap (λ x. at p (PlacedNode.single x)) (still_same h s)
  still_same Develops.nil s = refl
  still_same (Develops.union {p = p} h k) s = both (λ x y. at p (PlacedNode.union x y)) (still_same h s.0) (still_same k s.1)
  still_same (Develops.for {p = p} h k) s = both (λ x y. at p (PlacedNode.for x y)) (still_same h s.0) (still_same k s.1)
  still_same (Develops.guard {p = p} h k) s = both (λ x y. at p (PlacedNode.guard x y)) (still_same h s.0) (still_same k s.1)
  still_same (Develops.bind h k) s = absurd s
  still_same (Develops.apply_contracts {p = p} {t = t} {u = u} {x = x} {y = y} {r = r} h k e) s = absurd (no_apply p t u x y r (still_same h s.0) (still_same k s.1) s.2 e)
  still_same (Develops.field_contracts {p = p} {l = l} {t = t} {x = x} {r = r} h e) s = absurd (no_field p l t x r (still_same h s.0) s.1 e)
  still_same (Develops.bind_contracts h k) s = absurd s

  stills_same : {fs gs : PlacedFields} → FieldsDevelop fs gs → AreStill (bare_fields fs) → gs ≡ fs
  stills_same FieldsDevelop.none s = refl
  stills_same (FieldsDevelop.with_field {l = l} h k) s = both (PlacedFields.with_field l) (still_same h s.0) (stills_same k s.1)

pub still_stays : {u w : PlacedTerm} → Still (bare u) → Reduces u w → w ≡ u
still_stays s Closure.here = refl
still_stays {w = w} s (Closure.after {t = t} {u = u} h r) =
    let e = still_same h s in
    still_stays (along (λ z. Still (bare z)) (sym e) s) r ∙ e

-- what stands still at the end is one
pub ends_once : {t u v : PlacedTerm} → Reduces t u → Reduces t v → Still (bare u) → Still (bare v) → u ≡ v
ends_once r s a b =
    let w = confluent r s in
    sym (still_stays a w.1) ∙ still_stays b w.2

-- contracting nodes reduces
pub of_contractions : {t u : PlacedTerm} → Contractions t u → Reduces t u
of_contractions r = around Contracts Develops (λ s. s) (λ s o h. contracts_develops h) r

to_contractions : {t u : PlacedTerm} → Reduces t u → Contractions t u
to_contractions Closure.here = Closure.here
to_contractions (Closure.after h r) = join (develops_contractions h) (to_contractions r)

steps_contractions : {t u : PlacedTerm} → Steps t u → Contractions t u
steps_contractions Chain.here = Closure.here
steps_contractions (Chain.after {t = t} {u = u} e r) = Closure.after (step_contracts t u e) (steps_contractions r)

pub of_steps : {t u : PlacedTerm} → Steps t u → Reduces t u
of_steps r = of_contractions (steps_contractions r)

pub contractions_meet : (t u v : PlacedTerm) → Contractions t u → Contractions t v → (w : PlacedTerm) × Contractions u w × Contractions v w
contractions_meet t u v r s =
    let w = confluent (of_contractions r) (of_contractions s) in
    (w.0, to_contractions w.1, to_contractions w.2)

pub contractions_unfold : (t u v : PlacedTerm) → Unfolds t u → Contractions t v → step v ≡ None → v ≡ u
contractions_unfold t u v r s e = ends_once (of_contractions s) (of_steps r.steps) (ended_still v e) (ended_still u r.ended)

-- reducing the parts of a node
pub reduces_unary : {p : ℕ} {op : Unary} {t x : PlacedTerm} → Reduces t x → Reduces (at p (PlacedNode.unary op t)) (at p (PlacedNode.unary op x))
reduces_unary {p = p} {op = op} r = around Develops Develops (λ i. at p (PlacedNode.unary op i)) (λ s o h. Develops.unary h) r

pub reduces_binary : {p : ℕ} {op : Binary} {t u x y : PlacedTerm} → Reduces t x → Reduces u y → Reduces (at p (PlacedNode.binary op t u)) (at p (PlacedNode.binary op x y))
reduces_binary {p = p} {op = op} r q = around_two Develops Develops Develops (λ i j. at p (PlacedNode.binary op i j)) (λ s o i h. Develops.binary h (develops_same i)) (λ i s o h. Develops.binary (develops_same i) h) r q

pub reduces_choose : {p : ℕ} {t u v x y z : PlacedTerm} → Reduces t x → Reduces u y → Reduces v z → Reduces (at p (PlacedNode.choose t u v)) (at p (PlacedNode.choose x y z))
reduces_choose {p = p} r q w = around_three Develops Develops (λ i j k. at p (PlacedNode.choose i j k)) (λ s o i j h. Develops.choose h (develops_same i) (develops_same j)) (λ i s o j h. Develops.choose (develops_same i) h (develops_same j)) (λ i j s o h. Develops.choose (develops_same i) (develops_same j) h) r q w

pub reduces_fun : {p : ℕ} {a : TypeTree} {t x : PlacedTerm} → Reduces t x → Reduces (at p (PlacedNode.fun a t)) (at p (PlacedNode.fun a x))
reduces_fun {p = p} {a = a} r = around Develops Develops (λ i. at p (PlacedNode.fun a i)) (λ s o h. Develops.fun h) r

pub reduces_apply : {p : ℕ} {t u x y : PlacedTerm} → Reduces t x → Reduces u y → Reduces (at p (PlacedNode.apply t u)) (at p (PlacedNode.apply x y))
reduces_apply {p = p} r q = around_two Develops Develops Develops (λ i j. at p (PlacedNode.apply i j)) (λ s o i h. Develops.apply h (develops_same i)) (λ i s o h. Develops.apply (develops_same i) h) r q

pub reduces_rec : {p : ℕ} {fs gs : PlacedFields} → ReduceFields fs gs → Reduces (at p (PlacedNode.rec fs)) (at p (PlacedNode.rec gs))
reduces_rec {p = p} r = around FieldsDevelop Develops (λ s. at p (PlacedNode.rec s)) (λ s t h. Develops.rec h) r

pub reduces_field : {p : ℕ} {l : List ℕ} {t x : PlacedTerm} → Reduces t x → Reduces (at p (PlacedNode.field t l)) (at p (PlacedNode.field x l))
reduces_field {p = p} {l = l} r = around Develops Develops (λ i. at p (PlacedNode.field i l)) (λ s o h. Develops.field h) r

pub reduces_aggregate : {p : ℕ} {g : Aggregate} {t x : PlacedTerm} → Reduces t x → Reduces (at p (PlacedNode.aggregate g t)) (at p (PlacedNode.aggregate g x))
reduces_aggregate {p = p} {g = g} r = around Develops Develops (λ i. at p (PlacedNode.aggregate g i)) (λ s o h. Develops.aggregate h) r

pub reduces_single : {p : ℕ} {t x : PlacedTerm} → Reduces t x → Reduces (at p (PlacedNode.single t)) (at p (PlacedNode.single x))
reduces_single {p = p} r = around Develops Develops (λ i. at p (PlacedNode.single i)) (λ s o h. Develops.single h) r

pub reduces_union : {p : ℕ} {t u x y : PlacedTerm} → Reduces t x → Reduces u y → Reduces (at p (PlacedNode.union t u)) (at p (PlacedNode.union x y))
reduces_union {p = p} r q = around_two Develops Develops Develops (λ i j. at p (PlacedNode.union i j)) (λ s o i h. Develops.union h (develops_same i)) (λ i s o h. Develops.union (develops_same i) h) r q

pub reduces_for : {p : ℕ} {t u x y : PlacedTerm} → Reduces t x → Reduces u y → Reduces (at p (PlacedNode.for t u)) (at p (PlacedNode.for x y))
reduces_for {p = p} r q = around_two Develops Develops Develops (λ i j. at p (PlacedNode.for i j)) (λ s o i h. Develops.for h (develops_same i)) (λ i s o h. Develops.for (develops_same i) h) r q

pub reduces_guard : {p : ℕ} {t u x y : PlacedTerm} → Reduces t x → Reduces u y → Reduces (at p (PlacedNode.guard t u)) (at p (PlacedNode.guard x y))
reduces_guard {p = p} r q = around_two Develops Develops Develops (λ i j. at p (PlacedNode.guard i j)) (λ s o i h. Develops.guard h (develops_same i)) (λ i s o h. Develops.guard (develops_same i) h) r q

pub reduces_bind : {p : ℕ} {t u x y : PlacedTerm} → Reduces t x → Reduces u y → Reduces (at p (PlacedNode.bind t u)) (at p (PlacedNode.bind x y))
reduces_bind {p = p} r q = around_two Develops Develops Develops (λ i j. at p (PlacedNode.bind i j)) (λ s o i h. Develops.bind h (develops_same i)) (λ i s o h. Develops.bind (develops_same i) h) r q

pub reduce_none : ReduceFields PlacedFields.none PlacedFields.none
reduce_none = Closure.here

pub reduce_with_field : {l : List ℕ} {t x : PlacedTerm} {fs gs : PlacedFields} → Reduces t x → ReduceFields fs gs → ReduceFields (PlacedFields.with_field l t fs) (PlacedFields.with_field l x gs)
reduce_with_field {l = l} r q = around_two Develops FieldsDevelop FieldsDevelop (PlacedFields.with_field l) (λ s o i h. FieldsDevelop.with_field h (fields_same i)) (λ i s o h. FieldsDevelop.with_field (develops_same i) h) r q

-- contracting a node
pub contracts_apply : {p : ℕ} {f a u : PlacedTerm} → contract_apply p f a ≡ Some u → Reduces (at p (PlacedNode.apply f a)) u
contracts_apply {f = f} {a = a} e = reduces_by (Develops.apply_contracts (develops_same f) (develops_same a) e)

pub contracts_bind : {p : ℕ} {s t : PlacedTerm} → Reduces (at p (PlacedNode.bind s t)) (subst 0 s t)
contracts_bind {s = s} {t = t} = reduces_by (Develops.bind_contracts (develops_same s) (develops_same t))

pub contracts_fun : {p q : ℕ} {a : TypeTree} {s t : PlacedTerm} → Reduces (at p (PlacedNode.apply (at q (PlacedNode.fun a t)) s)) (subst 0 s t)
contracts_fun = contracts_apply refl
