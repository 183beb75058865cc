-- What any such machine answers is what the definitions say.
use Rattle.std.proofs.Common.{◌≡◌, ℕ, Bool, true, false, cond, List, [], ◌∷◌, ◌++◌, refl, sym, ◌∙◌, ap, subst, append_assoc, Option, Some, None, ◌⊎◌, inl, inr}
use Rattle.nq_model.specs.OpenLists.{Fault, Unexpected, Deep, IsOpen, FaultFits, IsFaultAt}
use Rattle.nq_model.specs.Machines.{Outcome, Reached, Faulty, turn, run}

pub data Found {State : Type 0} (o : Option State) : Type 0 where
  Nothing : o ≡ None → Found o
  Something : (st : State) → o ≡ Some st → Found o

pub found : {State : Type 0} (o : Option State) → Found o
found None = Nothing refl
found (Some st) = Something st refl

pub data Truth (b : Bool) : Type 0 where
  Yes : b ≡ true → Truth b
  No : b ≡ false → Truth b

pub truth : (b : Bool) → Truth b
truth true = Yes refl
truth false = No refl

pub some_same : {State : Type 0} (a b : State) → Some a ≡ Some b → a ≡ b
some_same a b e = cc

-- what is known of a machine
pub record Laws (Token State : Type 0) (P : ℕ → List Token → Type 0) (step : State → Token → Option State) (fits : ℕ → State → Bool) (start : State)
    (read : State → List Token → List Token) (IsGood : State → Type 0) : Type 1 where
  pub begins : IsGood start
  pub nothing : (x : List Token) → read start x ≡ x
  pub takes : (st : State) (t : Token) (st' : State) → IsGood st → step st t ≡ Some st' → IsGood st' × ((x : List Token) → read st' x ≡ read st (t ∷ x))
  pub fills : (st : State) (d : ℕ) → IsGood st → fits d st ≡ true → (rest : List Token) × P d (read st rest)
  pub some_depth : (st : State) → (d : ℕ) × (fits d st ≡ true)
  pub accepts : (d : ℕ) (ts : List Token) → P d ts → (st : State) × (run Token State step fits d ts start ≡ Reached st)

module _ (Token State : Type 0) (P : ℕ → List Token → Type 0) (step : State → Token → Option State) (fits : ℕ → State → Bool) (start : State)
    (read : State → List Token → List Token) (IsGood : State → Type 0) (laws : Laws Token State P step fits start read IsGood) where
  abbrev go : ℕ → List Token → State → Outcome Token State
  go d ts st = run Token State step fits d ts st

  -- The first step of a run.
  pub run_none : (d : ℕ) (t : Token) (ts : List Token) (st : State) → step st t ≡ None → go d (t ∷ ts) st ≡ Faulty t Unexpected
  run_none d t ts st e = ap (λ o. turn Token State step fits d t o (run Token State step fits d ts)) e

  pub run_deep : (d : ℕ) (t : Token) (ts : List Token) (st st' : State) → step st t ≡ Some st' → fits d st' ≡ false → go d (t ∷ ts) st ≡ Faulty t Deep
  run_deep d t ts st st' e f = ap (λ o. turn Token State step fits d t o (run Token State step fits d ts)) e ∙ ap (λ b. cond b (go d ts st') (Faulty t Deep)) f

  pub run_on : (d : ℕ) (t : Token) (ts : List Token) (st st' : State) → step st t ≡ Some st' → fits d st' ≡ true → go d (t ∷ ts) st ≡ go d ts st'
  run_on d t ts st st' e f = ap (λ o. turn Token State step fits d t o (run Token State step fits d ts)) e ∙ ap (λ b. cond b (go d ts st') (Faulty t Deep)) f

  pub record Stepped (d : ℕ) (t : Token) (ts : List Token) (st r : State) : Type 0 where
    pub to : State
    pub by : step st t ≡ Some to
    pub fine : fits d to ≡ true
    pub rest : go d ts to ≡ Reached r

  pub stepped : (d : ℕ) (t : Token) (ts : List Token) (st r : State) → go d (t ∷ ts) st ≡ Reached r → Stepped d t ts st r
  stepped d t ts st r e = go (found (step st t))
    where
      go_fits : (st' : State) → step st t ≡ Some st' → Truth (fits d st') → Stepped d t ts st r
      go_fits st' s (Yes f) = record { to = st'; by = s; fine = f; rest = sym (run_on d t ts st st' s f) ∙ e }
      go_fits st' s (No f) = let x = run_deep d t ts st st' s f in absurd (cc)

      go : Found (step st t) → Stepped d t ts st r
      go (Nothing s) = let x = run_none d t ts st s in absurd (cc)
      go (Something st' s) = go_fits st' s (truth (fits d st'))

  pub record Stands (us : List Token) (from st : State) : Type 0 where
    pub good : IsGood st
    pub same : (x : List Token) → read st x ≡ read from (us ++ x)

  pub reached : (us : List Token) (d : ℕ) (from st : State) → go d us from ≡ Reached st → IsGood from → Stands us from st
  reached [] d from st e g =
      let e' : from ≡ st = cc in
      subst (λ z. Stands [] from z) e' (record { good = g; same = λ x. refl })
  reached (t ∷ us) d from st e g =
      let s = stepped d t us from st e in
      let h = laws.takes from t s.to g s.by in
      let r = reached us d s.to st s.rest h.0 in
      record { good = r.good; same = λ x. r.same x ∙ h.1 (us ++ x) }

  pub keeps : (us : List Token) (d : ℕ) (from st : State) → go d us from ≡ Reached st → (us ≡ []) ⊎ (fits d st ≡ true)
  keeps [] d from st e = inl refl
  keeps (t ∷ us) d from st e =
      let s = stepped d t us from st e in
      elim (keeps us d s.to st s.rest) [
        | inl n ↦ inr (let h : go d us s.to ≡ Reached st = s.rest in
            let i : go d [] s.to ≡ Reached st = subst (λ z. go d z s.to ≡ Reached st) n h in
            let j : s.to ≡ st = cc in
            subst (λ z. fits d z ≡ true) j s.fine)
        | inr w ↦ inr w
      ]

  -- A run that reaches the end goes through the states that any other run went through.
  pub along : (us : List Token) (d d' : ℕ) (ys : List Token) (from st r : State) → go d us from ≡ Reached st → go d' (us ++ ys) from ≡ Reached r → go d' ys st ≡ Reached r
  along [] d d' ys from st r e h = let e' : from ≡ st = cc in subst (λ z. go d' ys z ≡ Reached r) e' h
  along (t ∷ us) d d' ys from st r e h =
      let s = stepped d t us from st e in
      let s' = stepped d' t (us ++ ys) from r h in
      let same : s'.to ≡ s.to = some_same s'.to s.to (sym s'.by ∙ s.by) in
      along us d d' ys s.to st r s.rest (subst (λ z. go d' (us ++ ys) z ≡ Reached r) same s'.rest)

  pub opens : (st : State) (d : ℕ) (us : List Token) → IsGood st → ((x : List Token) → read st x ≡ us ++ x) → fits d st ≡ true → IsOpen Token P d us
  opens st d us g e w = let f = laws.fills st d g w in (f.0, subst (λ z. P d z) (e f.0) f.1)

  pub not_open : (d d' : ℕ) (us : List Token) (t : Token) (st : State) → go d us start ≡ Reached st → IsOpen Token P d' (us ++ t ∷ []) → (ys : List Token) × (r : State) × (go d' (t ∷ ys) st ≡ Reached r)
  not_open d d' us t st e (ys, p) =
      let a = laws.accepts d' ((us ++ t ∷ []) ++ ys) p in
      let b : go d' (us ++ (t ∷ ys)) start ≡ Reached a.0 = ap (λ z. go d' z start) (sym (append_assoc us (t ∷ []) ys)) ∙ a.1 in
      (ys, a.0, along us d d' (t ∷ ys) start st a.0 e b)

  pub record Splits (d : ℕ) (ts : List Token) (from : State) (t : Token) (f : Fault) : Type 0 where
    pub before : List Token
    pub behind : List Token
    pub whole : ts ≡ before ++ t ∷ behind
    pub state : State
    pub run_to : go d before from ≡ Reached state
    pub here : (ys : List Token) → go d (t ∷ ys) state ≡ Faulty t f

  pub splits : (ts : List Token) (d : ℕ) (from : State) (t : Token) (f : Fault) → go d ts from ≡ Faulty t f → Splits d ts from t f
  splits [] d from t f e = absurd (cc)
  splits (u ∷ ts) d from t f e = pick (found (step from u)) (splits ts d)
    where
      Rec : Type 0
      Rec = (from' : State) (t' : Token) (f' : Fault) → go d ts from' ≡ Faulty t' f' → Splits d ts from' t' f'

      same_token : (a b : Token) (x y : Fault) → ◌≡◌ {A = Outcome Token State} (Faulty a x) (Faulty b y) → a ≡ b
      same_token a b x y h = cc

      same_fault : (a b : Token) (x y : Fault) → ◌≡◌ {A = Outcome Token State} (Faulty a x) (Faulty b y) → x ≡ y
      same_fault a b x y h = cc

      at_once : (f' : Fault) → ((ys : List Token) → go d (u ∷ ys) from ≡ Faulty u f') → Splits d (u ∷ ts) from t f
      at_once f' h =
          let x : Faulty u f' ≡ Faulty t f = sym (h ts) ∙ e in
          subst (λ z. Splits d (u ∷ ts) from z f) (same_token u t f' f x)
          (subst (λ z. Splits d (u ∷ ts) from u z) (same_fault u t f' f x)
          (record { before = []; behind = ts; whole = refl; state = from; run_to = refl; here = h }))

      go_fits : (st : State) → step from u ≡ Some st → Truth (fits d st) → Rec → Splits d (u ∷ ts) from t f
      go_fits st s (Yes y) rec =
          let r = rec st t f (sym (run_on d u ts from st s y) ∙ e) in
          record { before = u ∷ r.before; behind = r.behind; whole = ap (λ z. u ∷ z) r.whole; state = r.state; run_to = run_on d u r.before from st s y ∙ r.run_to; here = r.here }
      go_fits st s (No n) rec = at_once Deep (λ ys. run_deep d u ys from st s n)

      pick : Found (step from u) → Rec → Splits d (u ∷ ts) from t f
      pick (Nothing n) rec = at_once Unexpected (λ ys. run_none d u ys from n)
      pick (Something st s) rec = go_fits st s (truth (fits d st)) rec

  -- why a run stops at a token
  pub data Why (d : ℕ) (st : State) (t : Token) : Fault → Type 0 where
    No_step : step st t ≡ None → Why d st t Unexpected
    Too_deep : (st' : State) → step st t ≡ Some st' → fits d st' ≡ false → Why d st t Deep

  pub why : (d : ℕ) (st : State) (t : Token) (f : Fault) → ((ys : List Token) → go d (t ∷ ys) st ≡ Faulty t f) → Why d st t f
  why d st t f h = pick (found (step st t))
    where
      same_fault : (x y : Fault) → ◌≡◌ {A = Outcome Token State} (Faulty t x) (Faulty t y) → x ≡ y
      same_fault x y e = cc

      go_fits : (st' : State) → step st t ≡ Some st' → Truth (fits d st') → Why d st t f
      go_fits st' s (Yes y) = let a = run_on d t [] st st' s y in let b = h [] in absurd (cc)
      go_fits st' s (No n) = subst (λ z. Why d st t z) (same_fault Deep f (sym (run_deep d t [] st st' s n) ∙ h [])) (Too_deep st' s n)

      pick : Found (step st t) → Why d st t f
      pick (Nothing n) = subst (λ z. Why d st t z) (same_fault Unexpected f (sym (run_none d t [] st n) ∙ h [])) (No_step n)
      pick (Something st' s) = go_fits st' s (truth (fits d st'))

  pub refuted : (d : ℕ) (us : List Token) (t : Token) (st : State) (f : Fault) → go d us start ≡ Reached st → ((ys : List Token) → go d (t ∷ ys) st ≡ Faulty t f) → IsOpen Token P d (us ++ t ∷ []) → ⊥
  refuted d us t st f e h p = let r = not_open d d us t st e p in let a = r.2 in let b = h r.0 in cc

  pub kind_exact : (d : ℕ) (us : List Token) (t : Token) (st : State) (f : Fault) → Stands us start st → go d us start ≡ Reached st → Why d st t f → FaultFits Token P f (us ++ t ∷ [])
  kind_exact d us t st f s e (No_step n) = λ p. let r = not_open d p.0 us t st e p.1 in let a = r.2 in let b = run_none p.0 t r.0 st n in cc
  kind_exact d us t st f s e (Too_deep st' y n) =
      let g = laws.takes st t st' s.good y in
      let d' = laws.some_depth st' in
      (d'.0, opens st' d'.0 (us ++ t ∷ []) g.0 (λ x. g.1 x ∙ s.same (t ∷ x) ∙ laws.nothing (us ++ t ∷ x) ∙ sym (append_assoc us (t ∷ []) x)) d'.1)

  -- The answer of the machine is the fault that the definitions give.
  pub fault_exact : (d : ℕ) (ts : List Token) (t : Token) (f : Fault) → go d ts start ≡ Faulty t f
      → (us : List Token) × (rest : List Token) × (ts ≡ us ++ t ∷ rest) × IsFaultAt Token P d us t f
  fault_exact d ts t f e =
      let s = splits ts d start t f e in
      let r = reached s.before d start s.state s.run_to laws.begins in
      let o : (s.before ≡ []) ⊎ IsOpen Token P d s.before = elim (keeps s.before d start s.state s.run_to) [
        | inl n ↦ inl n
        | inr w ↦ inr (opens s.state d s.before r.good (λ x. r.same x ∙ laws.nothing (s.before ++ x)) w)
      ] in
      (s.before, s.behind, s.whole, (o, refuted d s.before t s.state f s.run_to s.here, kind_exact d s.before t s.state f r s.run_to (why d s.state t f s.here)))

module _ (Token : Type 0) (P : ℕ → List Token → Type 0) where
  -- A part of what is open is open.
  pub front_open : (d : ℕ) (us vs : List Token) → IsOpen Token P d (us ++ vs) → IsOpen Token P d us
  front_open d us vs (ys, p) = (vs ++ ys, subst (λ z. P d z) (append_assoc us vs ys) p)

  -- Two splits of one list: the same, or one goes on where the other has its token.
  pub data Apart (us : List Token) (t : Token) (vs : List Token) (u : Token) : Type 0 where
    Same : us ≡ vs → t ≡ u → Apart us t vs u
    Before : (ws : List Token) → vs ≡ us ++ t ∷ ws → Apart us t vs u
    Behind : (ws : List Token) → us ≡ vs ++ u ∷ ws → Apart us t vs u

  pub apart : (us : List Token) (t : Token) (xs vs : List Token) (u : Token) (ys : List Token) → us ++ t ∷ xs ≡ vs ++ u ∷ ys → Apart us t vs u
  apart [] t xs [] u ys e = Same refl cc
  apart [] t xs (v ∷ vs) u ys e = Before vs (let h : t ≡ v = cc in ap (λ z. z ∷ vs) (sym h))
  apart (a ∷ us) t xs [] u ys e = Behind us (let h : a ≡ u = cc in ap (λ z. z ∷ us) h)
  apart (a ∷ us) t xs (v ∷ vs) u ys e =
      let h : a ≡ v = cc in
      let g : us ++ t ∷ xs ≡ vs ++ u ∷ ys = cc in
      elim (apart us t xs vs u ys g) [
        | Same p q ↦ Same (ap (λ z. z ∷ us) h ∙ ap (λ z. v ∷ z) p) q
        | Before ws p ↦ Before ws (ap (λ z. z ∷ vs) (sym h) ∙ ap (λ z. a ∷ z) p)
        | Behind ws p ↦ Behind ws (ap (λ z. z ∷ us) h ∙ ap (λ z. v ∷ z) p)
      ]

  pub one_kind : (f g : Fault) (ts : List Token) → FaultFits Token P f ts → FaultFits Token P g ts → f ≡ g
  one_kind Unexpected Unexpected ts a b = refl
  one_kind Unexpected Deep ts a b = absurd (a b)
  one_kind Deep Unexpected ts a b = absurd (b a)
  one_kind Deep Deep ts a b = refl

  -- no list that goes on behind a fault is open
  pub ends_there : (d : ℕ) (us : List Token) (t : Token) (ws vs : List Token) → (IsOpen Token P d (us ++ t ∷ []) → ⊥) → vs ≡ us ++ t ∷ ws → (vs ≡ []) ⊎ IsOpen Token P d vs → ⊥
  ends_there d [] t ws vs n e (inl h) = let x : [] ≡ t ∷ ws = sym h ∙ e in absurd (cc)
  ends_there d (u ∷ us) t ws vs n e (inl h) = let x : [] ≡ u ∷ (us ++ t ∷ ws) = sym h ∙ e in absurd (cc)
  ends_there d us t ws vs n e (inr h) = n (front_open d (us ++ t ∷ []) ws (subst (λ z. IsOpen Token P d z) (e ∙ sym (append_assoc us (t ∷ []) ws)) h))

  -- A token list has at most one fault.
  pub one_fault : (d : ℕ) (us : List Token) (t : Token) (f : Fault) (xs vs : List Token) (u : Token) (g : Fault) (ys : List Token)
      → us ++ t ∷ xs ≡ vs ++ u ∷ ys → IsFaultAt Token P d us t f → IsFaultAt Token P d vs u g → (us ≡ vs) × (t ≡ u) × (f ≡ g)
  one_fault d us t f xs vs u g ys e a b = elim (apart us t xs vs u ys e) [
    | Same p q ↦ (p, q, one_kind f g (us ++ t ∷ []) a.2 (subst (λ z. FaultFits Token P g z) (ap (λ z. z ++ u ∷ []) (sym p) ∙ ap (λ z. us ++ z ∷ []) (sym q)) b.2))
    | Before ws p ↦ absurd (ends_there d us t ws vs a.1 p b.0)
    | Behind ws p ↦ absurd (ends_there d vs u ws us b.1 p a.0)
  ]
