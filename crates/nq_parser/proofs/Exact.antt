-- The machine of the query grammar keeps the laws, so its answers are exact.
use Rattle.std.proofs.Common.{Bool, true, false, cond, ◌≡◌, ℕ, ◌+◌, List, [], ◌∷◌, ◌++◌, refl, sym, ◌∙◌, ap, subst, arith, append-nil, Option, Some, None, inl, inr}
use Rattle.std.specs.Prelude.{⊤}
use Rattle.nq_model.specs.OpenLists.{Fault, Deep, IsFaultAt}
use Rattle.nq_model.specs.Machines.{Outcome, Reached, Faulty}
use Rattle.nq_model.proofs.OpenLists as generic
use Rattle.nq_model.proofs.OpenLists.{Laws}
use Rattle.nq_model.specs.QueryTokens.{Token, End}
use Rattle.nq_model.specs.QueryGrammar.{Edition, Kind, IsIf, IsTruth, IsBase, IsName, kind, TypeSyntax, TBase, TFun, Syntax, Var, Truth, depth, deepest, IsBody, Within}
use Rattle.nq_model.proofs.QueryHeaders.{IsSpelledBody}
use Rattle.nq_parser.specs.Machine.{Frame, InParen, InIf, TypeFrame, TInParen, TInRight, Around, InNil, InFun, State, Want, AtWord, AtTypeWord, HaveType, Have, Ready, start_state, joined, ends, shift, after, after_around, after_type, no_label, no_type_label, start, step, least, fits, turn, run}
use Rattle.nq_parser.proofs.Depths.{fits_true, fits_within}
use Rattle.nq_parser.proofs.Complete.{reads, next}
use Rattle.nq_parser.proofs.Sound.{IsGood, Holds, GoesTo, goes, read}
use Rattle.nq_parser.proofs.Filled.{filled, least_fits, left, end_place}

module _ (ed : Edition) where
  -- What is spelled is read.
  pub accepts : (d : ℕ) (ts : List Token) (s : Syntax) (p : IsBody ed ts s) → Within d s → run ed d ts start_state ≡ Reached (Ready s p.1)
  accepts d ts s p w =
      ap (λ z. run ed d z start_state) p.2
      ∙ reads ed s d [] 0 (End p.1) [] p.0 (omega arith) (omega arith) refl w
      ∙ next ed d (Have s []) (Ready s p.1) (End p.1) [] refl w

  pub reached_same : (a b : State) → ◌≡◌ {A = Outcome Token State} (Reached a) (Reached b) → a ≡ b
  reached_same a b e = cc

  -- It is spelled by one tree.
  pub one_tree : (ts : List Token) (s s' : Syntax) → IsBody ed ts s → IsBody ed ts s' → s ≡ s'
  one_tree ts s s' p p' =
      let d = depth s + deepest s + (depth s' + deepest s') in
      let a = accepts d ts s p (omega arith, omega arith) in
      let b = accepts d ts s' p' (omega arith, omega arith) in
      let e = reached_same _ _ (sym a ∙ b) in cc

  at_next : (o : Option State) (st : State) (Q : State → Type 0) → o ≡ Some st → Holds o Q → Q st
  at_next None st Q e h = absurd (cc)
  at_next (Some st') st Q e h = let e' : st' ≡ st = cc in subst Q e' h

  pub laws : Laws Token State (IsSpelledBody ed) (step ed) fits start_state read (IsGood ed)
  laws = record {
    begins = tt;
    nothing = λ x. refl;
    takes = λ st t st' g e. let h = at_next (step ed st t) st' (GoesTo ed (λ x. read st (t ∷ x))) e (goes ed st t g) in (h.good, h.same);
    fills = λ st d g f. (left st, (least st, (least_fits ed st g, end_place st, sym (filled st)), fits_within d st f));
    some_depth = λ st. (depth (least st) + deepest (least st), fits_true _ st (omega arith, omega arith));
    accepts = λ d ts p. (Ready p.0 p.1.1, accepts d ts p.0 p.1 p.2);
  }

  -- The machine's fault is the fault that the definitions give.
  pub fault_exact : (d : ℕ) (ts : List Token) (t : Token) (f : Fault) → run ed d ts start_state ≡ Faulty t f
      → (us : List Token) × (rest : List Token) × (ts ≡ us ++ t ∷ rest) × IsFaultAt Token (IsSpelledBody ed) d us t f
  fault_exact = generic.fault_exact Token State (IsSpelledBody ed) (step ed) fits start_state read (IsGood ed) laws

  -- What the machine reads to the end is spelled.
  pub ready_exact : (d : ℕ) (ts : List Token) (s : Syntax) (q : ℕ) → run ed d ts start_state ≡ Reached (Ready s q) → IsBody ed ts s × Within d s
  ready_exact d ts s q e =
      let r = generic.reached Token State (IsSpelledBody ed) (step ed) fits start_state read (IsGood ed) laws ts d start_state (Ready s q) e tt in
      let p : IsBody ed ts s = (r.good, q, sym (append-nil ts) ∙ sym (r.same [])) in (
        p,
        elim (generic.keeps Token State (IsSpelledBody ed) (step ed) fits start_state read (IsGood ed) laws ts d start_state (Ready s q) e) [
          | inl n ↦ absurd (let h : run ed d [] start_state ≡ Reached (Ready s q) = subst (λ z. run ed d z start_state ≡ Reached (Ready s q)) n e in let x = reached_same _ _ h in cc)
          | inr f ↦ fits_within d (Ready s q) f
        ],
      )

  -- At the end of the text the machine is ready or has a fault.
  abbrev pub IsReady : State → Type 0
  IsReady (Ready s q) = ⊤
  IsReady _ = ⊥

  shift_end : (k : List Frame) (s : Syntax) (q : ℕ) → Holds (shift ed k s (End q)) IsReady
  shift_end [] s q = tt
  shift_end (f ∷ k) s q = tt

  either : (b : Bool) (o o' : Option State) → Holds o IsReady → Holds o' IsReady → Holds (cond b o o') IsReady
  either true o o' h g = h
  either false o o' h g = g

  after_end : (k : List Frame) (s : Syntax) (q : ℕ) → Holds (after ed k s (End q)) IsReady
  after_end [] s q = tt
  after_end (f ∷ k) s q = either (ends f (End q)) (after ed k (joined f s) (End q)) (shift ed (f ∷ k) s (End q)) (after_end k (joined f s) q) (shift_end (f ∷ k) s q)

  around_end : (o : Around) (t : TypeSyntax) (k : List Frame) (q : ℕ) → Holds (after_around o t k (End q)) IsReady
  around_end (InNil p c) t k q = tt
  around_end (InFun p o v y c) t k q = tt

  type_end : (j : List TypeFrame) (t : TypeSyntax) (o : Around) (k : List Frame) (q : ℕ) → Holds (after_type j t o k (End q)) IsReady
  type_end [] t o k q = around_end o t k q
  type_end (TInRight a p ∷ j) t o k q = type_end j (TFun a p t) o k q
  type_end (f ∷ j) t o k q = tt

  start_end : (k : List Frame) (q : ℕ) → Holds (start ed k (End q)) IsReady
  start_end [] q = tt
  start_end (f ∷ k) q = tt

  word_end : (c : Kind) (p v : ℕ) (w : List ℕ) (k : List Frame) (q : ℕ) → Holds (no_label ed c p v w k (End q)) IsReady
  word_end IsName p v w k q = after_end (InParen p ∷ k) (Var v w) q
  word_end (IsTruth b) p v w k q = after_end (InParen p ∷ k) (Truth v b) q
  word_end IsIf p v w k q = start_end (InIf v ∷ InParen p ∷ k) q
  word_end c p v w k q = tt

  type_word_end : (c : Kind) (p v : ℕ) (j : List TypeFrame) (o : Around) (k : List Frame) (q : ℕ) → Holds (no_type_label c p v j o k (End q)) IsReady
  type_word_end (IsBase b) p v j o k q = type_end (TInParen p ∷ j) (TBase v b) o k q
  type_word_end c p v j o k q = tt

  pub end_ready : (st : State) (q : ℕ) → Holds (step ed st (End q)) IsReady
  end_ready (Want k) q = start_end k q
  end_ready (Have s k) q = after_end k s q
  end_ready (HaveType t j o k) q = type_end j t o k q
  end_ready (AtWord p v w k) q = word_end (kind ed w) p v w k q
  end_ready (AtTypeWord p v w j o k) q = type_word_end (kind ed w) p v j o k q
  end_ready st q = tt

  pub ready_of : (r : State) → IsReady r → (s : Syntax) × (q : ℕ) × (r ≡ Ready s q)
  ready_of (Ready s q) h = (s, q, refl)
  ready_of r h = absurd h

  pub ends_ready : (us : List Token) (d q : ℕ) (st r : State) → run ed d (us ++ End q ∷ []) st ≡ Reached r → IsReady r
  ends_ready [] d q st r e = go (step ed st (End q)) (end_ready st q) e
    where
      there : (b : Bool) (st' : State) → IsReady st' → cond b (Reached st') (Faulty (End q) Deep) ≡ Reached r → IsReady r
      there true st' h e = subst IsReady (reached_same st' r e) h
      there false st' h e = absurd (cc)

      go : (o : Option State) → Holds o IsReady → turn ed d (End q) o (run ed d []) ≡ Reached r → IsReady r
      go None h e = absurd (cc)
      go (Some st') h e = there (fits d st') st' h e
  ends_ready (t ∷ us) d q st r e = go (step ed st t) e (λ st' h. ends_ready us d q st' r h)
    where
      there : (b : Bool) (st' : State) → cond b (run ed d (us ++ End q ∷ []) st') (Faulty t Deep) ≡ Reached r → (run ed d (us ++ End q ∷ []) st' ≡ Reached r → IsReady r) → IsReady r
      there true st' e rec = rec e
      there false st' e rec = absurd (cc)

      go : (o : Option State) → turn ed d t o (run ed d (us ++ End q ∷ [])) ≡ Reached r → ((st' : State) → run ed d (us ++ End q ∷ []) st' ≡ Reached r → IsReady r) → IsReady r
      go None e rec = absurd (cc)
      go (Some st') e rec = there (fits d st') st' e (rec st')

  -- A token list that ends with the end of the text is spelled, or has a fault.
  pub data Answer (d : ℕ) (ts : List Token) : Type 0 where
    Derived : (s : Syntax) → IsBody ed ts s → Within d s → Answer d ts
    Has : (us : List Token) (t : Token) (rest : List Token) (f : Fault) → ts ≡ us ++ t ∷ rest → IsFaultAt Token (IsSpelledBody ed) d us t f → Answer d ts

  pub answer : (d : ℕ) (us : List Token) (q : ℕ) → Answer d (us ++ End q ∷ [])
  answer d us q = go (run ed d (us ++ End q ∷ []) start_state) refl
    where
      go : (o : Outcome Token State) → run ed d (us ++ End q ∷ []) start_state ≡ o → Answer d (us ++ End q ∷ [])
      go (Reached r) e =
          let x = ready_of r (ends_ready us d q start_state r e) in
          let y = ready_exact d (us ++ End q ∷ []) x.0 x.1 (subst (λ z. run ed d (us ++ End q ∷ []) start_state ≡ Reached z) x.2 e) in
          Derived x.0 y.0 y.1
      go (Faulty t f) e = let x = fault_exact d (us ++ End q ∷ []) t f e in Has x.0 t x.1 f x.2 x.3
