-- The machine of the SQL grammar keeps the laws, so its answers are exact.
use Rattle.std.proofs.Common.{Bool, false, cond, ◌≡◌, ℕ, max, List, [], ◌∷◌, ◌++◌, leb, refl, sym, ◌∙◌, ap, subst, arith, append-nil, append_assoc, Option, Some, None, true, inl, inr}
use Rattle.sql_profile.specs.Tokens.{Edition, Token, End}
use Rattle.sql_profile.specs.Grammar.{ExprSyntax, OfMinus, OfNot, OfBinary, QuerySyntax, OfSelect, NoWhere, HasWhere, TextSyntax, level, text_depth, IsText, IsSpelled}
use Rattle.sql_profile.specs.Machine.{put_select, Around, InNeg, InNot, InRight, InWhere, Outside, InMain, State, Have, HaveItems, AtSemi, Ready, start_state, after_query, shift, after, step, least, fits, turn, run}
use Rattle.nq_model.specs.OpenLists.{Fault, Deep, IsFaultAt}
use Rattle.nq_model.specs.Machines.{Outcome, Reached, Faulty}
use Rattle.sql_profile.proofs.GrammarDepths.{Within, fits_true, fits_within}
use Rattle.sql_profile.proofs.GrammarComplete.{text_reads}
use Rattle.sql_profile.proofs.GrammarSound.{IsGood, Holds, GoesTo, goes, read, filled, least_fits, left, end_place}
use Rattle.nq_model.proofs.OpenLists as generic
use Rattle.nq_model.proofs.OpenLists.{Laws}

module _ (edition : Edition) where
  pub accepts : (d : ℕ) (ts : List Token) (s : TextSyntax) (p : IsText edition ts s) → Within d s → run d ts start_state ≡ Reached (Ready s p.1)
  accepts d ts s p w = ap (λ z. run d z start_state) p.2 ∙ text_reads s d p.1 p.0 w

  pub reached_same : (a b : State) → ◌≡◌ {A = Outcome Token State} (Reached a) (Reached b) → a ≡ b
  reached_same a b e = cc

  -- It is spelled by one tree.
  pub one_tree : (ts : List Token) (s s' : TextSyntax) → IsText edition ts s → IsText edition ts s' → s ≡ s'
  one_tree ts s s' p p' =
      let d = max (text_depth s) (text_depth s') in
      let a = accepts d ts s p (omega arith) in
      let b = accepts d ts s' p' (omega arith) in
      let e = reached_same _ _ (sym a ∙ b) in cc

  pub at_next : (o : Option State) (st : State) (Q : State → Type 0) → o ≡ Some st → Holds o Q → Q st
  at_next None st Q e h = absurd (cc)
  at_next (Some st') st Q e h = let e' : st' ≡ st = cc in subst Q e' h

  pub laws : Laws Token State (IsSpelled edition) step fits start_state read IsGood
  laws = record {
    begins = (tt, tt);
    nothing = λ x. refl;
    takes = λ st t st' g e. let h = at_next (step st t) st' (GoesTo (λ x. read st (t ∷ x))) e (goes st t g) in (h.good, h.same);
    fills = λ st d g f. (left st, (least st, (least_fits st g, end_place st, sym (filled st)), fits_within d st f));
    some_depth = λ st. (text_depth (least st), fits_true _ st (omega arith));
    accepts = λ d ts p. (Ready p.0 p.1.1, accepts d ts p.0 p.1 p.2);
  }

  -- The machine's fault is the fault that the definitions give.
  pub fault_exact : (d : ℕ) (ts : List Token) (t : Token) (f : Fault) → run d ts start_state ≡ Faulty t f
      → (us : List Token) × (rest : List Token) × (ts ≡ us ++ t ∷ rest) × IsFaultAt Token (IsSpelled edition) d us t f
  fault_exact = generic.fault_exact Token State (IsSpelled edition) step fits start_state read IsGood laws

  -- What the machine reads to the end is spelled.
  pub ready_exact : (d : ℕ) (ts : List Token) (s : TextSyntax) (q : ℕ) → run d ts start_state ≡ Reached (Ready s q) → IsText edition ts s × Within d s
  ready_exact d ts s q e =
      let r = generic.reached Token State (IsSpelled edition) step fits start_state read IsGood laws ts d start_state (Ready s q) e (tt, tt) in
      let p : IsText edition ts s = (r.good, q, sym (append-nil ts) ∙ sym (r.same [])) in (
        p,
        elim (generic.keeps Token State (IsSpelled edition) step fits start_state read IsGood laws ts d start_state (Ready s q) e) [
          | inl n ↦ absurd (let h : run d [] start_state ≡ Reached (Ready s q) = subst (λ z. run d z start_state ≡ Reached (Ready s q)) n e in let x = reached_same _ _ h in cc)
          | inr f ↦ fits_within d (Ready s q) f
        ],
      )

  -- At the end of the text the machine is ready or has a fault.
  abbrev pub IsReady : State → Type 0
  IsReady (Ready s q) = Unit {0}
  IsReady _ = ⊥

  pub query_end : (c : Outside) (q : QuerySyntax) (p : ℕ) → Holds (after_query c q (End p)) IsReady
  query_end (InMain w) q p = tt
  query_end c q p = tt

  pub shift_end : (k : Around) (s : ExprSyntax) (q : ℕ) → Holds (shift k s (End q)) IsReady
  shift_end (InWhere p i f b c) s q = query_end c (put_select b (OfSelect i f (HasWhere p s))) q
  shift_end k s q = tt

  pub either : (b : Bool) (o o' : Option State) → Holds o IsReady → Holds o' IsReady → Holds (cond b o o') IsReady
  either true o o' h g = h
  either false o o' h g = g

  pub after_end : (k : Around) (s : ExprSyntax) (q : ℕ) → Holds (after k s (End q)) IsReady
  after_end (InNeg p k) s q = after_end k (OfMinus p s) q
  after_end (InNot p k) s q = after_end k (OfNot p s) q
  after_end (InRight l p op k) s q = either (leb 0 (level op)) _ _ (after_end k (OfBinary l p op s) q) (shift_end (InRight l p op k) s q)
  after_end (InWhere p i f b c) s q = shift_end (InWhere p i f b c) s q
  after_end k s q = tt

  pub end_ready : (st : State) (q : ℕ) → Holds (step st (End q)) IsReady
  end_ready (Have s k) q = after_end k s q
  end_ready (HaveItems i f b c) q = query_end c (put_select b (OfSelect i f NoWhere)) q
  end_ready (AtSemi w k p) q = tt
  end_ready st q = tt

  pub ready_of : (r : State) → IsReady r → (s : TextSyntax) × (q : ℕ) × (r ≡ Ready s q)
  ready_of (Ready s q) h = (s, q, refl)
  ready_of r h = absurd h

  pub ends_ready : (us : List Token) (d q : ℕ) (st r : State) → run d (us ++ End q ∷ []) st ≡ Reached r → IsReady r
  ends_ready [] d q st r e = go (step st (End q)) (end_ready st q) e
    where
      there : (b : Bool) (st' : State) → IsReady st' → cond b (Reached st') (Faulty (End q) Deep) ≡ Reached r → IsReady r
      there true st' h e = subst IsReady (reached_same st' r e) h
      there false st' h e = absurd (cc)

      go : (o : Option State) → Holds o IsReady → turn d (End q) o (run d []) ≡ Reached r → IsReady r
      go None h e = absurd (cc)
      go (Some st') h e = there (fits d st') st' h e
  ends_ready (t ∷ us) d q st r e = go (step st t) e (λ st' h. ends_ready us d q st' r h)
    where
      there : (b : Bool) (st' : State) → cond b (run d (us ++ End q ∷ []) st') (Faulty t Deep) ≡ Reached r → (run d (us ++ End q ∷ []) st' ≡ Reached r → IsReady r) → IsReady r
      there true st' e rec = rec e
      there false st' e rec = absurd (cc)

      go : (o : Option State) → turn d t o (run d (us ++ End q ∷ [])) ≡ Reached r → ((st' : State) → run d (us ++ End q ∷ []) st' ≡ Reached r → IsReady r) → IsReady r
      go None e rec = absurd (cc)
      go (Some st') e rec = there (fits d st') st' e (rec st')

  -- A token list that ends with the end of the text is spelled, or has a fault; never both.
  pub data Answer (d : ℕ) (ts : List Token) : Type 0 where
    Spells : (s : TextSyntax) → IsText edition ts s → Within d s → Answer d ts
    Has : (us : List Token) (t : Token) (rest : List Token) (f : Fault) → ts ≡ us ++ t ∷ rest → IsFaultAt Token (IsSpelled edition) d us t f → Answer d ts

  pub answer : (d : ℕ) (us : List Token) (q : ℕ) → Answer d (us ++ End q ∷ [])
  answer d us q = go (run d (us ++ End q ∷ []) start_state) refl
    where
      go : (o : Outcome Token State) → run d (us ++ End q ∷ []) start_state ≡ o → Answer d (us ++ End q ∷ [])
      go (Reached r) e =
          let x = ready_of r (ends_ready us d q start_state r e) in
          let y = ready_exact d (us ++ End q ∷ []) x.0 x.1 (subst (λ z. run d (us ++ End q ∷ []) start_state ≡ Reached z) x.2 e) in
          Spells x.0 y.0 y.1
      go (Faulty t f) e = let x = fault_exact d (us ++ End q ∷ []) t f e in Has x.0 t x.1 f x.2 x.3

  pub never_both : (d : ℕ) (us : List Token) (t : Token) (rest : List Token) (f : Fault) → IsSpelled edition d (us ++ t ∷ rest) → IsFaultAt Token (IsSpelled edition) d us t f → ⊥
  never_both d us t rest f s h = h.1 (rest, subst (λ z. IsSpelled edition d z) (sym (append_assoc us (t ∷ []) rest)) s)
