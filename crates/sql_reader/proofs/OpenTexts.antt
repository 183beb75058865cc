-- The reader tells which tokens an SQL text begins with.
use Rattle.std.proofs.Common.{◌≡◌, ℕ, ◌≤◌, ◌==◌, length, take, drop}
use Rattle.std.proofs.Common.{take-append-drop, Bool, true, false, List, [], ◌∷◌, ◌++◌}
use Rattle.std.proofs.Common.{refl, sym, ◌∙◌, ap, subst, arith, append_assoc, ◌⊎◌, inl}
use Rattle.std.proofs.Common.{inr, Option, Some, None, option_map, Ok}
use Rattle.std.proofs.lemmas.Bool.Decides.{nat_tests}
use Rattle.std.proofs.lemmas.List.{take_all}
use Rattle.nq_model.specs.OpenLists.{Fault, Unexpected, Deep, IsOpen, IsFaultAt}
use Rattle.nq_model.specs.Machines.{Reached, Faulty}
use Rattle.nq_model.proofs.OpenLists as generic
use Rattle.sql_profile.specs.Tokens.{First, Token}
use Rattle.sql_profile.specs.Grammar.{IsSpelled, IsText, TextSyntax, OfText, text_depth}
use Rattle.sql_profile.specs.Machine as machine
use Rattle.sql_profile.proofs.GrammarDepths.{selects_pos, fits_true}
use Rattle.sql_profile.proofs.GrammarExact.{laws, accepts}
use Rattle.sql_profile.proofs.GrammarSound.{IsGood, read}
use Rattle.sql_reader.specs.Needs.{fits}
use Rattle.sql_reader.specs.Openness.{TellsOpen, Closes, FindsFront, KindsGoOn, Stops, ReadsFirst}
use Rattle.sql_reader.specs.Runs.{run}
use Rattle.sql_reader.specs.Steps.{State, start_state}
use Rattle.sql_reader.specs.TokenKinds.{token_kind}
use Rattle.sql_reader.proofs.Alike.{goes_too}
use Rattle.sql_reader.proofs.Depths.{fits_same}
use Rattle.sql_reader.proofs.Reaching.{stands}
use Rattle.sql_reader.proofs.Standing.{stand, steps}

abbrev pub IsOpenText : ℕ → List Token → Type 0
IsOpenText d us = IsOpen Token (IsSpelled First) d us

-- what the reader does, the machine does
came_none : (o : Option machine.State) → option_map stand o ≡ None → o ≡ None
came_none None e = refl
came_none (Some m) e = absurd (cc)

came_from : (o : Option machine.State) (st : State) → option_map stand o ≡ Some st
    → (m : machine.State) × (o ≡ Some m) × (stand m ≡ st)
came_from None st e = absurd (cc)
came_from (Some m) st e = let i : stand m ≡ st = cc in (m, refl, i)

-- where a token stops the reader, it stops the machine, whatever stands behind it
stops_run : (d : ℕ) (t : Token) (m : machine.State) → Stops d (stand m) t → (f : Fault)
    × ((ts : List Token) → machine.run d (t ∷ ts) m ≡ Faulty t f)
stops_run d t m (inl n) =
    let i = came_none (machine.step m t) (sym (steps m t) ∙ n) in (
      Unexpected,
      λ ts. generic.run_none Token machine.State (IsSpelled First) machine.step machine.fits
          machine.start_state read IsGood (laws First) d t ts m i,
    )
stops_run d t m (inr (next, s, n)) =
    let c = came_from (machine.step m t) next (sym (steps m t) ∙ s) in
    let f : machine.fits d c.0 ≡ false = sym (fits_same d c.0) ∙ ap (fits d) c.2 ∙ n in (
      Deep,
      λ ts. generic.run_deep Token machine.State (IsSpelled First) machine.step machine.fits
          machine.start_state read IsGood (laws First) d t ts m c.0 c.1 f,
    )

-- the least text is one SELECT
two_deep : (s : TextSyntax) → 2 ≤ text_depth s
two_deep (OfText w q s) = let h = selects_pos q in omega (arith, h)

shallow_closed : (d : ℕ) (us : List Token) → (2 ≤ d → ⊥) → IsOpenText d us → ⊥
shallow_closed d us n (rest, (s, p, w)) = let h = two_deep s in n (omega (arith, h, w))

some_text : (d : ℕ) → 2 ≤ d → IsOpenText d []
some_text d e = generic.opens Token machine.State (IsSpelled First) machine.step machine.fits
    machine.start_state read IsGood (laws First) machine.start_state d [] (tt, tt) (λ x. refl)
    (fits_true d machine.start_state e)

-- what is read is open
read_open : (d : ℕ) (ts : List Token) (m : machine.State)
    → machine.run d ts machine.start_state ≡ Reached m → machine.fits d m ≡ true
    → IsOpenText d ts
read_open d ts m e f =
    let r = generic.reached Token machine.State (IsSpelled First) machine.step machine.fits
    machine.start_state read IsGood (laws First) ts d machine.start_state m e (tt, tt) in
    generic.opens Token machine.State (IsSpelled First) machine.step machine.fits
    machine.start_state read IsGood (laws First) m d ts r.good (λ x. r.same x) f

none_or_open : (d : ℕ) (ts : List Token) (m : machine.State)
    → machine.run d ts machine.start_state ≡ Reached m → (ts ≡ []) ⊎ IsOpenText d ts
none_or_open d ts m e =
    elim (generic.keeps Token machine.State (IsSpelled First) machine.step machine.fits
    machine.start_state read IsGood (laws First) ts d machine.start_state m e) [
      | inl n ↦ inl n
      | inr f ↦ inr (read_open d ts m e f)
    ]

-- where the reader stops, the list ceases to be open
record Stopped (d : ℕ) (ts : List Token) (n : ℕ) : Type 0 where
  pub last : Token
  pub fault : Fault
  pub rest : List Token
  pub whole : ts ≡ take n ts ++ last ∷ rest
  pub closes : IsFaultAt Token (IsSpelled First) d (take n ts) last fault

stopped : (d : ℕ) (ts : List Token) (n : ℕ) → ReadsFirst d ts n → (n ≡ length ts → ⊥)
    → Stopped d ts n
stopped d ts n r m = go r.stops
  where
    go : (n ≡ length ts) ⊎ ((t : Token) × (rest : List Token) × (drop n ts ≡ t ∷ rest)
        × Stops d r.state t) → Stopped d ts n
    go (inl e) = absurd (m e)
    go (inr (t, rest, e, s)) =
        let x = stands d (take n ts) r.state r.run_to in
        let f = stops_run d t x.state (subst (λ z. Stops d z t) (sym x.same) s) in
        let k = generic.reached Token machine.State (IsSpelled First) machine.step machine.fits
        machine.start_state read IsGood (laws First) (take n ts) d machine.start_state x.state
        x.reached (tt, tt) in
        record {
          last = t;
          fault = f.0;
          rest = rest;
          whole = sym (take-append-drop n ts) ∙ ap (λ z. take n ts ++ z) e;
          closes = (
            none_or_open d (take n ts) x.state x.reached,
            generic.refuted Token machine.State (IsSpelled First) machine.step machine.fits
                machine.start_state read IsGood (laws First) d (take n ts) t x.state f.0 x.reached
                f.1,
            generic.kind_exact Token machine.State (IsSpelled First) machine.step machine.fits
                machine.start_state read IsGood (laws First) d (take n ts) t x.state f.0 k
                x.reached
                (generic.why Token machine.State (IsSpelled First) machine.step machine.fits
                machine.start_state read IsGood (laws First) d x.state t f.0 f.1),
          );
        }

stopped_closed : (d : ℕ) (ts : List Token) (n : ℕ) → Stopped d ts n → IsOpenText d ts
    → ⊥
stopped_closed d ts n s o =
    let whole : IsOpenText d ((take n ts ++ s.last ∷ []) ++ s.rest) = subst (λ z. IsOpenText d z)
    (s.whole ∙ sym (append_assoc (take n ts) (s.last ∷ []) s.rest)) o in
    let c = s.closes in
    c.1 (generic.front_open Token (IsSpelled First) d (take n ts ++ s.last ∷ []) s.rest whole)

-- where it reads all, the list is open, if texts may be so deep
all_read : (d : ℕ) (ts : List Token) (n : ℕ) → (r : ReadsFirst d ts n) → n ≡ length ts
    → (ts ≡ []) ⊎ IsOpenText d ts
all_read d ts n r e =
    let whole : take n ts ≡ ts = take_all n ts (omega (arith, e)) in
    let x = stands d ts r.state (ap (λ z. run d z start_state) (sym whole) ∙ r.run_to) in
    none_or_open d ts x.state x.reached

all_open : (d : ℕ) (ts : List Token) → 2 ≤ d → (ts ≡ []) ⊎ IsOpenText d ts
    → IsOpenText d ts
all_open d ts e (inl n) = subst (λ z. IsOpenText d z) (sym n) (some_text d e)
all_open d ts e (inr o) = o

pub tells_open : (b : Bool) (d : ℕ) (ts : List Token) (n : ℕ) → 2 ≤ d → ReadsFirst d ts n
    → b ≡ (n == length ts) → TellsOpen (Ok b) d ts
tells_open true d ts n pos r e = all_open d ts pos (all_read d ts n r
    (grind (arith, nat_tests, e)))
tells_open false d ts n pos r e = stopped_closed d ts n (stopped d ts n r (λ i.
    grind (arith, nat_tests, e, i)))

pub tells_shallow : (d : ℕ) (ts : List Token) → (2 ≤ d → ⊥) → TellsOpen (Ok false) d ts
tells_shallow d ts n = shallow_closed d ts n

-- where a text ceases to be open
closes_not : (d : ℕ) (ts before : List Token) (last : Token) (f : Fault)
    → (ts ≡ []) ⊎ IsOpenText d ts → Closes d ts before last f → ⊥
closes_not d ts [] last f (inl n) (after, whole, c) = absurd (cc)
closes_not d ts (t ∷ before) last f (inl n) (after, whole, c) = absurd (cc)
closes_not d ts before last f (inr o) (after, whole, c) =
    let i : IsOpenText d ((before ++ last ∷ []) ++ after) = subst (λ z. IsOpenText d z) (whole
    ∙ sym (append_assoc before (last ∷ []) after)) o in
    c.1 (generic.front_open Token (IsSpelled First) d (before ++ last ∷ []) after i)

pub finds_front : (d : ℕ) (ts : List Token) (n : ℕ) → ReadsFirst d ts n
    → (n ≡ length ts → ⊥)
    → FindsFront (Ok (Some n)) d ts
finds_front d ts n r m =
    let s = stopped d ts n r m in (s.last, s.fault, (s.rest, s.whole, s.closes))

pub finds_none : (d : ℕ) (ts : List Token) (n : ℕ) → ReadsFirst d ts n → n ≡ length ts
    → FindsFront (Ok None) d ts
finds_none d ts n r e before last f c = closes_not d ts before last f (all_read d ts n r e) c

-- a run over a list passes the end of its front
record Passes (d : ℕ) (us ys : List Token) (from r : machine.State) : Type 0 where
  pub state : machine.State
  pub front : machine.run d us from ≡ Reached state
  pub behind : machine.run d ys state ≡ Reached r

passes : (us ys : List Token) (d : ℕ) (from r : machine.State)
    → machine.run d (us ++ ys) from ≡ Reached r → Passes d us ys from r
passes [] ys d from r e = record { state = from; front = refl; behind = e }
passes (t ∷ us) ys d from r e =
    let s = generic.stepped Token machine.State (IsSpelled First) machine.step machine.fits
    machine.start_state read IsGood (laws First) d t (us ++ ys) from r e in
    let p = passes us ys d s.to r s.rest in
    record {
      state = p.state;
      front = generic.run_on Token machine.State (IsSpelled First) machine.step machine.fits
          machine.start_state read IsGood (laws First) d t us from s.to s.by s.fine ∙ p.front;
      behind = p.behind;
    }

-- from one state, tokens of one kind go on alike
goes_alike : (d : ℕ) (m next : machine.State) (a b : Token) → token_kind a ≡ token_kind b
    → machine.step m a ≡ Some next → machine.fits d next ≡ true
    → (other : machine.State) × (machine.step m b ≡ Some other)
    × (machine.fits d other ≡ true)
goes_alike d m next a b e s f =
    let z = goes_too d (stand m) a b (stand next) e (steps m a ∙ ap (option_map stand) s)
    (fits_same d next ∙ f) in
    let o = came_from (machine.step m b) z.0 (sym (steps m b) ∙ z.1) in (
      o.0,
      o.1,
      sym (fits_same d o.0) ∙ ap (fits d) o.2 ∙ z.2,
    )

-- what was read is open with a token that goes on
open_with : (d : ℕ) (us : List Token) (b : Token) (m other : machine.State)
    → machine.run d us machine.start_state ≡ Reached m → machine.step m b ≡ Some other
    → machine.fits d other ≡ true → IsOpenText d (us ++ b ∷ [])
open_with d us b m other e s f =
    let r = generic.reached Token machine.State (IsSpelled First) machine.step machine.fits
    machine.start_state read IsGood (laws First) us d machine.start_state m e (tt, tt) in
    let g = (laws First).takes m b other r.good s in
    generic.opens Token machine.State (IsSpelled First) machine.step machine.fits
    machine.start_state read IsGood (laws First) other d (us ++ b ∷ []) g.0
    (λ l. g.1 l ∙ r.same (b ∷ l) ∙ sym (append_assoc us (b ∷ []) l)) f

read_with : (d : ℕ) (us rest : List Token) (a b : Token) (r : machine.State)
    → token_kind a ≡ token_kind b → Passes d us (a ∷ rest) machine.start_state r
    → IsOpenText d (us ++ b ∷ [])
read_with d us rest a b r e x =
    let y = generic.stepped Token machine.State (IsSpelled First) machine.step machine.fits
    machine.start_state read IsGood (laws First) d a rest x.state r x.behind in
    let z = goes_alike d x.state y.to a b e y.by y.fine in
    open_with d us b x.state z.0 x.front z.1 z.2

-- the machine reads a whole text
reads_text : (d : ℕ) (us rest : List Token) (a : Token) (s : TextSyntax)
    → (p : IsText First ((us ++ a ∷ []) ++ rest) s) → text_depth s ≤ d
    → machine.run d (us ++ a ∷ rest) machine.start_state ≡ Reached (machine.Ready s p.1)
reads_text d us rest a s p w = ap (λ z. machine.run d z machine.start_state) (sym (append_assoc us
    (a ∷ []) rest)) ∙ accepts First d ((us ++ a ∷ []) ++ rest) s p w

-- where a token goes on, each of its kind does
pub kinds_go_on : KindsGoOn
kinds_go_on d us a b e (rest, (s, p, w)) =
    read_with d us rest a b (machine.Ready s p.1) e (passes us (a ∷ rest) d machine.start_state
    (machine.Ready s p.1) (reads_text d us rest a s p w))
