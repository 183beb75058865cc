-- The machine tells which tokens a program begins with.
use Rattle.std.proofs.Common.{◌≡◌, ℕ, zero, suc, ◌+◌, ◌≤◌, length, take, drop, take-append-drop}
use Rattle.std.proofs.Common.{Bool, true, false, ◌&&◌, List, [], ◌∷◌, ◌++◌, refl, sym, ◌∙◌, ap}
use Rattle.std.proofs.Common.{subst, arith, append_assoc, codes, ◌⊎◌, inl, inr, Option, Some, None}
use Rattle.std.proofs.Common.{Result, Ok, Err}
use Rattle.std.proofs.lemmas.Bool.Decides.{nat_tests}
use Rattle.std.proofs.lemmas.List.{take_all}
use Rattle.std.proofs.lemmas.Slice.Eq.{bytes_eq-Decides}
use Rattle.nq_model.specs.declared.memory.Memory.{Memory}
use Rattle.nq_model.specs.OpenLists.{Fault, Unexpected, Deep, IsOpen, IsFaultAt}
use Rattle.nq_model.specs.Machines.{Reached, Faulty}
use Rattle.nq_model.proofs.OpenLists as generic
use Rattle.nq_model.specs.QueryTokens.{Token, Word, Value, Sign, End, Number, Semicolon, place_of}
use Rattle.nq_model.specs.QueryGrammar.{Edition, First, Second, NoFields, tokens, Header}
use Rattle.nq_model.specs.QueryGrammar.{header_tokens, IsSpelled}
use Rattle.nq_model.specs.QueryTexts.{edition_of}
use Rattle.nq_model.proofs.QueryHeaders.{IsSpelledBody, program_of, open_behind, open_inside}
use Rattle.nq_model.proofs.QueryHeaders.{fault_first, fault_second, header_deep, header_of}
use Rattle.nq_parser.specs.Machine.{State, step, fits, run, start_state}
use Rattle.nq_parser.specs.Openness.{header_front, TellsOpen, Closes, KindsGoOn, FindsFront, Stops}
use Rattle.nq_parser.specs.Openness.{ReadsFirst, TellsAll, FindsStop}
use Rattle.nq_parser.specs.TokenKinds.{token_kind}
use Rattle.nq_parser.specs.Editions.{is_nq, is_two}
use Rattle.nq_parser.proofs.Alike.{goes_too}
use Rattle.nq_parser.proofs.Depths.{depth_pos}
use Rattle.nq_parser.proofs.Parsing.{is_unexpected, is_deep}
use Rattle.nq_parser.proofs.Sound.{IsGood, read}
use Rattle.nq_parser.proofs.Exact.{laws, accepts}

-- where a token stops the machine, whatever stands behind it
pub stops_run : (ed : Edition) (d : ℕ) (t : Token) (st : State) → Stops ed d st t → (f : Fault)
    × ((ts : List Token) → run ed d (t ∷ ts) st ≡ Faulty t f)
stops_run ed d t st (inl n) = (Unexpected, λ ts. is_unexpected ed d t ts st n)
stops_run ed d t st (inr (next, s, n)) = (Deep, λ ts. is_deep ed d t ts st next s n)

module _ (ed : Edition) where
  abbrev pub IsOpenBody : ℕ → List Token → Type 0
  IsOpenBody d us = IsOpen Token (IsSpelledBody ed) d us

  some_body : (d : ℕ) → 1 ≤ d → IsOpenBody d []
  some_body d e = (
    tokens (NoFields 0 0) (End 0 ∷ []),
    (
      NoFields 0 0,
      (tt, 0, refl),
      (
        e,
        omega
            arith,
      ),
    ),
  )

  -- what the machine reads is open
  pub read_open : (d : ℕ) (ts : List Token) (st : State) → run ed d ts start_state ≡ Reached st
      → fits d st ≡ true → IsOpenBody d ts
  read_open d ts st e f =
      let r = generic.reached Token State (IsSpelledBody ed) (step ed) fits start_state read (IsGood
      ed) (laws ed) ts d start_state st e tt in
      generic.opens Token State (IsSpelledBody ed) (step ed) fits start_state read (IsGood ed) (laws
      ed) st d ts r.good (λ x. r.same x) f

  pub reached_open : (d : ℕ) (ts : List Token) (st : State) → 1 ≤ d
      → run ed d ts start_state ≡ Reached st → IsOpenBody d ts
  reached_open d ts st pos e =
      elim (generic.keeps Token State (IsSpelledBody ed) (step ed) fits start_state read (IsGood ed)
      (laws ed) ts d start_state st e) [
        | inl n ↦ subst (λ z. IsOpenBody d z) (sym n) (some_body d pos)
        | inr f ↦ read_open d ts st e f
      ]

  -- where it stops, the list ceases to be open
  pub record Stopped (d : ℕ) (ts : List Token) (n : ℕ) : Type 0 where
    pub last : Token
    pub fault : Fault
    pub rest : List Token
    pub whole : ts ≡ take n ts ++ last ∷ rest
    pub closes : IsFaultAt Token (IsSpelledBody ed) d (take n ts) last fault

  pub stopped : (d : ℕ) (ts : List Token) (n : ℕ) → ReadsFirst ed d ts n → (n ≡ length ts → ⊥)
      → Stopped d ts n
  stopped d ts n r m = go r.stops
    where
      us : List Token
      us = take n ts

      go : (n ≡ length ts) ⊎ ((t : Token) × (rest : List Token) × (drop n ts ≡ t ∷ rest)
          × Stops ed d r.state t) → Stopped d ts n
      go (inl e) = absurd (m e)
      go (inr (t, rest, e, s)) =
          let f = stops_run ed d t r.state s in
          let k = generic.reached Token State (IsSpelledBody ed) (step ed) fits start_state read
          (IsGood ed) (laws ed) (take n ts) d start_state r.state r.run_to tt in
          let o : (take n ts ≡ []) ⊎ IsOpenBody d (take n ts) = elim (generic.keeps Token State
          (IsSpelledBody ed) (step ed) fits start_state read (IsGood ed) (laws ed) (take n ts) d
          start_state r.state r.run_to) [
            | inl z ↦ inl z
            | inr w ↦ inr (generic.opens Token State (IsSpelledBody ed) (step ed) fits start_state
                read (IsGood ed) (laws ed) r.state d (take n ts) k.good (λ x. k.same x) w)
          ] in
          record {
            last = t;
            fault = f.0;
            rest = rest;
            whole = sym (take-append-drop n ts) ∙ ap (λ z. take n ts ++ z) e;
            closes = (
              o,
              generic.refuted Token State (IsSpelledBody ed) (step ed) fits start_state read (IsGood
                  ed) (laws ed) d (take n ts) t r.state f.0 r.run_to f.1,
              generic.kind_exact Token State (IsSpelledBody ed) (step ed) fits start_state read
                  (IsGood ed) (laws ed) d (take n ts) t r.state f.0 k r.run_to
                  (generic.why Token State (IsSpelledBody ed) (step ed) fits start_state read
                  (IsGood
                  ed) (laws ed) d r.state t f.0 f.1),
            );
          }

  pub stopped_closed : (d : ℕ) (ts : List Token) (n : ℕ) → Stopped d ts n → IsOpenBody d ts → ⊥
  stopped_closed d ts n s o =
      let whole : IsOpenBody d ((take n ts ++ s.last ∷ []) ++ s.rest) = subst (λ z. IsOpenBody d z)
      (s.whole ∙ sym (append_assoc (take n ts) (s.last ∷ []) s.rest)) o in
      let c = s.closes in
      c.1 (generic.front_open Token (IsSpelledBody ed) d (take n ts ++ s.last ∷ []) s.rest whole)

  -- where it reads all
  pub read_all : (d : ℕ) (ts : List Token) (n : ℕ) → (r : ReadsFirst ed d ts n) → n ≡ length ts
      → run ed d ts start_state ≡ Reached r.state
  read_all d ts n r e =
      let whole : take n ts ≡ ts = take_all n ts (omega (arith, e)) in
      ap (λ z. run ed d z start_state) (sym whole) ∙ r.run_to

  -- all tokens were read, or some are left
  pub tells_body : (d : ℕ) (ts : List Token) (b : Bool) → 1 ≤ d → TellsAll ed (Ok b) d ts
      → ((b ≡ true) × IsOpenBody d ts) ⊎ ((b ≡ false) × (IsOpenBody d ts → ⊥))
  tells_body d ts true pos (n, r, e) = inl (
    refl,
    reached_open d ts r.state pos (read_all d ts n r
        (grind (arith, nat_tests, e))),
  )
  tells_body d ts false pos (n, r, e) = inr (
    refl,
    stopped_closed d ts n (stopped d ts n r (λ i.
        grind (arith, nat_tests, e, i))),
  )

  -- a run over a list passes the end of its front
  pub record Passes (d : ℕ) (us ys : List Token) (from r : State) : Type 0 where
    pub state : State
    pub front : run ed d us from ≡ Reached state
    pub behind : run ed d ys state ≡ Reached r

  pub passes : (us ys : List Token) (d : ℕ) (from r : State) → run ed d (us ++ ys) from ≡ Reached r
      → Passes d us ys from r
  passes [] ys d from r e = record { state = from; front = refl; behind = e }
  passes (t ∷ us) ys d from r e =
      let s = generic.stepped Token State (IsSpelledBody ed) (step ed) fits start_state read (IsGood
      ed) (laws ed) d t (us ++ ys) from r e in
      let p = passes us ys d s.to r s.rest in
      record {
        state = p.state;
        front = generic.run_on Token State (IsSpelledBody ed) (step ed) fits start_state read
            (IsGood ed) (laws ed) d t us from s.to s.by s.fine ∙ p.front;
        behind = p.behind;
      }

  -- where a token goes on, each of its kind does
  pub body_alike : (d : ℕ) (us : List Token) (a b : Token) → token_kind ed a ≡ token_kind ed b
      → IsOpenBody d (us ++ a ∷ []) → IsOpenBody d (us ++ b ∷ [])
  body_alike d us a b e (rest, (s, p, w)) =
      let whole = ap (λ z. run ed d z start_state) (sym (append_assoc us (a ∷ []) rest))
      ∙ accepts ed d ((us ++ a ∷ []) ++ rest) s p w in
      let x = passes us (a ∷ rest) d start_state _ whole in
      let y = generic.stepped Token State (IsSpelledBody ed) (step ed) fits start_state read (IsGood
      ed) (laws ed) d a rest x.state _ x.behind in
      let z = goes_too ed d x.state a b y.to e y.by y.fine in
      let r = generic.reached Token State (IsSpelledBody ed) (step ed) fits start_state read (IsGood
      ed) (laws ed) us d start_state x.state x.front tt in
      let g = (laws ed).takes x.state b z.0 r.good z.1 in
      generic.opens Token State (IsSpelledBody ed) (step ed) fits start_state read (IsGood ed) (laws
      ed) z.0 d (us ++ b ∷ []) g.0
      (λ l. g.1 l ∙ r.same (b ∷ l) ∙ sym (append_assoc us (b ∷ []) l)) z.2

-- no program is of depth 0
pub zero_closed : (ed : Edition) (us : List Token) → IsOpen Token (IsSpelled ed) 0 us → ⊥
zero_closed ed us (rest, (s, p, w)) = let h = depth_pos s in let i = w.0 in omega (arith, h, i)

-- the same of whole texts
pub tells_first : (r : Result Bool Memory) (d : ℕ) (ts : List Token) → 1 ≤ d → TellsAll First r d ts
    → TellsOpen First r d ts
tells_first (Ok true) d ts pos m = go (tells_body First d ts true pos m)
  where
    go : ((true ≡ true) × IsOpenBody First d ts) ⊎ ((true ≡ false) × (IsOpenBody First d ts → ⊥))
        → IsOpen Token (IsSpelled First) d ts
    go (inl x) = open_behind First tt d ts x.1
    go (inr x) = let e = x.0 in absurd (cc)
tells_first (Ok false) d ts pos m = go (tells_body First d ts false pos m)
  where
    go : ((false ≡ true) × IsOpenBody First d ts) ⊎ ((false ≡ false) × (IsOpenBody First d ts → ⊥))
        → IsOpen Token (IsSpelled First) d ts → ⊥
    go (inl x) o = let e = x.0 in absurd (cc)
    go (inr x) o = x.1 (open_inside First tt d ts o)
tells_first (Err e) d ts pos m = tt

pub tells_second : (r : Result Bool Memory) (d : ℕ) (h : Header Second) (ts : List Token) → 1 ≤ d
    → TellsAll Second r d ts → TellsOpen Second r d (header_tokens Second h ts)
tells_second (Ok true) d h ts pos m = go (tells_body Second d ts true pos m)
  where
    go : ((true ≡ true) × IsOpenBody Second d ts) ⊎ ((true ≡ false) × (IsOpenBody Second d ts → ⊥))
        → IsOpen Token (IsSpelled Second) d (header_tokens Second h ts)
    go (inl x) = open_behind Second h d ts x.1
    go (inr x) = let e = x.0 in absurd (cc)
tells_second (Ok false) d h ts pos m = go (tells_body Second d ts false pos m)
  where
    go : ((false ≡ true) × IsOpenBody Second d ts) ⊎ ((false ≡ false) × (IsOpenBody Second d ts
        → ⊥)) → IsOpen Token (IsSpelled Second) d (header_tokens Second h ts) → ⊥
    go (inl x) o = let e = x.0 in absurd (cc)
    go (inr x) o = x.1 (open_inside Second h d ts o)
tells_second (Err e) d h ts pos m = tt

-- where a text ceases to be open
closes_not : (ed : Edition) (d : ℕ) (ts : List Token) → edition_of ts ≡ ed
    → IsOpen Token (IsSpelled ed) d ts → (before : List Token) (last : Token) (f : Fault)
    → Closes d ts before last f → ⊥
closes_not ed d ts e o before last f (after, whole, c) =
    let i : IsOpen Token (IsSpelled (edition_of ts)) d ((before ++ last ∷ []) ++ after) =
    subst (λ z. IsOpen Token (IsSpelled (edition_of ts)) d z) (whole
    ∙ sym (append_assoc before (last ∷ []) after)) (subst (λ z. IsOpen Token (IsSpelled z) d ts)
    (sym e) o) in
    c.1 (generic.front_open Token (IsSpelled (edition_of ts)) d (before ++ last ∷ []) after i)

none_closes : (d : ℕ) (before : List Token) (last : Token) (f : Fault) → Closes d [] before last f
    → ⊥
none_closes d [] last f (after, whole, c) = absurd (cc)
none_closes d (t ∷ before) last f (after, whole, c) = absurd (cc)

pub finds_first : (r : Result (Option ℕ) Memory) (d : ℕ) (ts : List Token) → edition_of ts ≡ First
    → FindsStop First r d ts → FindsFront r d ts
finds_first (Ok (Some n)) d ts e (r, m) =
    let s = stopped First d ts n r m in (
      s.last,
      s.fault,
      (
        s.rest,
        s.whole,
        subst (λ z. IsFaultAt Token (IsSpelled z) d (take n ts)
            s.last s.fault) (sym e) (fault_first d (take n ts) s.last s.fault s.closes),
      ),
    )
finds_first (Ok None) d ts e r =
    elim (generic.keeps Token State (IsSpelledBody First) (step First) fits start_state read (IsGood
    First) (laws First) ts d start_state r.state (read_all First d ts (length ts) r refl)) [
      | inl n ↦ λ before last f c. none_closes d before last f (subst (λ z. Closes d z before last
          f) n c)
      | inr w ↦ λ before last f c. closes_not First d ts e (open_behind First tt d ts (read_open
          First d ts r.state (read_all First d ts (length ts) r refl) w)) before last f c
    ]
finds_first (Err e) d ts i r = tt

shift_take : (h : Header Second) (vs : List Token) (n m : ℕ) → m ≡ n + 3
    → take m (header_tokens Second h vs) ≡ header_tokens Second h (take n vs)
shift_take h vs n m e =
    let i : m ≡ suc (suc (suc n)) = omega (arith, e) in
    ap (λ z. take z (header_tokens Second h vs)) i

pub finds_second : (d : ℕ) (h : Header Second) (vs : List Token) (n m : ℕ) → 1 ≤ d
    → ReadsFirst Second d vs n → (n ≡ length vs → ⊥) → m ≡ n + 3
    → FindsFront (Ok (Some m)) d (header_tokens Second h vs)
finds_second d h vs n m pos r l e =
    let s = stopped Second d vs n r l in
    let t = shift_take h vs n m e in (
      s.last,
      s.fault,
      (
        s.rest,
        ap (λ z. header_tokens Second h z) s.whole ∙ ap (λ z. z ++ s.last ∷ s.rest) (sym t),
        subst (λ z. IsFaultAt Token (IsSpelled Second) d z s.last s.fault) (sym t) (fault_second h d
            (take n vs) s.last s.fault pos s.closes),
      ),
    )

pub finds_no_second : (d : ℕ) (h : Header Second) (vs : List Token) → 1 ≤ d
    → ReadsFirst Second d vs (length vs) → FindsFront (Ok None) d (header_tokens Second h vs)
finds_no_second d h vs pos r before last f c =
    closes_not Second d (header_tokens Second h vs) refl (open_behind Second h d vs (reached_open
    Second d vs r.state pos (read_all Second d vs (length vs) r refl))) before last f c

pub finds_deep : (h : Header Second) (vs : List Token)
    → FindsFront (Ok (Some 0)) 0 (header_tokens Second h vs)
finds_deep h vs = (
  Word h.0 (codes "nq"),
  Deep,
  (
    Value h.1 (Number 2 1) ∷ Sign h.2 Semicolon ∷ vs,
    refl,
    header_deep h.0 depth_pos,
  ),
)

-- a part of a header
some_second : (d p q r : ℕ) → 1 ≤ d → IsSpelled Second d (header_tokens Second (p, q, r) (tokens
    (NoFields 0 0) (End 0 ∷ [])))
some_second d p q r pos = (
  NoFields 0 0,
  program_of Second (p, q, r) (tokens (NoFields 0 0) (End 0 ∷
      [])) (NoFields 0 0) (tt, 0, refl),
  (pos, omega arith),
)

pub none_open : (d : ℕ) → 1 ≤ d → IsOpen Token (IsSpelled Second) d []
none_open d pos = (
  header_tokens Second (0, 0, 0) (tokens (NoFields 0 0) (End 0 ∷ [])),
  some_second
      d 0 0 0 pos,
)

pub nq_open : (d p : ℕ) → 1 ≤ d → IsOpen Token (IsSpelled Second) d (Word p (codes "nq") ∷ [])
nq_open d p pos = (
  Value 0 (Number 2 1) ∷ Sign 0 Semicolon ∷ tokens (NoFields 0 0) (End 0 ∷ []),
  some_second d p 0 0 pos,
)

pub two_open : (d p q : ℕ) → 1 ≤ d → IsOpen Token (IsSpelled Second) d (Word p (codes "nq") ∷ Value
    q (Number 2 1) ∷ [])
two_open d p q pos = (
  Sign 0 Semicolon ∷ tokens (NoFields 0 0) (End 0 ∷ []),
  some_second d p q 0
      pos,
)

pub header_open : (d p q r : ℕ) → 1 ≤ d → IsOpen Token (IsSpelled Second) d (Word p (codes "nq") ∷
    Value q (Number 2 1) ∷ Sign r Semicolon ∷ [])
header_open d p q r pos = (tokens (NoFields 0 0) (End 0 ∷ []), some_second d p q r pos)

two_is : (b : Token) → is_two b ≡ true → b ≡ Value (place_of b) (Number 2 1)
two_is (Value q (Number n digits)) e =
    let i : n ≡ 2 = grind (e, arith, nat_tests) in
    let j : digits ≡ 1 = grind (e, arith, nat_tests) in rw (i, j) refl
two_is b e = absurd (cc)

nq_is : (a : Token) → is_nq a ≡ true → a ≡ Word (place_of a) (codes "nq")
nq_is (Word p w) e = let i : w ≡ codes "nq" = grind (e, arith, bytes_eq-Decides) in ap (λ z. Word p
    z) i
nq_is a e = absurd (cc)

and_parts : (b c : Bool) → b && c ≡ true → (b ≡ true) × (c ≡ true)
and_parts true true e = (refl, refl)
and_parts true false e = absurd (cc)
and_parts false c e = absurd (cc)

-- a list in which no header ends is open where it is the front of one
pub front_open : (d : ℕ) (ts : List Token) → 1 ≤ d → header_front ts ≡ true
    → IsOpen Token (IsSpelled Second) d ts
front_open d [] pos e = none_open d pos
front_open d (a ∷ []) pos e =
    subst (λ z. IsOpen Token (IsSpelled Second) d (z ∷ [])) (sym (nq_is a e)) (nq_open d (place_of
    a) pos)
front_open d (a ∷ b ∷ []) pos e =
    let h = and_parts (is_nq a) (is_two b) e in
    subst (λ z. IsOpen Token (IsSpelled Second) d (z ∷ b ∷ [])) (sym (nq_is a h.0))
    (subst (λ z. IsOpen Token (IsSpelled Second) d (Word (place_of a) (codes "nq") ∷ z ∷ [])) (sym
    (two_is b h.1)) (two_open d (place_of a) (place_of b) pos))
front_open d ts pos e = absurd (cc)

pub front_closed : (d : ℕ) (ts : List Token) → edition_of ts ≡ First → header_front ts ≡ false
    → IsOpen Token (IsSpelled Second) d ts → ⊥
front_closed d ts f e (rest, (s, (h, body, i, b), w)) = go ts f e i
  where
    go : (ts : List Token) → edition_of ts ≡ First → header_front ts ≡ false
        → ts ++ rest ≡ header_tokens Second h body → ⊥
    go [] f e i = absurd (cc)
    go (a ∷ []) f e i =
        let x : a ≡ Word h.0 (codes "nq") = cc in
        let y : is_nq a ≡ true = ap is_nq x in absurd (cc)
    go (a ∷ c ∷ []) f e i =
        let x : a ≡ Word h.0 (codes "nq") = cc in
        let y : c ≡ Value h.1 (Number 2 1) = cc in
        let z : is_nq a && is_two c ≡ true = ap (λ t. is_nq t && is_two c) x
        ∙ ap is_two y in absurd (cc)
    go (a ∷ c ∷ g ∷ us) f e i =
        let x : a ∷ c ∷ g ∷ us ≡ header_tokens Second h us = cc in
        let y : edition_of (a ∷ c ∷ g ∷ us) ≡ Second = ap edition_of x in absurd (cc)

-- what a list in which no header ends says of the second edition
pub tells_front : (b : Bool) (d : ℕ) (ts : List Token) → 1 ≤ d → edition_of ts ≡ First
    → b ≡ header_front ts → TellsOpen Second (Ok b) d ts
tells_front true d ts pos f e = front_open d ts pos (sym e)
tells_front false d ts pos f e = front_closed d ts f (sym e)

-- the same by what the reader knows
pub tells_zero : (ed : Edition) (d : ℕ) (ts : List Token) → d ≡ 0 → TellsOpen ed (Ok false) d ts
tells_zero ed d ts e = λ o. zero_closed ed ts (subst (λ z. IsOpen Token (IsSpelled ed) z ts) e o)

-- at a fault, tokens of one kind go on alike
first_alike : (d : ℕ) (us : List Token) (a b : Token) → token_kind First a ≡ token_kind First b
    → IsOpen Token (IsSpelled First) d (us ++ a ∷ [])
    → IsOpen Token (IsSpelled First) d (us ++ b ∷ [])
first_alike d us a b e o = open_behind First tt d (us ++ b ∷ []) (body_alike First d us a b e
    (open_inside First tt d (us ++ a ∷ []) o))

second_alike : (d : ℕ) (h : Header Second) (us : List Token) (a b : Token)
    → token_kind Second a ≡ token_kind Second b
    → IsOpen Token (IsSpelled Second) d (header_tokens Second h us ++ a ∷ [])
    → IsOpen Token (IsSpelled Second) d (header_tokens Second h us ++ b ∷ [])
second_alike d h us a b e o = open_behind Second h d (us ++ b ∷ []) (body_alike Second d us a b e
    (open_inside Second h d (us ++ a ∷ []) o))

-- a text of the second edition ceases to be open behind its header, if its depth is not 0
behind_alike : (d : ℕ) (us : List Token) (t : Token) (rest : List Token) (h : Header Second) (vs :
    List Token) → us ++ t ∷ rest ≡ header_tokens Second h vs → 1 ≤ d
    → (IsOpen Token (IsSpelled Second) d (us ++ t ∷ []) → ⊥) → (a b : Token)
    → token_kind Second a ≡ token_kind Second b
    → IsOpen Token (IsSpelled Second) d (us ++ a ∷ [])
    → IsOpen Token (IsSpelled Second) d (us ++ b ∷ [])
behind_alike d [] t rest h vs e pos n a b k o =
    let i : t ≡ Word h.0 (codes "nq") = cc in
    absurd (n (subst (λ z. IsOpen Token (IsSpelled Second) d (z ∷ [])) (sym i) (nq_open d h.0 pos)))
behind_alike d (x ∷ []) t rest h vs e pos n a b k o =
    let i : x ≡ Word h.0 (codes "nq") = cc in
    let j : t ≡ Value h.1 (Number 2 1) = cc in
    absurd (n (subst (λ z. IsOpen Token (IsSpelled Second) d (z ∷ t ∷ [])) (sym i) (subst (λ z.
    IsOpen Token (IsSpelled Second) d (Word h.0 (codes "nq") ∷ z ∷ [])) (sym j) (two_open d h.0
    h.1 pos))))
behind_alike d (x ∷ y ∷ []) t rest h vs e pos n a b k o =
    let i : x ∷ y ∷ t ∷ [] ≡ Word h.0 (codes "nq") ∷ Value h.1 (Number 2 1) ∷ Sign h.2 Semicolon ∷
    [] = cc in
    absurd (n (subst (λ z. IsOpen Token (IsSpelled Second) d z) (sym i) (header_open d h.0 h.1 h.2
    pos)))
behind_alike d (x ∷ y ∷ z ∷ us) t rest h vs e pos n a b k o =
    let i : x ∷ y ∷ z ∷ us ≡ header_tokens Second h us = cc in
    subst (λ l. IsOpen Token (IsSpelled Second) d (l ++ b ∷ [])) (sym i) (second_alike d h us a b k
    (subst (λ l. IsOpen Token (IsSpelled Second) d (l ++ a ∷ [])) i o))

pub kinds_go_on : KindsGoOn
kinds_go_on zero ts us t f c a b k o = absurd (zero_closed (edition_of ts) (us ++ a ∷ []) o)
kinds_go_on (suc n) ts us t f (rest, whole, (w, closes, g)) a b k o = go (edition_of ts) refl k
    closes o
  where
    d : ℕ
    d = suc n

    go : (ed : Edition) → edition_of ts ≡ ed → token_kind ed a ≡ token_kind ed b
        → (IsOpen Token (IsSpelled ed) (suc n) (us ++ t ∷ []) → ⊥)
        → IsOpen Token (IsSpelled ed) (suc n) (us ++ a ∷ [])
        → IsOpen Token (IsSpelled ed) (suc n) (us ++ b ∷ [])
    go First e i c o = first_alike (suc n) us a b i o
    go Second e i c o =
        let x = header_of ts e in
        behind_alike (suc n) us t rest x.0 x.1 (sym whole ∙ x.2) (omega arith) c a b i o
