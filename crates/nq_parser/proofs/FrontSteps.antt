-- The turns of a loop that reads tokens, and what its end says.
use Rattle.std.proofs.Common.{◌≡◌, ℕ, suc, ◌+◌, ◌-◌, ◌<◌, ◌≤◌, Bool, true, List, [], ◌∷◌, ◌++◌, map}
use Rattle.std.proofs.Common.{length, take, drop, sym, ◌∙◌, ap, subst, arith, drop-cons, inl, inr}
use Rattle.std.proofs.Common.{Some, None, Result, Ok}
use Rattle.std.specs.Prelude.{get_or}
use Rattle.std.proofs.lemmas.List.{length-map, take-map, drop-map, map_more, take_all}
use Rattle.nq_model.specs.declared.memory.Memory.{Memory}
use Rattle.nq_model.specs.Machines.{Reached}
use Rattle.nq_model.proofs.OpenLists as generic
use Rattle.nq_model.specs.QueryTokens.{Token}
use Rattle.nq_model.specs.QueryGrammar.{Edition, First, Second, header_tokens}
use Rattle.nq_model.specs.QueryTexts.{edition_of}
use Rattle.nq_model.proofs.QueryHeaders.{IsSpelledBody}
use Rattle.nq_parser.specs.Machine.{State, step, fits, run, start_state}
use Rattle.nq_parser.specs.Editions.{edition_view}
use Rattle.nq_parser.specs.Openness.{header_front, TellsOpen, Stops, ReadsFirst, TellsAll}
use Rattle.nq_parser.specs.Openness.{FindsFront}
use Rattle.query_syntax.specs.Symbols.{token_view}
use Rattle.query_syntax.specs.declared.symbol.Token.{Token as CodeToken}
use Rattle.nq_parser.specs.declared.edition.Edition.{Edition as CodeEdition}
use Rattle.nq_parser.specs.declared.edition.Edition.TheVariants as code
use Rattle.nq_parser.proofs.Parsing.{goes_on}
use Rattle.nq_parser.proofs.Sound.{IsGood, read}
use Rattle.nq_parser.proofs.Exact.{laws}
use Rattle.nq_parser.proofs.OpenTexts.{tells_first, tells_second, tells_front, finds_second}
use Rattle.nq_parser.proofs.OpenTexts.{finds_no_second, finds_deep}

-- a run over a list, from where a run over its front ends
run_behind : (ed : Edition) (us ts : List Token) (d : ℕ) (from st : State)
    → run ed d us from ≡ Reached st → run ed d (us ++ ts) from ≡ run ed d ts st
run_behind ed [] ts d from st e = let i : from ≡ st = cc in ap (λ z. run ed d ts z) i
run_behind ed (t ∷ us) ts d from st e =
    let s = generic.stepped Token State (IsSpelledBody ed) (step ed) fits start_state read (IsGood
    ed) (laws ed) d t us from st e in
    generic.run_on Token State (IsSpelledBody ed) (step ed) fits start_state read (IsGood ed) (laws
    ed) d t (us ++ ts) from s.to s.by s.fine ∙ run_behind ed us ts d s.to st s.rest

pub front_more : (ed : Edition) (d : ℕ) (xs : List CodeToken) (n : ℕ) (x : CodeToken) (st next :
    State) → n < length xs → x ≡ get_or xs n x
    → run ed d (map token_view (take n xs)) start_state ≡ Reached st
    → step ed st (token_view x) ≡ Some next → fits d next ≡ true
    → run ed d (map token_view (take (n + 1) xs)) start_state ≡ Reached next
front_more ed d xs n x st next l i e s f =
    let more : map token_view (take (n + 1) xs) ≡ map token_view (take n xs) ++ token_view x ∷ [] =
    map_more token_view xs n x l ∙ ap (λ z. map token_view (take n xs) ++ token_view z ∷ []) (sym i)
    in
    ap (λ z. run ed d z start_state) more ∙ run_behind ed (map token_view (take n xs)) (token_view x
    ∷ []) d start_state st e ∙ goes_on ed d (token_view x) [] st next s f

pub front_stops : (ed : Edition) (d : ℕ) (xs : List CodeToken) (n : ℕ) (x : CodeToken) (st : State)
    → n < length xs → x ≡ get_or xs n x → run ed d (map token_view (take n xs)) start_state ≡
    Reached st
    → Stops ed d st (token_view x) → ReadsFirst ed d (map token_view xs) n
front_stops ed d xs n x st l i e s =
    record {
      state = st;
      within = let h = length-map xs token_view in omega (arith, h, l);
      run_to = ap (λ z. run ed d z start_state) (take-map token_view n xs) ∙ e;
      stops = inr (
        token_view x,
        map token_view (drop (suc n) xs),
        drop-map token_view n xs ∙ ap (map token_view) (drop-cons xs n x l)
            ∙ ap (λ z. token_view z ∷ map token_view (drop (suc n) xs)) (sym i),
        s,
      );
    }

pub front_all : (ed : Edition) (d : ℕ) (xs : List CodeToken) (n : ℕ) (st : State) → length xs ≤ n
    → run ed d (map token_view (take n xs)) start_state ≡ Reached st
    → ReadsFirst ed d (map token_view xs) (length xs)
front_all ed d xs n st l e =
    let m = length-map xs token_view in
    let whole : take n xs ≡ xs = take_all n xs l in
    let full : take (length xs) (map token_view xs) ≡ map token_view xs = take_all (length xs) (map
    token_view xs) (omega (arith, m)) in
    record {
      state = st;
      within = omega (arith, m);
      run_to = ap (λ z. run ed d z start_state) (full ∙ ap (map token_view) (sym whole)) ∙ e;
      stops = inl (sym m);
    }

-- the same of a whole text with a header
pub deep_front : (d p q r : ℕ) (vs ts : List Token) → ts ≡ header_tokens Second (p, q, r) vs → d ≡ 0
    → FindsFront (Ok (Some 0)) d ts
deep_front d p q r vs ts e i = subst (λ z. FindsFront (Ok (Some 0)) d z) (sym e) (subst (λ z.
    FindsFront (Ok (Some 0)) z (header_tokens Second (p, q, r) vs)) (sym i) (finds_deep (p, q, r)
    vs))

pub second_front : (d p q r : ℕ) (ys xs : List CodeToken) (n : ℕ)
    → map token_view xs ≡ header_tokens Second (p, q, r) (map token_view ys) → (d ≡ 0 → ⊥)
    → ReadsFirst Second d (map token_view ys) n → (n ≡ length (map token_view ys) → ⊥)
    → FindsFront (Ok (Some (length xs - length ys + n))) d (map token_view xs)
second_front d p q r ys xs n e i f l =
    let k : length (map token_view xs) ≡ suc (suc (suc (length (map token_view ys)))) = ap length e
    in
    let a = length-map xs token_view in
    let b = length-map ys token_view in
    let m : length xs - length ys + n ≡ n + 3 = omega (arith, k, a, b) in
    subst (λ z. FindsFront (Ok (Some (length xs - length ys + n))) d z) (sym e) (finds_second d (
      p,
      q,
      r,
    ) (map token_view ys) n (length xs - length ys + n) (omega (arith, i)) f l m)

pub second_none : (d p q r : ℕ) (vs ts : List Token) → ts ≡ header_tokens Second (p, q, r) vs
    → (d ≡ 0 → ⊥) → ReadsFirst Second d vs (length vs) → FindsFront (Ok None) d ts
second_none d p q r vs ts e i f = subst (λ z. FindsFront (Ok None) d z) (sym e) (finds_no_second d
    (p, q, r) vs (omega (arith, i)) f)

-- what the reader knows of its edition
pub open_first : (e : CodeEdition) (r : Result Bool Memory) (d : ℕ) (ts : List Token)
    → e ≡ code.First → (d ≡ 0 → ⊥) → TellsAll (edition_view e) r d ts
    → TellsOpen (edition_view e) r d ts
open_first e r d ts i n a =
    subst (λ z. TellsOpen (edition_view z) r d ts) (sym i) (tells_first r d ts (omega (arith, n))
    (subst (λ z. TellsAll (edition_view z) r d ts) i a))

pub open_front : (e : CodeEdition) (b : Bool) (d : ℕ) (ts : List Token) → e ≡ code.Second → (d ≡ 0
    → ⊥) → edition_of ts ≡ First → b ≡ header_front ts → TellsOpen (edition_view e) (Ok b) d ts
open_front e b d ts i n f h = subst (λ z. TellsOpen (edition_view z) (Ok b) d ts) (sym i)
    (tells_front b d ts (omega (arith, n)) f h)

pub open_second : (e : CodeEdition) (r : Result Bool Memory) (d p q i : ℕ) (vs ts : List Token)
    → e ≡ code.Second → (d ≡ 0 → ⊥) → ts ≡ header_tokens Second (p, q, i) vs
    → TellsAll (edition_view e) r d vs
    → TellsOpen (edition_view e) r d ts
open_second e r d p q i vs ts j n h a =
    subst (λ z. TellsOpen (edition_view z) r d ts) (sym j)
    (subst (λ z. TellsOpen Second r d z) (sym h) (tells_second r d (p, q, i) vs (omega (arith, n))
    (subst (λ z. TellsAll (edition_view z) r d vs) j a)))
