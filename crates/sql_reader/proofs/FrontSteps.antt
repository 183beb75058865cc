-- The turns of a loop that reads tokens, and what its end says.
use Rattle.std.proofs.Common.{◌≡◌, ℕ, suc, ◌+◌, ◌<◌, ◌≤◌, Bool, true, false}
use Rattle.std.proofs.Common.{cond, List, [], ◌∷◌, ◌++◌, map, length, take, drop, sym}
use Rattle.std.proofs.Common.{◌∙◌, ap, arith, drop-cons, inl, inr, Option, Some, None, Result}
use Rattle.std.proofs.Common.{Ok, Err, refl, subst}
use Rattle.nq_model.specs.declared.memory.Memory.{Memory}
use Rattle.std.specs.Prelude.{get_or}
use Rattle.std.proofs.lemmas.List.{length-map, take-map, drop-map, map_more, take_all}
use Rattle.nq_model.specs.OpenLists.{Deep}
use Rattle.nq_model.specs.Machines.{Reached, Faulty}
use Rattle.sql_profile.specs.Tokens.{Token}
use Rattle.sql_reader.specs.Needs.{fits}
use Rattle.sql_reader.specs.Openness.{Stops, ReadsFirst, ReadsFront, StopsBehind}
use Rattle.sql_reader.specs.Reading.{Advances}
use Rattle.sql_reader.specs.Runs.{turn, run}
use Rattle.sql_reader.specs.Steps.{State, start_state, step}
use Rattle.sql_reader.specs.Symbols.{token_view}
use Rattle.sql_reader.specs.declared.fault.SqlFault.{SqlFault}
use Rattle.sql_reader.specs.declared.fault.SqlFault.TheVariants as code
use Rattle.sql_reader.specs.declared.token.Token.{Token as CodeToken}

-- a run over a list, from where a run over its front ends
run_behind : (us ts : List Token) (d : ℕ) (from st : State) → run d us from ≡ Reached st
    → run d (us ++ ts) from ≡ run d ts st
run_behind [] ts d from st e = let i : from ≡ st = cc in ap (λ z. run d ts z) i
run_behind (t ∷ us) ts d from st e = go (step from t) e (λ next i. run_behind us ts d next st i)
  where
    fine : (b : Bool) (next : State) → cond b (run d us next) (Faulty t Deep) ≡ Reached st
        → (run d us next ≡ Reached st → run d (us ++ ts) next ≡ run d ts st)
        → cond b (run d (us ++ ts) next) (Faulty t Deep) ≡ run d ts st
    fine true next i h = h i
    fine false next i h = absurd (cc)

    go : (o : Option State) → turn d t o (run d us) ≡ Reached st
        → ((next : State) → run d us next ≡ Reached st
        → run d (us ++ ts) next ≡ run d ts st)
        → turn d t o (run d (us ++ ts)) ≡ run d ts st
    go None i h = absurd (cc)
    go (Some next) i h = fine (fits d next) next i (h next)

-- one turn of the reader
goes_on : (d : ℕ) (t : Token) (ts : List Token) (st next : State) → step st t ≡ Some next
    → fits d next ≡ true → run d (t ∷ ts) st ≡ run d ts next
goes_on d t ts st next e f =
    ap (λ o. turn d t o (run d ts)) e ∙ ap (λ b. cond b (run d ts next) (Faulty t Deep)) f

pub front_more : (d : ℕ) (xs : List CodeToken) (n : ℕ) (x : CodeToken) (st next : State)
    → n < length xs → x ≡ get_or xs n x
    → run d (map token_view (take n xs)) start_state ≡ Reached st
    → step st (token_view x) ≡ Some next → fits d next ≡ true
    → run d (map token_view (take (n + 1) xs)) start_state ≡ Reached next
front_more d xs n x st next l i e s f =
    let more : map token_view (take (n + 1) xs)
    ≡ map token_view (take n xs) ++ token_view x ∷ [] =
    map_more token_view xs n x l
    ∙ ap (λ z. map token_view (take n xs) ++ token_view z ∷ []) (sym i) in
    ap (λ z. run d z start_state) more
    ∙ run_behind (map token_view (take n xs)) (token_view x ∷ []) d start_state st e
    ∙ goes_on d (token_view x) [] st next s f

front_stops : (d : ℕ) (xs : List CodeToken) (n : ℕ) (x : CodeToken) (st : State)
    → n < length xs → x ≡ get_or xs n x
    → run d (map token_view (take n xs)) start_state ≡ Reached st
    → Stops d st (token_view x) → ReadsFirst d (map token_view xs) n
front_stops d xs n x st l i e s =
    record {
      state = st;
      within = let h = length-map xs token_view in omega (arith, h, l);
      run_to = ap (λ z. run d z start_state) (take-map token_view n xs) ∙ e;
      stops = inr (
        token_view x,
        map token_view (drop (suc n) xs),
        drop-map token_view n xs ∙ ap (map token_view) (drop-cons xs n x l)
            ∙ ap (λ z. token_view z ∷ map token_view (drop (suc n) xs)) (sym i),
        s,
      );
    }

-- the reader's fault at a token stops it, unless it is want of memory
stops_by : (e : SqlFault) (d : ℕ) (st : State) (t : Token) → (e ≡ code.Memory → ⊥)
    → Advances (Err e) d st t → Stops d st t
stops_by code.Memory d st t n a = absurd (n refl)
stops_by (code.Unexpected p) d st t n a = inl a.1
stops_by (code.Deep p) d st t n a = inr a.1
stops_by e d st t n a = absurd a

pub front_fault : (r : Result ℕ Memory) (e : SqlFault) (d : ℕ) (xs : List CodeToken) (n : ℕ)
    (x : CodeToken) (st : State) → n < length xs → x ≡ get_or xs n x
    → run d (map token_view (take n xs)) start_state ≡ Reached st
    → Advances (Err e) d st (token_view x) → StopsBehind r e n
    → ReadsFront r d (map token_view xs)
front_fault (Ok m) e d xs n x st l i h a (j, k) =
    subst (λ z. ReadsFirst d (map token_view xs) z) (sym j)
    (front_stops d xs n x st l i h (stops_by e d st (token_view x) k a))
front_fault (Err e) f d xs n x st l i h a s = tt

pub front_all : (d : ℕ) (xs : List CodeToken) (n : ℕ) (st : State) → length xs ≤ n
    → run d (map token_view (take n xs)) start_state ≡ Reached st
    → ReadsFirst d (map token_view xs) (length xs)
front_all d xs n st l e =
    let m = length-map xs token_view in
    let whole : take n xs ≡ xs = take_all n xs l in
    let full : take (length xs) (map token_view xs) ≡ map token_view xs =
    take_all (length xs) (map token_view xs) (omega (arith, m)) in
    record {
      state = st;
      within = omega (arith, m);
      run_to = ap (λ z. run d z start_state) (full ∙ ap (map token_view) (sym whole)) ∙ e;
      stops = inl (sym m);
    }
