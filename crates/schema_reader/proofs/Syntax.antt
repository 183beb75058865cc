-- The machine stops at the first wrong token, and reaches the end where a schema is written.
use Rattle.std.proofs.Common.{◌≡◌, ◌≢◌, ℕ, suc, ◌+◌, ◌≤◌, ◌<◌, List, [], ◌∷◌, ◌++◌, length, refl, sym, ◌∙◌, ap, subst, append_assoc, append-nil, Option, Some, None, codes, arith, inl, inr}
use Rattle.std.specs.Option.{option_and_then}
use Rattle.std.specs.List.{AllByRecursion as Each, AllZip, flat_map}
use Rattle.nq_model.specs.SchemaTokens.{Mark, Symbol, Token, token, Piece, IsCut, bytes_of, piece_tokens, tokens_from, end_token, HasTokens}
use Rattle.nq_model.specs.SchemaTexts.{WrittenTable, Slot, Fills, table_slots, schema_slots, KeyNeedsColumn, IsWritten, IsSymbol, IsOpen, HasWrongToken, WritesTables, FaultySyntaxAt, IsSyntaxPlace}
use Rattle.schema_reader.specs.Machine.{Spot, State, state, blank, start, step, run}
use Rattle.schema_reader.proofs.Truths.{Found, nothing', something', found}
use Rattle.schema_reader.proofs.Cuts.{Ascend, tokens_ascend, far, far_length, same_cut, Rest, cut_rest, Each-append}
use Rattle.schema_reader.proofs.Steps.{run-append, reads_written, AllZip-parts}
use Rattle.schema_reader.proofs.Fronts
use Rattle.schema_reader.proofs.Fronts.{Reads, Then, goes}

at_some : (o : Option State) (st : State) (P : State → Type 0) → o ≡ Some st → Then o P → P st
at_some None st P e h = absurd (cc)
at_some (Some next) st P e h = let same : next ≡ st = cc in subst P same h

pub reads_start : Reads [] start
reads_start = record { good = refl; keys = tt; filled = λ xs vs a. a }

pub reads_step : (us : List Token) (st : State) (t : Token) (to : State) → Reads us st → step st t ≡ Some to → Reads (us ++ t ∷ []) to
reads_step us st t to r e = at_some (step st t) to (Reads (us ++ t ∷ [])) e (goes us st.tables st.table st.spot t.place t.symbol r)

pub reads_run : (us ts : List Token) (st to : State) → Reads us st → run st ts ≡ Some to → Reads (us ++ ts) to
reads_run us [] st to r e = let same : st ≡ to = cc in subst (Reads (us ++ [])) same (subst (λ z. Reads z st) (sym (append-nil us)) r)
reads_run us (t ∷ ts) st to r e = go (found (step st t)) (λ next s k. reads_run (us ++ t ∷ []) ts next to k s)
  where
    go : Found (step st t) → ((next : State) → run next ts ≡ Some to → Reads (us ++ t ∷ []) next → Reads ((us ++ t ∷ []) ++ ts) to) → Reads (us ++ t ∷ ts) to
    go (nothing' n) rec = let h = ap (option_and_then (λ next. run next ts)) n in absurd (cc)
    go (something' next s) rec =
        subst (λ z. Reads z to) (append_assoc us (t ∷ []) ts)
        (rec next (sym (ap (option_and_then (λ z. run z ts)) s) ∙ e) (reads_step us st t next r s))

-- some tokens that complete a schema
finish : Spot → List Token
finish Spot.between = token 0 Symbol.end ∷ []
finish Spot.titled = token 0 (Symbol.word (codes "x")) ∷ token 0 (Symbol.mark Mark.opening) ∷ token 0 (Symbol.mark Mark.closing) ∷ token 0 (Symbol.mark Mark.semicolon) ∷ token 0 Symbol.end ∷ []
finish Spot.named = token 0 (Symbol.mark Mark.opening) ∷ token 0 (Symbol.mark Mark.closing) ∷ token 0 (Symbol.mark Mark.semicolon) ∷ token 0 Symbol.end ∷ []
finish Spot.first = token 0 (Symbol.mark Mark.closing) ∷ token 0 (Symbol.mark Mark.semicolon) ∷ token 0 Symbol.end ∷ []
finish (Spot.first_name n) = token 0 (Symbol.mark Mark.colon) ∷ token 0 (Symbol.word (codes "int")) ∷ token 0 (Symbol.mark Mark.closing) ∷ token 0 (Symbol.mark Mark.semicolon) ∷ token 0 Symbol.end ∷ []
finish (Spot.later_name n) = token 0 (Symbol.mark Mark.colon) ∷ token 0 (Symbol.word (codes "int")) ∷ token 0 (Symbol.mark Mark.closing) ∷ token 0 (Symbol.mark Mark.semicolon) ∷ token 0 Symbol.end ∷ []
finish (Spot.typed n) = token 0 (Symbol.word (codes "int")) ∷ token 0 (Symbol.mark Mark.closing) ∷ token 0 (Symbol.mark Mark.semicolon) ∷ token 0 Symbol.end ∷ []
finish Spot.column_end = token 0 (Symbol.mark Mark.closing) ∷ token 0 (Symbol.mark Mark.semicolon) ∷ token 0 Symbol.end ∷ []
finish Spot.comma = token 0 (Symbol.word (codes "x")) ∷ token 0 (Symbol.mark Mark.colon) ∷ token 0 (Symbol.word (codes "int")) ∷ token 0 (Symbol.mark Mark.closing) ∷ token 0 (Symbol.mark Mark.semicolon) ∷ token 0 Symbol.end ∷ []
finish Spot.key_name = token 0 (Symbol.word (codes "x")) ∷ token 0 (Symbol.mark Mark.closing) ∷ token 0 (Symbol.mark Mark.closing) ∷ token 0 (Symbol.mark Mark.semicolon) ∷ token 0 Symbol.end ∷ []
finish Spot.key_word = token 0 (Symbol.mark Mark.closing) ∷ token 0 (Symbol.mark Mark.closing) ∷ token 0 (Symbol.mark Mark.semicolon) ∷ token 0 Symbol.end ∷ []
finish Spot.key_end = token 0 (Symbol.mark Mark.closing) ∷ token 0 (Symbol.mark Mark.semicolon) ∷ token 0 Symbol.end ∷ []
finish Spot.closed = token 0 (Symbol.mark Mark.semicolon) ∷ token 0 Symbol.end ∷ []
finish Spot.done = []

record Finish (ts : List WrittenTable) (t : WrittenTable) (spot : Spot) : Type 0 where
  more : List Token
  to : State
  reached : run (state ts t spot) more ≡ Some to
  ended : to.spot ≡ Spot.done
  words : Each (λ u. IsSymbol u.symbol) more

finishes : (ts : List WrittenTable) (t : WrittenTable) (spot : Spot) → Finish ts t spot
unfolding finish
finishes ts t Spot.between = record { more = finish Spot.between; to = _; reached = refl; ended = refl; words = (tt, tt) }
finishes ts t Spot.titled = record { more = finish Spot.titled; to = _; reached = refl; ended = refl; words = ((refl, tt), (tt, (tt, (tt, (tt, tt))))) }
finishes ts t Spot.named = record { more = finish Spot.named; to = _; reached = refl; ended = refl; words = (tt, (tt, (tt, (tt, tt)))) }
finishes ts t Spot.first = record { more = finish Spot.first; to = _; reached = refl; ended = refl; words = (tt, (tt, (tt, tt))) }
finishes ts t (Spot.first_name n) = record { more = finish (Spot.first_name n); to = _; reached = refl; ended = refl; words = (tt, ((refl, (refl, (refl, tt))), (tt, (tt, (tt, tt))))) }
finishes ts t (Spot.later_name n) = record { more = finish (Spot.later_name n); to = _; reached = refl; ended = refl; words = (tt, ((refl, (refl, (refl, tt))), (tt, (tt, (tt, tt))))) }
finishes ts t (Spot.typed n) = record { more = finish (Spot.typed n); to = _; reached = refl; ended = refl; words = ((refl, (refl, (refl, tt))), (tt, (tt, (tt, tt)))) }
finishes ts t Spot.column_end = record { more = finish Spot.column_end; to = _; reached = refl; ended = refl; words = (tt, (tt, (tt, tt))) }
finishes ts t Spot.comma = record { more = finish Spot.comma; to = _; reached = refl; ended = refl; words = ((refl, tt), (tt, ((refl, (refl, (refl, tt))), (tt, (tt, (tt, tt)))))) }
finishes ts t Spot.key_name = record { more = finish Spot.key_name; to = _; reached = refl; ended = refl; words = ((refl, tt), (tt, (tt, (tt, (tt, tt))))) }
finishes ts t Spot.key_word = record { more = finish Spot.key_word; to = _; reached = refl; ended = refl; words = (tt, (tt, (tt, (tt, tt)))) }
finishes ts t Spot.key_end = record { more = finish Spot.key_end; to = _; reached = refl; ended = refl; words = (tt, (tt, (tt, tt))) }
finishes ts t Spot.closed = record { more = finish Spot.closed; to = _; reached = refl; ended = refl; words = (tt, (tt, tt)) }
finishes ts t Spot.done = record { more = []; to = _; reached = refl; ended = refl; words = tt }

-- what was read up to the end is written
pub done_written : (us : List Token) (st : State) → Reads us st → st.spot ≡ Spot.done → IsWritten st.tables us
done_written us st r e = at_done st.tables st.table st.spot e r.keys (r.filled [] [] tt)
  where
    at_done : (ts : List WrittenTable) (t : WrittenTable) (spot : Spot) → spot ≡ Spot.done → Each KeyNeedsColumn ts
        → AllZip Fills (Fronts.shown (state ts t spot) []) (us ++ []) → IsWritten ts us
    at_done ts t spot h k a = record {
      keys = k;
      filled = subst (λ z. AllZip Fills (schema_slots ts) z) (append-nil us) (subst (λ z. AllZip Fills (Fronts.shown (state ts t z) []) (us ++ [])) h a);
    }

pub reads_open : (us : List Token) (st : State) → Reads us st → IsOpen us
reads_open us st r =
    let f = finishes st.tables st.table st.spot in
    (f.to.tables, f.more, f.words, done_written (us ++ f.more) f.to (reads_run us f.more st f.to r f.reached) f.ended)

-- the place of the first token that the machine does not take
abbrev wrong_from : ℕ → Option State → (State → Option ℕ) → Option ℕ
wrong_from place None rest = Some place
wrong_from place (Some st) rest = rest st

abbrev pub wrong_at : State → List Token → Option ℕ
wrong_at st [] = None
wrong_at st (t ∷ ts) = wrong_from t.place (step st t) (λ next. wrong_at next ts)

pub wrong_here : (st mid : State) (us : List Token) (t : Token) (rest : List Token) → run st us ≡ Some mid → step mid t ≡ None
    → wrong_at st (us ++ t ∷ rest) ≡ Some t.place
wrong_here st mid [] t rest e n =
    let same : st ≡ mid = cc in
    ap (λ o. wrong_from t.place o (λ next. wrong_at next rest)) (ap (λ z. step z t) same ∙ n)
wrong_here st mid (u ∷ us) t rest e n = go (found (step st u)) (λ next. wrong_here next mid us t rest)
  where
    go : Found (step st u) → ((next : State) → run next us ≡ Some mid → step mid t ≡ None → wrong_at next (us ++ t ∷ rest) ≡ Some t.place)
        → wrong_at st (u ∷ (us ++ t ∷ rest)) ≡ Some t.place
    go (nothing' h) rec = let k = ap (option_and_then (λ next. run next us)) h in absurd (cc)
    go (something' next s) rec =
        ap (λ o. wrong_from u.place o (λ z. wrong_at z (us ++ t ∷ rest))) s
        ∙ rec next (sym (ap (option_and_then (λ z. run z us)) s) ∙ e) n

-- no schema begins with the tokens through one that the machine does not take
not_open : (us : List Token) (st : State) (t : Token) → run start us ≡ Some st → step st t ≡ None → IsOpen (us ++ t ∷ []) → ⊥
not_open us st t e n o =
    let whole = reads_written o.0 ((us ++ t ∷ []) ++ o.1) o.3 in
    let a : run start ((us ++ t ∷ []) ++ o.1) ≡ run start (us ++ t ∷ o.1) = ap (run start) (append_assoc us (t ∷ []) o.1) in
    let b : run start (us ++ t ∷ o.1) ≡ option_and_then (λ next. run next (t ∷ o.1)) (Some st) = run-append start us (t ∷ o.1) ∙ ap (option_and_then (λ next. run next (t ∷ o.1))) e in
    let c : run st (t ∷ o.1) ≡ None = ap (option_and_then (λ next. run next o.1)) n in
    cc

wrong_within : (us ts : List Token) (st : State) (p : ℕ) → run start us ≡ Some st → Reads us st → wrong_at st ts ≡ Some p → HasWrongToken (us ++ ts) p
wrong_within us [] st p e r w = absurd (cc)
wrong_within us (t ∷ ts) st p e r w = go (found (step st t)) (λ next. wrong_within (us ++ t ∷ []) ts next p)
  where
    go : Found (step st t) → ((next : State) → run start (us ++ t ∷ []) ≡ Some next → Reads (us ++ t ∷ []) next → wrong_at next ts ≡ Some p → HasWrongToken ((us ++ t ∷ []) ++ ts) p)
        → HasWrongToken (us ++ t ∷ ts) p
    go (nothing' n) rec =
        let same : Some t.place ≡ Some p = sym (ap (λ o. wrong_from t.place o (λ next. wrong_at next ts)) n) ∙ w in
        (us, t, ts, refl, cc, reads_open us st r, not_open us st t e n)
    go (something' next s) rec =
        subst (λ z. HasWrongToken z p) (append_assoc us (t ∷ []) ts)
        (rec next (run-append start us (t ∷ []) ∙ ap (option_and_then (λ z. run z (t ∷ []))) e ∙ ap (option_and_then (λ z. run z [])) s)
        (reads_step us st t next r s)
        (sym (ap (λ o. wrong_from t.place o (λ z. wrong_at z ts)) s) ∙ w))

pub wrong_token : (ts : List Token) (p : ℕ) → wrong_at start ts ≡ Some p → HasWrongToken ts p
wrong_token ts p w = wrong_within [] ts start p refl reads_start w

run_or_wrong : (st : State) (ts : List Token) → wrong_at st ts ≡ None → (to : State) × (run st ts ≡ Some to)
run_or_wrong st [] w = (st, refl)
run_or_wrong st (t ∷ ts) w = go (found (step st t)) (λ next. run_or_wrong next ts)
  where
    go : Found (step st t) → ((next : State) → wrong_at next ts ≡ None → (to : State) × (run next ts ≡ Some to)) → (to : State) × (run st (t ∷ ts) ≡ Some to)
    go (nothing' n) rec = let h = ap (λ o. wrong_from t.place o (λ next. wrong_at next ts)) n in absurd (cc)
    go (something' next s) rec =
        let r = rec next (sym (ap (λ o. wrong_from t.place o (λ z. wrong_at z ts)) s) ∙ w) in
        (r.0, ap (option_and_then (λ z. run z ts)) s ∙ r.1)

-- tokens with which some schema begins are read
open_run : (us : List Token) → IsOpen us → (st : State) × (run start us ≡ Some st)
open_run us o = go (found (run start us))
  where
    go : Found (run start us) → (st : State) × (run start us ≡ Some st)
    go (something' st e) = (st, e)
    go (nothing' n) =
        let whole = reads_written o.0 (us ++ o.1) o.3 in
        let a : run start (us ++ o.1) ≡ None = run-append start us o.1 ∙ ap (option_and_then (λ next. run next o.1)) n in
        absurd (cc)

-- a wrong token is the one at which the machine stops
pub wrong_is : (ts : List Token) (p : ℕ) → HasWrongToken ts p → wrong_at start ts ≡ Some p
wrong_is ts p h =
    let before = h.0 in
    let t = h.1 in
    let r = open_run before h.5 in
    go before t h.2 h.3 h.4 h.6 r.0 r.1 (found (step r.0 t))
  where
    go : (before : List Token) (t : Token) (after : List Token) → ts ≡ before ++ t ∷ after → t.place ≡ p → (IsOpen (before ++ t ∷ []) → ⊥)
        → (st : State) → run start before ≡ Some st → Found (step st t) → wrong_at start ts ≡ Some p
    go before t after e q n st r (nothing' s) = ap (wrong_at start) e ∙ wrong_here start st before t after r s ∙ ap Some q
    go before t after e q n st r (something' next s) =
        absurd (n (reads_open (before ++ t ∷ []) next
        (reads_step before st t next (reads_run [] before start st reads_start r) s)))

-- the tokens of a text
abbrev pub cut_tokens : List Piece → ℕ → List ℕ → List Token
cut_tokens ps m r = tokens_from 0 ps ++ end_token m r

-- a text has one list of tokens
pub one_tokens : (text : List ℕ) (ts us : List Token) → HasTokens text ts → HasTokens text us → ts ≡ us
one_tokens text ts us a b =
    let s = same_cut text a.0 b.0 a.1 b.1 a.2 b.2 a.3 b.3 in
    a.4 ∙ ap (λ z. tokens_from 0 z ++ end_token a.1 a.2) s.pieces ∙ ap (λ z. tokens_from 0 b.0 ++ end_token z a.2) s.place
    ∙ ap (λ z. tokens_from 0 b.0 ++ end_token b.1 z) s.rest ∙ sym b.4

-- a wrong token stands among the tokens
wrong_among : (st : State) (ts : List Token) (low high p : ℕ) → Ascend low ts high → wrong_at st ts ≡ Some p → p < high
wrong_among st [] low high p a w = absurd (cc)
wrong_among st (t ∷ ts) low high p a w = go (found (step st t)) (λ next. wrong_among next ts (suc t.place) high p a.1)
  where
    bounded : (us : List Token) (l : ℕ) → Ascend l us high → l ≤ high
    bounded [] l b = b
    bounded (u ∷ us) l b = let h = bounded us (suc u.place) b.1 in let g = b.0 in omega arith

    go : Found (step st t) → ((next : State) → wrong_at next ts ≡ Some p → p < high) → p < high
    go (nothing' n) rec =
        let same : Some t.place ≡ Some p = sym (ap (λ o. wrong_from t.place o (λ next. wrong_at next ts)) n) ∙ w in
        let here : t.place ≡ p = cc in
        let h = bounded ts (suc t.place) a.1 in omega arith
    go (something' next s) rec = rec next (sym (ap (λ o. wrong_from t.place o (λ z. wrong_at z ts)) s) ∙ w)

pub cut_far : (text : List ℕ) (ps : List Piece) (m : ℕ) (r : List ℕ) → IsCut text ps m r → m ≡ far 0 ps
cut_far text ps m r c =
    let l = far_length 0 ps r in
    let w = ap length c.whole in
    let e = c.reached in
    omega (arith, l, w, e)

pub wrong_place : (text : List ℕ) (ps : List Piece) (m : ℕ) (r : List ℕ) (p : ℕ) → IsCut text ps m r → wrong_at start (cut_tokens ps m r) ≡ Some p → IsSyntaxPlace text p
wrong_place text ps m r p c w = (inr (cut_tokens ps m r, (ps, m, r, c, refl), wrong_token (cut_tokens ps m r) p w), least)
  where
    before_stray : (b : ℕ) (bs : List ℕ) → r ≡ b ∷ bs → p < m
    before_stray b bs e =
        wrong_among start (tokens_from 0 ps) 0 m p
        (subst (λ z. Ascend 0 (tokens_from 0 ps) z) (sym (cut_far text ps m r c)) (tokens_ascend 0 ps r c.fit))
        (sym (ap (wrong_at start) (ap (λ z. tokens_from 0 ps ++ end_token m z) e ∙ append-nil (tokens_from 0 ps))) ∙ w)

    least : (other : ℕ) → FaultySyntaxAt text other → p ≤ other
    least other (inl h) =
        let s = same_cut text ps h.0 m other r (h.1 ∷ h.2) c h.3 in
        let l = before_stray h.1 h.2 s.rest in
        let e = s.place in
        omega arith
    least other (inr h) =
        let t = one_tokens text (cut_tokens ps m r) h.0 (ps, m, r, c, refl) h.1 in
        let k : Some p ≡ Some other = sym w ∙ ap (wrong_at start) t ∙ wrong_is h.0 other h.2 in
        let same : p ≡ other = cc in omega arith

pub stray_place : (text : List ℕ) (ps : List Piece) (m b : ℕ) (bs : List ℕ) → IsCut text ps m (b ∷ bs) → wrong_at start (tokens_from 0 ps) ≡ None → IsSyntaxPlace text m
stray_place text ps m b bs c w = (inl (ps, b, bs, c), least)
  where
    least : (other : ℕ) → FaultySyntaxAt text other → m ≤ other
    least other (inl h) = let e = (same_cut text ps h.0 m other (b ∷ bs) (h.1 ∷ h.2) c h.3).place in omega arith
    least other (inr h) =
        let t = one_tokens text (cut_tokens ps m (b ∷ bs)) h.0 (ps, m, b ∷ bs, c, refl) h.1 in
        let k : None ≡ Some other = sym w ∙ ap (wrong_at start) (sym (append-nil (tokens_from 0 ps)) ∙ t) ∙ wrong_is h.0 other h.2 in
        absurd (cc)

-- the end leads to the last state alone
end_done : (ts : List WrittenTable) (t : WrittenTable) (spot : Spot) (m : ℕ) (to : State) → step (state ts t spot) (token m Symbol.end) ≡ Some to → to.spot ≡ Spot.done
end_done ts t Spot.between m to e = let h : to ≡ state ts t Spot.done = cc in ap (λ z. z.spot) h
end_done ts t spot m to e = absurd (cc)

end_spot : (st to : State) (us : List Token) (m : ℕ) → run st (us ++ token m Symbol.end ∷ []) ≡ Some to → to.spot ≡ Spot.done
end_spot st to us m e = go (found (run st us))
  where
    last : (mid : State) → Found (step mid (token m Symbol.end)) → run mid (token m Symbol.end ∷ []) ≡ Some to → to.spot ≡ Spot.done
    last mid (nothing' n) h = let k = ap (option_and_then (λ next. run next [])) n in absurd (cc)
    last mid (something' next s) h =
        let k : next ≡ to = cc in
        end_done mid.tables mid.table mid.spot m to (s ∙ ap Some k)

    go : Found (run st us) → to.spot ≡ Spot.done
    go (nothing' n) =
        let h = run-append st us (token m Symbol.end ∷ []) ∙ ap (option_and_then (λ next. run next (token m Symbol.end ∷ []))) n in
        absurd (cc)
    go (something' mid s) =
        let h : run mid (token m Symbol.end ∷ []) ≡ Some to = sym (run-append st us (token m Symbol.end ∷ []) ∙ ap (option_and_then (λ next. run next (token m Symbol.end ∷ []))) s) ∙ e in
        last mid (found (step mid (token m Symbol.end))) h

pub written_tables : (text : List ℕ) (ps : List Piece) (m : ℕ) (st : State) → IsCut text ps m [] → run start (cut_tokens ps m []) ≡ Some st → WritesTables text st.tables
written_tables text ps m st c e = (
  cut_tokens ps m [],
  (ps, m, [], c, refl),
  done_written (cut_tokens ps m []) st (reads_run [] (cut_tokens ps m []) start st reads_start e) (end_spot start st (tokens_from 0 ps) m e),
)

-- what the tokens of a text are: wrong at a place, or written tables
pub data Judged (text : List ℕ) : Type 0 where
  faulty : (p : ℕ) → IsSyntaxPlace text p → Judged text
  written : (tables : List WrittenTable) → WritesTables text tables → Judged text

pub judged : (text : List ℕ) → Judged text
judged text = go (cut_rest 0 text)
  where
    at_cut : (ps : List Piece) (m : ℕ) (r : List ℕ) → IsCut text ps m r → Found (wrong_at start (cut_tokens ps m r)) → Judged text
    at_cut ps m r c (something' p w) = faulty p (wrong_place text ps m r p c w)
    at_cut ps m [] c (nothing' w) =
        let r = run_or_wrong start (cut_tokens ps m []) w in
        written r.0.tables (written_tables text ps m r.0 c r.1)
    at_cut ps m (b ∷ bs) c (nothing' w) = faulty m (stray_place text ps m b bs c (ap (wrong_at start) (sym (append-nil (tokens_from 0 ps))) ∙ w))

    go : Rest 0 text → Judged text
    go r =
        let l = far_length 0 r.pieces r.rest in
        let w = ap length r.whole in
        at_cut r.pieces (far 0 r.pieces) r.rest
        (record { whole = r.whole; fit = r.fit; reached = omega (arith, l, w); stuck = r.stuck })
        (found (wrong_at start (cut_tokens r.pieces (far 0 r.pieces) r.rest)))

pub one_place : (text : List ℕ) (p q : ℕ) → IsSyntaxPlace text p → IsSyntaxPlace text q → p ≡ q
one_place text p q a b = let h = a.1 q b.0 in let g = b.1 p a.0 in omega arith

pub run_no_wrong : (st to : State) (ts : List Token) → run st ts ≡ Some to → wrong_at st ts ≡ None
run_no_wrong st to [] e = refl
run_no_wrong st to (t ∷ ts) e = go (found (step st t)) (λ next. run_no_wrong next to ts)
  where
    go : Found (step st t) → ((next : State) → run next ts ≡ Some to → wrong_at next ts ≡ None) → wrong_at st (t ∷ ts) ≡ None
    go (nothing' n) rec = let h = ap (option_and_then (λ next. run next ts)) n in absurd (cc)
    go (something' next s) rec = ap (λ o. wrong_from t.place o (λ z. wrong_at z ts)) s ∙ rec next (sym (ap (option_and_then (λ z. run z ts)) s) ∙ e)

pub one_tables : (text : List ℕ) (a b : List WrittenTable) → WritesTables text a → WritesTables text b → a ≡ b
one_tables text a b x y =
    let t = one_tokens text x.0 y.0 x.1 y.1 in
    let h = sym (reads_written a x.0 x.2) ∙ ap (run start) t ∙ reads_written b y.0 y.2 in
    let same : state a blank Spot.done ≡ state b blank Spot.done = cc in
    ap (λ z. z.tables) same

-- written tokens end at the end of the text, and no piece of a text is its end
NotEnd : Token → Type 0
NotEnd t = t.symbol ≢ Symbol.end

pieces_no_end : (place : ℕ) (ps : List Piece) → Each NotEnd (tokens_from place ps)
unfolding NotEnd
pieces_no_end place [] = tt
pieces_no_end place (p ∷ ps) = Each-append NotEnd (piece_tokens place p) (tokens_from (place + length (bytes_of p)) ps) (piece_no_end p) (pieces_no_end (place + length (bytes_of p)) ps)
  where
    piece_no_end : (q : Piece) → Each NotEnd (piece_tokens place q)
    piece_no_end (Piece.word bs) = (λ e. cc, tt)
    piece_no_end (Piece.mark m) = (λ e. cc, tt)
    piece_no_end Piece.byte_order_mark = tt
    piece_no_end (Piece.white b) = tt
    piece_no_end (Piece.comment bs) = tt

last_ends : (us vs : List Token) → Each NotEnd (us ++ vs) → AllZip Fills (Slot.sign Symbol.end ∷ []) vs → ⊥
unfolding NotEnd
last_ends [] [] n a = a
last_ends [] (v ∷ vs) n a = n.0 a.0
last_ends (u ∷ us) vs n a = last_ends us vs n.1 a

-- what is written has no fault of syntax
pub no_syntax_fault : (text : List ℕ) (tables : List WrittenTable) (p : ℕ) → WritesTables text tables → FaultySyntaxAt text p → ⊥
no_syntax_fault text tables p w (inr h) =
    let t = one_tokens text w.0 h.0 w.1 h.1 in
    let a = run_no_wrong start (state tables blank Spot.done) w.0 (reads_written tables w.0 w.2) in
    let b : None ≡ Some p = sym a ∙ ap (wrong_at start) t ∙ wrong_is h.0 p h.2 in
    cc
no_syntax_fault text tables p w (inl h) =
    let t : w.0 ≡ tokens_from 0 h.0 = one_tokens text w.0 (tokens_from 0 h.0 ++ []) w.1 (h.0, p, h.1 ∷ h.2, h.3, refl) ∙ append-nil (tokens_from 0 h.0) in
    let q = AllZip-parts (flat_map table_slots tables) (Slot.sign Symbol.end ∷ []) w.0 w.2.filled in
    last_ends q.front q.back (subst (Each NotEnd) (sym t ∙ q.whole) (pieces_no_end 0 h.0)) q.fills_back
