-- Reading a text piece by piece.
use Rattle.std.proofs.Common.{◌≡◌, ◌≢◌, ℕ, ◌+◌, ◌≤◌, ◌<◌, List, [], ◌∷◌, ◌++◌, length, drop, refl, sym, ◌∙◌, ap, subst, arith, append_assoc, append-nil, length-append, length-drop, drop-drop, Some, None, Result, Ok, Err, map}
use Rattle.std.specs.Option.{option_and_then}
use Rattle.nq_model.specs.SchemaTokens.{Symbol, Token, token, Piece, bytes_of, text_of, FitFrom, IsStuck, IsCut, piece_tokens, tokens_from, end_token}
use Rattle.nq_model.specs.SchemaTexts.{WritesTables, IsSyntaxPlace}
use Rattle.schema_reader.specs.Fronts.{HasFront}
use Rattle.schema_reader.specs.Machine.{Spot, State, state, start, step, run}
use Rattle.schema_reader.specs.Reading.{table_view, Steps, Ends, Writes}
use Rattle.schema_reader.specs.declared.fault.SchemaFault.{SchemaFault}
use Rattle.schema_reader.specs.declared.fault.SchemaFault.TheVariants as fault
use Rattle.schema_reader.specs.declared.written.WrittenTable.{WrittenTable as CodeTable}
use Rattle.schema_reader.proofs.Cuts.{far, far_length, far-append, text_of-append, FitFrom-append, tokens_from-append, some_bytes, Rest, cut_rest, none_at_end}
use Rattle.schema_reader.proofs.Steps.{run-append}
use Rattle.schema_reader.proofs.Syntax.{cut_tokens, wrong_at, wrong_here, wrong_place, stray_place, written_tables, run_no_wrong}

-- the text is read up to a place, in a state
pub record HasRead (text : List ℕ) (at : ℕ) (st : State) : Type 0 where
  pub pieces : List Piece
  pub whole : text ≡ text_of pieces (drop at text)
  pub fit : FitFrom 0 pieces (drop at text)
  pub place : at ≡ far 0 pieces
  pub reads : run start (tokens_from 0 pieces) ≡ Some st

pub read_nothing : (text : List ℕ) → HasRead text 0 start
read_nothing text = record { pieces = []; whole = refl; fit = tt; place = refl; reads = refl }

module _ (text : List ℕ) (at n : ℕ) (st : State) (r : HasRead text at st) where
  behind : drop n (drop at text) ≡ drop (at + n) text
  behind = drop-drop n at text

  further : (ts : List Token) (to : State) → HasFront at (drop at text) n ts → run st ts ≡ Some to → HasRead text (at + n) to
  further ts to f e = record {
    pieces = r.pieces ++ f.piece ∷ [];
    whole = r.whole ∙ ap (text_of r.pieces) (f.whole ∙ ap (λ z. bytes_of f.piece ++ z) behind) ∙ sym (text_of-append r.pieces (f.piece ∷ []) (drop (at + n) text));
    fit = FitFrom-append 0 r.pieces (f.piece ∷ []) (drop (at + n) text)
        (subst (λ z. FitFrom 0 r.pieces z) (f.whole ∙ ap (λ z. bytes_of f.piece ++ z) behind) r.fit)
        (subst (λ z. Rattle.nq_model.specs.SchemaTokens.Fits (far 0 r.pieces) f.piece z) behind (subst (λ z. Rattle.nq_model.specs.SchemaTokens.Fits z f.piece (drop n (drop at text))) r.place f.fits), tt);
    place = ap (λ z. z + n) r.place ∙ ap (λ z. far 0 r.pieces + z) (sym f.size) ∙ sym (far-append 0 r.pieces (f.piece ∷ []));
    reads =
        ap (run start) (tokens_from-append 0 r.pieces (f.piece ∷ [])
        ∙ ap (λ z. tokens_from 0 r.pieces ++ z) (append-nil (piece_tokens (far 0 r.pieces) f.piece) ∙ ap (λ z. piece_tokens z f.piece) (sym r.place) ∙ f.says))
        ∙ run-append start (tokens_from 0 r.pieces) ts ∙ ap (option_and_then (λ next. run next ts)) r.reads ∙ e;
  }

  pub read_gap : HasFront at (drop at text) n [] → HasRead text (at + n) st
  read_gap f = further [] st f refl

  pub read_token : (t : Token) (to : State) → HasFront at (drop at text) n (t ∷ []) → step st t ≡ Some to → HasRead text (at + n) to
  read_token t to f e = further (t ∷ []) to f (ap (option_and_then (λ next. run next [])) e)

  -- the front is within the text
  pub front_bounds : (ts : List Token) → HasFront at (drop at text) n ts → at ≤ length text → (0 < n) × (at + n ≤ length text)
  front_bounds ts f l =
      let some = some_bytes at f.piece (drop n (drop at text)) f.fits in
      let size = f.size in
      let whole = ap length f.whole in
      let parts = length-append (bytes_of f.piece) (drop n (drop at text)) in
      let rest = length-drop at text in
      (omega arith, omega arith)

  -- the whole text is cut behind the front
  pub read_wrong : (t : Token) → HasFront at (drop at text) n (t ∷ []) → step st t ≡ None → IsSyntaxPlace text t.place
  read_wrong t f e =
      let more = cut_rest (far 0 (r.pieces ++ f.piece ∷ [])) (drop n (drop at text)) in
      let pieces = (r.pieces ++ f.piece ∷ []) ++ more.pieces in
      wrong_place text pieces (far 0 pieces) more.rest t.place (cut_behind more) (stops more)
    where
      front : List Piece
      front = r.pieces ++ f.piece ∷ []

      cut_behind : (more : Rest (far 0 front) (drop n (drop at text))) → IsCut text (front ++ more.pieces) (far 0 (front ++ more.pieces)) more.rest
      cut_behind more =
          let whole : text ≡ text_of (front ++ more.pieces) more.rest =
          r.whole ∙ ap (text_of r.pieces) (f.whole ∙ ap (λ z. bytes_of f.piece ++ z) more.whole)
          ∙ sym (text_of-append front more.pieces more.rest ∙ text_of-append r.pieces (f.piece ∷ []) (text_of more.pieces more.rest)) in
          let l = far_length 0 (front ++ more.pieces) more.rest in
          let w = ap length whole in
          record {
            whole = whole;
            fit = FitFrom-append 0 front more.pieces more.rest
                (FitFrom-append 0 r.pieces (f.piece ∷ []) (text_of more.pieces more.rest)
                (subst (λ z. FitFrom 0 r.pieces z) (f.whole ∙ ap (λ z. bytes_of f.piece ++ z) more.whole) r.fit)
                (subst (λ z. Rattle.nq_model.specs.SchemaTokens.Fits (far 0 r.pieces) f.piece z) more.whole (subst (λ z. Rattle.nq_model.specs.SchemaTokens.Fits z f.piece (drop n (drop at text))) r.place f.fits), tt))
                more.fit;
            reached = omega (arith, l, w);
            stuck = subst (λ z. IsStuck z more.rest) (sym (far-append 0 front more.pieces)) more.stuck;
          }

      stops : (more : Rest (far 0 front) (drop n (drop at text))) → wrong_at start (cut_tokens (front ++ more.pieces) (far 0 (front ++ more.pieces)) more.rest) ≡ Some t.place
      stops more =
          let later = tokens_from (far 0 front) more.pieces in
          let ends = end_token (far 0 (front ++ more.pieces)) more.rest in
          ap (wrong_at start)
          (ap (λ z. z ++ ends) (tokens_from-append 0 front more.pieces
          ∙ ap (λ z. z ++ later) (tokens_from-append 0 r.pieces (f.piece ∷ [])
          ∙ ap (λ z. tokens_from 0 r.pieces ++ z) (append-nil (piece_tokens (far 0 r.pieces) f.piece) ∙ ap (λ z. piece_tokens z f.piece) (sym r.place) ∙ f.says)))
          ∙ append_assoc (tokens_from 0 r.pieces ++ t ∷ []) later ends
          ∙ append_assoc (tokens_from 0 r.pieces) (t ∷ []) (later ++ ends))
          ∙ wrong_here start st (tokens_from 0 r.pieces) t (later ++ ends) r.reads e

module _ (text : List ℕ) (at : ℕ) (st : State) (r : HasRead text at st) where
  cut_here : IsStuck at (drop at text) → IsCut text r.pieces at (drop at text)
  cut_here s =
      let l = far_length 0 r.pieces (drop at text) in
      let w = ap length r.whole in
      let p = r.place in
      record { whole = r.whole; fit = r.fit; reached = omega (arith, l, w, p); stuck = s }

  pub read_stray : drop at text ≢ [] → IsStuck at (drop at text) → IsSyntaxPlace text at
  read_stray some s = go (drop at text) (cut_here s) some
    where
      go : (rest : List ℕ) → IsCut text r.pieces at rest → rest ≢ [] → IsSyntaxPlace text at
      go [] c n = absurd (n refl)
      go (b ∷ bs) c n = stray_place text r.pieces at b bs c (run_no_wrong start st (tokens_from 0 r.pieces) r.reads)

  cut_end : drop at text ≡ [] → IsCut text r.pieces at []
  cut_end e = subst (λ z. IsCut text r.pieces at z) e (cut_here (subst (IsStuck at) (sym e) (none_at_end at)))

  pub read_end : (to : State) → drop at text ≡ [] → step st (token at Symbol.end) ≡ Some to → WritesTables text to.tables
  read_end to e s =
      written_tables text r.pieces at to (cut_end e)
      (run-append start (tokens_from 0 r.pieces) (token at Symbol.end ∷ []) ∙ ap (option_and_then (λ next. run next (token at Symbol.end ∷ []))) r.reads
      ∙ ap (option_and_then (λ next. run next [])) s)

  pub read_end_wrong : drop at text ≡ [] → step st (token at Symbol.end) ≡ None → IsSyntaxPlace text at
  read_end_wrong e s =
      wrong_place text r.pieces at [] at (cut_end e) (wrong_here start st (tokens_from 0 r.pieces) (token at Symbol.end) [] r.reads s)

-- what the end of the text gives
pub ends_writes : (result : Result (List CodeTable) SchemaFault) (text : List ℕ) (at : ℕ) (st : State) → HasRead text at st → drop at text ≡ [] → Ends result st at → Writes result text
ends_writes (Ok tables) text at st r e h = read_end text at st r (state (map table_view tables) st.table Spot.done) e h
ends_writes (Err (fault.Syntax p)) text at st r e h = subst (IsSyntaxPlace text) (sym h.0) (read_end_wrong text at st r e h.1)
ends_writes (Err f) text at st r e h = absurd h

-- what a token that may not stand there gives
pub steps_wrong : (error : SchemaFault) (text : List ℕ) (at n : ℕ) (st new : State) (t : Token) → HasRead text at st → HasFront at (drop at text) n (t ∷ []) → Steps (Err error) st t new → Writes (Err error) text
steps_wrong fault.Memory text at n st new t r f h = tt
steps_wrong (fault.Syntax p) text at n st new t r f h = subst (IsSyntaxPlace text) (sym h.0) (read_wrong text at n st r t f h.1)
steps_wrong e text at n st new t r f h = absurd h
