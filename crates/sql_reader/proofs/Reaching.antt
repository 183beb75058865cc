-- From the reader's run over the tokens to what the text spells.
use Rattle.std.proofs.Common.{◌≡◌, ℕ, List, [], ◌∷◌, ◌++◌, refl, sym, ap, ◌∙◌, subst, Result, Ok, Err}
use Rattle.std.specs.Str.{IsUtf8}
use Rattle.nq_model.specs.Machines.{Outcome, Reached, Faulty}
use Rattle.nq_model.specs.OpenLists as open_lists
use Rattle.sql_profile.specs.Tokens.{First, Token, End, place_of, tokens_of}
use Rattle.sql_profile.specs.Grammar.{TextSyntax, OfText, tree_of}
use Rattle.sql_profile.specs.Grammar as grammar
use Rattle.sql_profile.specs.Machine as machine
use Rattle.sql_profile.specs.Texts.{HasTokens, Spells, EndsOpen}
use Rattle.sql_profile.specs.Trees.{no_select_at, placed}
use Rattle.sql_profile.specs.declared.tree.SqlText.{SqlText}
use Rattle.sql_profile.proofs.GrammarExact.{fault_exact, ready_exact, ends_ready, ready_of}
use Rattle.sql_profile.proofs.GrammarExact as exact
use Rattle.sql_profile.proofs.TokenCuts.{tokens_end}
use Rattle.sql_reader.specs.Fronts.{Cuts}
use Rattle.sql_reader.specs.Parsing.{Parsed}
use Rattle.sql_reader.specs.Parts.{Base, Selects}
use Rattle.sql_reader.specs.Reading.{Ends, IsReady, Reads, whole}
use Rattle.sql_reader.specs.Runs.{run}
use Rattle.sql_reader.specs.Steps.{Form, Ready, State, On, start_state}
use Rattle.sql_reader.specs.declared.fault.SqlFault.{SqlFault}
use Rattle.sql_reader.specs.declared.fault.SqlFault.TheVariants as code
use Rattle.sql_reader.proofs.Depths.{outcome, runs}
use Rattle.sql_reader.proofs.Standing.{stand, main_base, selects_kept, withs_same, query_same}

-- the machine's answer that the reader's is
pub record Stands (d : ℕ) (ts : List Token) (st : State) : Type 0 where
  pub state : machine.State
  pub reached : machine.run d ts machine.start_state ≡ Reached state
  pub same : stand state ≡ st

pub stands : (d : ℕ) (ts : List Token) (st : State) → run d ts start_state ≡ Reached st
    → Stands d ts st
stands d ts st e = go (machine.run d ts machine.start_state) refl (sym (runs d ts machine.start_state) ∙ e)
  where
    reached_same : (a b : State) → ◌≡◌ {A = Outcome Token State} (Reached a) (Reached b) → a ≡ b
    reached_same a b e = cc

    go : (o : Outcome Token machine.State) → machine.run d ts machine.start_state ≡ o → outcome o ≡ Reached st → Stands d ts st
    go (Reached s) h k = record { state = s; reached = h; same = reached_same (stand s) st k }
    go (Faulty t f) h k = absurd (cc)

same_fault : (d : ℕ) (ts : List Token) (t : Token) (f : open_lists.Fault) → run d ts start_state ≡ Faulty t f → machine.run d ts machine.start_state ≡ Faulty t f
same_fault d ts t f e = go (machine.run d ts machine.start_state) refl (sym (runs d ts machine.start_state) ∙ e)
  where
    faulty_same : (t u : Token) (f g : open_lists.Fault) → ◌≡◌ {A = Outcome Token State} (Faulty t f) (Faulty u g)
        → ◌≡◌ {A = Outcome Token machine.State} (Faulty t f) (Faulty u g)
    faulty_same t u f g e = cc

    go : (o : Outcome Token machine.State) → machine.run d ts machine.start_state ≡ o → outcome o ≡ Faulty t f → machine.run d ts machine.start_state ≡ Faulty t f
    go (Reached s) h k = absurd (cc)
    go (Faulty u g) h k = h ∙ faulty_same u t g f k

-- at the end of the text the reader has read all of it
pub ended_ready : (d : ℕ) (ts : List Token) (st : State) → Ends ts → run d ts start_state ≡ Reached st → IsReady st
ended_ready d ts st h e =
    let s = stands d ts st e in
    let at_end : machine.run d (h.0 ++ End h.1 ∷ []) machine.start_state ≡ Reached s.state = subst (λ z. machine.run d z machine.start_state ≡ Reached s.state) h.2 s.reached in
    subst IsReady s.same (ready s.state (ends_ready First h.0 d h.1 machine.start_state s.state at_end))
  where
    ready : (st : machine.State) → exact.IsReady First st → IsReady (stand st)
    ready (machine.Ready (OfText w q s) e) h = tt
    ready st h = absurd h

-- what the syntax tree of a whole text is to the reader
pub stands_for : (s : TextSyntax) (e : ℕ) (b : Base) (k : List Form) (q : Selects) → stand (machine.Ready s e) ≡ On b k (Ready q) → whole b q ≡ tree_of s
stands_for (OfText w x c) e b k q h =
    let base : main_base w ≡ b = base_same (main_base w) b [] k (selects_kept x) q h in
    let query : selects_kept x ≡ q = query_is (main_base w) b [] k (selects_kept x) q h in
    sym (ap (λ ws. record { withs = ws; main = grammar.selects_of x no_select_at }) (withs_same w)
    ∙ ap (λ m. record { withs = (main_base w).withs; main = m }) (query_same x)
    ∙ ap (λ z. whole z (selects_kept x)) base
    ∙ ap (whole b) query)
  where
    base_same : (b c : Base) (k j : List Form) (q r : Selects) → On b k (Ready q) ≡ On c j (Ready r) → b ≡ c
    base_same b c k j q r e = cc

    query_is : (b c : Base) (k j : List Form) (q r : Selects) → On b k (Ready q) ≡ On c j (Ready r) → q ≡ r
    query_is b c k j q r e = let f : Ready q ≡ Ready r = cc in cc

-- the text is spelled
pub spelled : (d : ℕ) (text : List ℕ) (ts : List Token) (t : SqlText) → HasTokens First text ts → Ends ts → Reads (Ok t) d ts → Spells First d text (placed t)
spelled d text ts t cut h r =
    let read = stands d ts r.0 r.1 in
    let tree = r.2 in
    let at_end : machine.run d (h.0 ++ End h.1 ∷ []) machine.start_state ≡ Reached read.state = subst (λ z. machine.run d z machine.start_state ≡ Reached read.state) h.2 read.reached in
    let ready = ready_of First read.state (ends_ready First h.0 d h.1 machine.start_state read.state at_end) in
    let exactly = ready_exact First d ts ready.0 ready.1 (subst (λ z. machine.run d ts machine.start_state ≡ Reached z) ready.2 read.reached) in
    let same : stand (machine.Ready ready.0 ready.1) ≡ On tree.0 tree.1 (Ready tree.2) = ap stand (sym ready.2) ∙ read.same ∙ tree.3 in
    record { tokens = ts; cut = cut; syntax_tree = ready.0; derived = exactly.0; within = exactly.1; same = tree.4 ∙ stands_for ready.0 ready.1 tree.0 tree.1 tree.2 same }

-- the tokens close at a token
faulty : (d : ℕ) (text : List ℕ) (ts : List Token) (f : open_lists.Fault) (t : Token) (p : ℕ) → HasTokens First text ts → p ≡ place_of t → run d ts start_state ≡ Faulty t f → EndsOpen First d text f p
faulty d text ts f t p h e r =
    let x = fault_exact First d ts t f (same_fault d ts t f r) in
    record { before = x.0; last = t; after = x.1; cut = subst (λ z. HasTokens First text z) x.2 h; there = sym e; closes = x.3 }

-- what was read is what the text says
pub answered : (d : ℕ) (text : List ℕ) (ts : List Token) (r : Result SqlText SqlFault) → HasTokens First text ts → Ends ts → Reads r d ts → Parsed r d text
answered d text ts (Ok t) cut h r = spelled d text ts t cut h r
answered d text ts (Err code.Memory) cut h r = tt
answered d text ts (Err (code.Unexpected p)) cut h r = faulty d text ts open_lists.Unexpected r.0 p cut r.1 r.2
answered d text ts (Err (code.Deep p)) cut h r = faulty d text ts open_lists.Deep r.0 p cut r.1 r.2
answered d text ts (Err (code.NotUtf8 p)) cut h r = absurd r
answered d text ts (Err (code.Token p)) cut h r = absurd r
answered d text ts (Err (code.IntRange p)) cut h r = absurd r

-- no token is cut off
pub stopped : (d : ℕ) (text : List ℕ) (e : SqlFault) → IsUtf8 text → Cuts (Err e) (tokens_of First text) → Parsed (Err e) d text
stopped d text code.Memory u h = tt
stopped d text (code.Token p) u h = (u, h)
stopped d text (code.IntRange p) u h = (u, h)
stopped d text (code.NotUtf8 p) u h = absurd h
stopped d text (code.Unexpected p) u h = absurd h
stopped d text (code.Deep p) u h = absurd h

-- the tokens of a text end with its end
pub text_ends : (text : List ℕ) (ts : List Token) → tokens_of First text ≡ Ok ts → Ends ts
text_ends text ts e = tokens_end First text ts e
