-- The steps of reading a text, put together.
use Rattle.std.proofs.Common.{◌≡◌, ℕ, true, false, cond, List, [], ◌∷◌, sym, ◌∙◌, ap, subst, ◌⊎◌, inl, inr, Some, None, Result, Ok, Err}
use Rattle.std.specs.Str.{IsUtf8}
use Rattle.nq_model.specs.OpenLists.{Unexpected, Deep}
use Rattle.nq_model.specs.Machines.{Reached, Faulty}
use Rattle.nq_model.specs.QueryTokens.{Token, tokens_of}
use Rattle.nq_model.specs.QueryGrammar.{Edition}
use Rattle.nq_model.specs.QueryScope.{wrongs, Wrong, Unbound, TwiceLabel}
use Rattle.nq_model.specs.QueryTexts.{HasTokens}
use Rattle.nq_model.specs.declared.term.Term.{Term}
use Rattle.query_syntax.specs.Fronts.{Cuts}
use Rattle.query_syntax.specs.Lowering.{Lowered, IsFirst, fault_of}
use Rattle.nq_parser.specs.Machine.{State, step, fits, turn, run, start_state}
use Rattle.nq_parser.specs.Parsing.{Parsed}
use Rattle.nq_parser.specs.Reading.{Ends, Reads}
use Rattle.nq_parser.specs.Runs.{IsReady}
use Rattle.query_syntax.specs.Trees.{syntax_view}
use Rattle.query_syntax.specs.declared.fault.SyntaxFault.{SyntaxFault}
use Rattle.query_syntax.specs.declared.fault.SyntaxFault.TheVariants as code
use Rattle.query_syntax.specs.declared.syntax.Syntax.{Syntax as CodeSyntax}
use Rattle.nq_parser.proofs.Exact.{ends_ready, ready_of}
use Rattle.nq_parser.proofs.Verdicts.{ends_open}

-- no token is cut off
pub stopped : (d : ℕ) (text : List ℕ) (e : SyntaxFault) → IsUtf8 text → Cuts (Err e) (tokens_of text) → Parsed (Err e) d text
stopped d text code.Memory u h = tt
stopped d text (code.Token p) u h = (u, h)
stopped d text (code.IntRange p) u h = (u, h)
stopped d text (code.NotUtf8 p) u h = absurd h
stopped d text (code.Unexpected p) u h = absurd h
stopped d text (code.Deep p) u h = absurd h
stopped d text (code.Unbound p) u h = absurd h
stopped d text (code.TwiceLabel p) u h = absurd h

-- the tokens cease to be open
pub ended : (d : ℕ) (text : List ℕ) (ts : List Token) (e : SyntaxFault) → HasTokens text ts → Reads (Err e) d ts → Parsed (Err e) d text
ended d text ts code.Memory h r = tt
ended d text ts (code.Unexpected p) h r = ends_open d text ts Unexpected p h r
ended d text ts (code.Deep p) h r = ends_open d text ts Deep p h r
ended d text ts (code.Token p) h r = absurd r
ended d text ts (code.IntRange p) h r = absurd r
ended d text ts (code.NotUtf8 p) h r = absurd r
ended d text ts (code.Unbound p) h r = absurd r
ended d text ts (code.TwiceLabel p) h r = absurd r

-- the names of the program are resolved, or one is wrong
pub resolved : (d : ℕ) (text : List ℕ) (ts : List Token) (s : CodeSyntax) (r : Result Term SyntaxFault) → HasTokens text ts → Reads (Ok s) d ts → Lowered r (syntax_view s) → Parsed r d text
resolved d text ts s (Ok t) h m l = record { tokens = ts; cut = h; syntax_tree = syntax_view s; derived = m; bound = l.0; same = l.1 }
resolved d text ts s (Err e) h m l = go e l
  where
    wrong : (e : SyntaxFault) → IsFirst e (wrongs (syntax_view s) []) → Parsed (Err e) d text
    wrong e f = subst (λ z. Parsed (Err z) d text) (sym f.3) (there f.0 f.1 f.2)
      where
        there : (w : Wrong) (rest : List Wrong) → wrongs (syntax_view s) [] ≡ w ∷ rest → Parsed (Err (fault_of w)) d text
        there (Unbound p) rest e = record { tokens = ts; cut = h; syntax_tree = syntax_view s; derived = m; later = rest; first = e }
        there (TwiceLabel p) rest e = record { tokens = ts; cut = h; syntax_tree = syntax_view s; derived = m; later = rest; first = e }

    go : (e : SyntaxFault) → (e ≡ code.Memory) ⊎ IsFirst e (wrongs (syntax_view s) []) → Parsed (Err e) d text
    go e (inl m) = subst (λ z. Parsed (Err z) d text) (sym m) tt
    go e (inr f) = wrong e f

-- one turn of the machine
pub goes_on : (ed : Edition) (d : ℕ) (t : Token) (ts : List Token) (st next : State) → step ed st t ≡ Some next → fits d next ≡ true → run ed d (t ∷ ts) st ≡ run ed d ts next
goes_on ed d t ts st next e f =
    ap (λ o. turn ed d t o (run ed d ts)) e ∙ ap (λ b. cond b (run ed d ts next) (Faulty t Deep)) f

pub is_unexpected : (ed : Edition) (d : ℕ) (t : Token) (ts : List Token) (st : State) → step ed st t ≡ None → run ed d (t ∷ ts) st ≡ Faulty t Unexpected
is_unexpected ed d t ts st e = ap (λ o. turn ed d t o (run ed d ts)) e

pub is_deep : (ed : Edition) (d : ℕ) (t : Token) (ts : List Token) (st next : State) → step ed st t ≡ Some next → fits d next ≡ false → run ed d (t ∷ ts) st ≡ Faulty t Deep
is_deep ed d t ts st next e f =
    ap (λ o. turn ed d t o (run ed d ts)) e ∙ ap (λ b. cond b (run ed d ts next) (Faulty t Deep)) f

-- a text that was read to its end
pub ended_ready : (ed : Edition) (d : ℕ) (ts : List Token) (st : State) → Ends ts → run ed d ts start_state ≡ Reached st → IsReady st
ended_ready ed d ts st e r =
    let x = ready_of ed st (ends_ready ed e.0 d e.1 start_state st (subst (λ z. run ed d z start_state ≡ Reached st) e.2 r)) in
    subst IsReady (sym x.2) tt
