-- Steps of the machine, where the innermost form is not the one that they ask for.
use Rattle.std.proofs.Common.{◌≡◌, ℕ, true, false, cond, List, [], ◌∷◌, refl, ◌∙◌, ap, Option, Some, None, Ok}
use Rattle.nq_model.specs.QueryTokens.{Token, Sign, Closing, Colon}
use Rattle.nq_model.specs.QueryGrammar.{Edition, kind, Syntax}
use Rattle.nq_parser.specs.Machine.{State, Frame, InParen, InBag, ends, joined, after, shift, start, start_word, begin_word}
use Rattle.nq_parser.specs.Settling.{top_ends}
use Rattle.nq_parser.specs.Stacks.{NoParen, NoBag}
use Rattle.nq_parser.specs.States.{Leads, Stands}
use Rattle.nq_parser.specs.declared.state.Position.{Position}

pub no_paren_closing : (ed : Edition) (k : List Frame) (q : ℕ) → NoParen k → start ed k (Sign q Closing) ≡ None
no_paren_closing ed [] q h = refl
no_paren_closing ed (InParen p ∷ k) q h = absurd h
no_paren_closing ed (f ∷ k) q h = refl

pub no_bag_colon : (ed : Edition) (k : List Frame) (c : ℕ) → NoBag k → start ed k (Sign c Colon) ≡ None
no_bag_colon ed [] c h = refl
no_bag_colon ed (InBag p ∷ k) c h = absurd h
no_bag_colon ed (f ∷ k) c h = refl

pub no_paren_word : (ed : Edition) (k : List Frame) (p : ℕ) (w : List ℕ) → NoParen k → start_word ed k p w ≡ begin_word (kind ed w) k p w
no_paren_word ed [] p w h = refl
no_paren_word ed (InParen q ∷ k) p w h = absurd h
no_paren_word ed (f ∷ k) p w h = refl

-- the innermost form ends before the token
pub after_ends : (ed : Edition) (old new : List Frame) (f : Frame) (s : Syntax) (t : Token) → old ≡ f ∷ new → ends f t ≡ true → after ed old s t ≡ after ed new (joined f s) t
after_ends ed old new f s t e h =
    ap (λ k. after ed k s t) e ∙ ap (λ b. cond b (after ed new (joined f s) t) (shift ed (f ∷ new) s t)) h

-- it does not
pub after_stays : (ed : Edition) (k : List Frame) (s : Syntax) (t : Token) → top_ends k t ≡ false → after ed k s t ≡ shift ed k s t
after_stays ed [] s t h = refl
after_stays ed (f ∷ k) s t h = ap (λ b. cond b (after ed k (joined f s) t) (shift ed (f ∷ k) s t)) h

-- a step that takes no memory, as one that may
pub stands_leads : (r : Option Position) (k : List Frame) (o : Option State) → Stands r k o → Leads (Ok r) k o
stands_leads (Some at) k o h = h
stands_leads None k o h = h
